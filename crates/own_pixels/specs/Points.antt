-- Where a position stands in a picture of width w, by row and column.
use Rattle.std.specs.Prelude.{ℕ, ◌+◌, ◌*◌, ◌/◌, ◌%◌, cond, eqb}
use Rattle.own_pixels.specs.declared.Point.{Point}

-- the point of a position
abbrev pub point_of : ℕ → ℕ → Point
point_of w q = record { row = q / w; column = q % w }

-- the position of a point
abbrev pub position : ℕ → Point → ℕ
position w p = p.row * w + p.column

-- the row of a point (2) or its column (3)
abbrev pub coordinate : ℕ → Point → ℕ
coordinate a p = cond (eqb a 2) p.row p.column
