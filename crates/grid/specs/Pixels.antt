-- The pixels of a picture. Position = row × width + column, from 0 at the top left.
use Rattle.std.specs.Prelude.{ℕ, ◌*◌}
use Rattle.grid.specs.declared.Grid.{Grid}

-- "pixels n = width × height"
abbrev pub pixels : Grid → ℕ
pixels grid = grid.width * grid.height

-- the grid with these sides and so many neighbours
abbrev pub grid_of : ℕ → ℕ → ℕ → Grid
grid_of width height neighbours = record { width = width; height = height; neighbours = neighbours }
