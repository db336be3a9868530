-- Thresholds of the area, the height and the width together.
use Rattle.std.specs.Prelude.{ℕ, max, cond, ◌&&◌, eqb}
use Rattle.opening.specs.Opening.{Keeps, at_least}
use Rattle.grid.specs.Attributes.{attribute}
use Rattle.grid.specs.declared.Grid.{Grid}
use Rattle.grid.specs.declared.Triple.{Triple}

abbrev pub triple_of : ℕ → ℕ → ℕ → Triple
triple_of area height width = record { area = area; height = height; width = width }

-- "A node stays if it meets all three."
unfoldable pub meets : Grid → Triple → Keeps
meets grid t s =
    at_least (attribute grid 1) t.area s && (at_least (attribute grid 2) t.height s && at_least (attribute grid 3) t.width s)

-- "three zeros"
abbrev pub zeros : Triple
zeros = triple_of 0 0 0

-- "A single threshold opens as a triple with two zeros": the threshold t of the attribute a
unfoldable pub need : ℕ → ℕ → Triple
need a t = cond (eqb a 1) (triple_of t 0 0) (cond (eqb a 2) (triple_of 0 t 0) (triple_of 0 0 t))

-- "the largest value in each part"
abbrev pub join : Triple → Triple → Triple
join x y = triple_of (max x.area y.area) (max x.height y.height) (max x.width y.width)
