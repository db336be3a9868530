-- The attributes of a set of pixels.
use Rattle.std.specs.Prelude.{ℕ, ◌+◌, ◌-◌, ◌/◌, ◌%◌, Bool, cond, ◌&&◌, ◌||◌, eqb}
use Rattle.sets.specs.Sets.{Positions, some_in, count}
use Rattle.sets.specs.Gather.{least, greatest}
use Rattle.causes.specs.Bounds.{top_threshold}
use Rattle.grid.specs.Pixels.{pixels}
use Rattle.grid.specs.declared.Grid.{Grid}

-- the greatest key in s less the least, plus 1; 0 of the empty set. Keys of positions below n are below n.
unfoldable pub extent : ℕ → (ℕ → ℕ) → Positions → ℕ
extent n key s = cond (some_in n s) (greatest n key s - least n key s + 1) 0

-- the row of a position (2) or its column (3), in a picture of width w
unfoldable pub side : ℕ → ℕ → ℕ → ℕ
side w a q = cond (eqb a 2) (q / w) (q % w)

-- "1 area (pixels), 2 height (lowest row less highest row, plus 1), 3 width (the same of columns)" of what is seen of s
unfoldable pub visible : Grid → ℕ → Positions → ℕ
visible grid a s = cond (eqb a 1) (count (pixels grid) s) (extent (pixels grid) (side grid.width a) s)

-- the first or the last of k rows (columns)
abbrev pub first_or_last : ℕ → ℕ → Bool
first_or_last k i = eqb i 0 || eqb (i + 1) k

-- "a pixel in the first or last row or column"
unfoldable pub on_frame : Grid → Positions
on_frame grid q = first_or_last grid.height (q / grid.width) || first_or_last grid.width (q % grid.width)

-- s has such a pixel
abbrev pub touches_frame : Grid → Positions → Bool
touches_frame grid s = some_in (pixels grid) (λ (q : ℕ). s q && on_frame grid q)

-- "a node with a pixel in the first or last row or column has 1,048,577 for each attribute", the top threshold, "so no threshold removes it"
unfoldable pub attribute : Grid → ℕ → Positions → ℕ
attribute grid a s = cond (touches_frame grid s) top_threshold (visible grid a s)
