-- A grid is given by its sides and the number of neighbours. Assumes nothing.
use mathlib.Core.Path.{◌≡◌}
use Rattle.grid.specs.declared.Grid.{Grid}

pub same_grid : (f g : Grid) → f.width ≡ g.width → f.height ≡ g.height → f.neighbours ≡ g.neighbours → f ≡ g
same_grid f g widths heights numbers i = record { width = widths i; height = heights i; neighbours = numbers i }
