-- What sizing a picture on a grid asks and leaves, for a step list of either kind and a gap: the pairs of its nodes, then those of its pixels.
use Rattle.std.specs.Prelude.{ℕ, ◌≤◌, true, List, ◌≡◌, length, get_or}
use Rattle.opening.specs.Opening.{Keeps}
use Rattle.grid.specs.Pixels.{pixels}
use Rattle.grid.specs.declared.Grid.{Grid}
use Rattle.causes.specs.Bounds.{most_gap}
use Rattle.calls.specs.Steps.{list_tests, list_attribute}
use Rattle.calls.specs.Judging.{list_good}
use Rattle.calls.specs.declared.Kind.{Kind}
use Rattle.building.specs.Building.{Buildable, Noded}
use Rattle.map_passes.specs.Passes.{pair_for, RightPairs, Holdable}

-- a picture can be sized
pub record Sizeable (grid : Grid) (picture : List ℕ) (kind : Kind) (steps : List ℕ) (gap : ℕ) (ws : List ℕ) : Type 0 where
  pub buildable : Buildable grid picture ws
  pub step_list : list_good kind steps ≡ true
  pub small_gap : gap ≤ most_gap

-- a workspace has the words of its nodes with their pairs
pub record NodePairs (grid : Grid) (picture : List ℕ) (kind : Kind) (steps : List ℕ) (gap : ℕ) (ws : List ℕ) : Type 0 where
  pub number : ℕ
  pub noded : Noded grid (list_attribute kind) picture ws number
  pub holdable : Holdable (length picture) ws (length picture)
  pub right : RightPairs grid (list_tests grid kind steps) gap picture (pair_for (length picture) ws)

-- a list has the pairs of its pixels
pub record PixelPairs (grid : Grid) (picture : List ℕ) (tests : List Keeps) (gap : ℕ) (pairs : List ℕ) : Type 0 where
  pub size : length pairs ≡ pixels grid
  pub right : RightPairs grid tests gap picture (λ (q : ℕ). get_or pairs q 0)
