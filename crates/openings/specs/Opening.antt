-- What opening by a step of either kind asks, on what it is lent, and the pass that takes away what falls.
use Rattle.std.specs.Prelude.{ℕ, ◌-◌, ◌≤◌, ◌<◌, true, List, ◌≡◌, length}
use Rattle.grid.specs.Pixels.{pixels}
use Rattle.grid.specs.declared.Grid.{Grid}
use Rattle.calls.specs.Judging.{step_good}
use Rattle.calls.specs.Calls.{grey}
use Rattle.calls.specs.declared.Step.{Step}
use Rattle.building.specs.Building.{Buildable}
use Rattle.map_passes.specs.Settle.{total_in}
use Rattle.map_passes.specs.Passes.{pair_for, Holdable}

-- a picture can be opened by a step
pub record Openable (grid : Grid) (step : Step) (picture ws output : List ℕ) : Type 0 where
  pub buildable : Buildable grid picture ws
  pub good : step_good step ≡ true
  pub entries : length output ≡ pixels grid

-- the grey of q less the fall of its node
abbrev pub less_its_fall : List ℕ → List ℕ → ℕ → ℕ
less_its_fall picture ws q = grey picture q - total_in (pair_for (length picture) ws q)

-- each pixel's node has a pair, whose total is no more than the pixel's grey
pub record Fallen (picture ws : List ℕ) (entries : ℕ) : Type 0 where
  pub holdable : Holdable (length picture) ws entries
  pub less : (q : ℕ) → q < length picture → total_in (pair_for (length picture) ws q) ≤ grey picture q
