-- `cases::table::read_full` meets its contract. Assumes nothing.
-- The invariant: no more is read than the memory holds, which keeps its length. The measure: how much room is left.
use Prim.Native.Nat.{◌≤◌, ◌-◌}
use mathlib.Core.Path.{◌≡◌}
use lib.ListN.{length}
use Rattle.cases.proofs.table.read_full.Given as goal

abbrev pub invariant-loop-done : goal.invariant-loop-done
invariant-loop-done g l = (l.done ≤ length l.memory) × (length l.memory ≡ length l.initial.memory)

abbrev pub decreases-loop-done : goal.decreases-loop-done
decreases-loop-done g l = length l.memory - l.done
