-- `cases::table::put` meets its contract. Assumes nothing.
-- The invariant: the count is within the memory, which keeps its length.
use Prim.Native.Nat.{◌≤◌}
use mathlib.Core.Path.{◌≡◌}
use lib.ListN.{length}
use Rattle.cases.proofs.table.put.Given as goal

abbrev pub invariant-loop-item : goal.invariant-loop-item
invariant-loop-item g l = (l.count ≤ length l.memory) × (length l.memory ≡ length l.initial.memory)
