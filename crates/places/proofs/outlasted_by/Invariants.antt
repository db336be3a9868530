-- `places::outlasted_by` meets its contract. The loop's invariant: low and high bracket the answer. The measure is their distance.
use Prim.Native.Nat.{◌-◌, ◌≤◌}
use lib.ListN.{length}
use Rattle.falls.specs.Falls.{places_before}
use Rattle.places.proofs.outlasted_by.Given as goal

abbrev pub invariant-loop-low : goal.invariant-loop-low
invariant-loop-low l = (l.low ≤ places_before l.a l.steps) × (places_before l.a l.steps ≤ l.high) × (l.high ≤ length l.steps)

abbrev pub decreases-loop-low : goal.decreases-loop-low
decreases-loop-low l = l.high - l.low
