-- The loop's invariant: the attribute outlasts the thresholds before i.
use Rattle.std.proofs.Common.{◌≤◌}
use Rattle.falls.specs.Falls.{places_before}
use Rattle.places.proofs.outlasted_from.Given as goal

abbrev pub invariant-loop-i : goal.invariant-loop-i
invariant-loop-i l = l.i ≤ places_before l.a l.steps
