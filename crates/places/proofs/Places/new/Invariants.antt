-- The loop's invariant: the entries below a are how many thresholds these attributes outlast, and a outlasts as many as the one before it at least.
use Rattle.std.proofs.Common.{ℕ, ◌≤◌}
use Rattle.falls.specs.Falls.{places_before}
use Rattle.sets.proofs.Tables.{FilledTo}
use Rattle.places.proofs.Places.new.Given as goal

abbrev pub invariant-loop-a : goal.invariant-loop-a
invariant-loop-a l = FilledTo 0 256 (λ (a : ℕ). places_before a l.steps) l.small l.a × (l.outlasted ≤ places_before l.a l.steps)
