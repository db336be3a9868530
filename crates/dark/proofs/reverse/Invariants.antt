-- The loop's invariant: the bytes below p are reversed.
use Prim.Native.Nat.{ℕ, ◌-◌}
use lib.ListN.{length}
use Rattle.sets.proofs.Tables.{FilledTo}
use Rattle.calls.specs.Calls.{grey}
use Rattle.dark.proofs.reverse.Given as goal

abbrev pub invariant-loop-p : goal.invariant-loop-p
invariant-loop-p l = FilledTo 0 (length l.picture) (λ (q : ℕ). 255 - grey l.picture q) l.output l.p
