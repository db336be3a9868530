-- `calls::triples_good` meets its contract. Invariant: the triples before the triple `i` follow each other, the last of them is `low`. Assumes
-- nothing.
use Prim.Native.Nat.{◌*◌}
use Rattle.calls.proofs.Judging.{FollowedSoFar}
use Rattle.calls.proofs.triples_good.Given as goal

abbrev pub invariant-loop-i : goal.invariant-loop-i
invariant-loop-i l = FollowedSoFar l.words l.low (3 * l.i)
