-- The loop's invariant: the entries below p are the pairs that the nodes hold.
use Rattle.sets.proofs.Tables.{FilledTo}
use Rattle.map_passes.specs.Passes.{pair_for}
use Rattle.map_passes.proofs.hold.Given as goal

abbrev pub invariant-loop-p : goal.invariant-loop-p
invariant-loop-p l = FilledTo 0 l.n (pair_for l.n l.ws) l.pairs l.p
