-- The loop's invariant: the place words of the nodes of numbers below k are lowered, and the others are as they were.
use Rattle.places.proofs.Lowering.{LoweredTo}
use Rattle.places.proofs.lower.Given as goal

abbrev pub invariant-loop-k : goal.invariant-loop-k
invariant-loop-k l = LoweredTo l.n l.k l.steps l.initial.ws l.ws
