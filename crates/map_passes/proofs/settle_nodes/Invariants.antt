-- The loop's invariant: the nodes from place i of the order of closing on are settled, and the words by which the pass goes are as they were.
use Rattle.map_passes.specs.Passes.{SettledFrom}
use Rattle.map_passes.proofs.settle_nodes.Given as goal

abbrev pub invariant-loop-i : goal.invariant-loop-i
invariant-loop-i l = SettledFrom l.n l.nodes l.gap l.count l.initial.ws l.ws l.i
