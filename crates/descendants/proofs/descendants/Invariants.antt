-- `descendants::descendants` meets its contract. Invariant: the nodes at the places below i hold their attributes, and the others what is
-- poured into them so far. Assumes nothing.
use Rattle.descendants.proofs.Pouring.{Pouring}
use Rattle.descendants.proofs.descendants.Given as goal

abbrev pub invariant-loop-i : goal.invariant-loop-i
invariant-loop-i l = Pouring l.attribute l.picture l.initial.ws l.nodes l.ws l.i
