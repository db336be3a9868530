-- `representatives::write_record` meets its contract. Invariant: the words of the pixels below q are written, the numbers of those from q
-- on and the words of the nodes are as they were, and the list has the representatives below q. Assumes nothing.
use Rattle.representatives.proofs.Representatives.{Writing}
use Rattle.representatives.proofs.write_record.Given as goal

abbrev pub invariant-loop-q : goal.invariant-loop-q
invariant-loop-q l = Writing l.n l.initial.ws l.ws l.listed l.q
