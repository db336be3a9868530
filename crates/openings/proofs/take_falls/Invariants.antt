-- The loop's invariant: the entries below q have their grey less what falls.
use lib.ListN.{length}
use Rattle.sets.proofs.Tables.{FilledTo}
use Rattle.openings.specs.Opening.{less_its_fall}
use Rattle.openings.proofs.take_falls.Given as goal

abbrev pub invariant-loop-q : goal.invariant-loop-q
invariant-loop-q l = FilledTo 0 (length l.picture) (less_its_fall l.picture l.ws) l.output l.q
