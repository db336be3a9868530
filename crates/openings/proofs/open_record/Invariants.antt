-- The loop's invariant: the positions before `p` have their new grey.
use Rattle.openings.specs.Climbing.{Pass}
use Rattle.openings.proofs.open_record.Given as goal

abbrev pub invariant-loop-p : goal.invariant-loop-p
invariant-loop-p l = Pass l.picture l.words l.n l.threshold l.p l.output
