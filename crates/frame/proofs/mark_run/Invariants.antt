-- `frame::mark_run` meets its contract. Invariant: the nodes of the run's first i pixels are marked. Assumes nothing.
use Rattle.frame.specs.Frame.{run, Marked}
use Rattle.frame.proofs.mark_run.Given as goal

abbrev pub invariant-loop-i : goal.invariant-loop-i
invariant-loop-i l = Marked l.attribute l.n (run l.from l.step l.i) l.initial.ws l.ws
