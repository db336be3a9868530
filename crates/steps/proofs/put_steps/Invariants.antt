-- `steps::put_steps` meets its contract. Invariant: the thresholds on the lines before those that are left are stored, `count` of them.
-- Assumes nothing.
use Rattle.steps.specs.Lines.{lines}
use Rattle.steps.proofs.Judging.{StoredSoFar}
use Rattle.steps.proofs.put_steps.Given as goal

abbrev pub invariant-loop-line : goal.invariant-loop-line
invariant-loop-line l = StoredSoFar (lines l.fn.rest.text.now) (lines l.line-iterator.text.now) l.count l.initial.steps l.steps
