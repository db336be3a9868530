-- `steps::good_steps` meets its contract. Invariant: the steps on the lines before those that are left are good, `count` of them, and rise to `low`.
-- Assumes nothing.
use Rattle.steps.specs.Lines.{lines}
use Rattle.steps.proofs.Judging.{JudgedSoFar}
use Rattle.steps.proofs.good_steps.Given as goal

abbrev pub invariant-loop-line : goal.invariant-loop-line
invariant-loop-line l = JudgedSoFar (lines l.fn.rest.text.now) (lines l.line-iterator.text.now) l.low l.count
