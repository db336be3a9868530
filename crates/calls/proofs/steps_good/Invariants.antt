-- `calls::steps_good` meets its contract. Invariant: the thresholds before `t` are good and rise to `low`. Assumes nothing.
use Rattle.calls.proofs.Judging.{RisingSoFar}
use Rattle.calls.proofs.steps_good.Given as goal

abbrev pub invariant-loop-t : goal.invariant-loop-t
invariant-loop-t l = RisingSoFar l.steps l.low l.t-index
