-- What the check leaves of `mark_run`.
use native.Mathlib.Omega.{arith}
use Rattle.frame.proofs.Frame.{marking_none, marking_more}
use Rattle.frame.proofs.mark_run.Goals as goal

pub loop-i-preserved : goal.loop-i-preserved
loop-i-preserved c =
    marking_more c.requires c.loop-i.invariant (omega arith) c.mark_node.ensures

pub loop-i-init : goal.loop-i-init
loop-i-init c = marking_none _ _ _
