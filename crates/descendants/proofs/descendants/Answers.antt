-- What the check leaves of `descendants`.
use Rattle.descendants.proofs.Pouring.{pouring_none, pour_asked, pouring_more, pouring_end}
use native.Mathlib.Omega.{arith}
use Rattle.descendants.proofs.descendants.Goals as goal

pub loop-i-init : goal.loop-i-init
loop-i-init c = pouring_none

pub pour-requires : goal.pour-requires
pour-requires c =
    pour_asked c.requires (omega arith) c.loop-i.invariant

pub loop-i-preserved : goal.loop-i-preserved
loop-i-preserved c =
    pouring_more c.requires (omega arith) c.loop-i.invariant c.pour.ensures

pub returns : goal.returns
returns c = pouring_end (omega arith) c.loop-i.invariant
