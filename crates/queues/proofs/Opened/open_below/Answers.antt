-- What the check leaves of `open_below`.
use native.Mathlib.Omega.{arith}
use Rattle.queues.proofs.Marks.{highest, own_none, own_next, word_none, word_next}
use Rattle.queues.proofs.Opened.open_below.Goals as goal

pub returns-then-own-ne0 : goal.returns-then-own-ne0
returns-then-own-ne0 c =
    let bit = c.ilog2.ensures in
    λ n M. own_next M c.requires (highest bit.power_le bit.next_power_gt bit.bound)

pub loop-i-init : goal.loop-i-init
loop-i-init c = λ n M. own_none M c.requires c.if-own-ne0.false

pub returns-then-self-i-ne0 : goal.returns-then-self-i-ne0
returns-then-self-i-ne0 c =
    let bit = c.ilog2-then-self-i-ne0.ensures in
    λ n M.
    word_next M c.requires c.loop-i-test.true (omega arith) (c.loop-i.invariant n M)
    (highest bit.power_le bit.next_power_gt bit.bound)

pub loop-i-preserved : goal.loop-i-preserved
loop-i-preserved c = λ n M. word_none M c.requires c.loop-i-test.true (omega arith) (c.loop-i.invariant n M) c.if-self-i-ne0.false

pub returns : goal.returns
returns c = λ n M k h. c.loop-i.invariant n M k (omega arith) h
