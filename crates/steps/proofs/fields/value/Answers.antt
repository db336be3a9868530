-- `steps::fields::value` meets its contract. Assumes nothing.
use native.Mathlib.Omega.{arith}
use Rattle.steps.proofs.Scanning.{value_none, value_small, digit, value_more, value_end}
use Rattle.steps.proofs.fields.value.Goals as goal

pub loop-digit-init : goal.loop-digit-init
loop-digit-init c = value_none _ c.requires

pub overflow_mul-v : goal.overflow_mul-v
overflow_mul-v c = omega (arith, value_small c.loop-digit.invariant c.loop-digit-test.true)

pub overflow_sub-digit : goal.overflow_sub-digit
overflow_sub-digit c = (digit c.loop-digit.invariant c.loop-digit-test.true).low

pub loop-digit-preserved : goal.loop-digit-preserved
loop-digit-preserved c = rw c.from.ensures (value_more c.loop-digit.invariant c.loop-digit-test.true)

pub returns : goal.returns
returns c = value_end c.loop-digit.invariant c.loop-digit-test.false
