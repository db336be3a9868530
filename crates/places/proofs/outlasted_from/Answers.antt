-- The threshold i is above the attribute, or one more is outlasted.
use native.Mathlib.Omega.{arith}
use Rattle.falls.proofs.Places.{places_le, places_above, places_past}
use Rattle.places.proofs.outlasted_from.Goals as goal

pub returns-then-a-steps : goal.returns-then-a-steps
returns-then-a-steps c = omega (arith, c.loop-i.invariant, places_above c.args.a c.args.steps.now _ c.if-a-steps.true)

pub loop-i-preserved : goal.loop-i-preserved
loop-i-preserved c = omega (arith, places_past c.args.a c.args.steps.now c.requires.rise _ c.loop-i-test.true c.if-a-steps.false)

pub returns : goal.returns
returns c = omega (arith, c.loop-i.invariant, c.loop-i-test.false, places_le c.args.a c.args.steps.now)
