-- What the check leaves of `outlasted_by`.
use native.Mathlib.Omega.{arith}
use Rattle.falls.proofs.Places.{places_le, places_above, places_past}
use Rattle.places.proofs.outlasted_by.Goals as goal

pub loop-low-init : goal.loop-low-init
loop-low-init c = omega (arith, places_le c.args.a c.args.steps.now)

pub loop-low-preserved-then-a-steps : goal.loop-low-preserved-then-a-steps
loop-low-preserved-then-a-steps c = omega (arith, places_above c.args.a c.args.steps.now _ c.if-a-steps.true)

pub loop-low-preserved : goal.loop-low-preserved
loop-low-preserved c = omega (arith, places_past c.args.a c.args.steps.now c.requires _ (omega arith) c.if-a-steps.false)
