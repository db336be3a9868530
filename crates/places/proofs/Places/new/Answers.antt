-- What the check leaves of `new`.
use Prim.Native.Nat.{◌+◌}
use native.Mathlib.Omega.{arith}
use Rattle.sets.proofs.Tables.{filled_more, filled_all}
use Rattle.places.proofs.Searching.{more_outlasted}
use Rattle.places.proofs.Places.new.Goals as goal

pub loop-a-preserved : goal.loop-a-preserved
loop-a-preserved c =
    let found = c.outlasted_from-outlasted.ensures in (
      filled_more c.loop-a.invariant.0 c.loop-a-test.true _ found,
      omega (arith, found, more_outlasted c.loop-a.a c.args.steps.now c.requires (c.loop-a.a + 1) (omega arith)),
    )

pub invariant_of-result-clause-found : goal.invariant_of-result-clause-found
invariant_of-result-clause-found c = filled_all c.loop-a.invariant.0 (omega arith)
