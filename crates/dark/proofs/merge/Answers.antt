-- What the check leaves of `merge`.
use native.Mathlib.Omega.{arith}
use Rattle.sets.proofs.Tables.{filled_all}
use Rattle.dark.proofs.merge.Goals as goal

pub returns : goal.returns
returns c = record {
  pairs = filled_all c.loop-p.invariant.0.filled (omega arith);
  contrasts = filled_all c.loop-p.invariant.1 (omega arith);
}
