-- What the check leaves of `hold`.
use native.Mathlib.Omega.{arith}
use Rattle.sets.proofs.Tables.{filled_all}
use Rattle.map_passes.proofs.hold.Goals as goal

pub returns : goal.returns
returns c = filled_all c.loop-p.invariant (omega arith)
