-- What the check leaves of `take_falls`.
use native.Mathlib.Omega.{arith}
use Rattle.sets.proofs.Tables.{filled_all}
use Rattle.openings.proofs.take_falls.Goals as goal

pub returns : goal.returns
returns c = filled_all c.loop-q.invariant (omega arith)
