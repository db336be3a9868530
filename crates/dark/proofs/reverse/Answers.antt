-- What the check leaves of `reverse`.
use native.Mathlib.Omega.{arith}
use Rattle.sets.proofs.Tables.{filled_all}
use Rattle.calls.specs.Reversed.{reversed}
use Rattle.dark.proofs.reverse.Goals as goal

pub returns : goal.returns
unfolding reversed
returns c = filled_all c.loop-p.invariant (omega arith)
