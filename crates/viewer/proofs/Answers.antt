-- The numbers of the viewer's answer determine it: a promise of the numbers is one of the answer. Assumes nothing.
use Rattle.std.specs.Prelude.{Result, Ok, Err, ℕ}
use mathlib.Core.Path.{◌≡◌, ap}
use native.Mathlib.Omega.{arith}
use lib.ListN.{length}
use Rattle.causes.specs.declared.Cause.{Cause}
use Rattle.causes.proofs.Numbers.{number_determined}
use Rattle.viewer.specs.View.{viewed_numbers}

pub viewed_determined : (r s : Result ℕ Cause) → viewed_numbers r ≡ viewed_numbers s → r ≡ s
viewed_determined (Ok i) (Ok k) e = cc
viewed_determined (Ok i) (Err d) e = absurd (omega (arith, ap length e))
viewed_determined (Err c) (Ok k) e = absurd (omega (arith, ap length e))
viewed_determined (Err c) (Err d) e = ap Err (number_determined c d (cc e))
