-- An answer's numbers determine it: a promise of the numbers is one of the answer. Assumes nothing.
use Rattle.std.specs.Prelude.{Result, Ok, Err, ℕ}
use Rattle.calls.specs.Judging.{Verdict}
use mathlib.Core.Path.{◌≡◌, refl, ap}
use native.Mathlib.Omega.{arith}
use lib.ListN.{length}
use Rattle.causes.specs.declared.Cause.{Cause}
use Rattle.causes.specs.Causes.{number_of}
use Rattle.causes.proofs.Numbers.{number_determined, number_positive}
use Rattle.calls.specs.Judging.{verdict_numbers}
use Rattle.calls.specs.Calls.{built_numbers}

pub verdict_determined : (r s : Verdict) → verdict_numbers r ≡ verdict_numbers s → r ≡ s
verdict_determined (Ok done) (Ok again) e = refl
verdict_determined (Ok done) (Err d) e = let none : 0 ≡ number_of d = cc in absurd (omega (arith, number_positive d))
verdict_determined (Err c) (Ok done) e = let none : number_of c ≡ 0 = cc in absurd (omega (arith, number_positive c))
verdict_determined (Err c) (Err d) e = ap Err (number_determined c d (cc e))

pub built_determined : (r s : Result ℕ Cause) → built_numbers r ≡ built_numbers s → r ≡ s
built_determined (Ok k) (Ok l) e = cc
built_determined (Ok k) (Err d) e = absurd (omega (arith, ap length e))
built_determined (Err c) (Ok l) e = absurd (omega (arith, ap length e))
built_determined (Err c) (Err d) e = ap Err (number_determined c d (cc e))
