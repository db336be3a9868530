-- An answer's numbers determine it: a promise of the numbers is one of the answer. Assumes nothing.
use mathlib.Core.Path.{◌≡◌, ap}
use native.Mathlib.Omega.{arith}
use lib.ListN.{length}
use Rattle.causes.proofs.Numbers.{number_determined}
use Rattle.pgm_write.specs.Write.{written_numbers}
use Rattle.std.specs.Prelude.{Result, Ok, Err}
use Rattle.causes.specs.declared.Cause.{Cause}
use Prim.Native.Nat.{ℕ}

pub written_determined : (r s : Result ℕ Cause) → written_numbers r ≡ written_numbers s → r ≡ s
written_determined (Ok t) (Ok u) e = cc
written_determined (Ok t) (Err d) e = absurd (omega (arith, ap length e))
written_determined (Err c) (Ok u) e = absurd (omega (arith, ap length e))
written_determined (Err c) (Err d) e = ap Err (number_determined c d (cc e))
