-- An answer's numbers determine it: a promise of the numbers is one of the answer. Assumes nothing.
use Prim.Native.Nat.{ℕ}
use mathlib.Core.List.{List}
use mathlib.Core.Path.{◌≡◌, sym, ap, ◌∙◌}
use native.Mathlib.Omega.{arith}
use lib.ListN.{length}
use Rattle.causes.proofs.Numbers.{number_determined}
use Rattle.pgm_read.specs.Read.{read_answer, found_numbers}
use Rattle.std.specs.Prelude.{Result, Ok, Err}
use Rattle.causes.specs.declared.Cause.{Cause}
use Rattle.pgm_read.specs.declared.Picture.{Picture}

same_picture : (p q : Picture) → p.width ≡ q.width → p.height ≡ q.height → p.maximum ≡ q.maximum → p.start ≡ q.start → p ≡ q
same_picture p q w h m s = λ i. record { width = w i; height = h i; maximum = m i; start = s i }

pub found_determined : (r s : Result Picture Cause) → found_numbers r ≡ found_numbers s → r ≡ s
found_determined (Ok p) (Ok q) e = ap Ok (same_picture p q (cc e) (cc e) (cc e) (cc e))
found_determined (Ok p) (Err d) e = absurd (omega (arith, ap length e))
found_determined (Err c) (Ok p) e = absurd (omega (arith, ap length e))
found_determined (Err c) (Err d) e = ap Err (number_determined c d (cc e))

-- what a call of the reader that found f says of the file and the number
pub read_as : (file : List ℕ) (number : ℕ) (r f : Result Picture Cause) → found_numbers r ≡ found_numbers (read_answer file number) → r ≡ f → read_answer file number ≡ f
read_as file number r f e is = sym (found_determined r (read_answer file number) e) ∙ is
