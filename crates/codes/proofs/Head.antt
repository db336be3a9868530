-- The reader's answer, from its 64 bits and the four words of the head. Assumes nothing.
use Prim.Native.Nat.{ℕ, ◌≤◌, ◌<◌}
use mathlib.Core.Bool.{false}
use mathlib.Core.List.{List, [], ◌∷◌, append-nil}
use mathlib.Core.Path.{◌≡◌, refl, sym, ap, ◌∙◌}
use native.Mathlib.Nat.{zero-add}
use native.Mathlib.Omega.{arith}
use lib.ListN.{length, take, drop}
use lib.Seq.{sets, sets-eq, drop-length}
use Rattle.causes.proofs.Numbers.{number_positive}
use Rattle.pgm_read.specs.Read.{found_numbers}
use Rattle.std.specs.Prelude.{Result}
use Rattle.causes.specs.declared.Cause.{Cause}
use Rattle.pgm_read.specs.declared.Picture.{Picture}
use Rattle.std.specs.Prelude.{Ok, Err}
use Rattle.pgm_read.proofs.Answers.{found_determined}
use Rattle.codes.specs.Codes.{value_limit, number_code, head_with}
use Rattle.codes.specs.Told.{Told, HeadTold}
use Rattle.codes.proofs.Told.{refused, done, told, same_numbers}

-- the number alone is that of an answer without a value
number_told : (found : Result Picture Cause) → Told (number_code (found_numbers found)) (take 1 (found_numbers found))
number_told (Ok p) = told done
number_told (Err cause) = told {has_value = false} (refused cause)

-- words stored over as many are those that are there
stored_over : (words head : List ℕ) → length head ≡ length words → sets head 0 words ≡ words
stored_over words head e = sets-eq words head 0 (omega arith) ∙ rw (zero-add, ← e, drop-length) (append-nil words)

values_there : (found : Result Picture Cause) (head : List ℕ) → length head ≡ 4 → number_code (found_numbers found) < value_limit
    → head_with found head ≡ drop 1 (found_numbers found)
values_there (Ok p) head four low = stored_over (p.width ∷ p.height ∷ p.maximum ∷ p.start ∷ []) head four
values_there (Err cause) head four low = absurd (omega (arith, number_positive cause))

left_as_lent : (found : Result Picture Cause) (head : List ℕ) → value_limit ≤ number_code (found_numbers found) → head_with found head ≡ head
left_as_lent (Ok p) head high = absurd (omega arith)
left_as_lent (Err cause) head high = refl

same_answer : (f g : Result Picture Cause) (head other : List ℕ) → length head ≡ 4 → length other ≡ 4
    → number_code (found_numbers f) ≡ number_code (found_numbers g) → head_with f head ≡ head_with g other → f ≡ g
same_answer (Ok p) (Ok q) head other four four' code words =
    let first = stored_over (p.width ∷ p.height ∷ p.maximum ∷ p.start ∷ []) head four in
    let second = stored_over (q.width ∷ q.height ∷ q.maximum ∷ q.start ∷ []) other four' in
    found_determined (Ok p) (Ok q) (ap (λ (values : List ℕ). 0 ∷ values) (sym first ∙ words ∙ second))
same_answer (Ok p) (Err d) head other four four' code words = absurd (omega (arith, number_positive d))
same_answer (Err c) (Ok p) head other four four' code words = absurd (omega (arith, number_positive c))
same_answer (Err c) (Err d) head other four four' code words =
    found_determined (Err c) (Err d) (same_numbers {has_value = false} (refused c) (refused d) code)

pub head_told : HeadTold
head_told =
    record {
      told = number_told;
      values = values_there;
      left = left_as_lent;
      same = same_answer;
    }
