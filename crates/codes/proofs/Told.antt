-- The code of an answer tells its numbers, if its value is below the limit. Assumes nothing.
use Prim.Native.Nat.{ℕ, ◌<◌}
use mathlib.Core.Bool.{Bool, true, false}
use mathlib.Core.List.{List, [], ◌∷◌}
use mathlib.Core.Path.{◌≡◌, refl}
use native.Mathlib.Omega.{arith}
use Rattle.causes.specs.Causes.{number_of}
use Rattle.causes.specs.declared.Cause.{Cause}
use Rattle.causes.proofs.Numbers.{number_positive, number_fits}
use Rattle.codes.specs.Codes.{value_limit, code_of}
use Rattle.codes.specs.Told.{Told, Unambiguous}

-- the numbers of an answer: that of a cause; or 0, alone or before a value, by whether accepted calls of the kind have one
pub data Answered : Bool → List ℕ → Type 0 where
  refused : {has_value : Bool} (cause : Cause) → Answered has_value (number_of cause ∷ [])
  done : Answered false (0 ∷ [])
  valued : {value : ℕ} → value < value_limit → Answered true (0 ∷ value ∷ [])

pub told : {has_value : Bool} {numbers : List ℕ} → Answered has_value numbers → Told (code_of numbers) numbers
told (refused cause) =
    let some = number_positive cause in
    let fit = number_fits cause in
    record {
      accepted = ((λ low. omega arith), (λ none. omega arith));
      value = λ low. omega arith;
      refused = λ high. refl;
      number = omega arith;
      fits = omega arith;
    }
told done =
    record {
      accepted = ((λ low. refl), (λ none. omega arith));
      value = λ low. refl;
      refused = λ high. refl;
      number = refl;
      fits = omega arith;
    }
told (valued below) =
    record {
      accepted = ((λ low. refl), (λ none. omega arith));
      value = λ low. refl;
      refused = λ high. omega arith;
      number = omega arith;
      fits = omega arith;
    }

-- one code, one list of numbers
pub same_numbers : {has_value : Bool} {m n : List ℕ} → Answered has_value m → Answered has_value n → code_of m ≡ code_of n → m ≡ n
same_numbers (refused c) (refused d) e = let same : number_of c ≡ number_of d = omega arith in rw same
same_numbers (refused c) done e = absurd (omega (arith, number_positive c))
same_numbers (refused c) (valued below) e = absurd (omega (arith, number_positive c))
same_numbers done (refused d) e = absurd (omega (arith, number_positive d))
same_numbers done done e = refl
same_numbers (valued below) (refused d) e = absurd (omega (arith, number_positive d))
same_numbers (valued below) (valued low) e = cc

-- a kind of calls, whose answers their numbers determine
pub unambiguous : {Call Answer : Type 0} {has_value : Bool} (answer : Call → Answer) (numbers : Answer → List ℕ)
    → ((call : Call) → Answered has_value (numbers (answer call))) → ((r s : Answer) → numbers r ≡ numbers s → r ≡ s)
    → Unambiguous answer numbers
unambiguous answer numbers answered determined =
    record {
      told = λ call. told (answered call);
      same = λ c d e. determined (answer c) (answer d) (same_numbers (answered c) (answered d) e);
    }
