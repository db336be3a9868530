-- How many tests are outlasted: at most all, no fewer by a larger set; of tests that get narrower exactly those that the set passes.
use Prim.Native.Nat.{ℕ, zero, suc, ◌≤◌, ◌<◌}
use mathlib.Core.Bool.{true, false}
use mathlib.Core.List.{List, [], ◌∷◌}
use mathlib.Core.Logic.{⊎_elim}
use mathlib.Core.Path.{◌≡◌}
use native.Mathlib.Omega.{arith}
use lib.ListN.{length, get_or}
use Rattle.sets.specs.Sets.{Positions, Inside}
use Rattle.sets.proofs.Tests.{clash, le_or_lt}
use Rattle.opening.specs.Opening.{Keeps, Upward}
use Rattle.opening.specs.Residue.{Narrowing}
use Rattle.opening.proofs.Levels.{cond_case}
use Rattle.falls.specs.Falls.{outlasted}

-- one set
module _ (s : Positions) where
  pub outlasted_le : (tests : List Keeps) → outlasted s tests ≤ length tests
  unfolding outlasted
  outlasted_le [] = omega arith
  outlasted_le (keeps ∷ rest) =
      cond_case (λ (k : ℕ). k ≤ suc (length rest)) (keeps s) (λ e. omega (arith, outlasted_le rest)) (λ e. omega arith)

  all_passed : (keeps : Keeps) (rest : List Keeps) (d : Keeps) (k : ℕ) → keeps s ≡ true
      → ((i : ℕ) → i < k → get_or rest i d s ≡ true) → (i : ℕ) → i < suc k → get_or (keeps ∷ rest) i d s ≡ true
  all_passed keeps rest d k e later zero b = e
  all_passed keeps rest d k e later (suc i) b = later i (omega arith)

  -- the tests that are outlasted are passed; d stands for what is beyond the last
  pub outlasted_passes : (tests : List Keeps) (d : Keeps) (i : ℕ) → i < outlasted s tests → get_or tests i d s ≡ true
  unfolding outlasted
  outlasted_passes [] d i = λ b. absurd (omega arith)
  outlasted_passes (keeps ∷ rest) d i =
      cond_case
      (λ (k : ℕ). i < k → get_or (keeps ∷ rest) i d s ≡ true)
      (keeps s)
      (λ e. all_passed keeps rest d (outlasted s rest) e (outlasted_passes rest d) i)
      (λ e b. absurd (omega arith))

  -- at most as many are outlasted as stand before one that is failed
  pub outlasted_before : (tests : List Keeps) (d : Keeps) (i : ℕ) → get_or tests i d s ≡ false → outlasted s tests ≤ i
  outlasted_before tests d i fails =
      ⊎_elim
      (λ l. l)
      (λ (l : i < outlasted s tests). clash (get_or tests i d s) (outlasted_passes tests d i l) fails)
      (le_or_lt (outlasted s tests) i)

-- tests that get narrower
module _ (n : ℕ) where
  -- each passes as a set grows
  pub narrowing_up : (wide : Keeps) (tests : List Keeps) → Narrowing n wide tests → (d : Keeps) (i : ℕ) → i < length tests
      → Upward n (get_or tests i d)
  narrowing_up wide [] narrow d i b = absurd (omega arith)
  narrowing_up wide (keeps ∷ rest) narrow d zero b = narrow.0
  narrowing_up wide (keeps ∷ rest) narrow d (suc i) b = narrowing_up keeps rest narrow.2 d i (omega arith)

  -- what passes one passes all before it
  narrowing_wide : (wide : Keeps) (tests : List Keeps) → Narrowing n wide tests → (s : Positions) (d : Keeps) (i : ℕ) → i < length tests
      → get_or tests i d s ≡ true → wide s ≡ true
  narrowing_wide wide [] narrow s d i b e = absurd (omega arith)
  narrowing_wide wide (keeps ∷ rest) narrow s d zero b e = narrow.1 s e
  narrowing_wide wide (keeps ∷ rest) narrow s d (suc i) b e =
      narrow.1 s (narrowing_wide keeps rest narrow.2 s d i (omega arith) e)

  -- so a test that is passed is outlasted
  pub outlasted_past : (wide : Keeps) (tests : List Keeps) → Narrowing n wide tests → (s : Positions) (d : Keeps) (i : ℕ) → i < length tests
      → get_or tests i d s ≡ true → i < outlasted s tests
  unfolding outlasted
  outlasted_past wide [] narrow s d i b e = absurd (omega arith)
  outlasted_past wide (keeps ∷ rest) narrow s d zero b e = rw e (omega arith)
  outlasted_past wide (keeps ∷ rest) narrow s d (suc i) b e =
      rw
      (narrowing_wide keeps rest narrow.2 s d i (omega arith) e)
      (omega (arith, outlasted_past keeps rest narrow.2 s d i (omega arith) e))

  -- a larger set outlasts as many tests at least
  pub outlasted_mono : (wide : Keeps) (tests : List Keeps) → Narrowing n wide tests → (s t : Positions) → Inside n s t
      → outlasted s tests ≤ outlasted t tests
  unfolding outlasted
  outlasted_mono wide [] narrow s t inside = omega arith
  outlasted_mono wide (keeps ∷ rest) narrow s t inside =
      cond_case
      (λ (k : ℕ). k ≤ outlasted t (keeps ∷ rest))
      (keeps s)
      (λ e. rw (narrow.0 s t inside e) (omega (arith, outlasted_mono keeps rest narrow.2 s t inside)))
      (λ e. omega arith)
