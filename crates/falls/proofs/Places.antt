-- Thresholds as tests: how many stand before the first one above a number is how many tests a set of that attribute outlasts. What is
-- said of numbers follows from what is said of tests, by an attribute that is that number for every set.
use Prim.Native.Nat.{ℕ, ◌≤◌, ◌<◌}
use mathlib.Core.Bool.{true}
use mathlib.Core.List.{List, [], ◌∷◌}
use mathlib.Core.Path.{◌≡◌, refl, ap, ◌∙◌}
use native.Mathlib.Nat.{le_refl}
use native.Mathlib.Omega.{arith}
use lib.Dec.{leb}
use lib.ListN.{length, get_or, length-map, get_or-map}
use borrow.Author.Tests.{le-leb, lt-leb}
use Rattle.sets.specs.Sets.{Positions}
use Rattle.opening.specs.Opening.{Keeps, at_least}
use Rattle.opening.specs.Residue.{not_falling, threshold_tests}
use Rattle.opening.proofs.Residue.{threshold_tests_narrow}
use Rattle.falls.specs.Falls.{outlasted, places_before}
use Rattle.falls.proofs.Outlasted.{outlasted_le, outlasted_before, outlasted_past}

pub places_outlasted : (attr : Positions → ℕ) (s : Positions) (steps : List ℕ)
    → outlasted s (threshold_tests attr steps) ≡ places_before (attr s) steps
unfolding outlasted places_before
places_outlasted attr s [] = refl
places_outlasted attr s (t ∷ rest) = rw (places_outlasted attr s rest) refl

module _ (a : ℕ) (steps : List ℕ) where
  -- every set has the attribute a
  abbrev same : Positions → ℕ
  same s = a

  -- any set will do
  abbrev some : Positions
  some q = true

  outlast : outlasted some (threshold_tests same steps) ≡ places_before a steps
  outlast = places_outlasted same some steps

  test_at : (i : ℕ) → get_or (threshold_tests same steps) i (at_least same 0) some ≡ leb (get_or steps i 0) a
  test_at i = ap (λ (k : Keeps). k some) (get_or-map (at_least same) steps i 0)

  pub places_le : places_before a steps ≤ length steps
  places_le = omega (arith, outlast, outlasted_le some (threshold_tests same steps), length-map steps (at_least same))

  -- at most as many as stand before a threshold above a
  pub places_above : (i : ℕ) → a < get_or steps i 0 → places_before a steps ≤ i
  places_above i l =
      omega (arith, outlast, outlasted_before some (threshold_tests same steps) (at_least same 0) i (test_at i ∙ lt-leb (get_or steps i 0) a l))

  -- a threshold of a list that does not fall is among them if it is at most a
  pub places_past : not_falling 0 steps ≡ true → (i : ℕ) → i < length steps → get_or steps i 0 ≤ a → i < places_before a steps
  places_past up i b l =
      let narrow = threshold_tests_narrow 0 same (λ s t inside. le_refl a) 0 steps up in
      omega (
        arith,
        outlast,
        outlasted_past
            0
            (at_least same 0)
            (threshold_tests same steps)
            narrow
            some
            (at_least same 0)
            i
            (omega (arith, length-map steps (at_least same)))
            (test_at i ∙ le-leb (get_or steps i 0) a l),
      )
