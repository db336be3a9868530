-- Numbers compared by the levels below them, the least grey of a picture, and the search for the highest level that passes a test.
use Prim.Native.Nat.{ℕ, zero, suc, ◌+◌, ◌≤◌, ◌<◌}
use mathlib.Core.Bool.{Bool, true, false, cond}
use mathlib.Core.Logic.{⊎_elim, ◌↔◌}
use mathlib.Core.Path.{◌≡◌, refl}
use native.Mathlib.Nat.{le_antisymm}
use native.Mathlib.Omega.{arith}
use Rattle.sets.proofs.Tests.{clash, le_or_lt, last_or_below}
use Rattle.opening.specs.Opening.{least_grey, highest_above}

-- a is at most b if b is at least m and at least every level above m that is at most a
pub le_by_levels : (m a b : ℕ) → m ≤ b → ((h : ℕ) → m < h → h ≤ a → h ≤ b) → a ≤ b
le_by_levels m a b low levels =
    ⊎_elim (λ (l : a ≤ m). omega arith) (λ (l : m < a). levels a l (omega arith)) (le_or_lt a m)

-- two numbers are equal if the same levels above m lie below both
pub eq_by_levels : (m a b : ℕ) → m ≤ a → m ≤ b → ((h : ℕ) → m < h → h ≤ a ↔ h ≤ b) → a ≡ b
eq_by_levels m a b low_a low_b levels =
    le_antisymm
    (le_by_levels m a b low_b (λ h above. (levels h above).0))
    (le_by_levels m b a low_a (λ h above. (levels h above).1))

-- what holds of either branch holds of a choice
pub cond_case : {A : Type 0} (P : A → Type 0) (b : Bool) {x y : A} → (b ≡ true → P x) → (b ≡ false → P y) → P (cond b x y)
cond_case P true yea nay = yea refl
cond_case P false yea nay = nay refl

-- the least grey is at most each grey
pub least_grey_le : (n : ℕ) (g : ℕ → ℕ) (p : ℕ) → p < n → least_grey n g ≤ g p
unfolding least_grey
least_grey_le zero g p b = omega arith
least_grey_le (suc zero) g p b = let only : p ≡ 0 = omega arith in rw only (omega arith)
least_grey_le (suc (suc n)) g p b =
    ⊎_elim
    (λ (last : p ≡ suc n). rw last (omega arith))
    (λ (early : p < suc n). omega (arith, least_grey_le (suc n) g p early))
    (last_or_below p (suc n) b)

-- some pixel has it
pub least_grey_attained : (n : ℕ) (g : ℕ → ℕ) → 0 < n → (p : ℕ) × (p < n) × (g p ≡ least_grey n g)
unfolding least_grey
least_grey_attained zero g b = absurd (omega arith)
least_grey_attained (suc zero) g b = (0, omega arith, refl)
least_grey_attained (suc (suc n)) g b =
    let (p, below, eq) = least_grey_attained (suc n) g (omega arith) in
    ⊎_elim
    (λ (l : g (suc n) ≤ g p). (suc n, omega arith, omega arith))
    (λ (l : g p < g (suc n)). (p, omega arith, omega arith))
    (le_or_lt (g (suc n)) (g p))

-- it is at least every number that is at most each grey
pub least_grey_greatest : (n : ℕ) (g : ℕ → ℕ) (k : ℕ) → 0 < n → ((p : ℕ) → p < n → k ≤ g p) → k ≤ least_grey n g
least_grey_greatest n g k pos below = let (p, b, e) = least_grey_attained n g pos in omega (arith, below p b)

-- it rises with the picture
pub least_grey_mono : (n : ℕ) (f g : ℕ → ℕ) → ((p : ℕ) → p < n → f p ≤ g p) → 0 < n → least_grey n f ≤ least_grey n g
least_grey_mono n f g rise pos =
    least_grey_greatest n g (least_grey n f) pos (λ p b. omega (arith, least_grey_le n f p b, rise p b))

module _ (m : ℕ) (test : ℕ → Bool) where
  pub highest_ge : (k : ℕ) → m ≤ highest_above m k test
  unfolding highest_above
  highest_ge zero = omega arith
  highest_ge (suc k) =
      cond_case (λ (x : ℕ). m ≤ x) (test (m + suc k)) (λ e. omega arith) (λ e. highest_ge k)

  pub highest_le : (k : ℕ) → highest_above m k test ≤ m + k
  unfolding highest_above
  highest_le zero = omega arith
  highest_le (suc k) =
      cond_case (λ (x : ℕ). x ≤ m + suc k) (test (m + suc k)) (λ e. omega arith) (λ e. omega (arith, highest_le k))

  pub highest_passes : (k : ℕ) → m < highest_above m k test → test (highest_above m k test) ≡ true
  unfolding highest_above
  highest_passes zero b = absurd (omega arith)
  highest_passes (suc k) b =
      cond_case (λ (x : ℕ). m < x → test x ≡ true) (test (m + suc k)) (λ e above. e) (λ e above. highest_passes k above) b

  pub highest_greatest : (k h : ℕ) → m < h → h ≤ m + k → test h ≡ true → h ≤ highest_above m k test
  unfolding highest_above
  highest_greatest zero h above below pass = omega arith
  highest_greatest (suc k) h above below pass =
      cond_case
      (λ (x : ℕ). h ≤ x)
      (test (m + suc k))
      (λ e. below)
      (λ e. highest_greatest k h above (not_top e) pass)
    where
      not_top : test (m + suc k) ≡ false → h ≤ m + k
      not_top e =
          ⊎_elim
          (λ (l : h ≤ m + k). l)
          (λ (l : m + k < h). let top : h ≡ m + suc k = omega arith in clash (test (m + suc k)) (rw top at pass) e)
          (le_or_lt h (m + k))
