-- Residues: each opening by tests that get narrower is at most the one before, so that every residue is a true difference and they add up
-- to the grey less the last opening. The tests of thresholds that do not fall get narrower. What the largest residue and its place are is
-- determined.
use Prim.Native.Nat.{ℕ, zero, suc, ◌+◌, ◌≤◌, ◌<◌}
use mathlib.Core.Bool.{true}
use mathlib.Core.List.{List, [], ◌∷◌}
use mathlib.Core.Path.{◌≡◌, refl}
use native.Mathlib.Omega.{arith}
use lib.Dec.{leb, ltb, eqb}
use lib.ListN.{length, get_or}
use borrow.Author.Tests.{le-leb, leb-true, leb-false, ltb-true, eqb-true, eqb-false, ne_eqb}
use Rattle.sets.specs.Sets.{Positions}
use Rattle.sets.proofs.Tests.{and_left, and_right}
use Rattle.connected.specs.Component.{Adjacency}
use Rattle.opening.specs.Opening.{Keeps, Upward, Increasing, at_least, opened_by}
use Rattle.opening.specs.Residue.{falls_from, total, last_of, largest, last_place, largest_place, rising, not_falling, threshold_tests, Narrowing, openings_by}
use Rattle.opening.proofs.Levels.{cond_case}
use Rattle.opening.proofs.Opened.{opened_le, opened_mono}
use Rattle.opening.proofs.Threshold.{at_least_up, at_least_less}

-- greys that never rise, from the first one on
abbrev pub Falling : ℕ → List ℕ → Type 0
Falling grey [] = Unit {0}
Falling grey (next ∷ rest) = (next ≤ grey) × Falling next rest

-- a fall is a true difference: with the later grey it makes up the earlier one
pub falls_true : (grey : ℕ) (l : List ℕ) → Falling grey l → (i : ℕ) → i < length l
    → get_or (falls_from grey l) i 0 + get_or l i 0 ≡ get_or (grey ∷ l) i 0
unfolding falls_from
falls_true grey [] f i b = absurd (omega arith)
falls_true grey (next ∷ rest) f zero b = omega (arith, f.0)
falls_true grey (next ∷ rest) f (suc i) b = falls_true next rest f.1 i (omega arith)

-- all falls and the last grey add up to the first
pub falls_total : (grey : ℕ) (l : List ℕ) → Falling grey l → total (falls_from grey l) + last_of grey l ≡ grey
unfolding falls_from total last_of
falls_total grey [] f = omega arith
falls_total grey (next ∷ rest) f = omega (arith, f.0, falls_total next rest f.1)

-- thresholds that rise do not fall
pub rising_not_falling : (low : ℕ) (steps : List ℕ) → rising low steps ≡ true → not_falling low steps ≡ true
unfolding rising not_falling
rising_not_falling low [] up = refl
rising_not_falling low (t ∷ rest) up =
    let above : low < t = ltb-true low t (and_left (ltb low t) (rising t rest) up) in
    rw (le-leb low t (omega arith)) (rising_not_falling t rest (and_right (ltb low t) (rising t rest) up))

-- thresholds that do not fall give tests that get narrower
pub threshold_tests_narrow : (n : ℕ) (attr : Positions → ℕ) → Increasing n attr → (low : ℕ) (steps : List ℕ) → not_falling low steps ≡ true
    → Narrowing n (at_least attr low) (threshold_tests attr steps)
unfolding not_falling
threshold_tests_narrow n attr rise low [] up = tt
threshold_tests_narrow n attr rise low (t ∷ rest) up =
    let above : low ≤ t = leb-true low t (and_left (leb low t) (not_falling t rest) up) in (
      at_least_up n attr rise t,
      at_least_less attr low t above,
      threshold_tests_narrow n attr rise t rest (and_right (leb low t) (not_falling t rest) up),
    )

module _ (n : ℕ) (adj : Adjacency) (g : ℕ → ℕ) (p : ℕ) (below : p < n) where
  -- the openings by narrowing tests fall
  openings_fall : (wide : Keeps) (tests : List Keeps) → Upward n wide → Narrowing n wide tests
      → Falling (opened_by n adj wide g p) (openings_by n adj tests g p)
  openings_fall wide [] up narrow = tt
  openings_fall wide (keeps ∷ rest) up (more, inside, narrow) =
      (opened_mono n adj keeps wide g g more up inside (λ q b. omega arith) p below, openings_fall keeps rest more narrow)

  -- from the grey itself on, which no opening raises
  pub residues_fall : (wide : Keeps) (tests : List Keeps) → Narrowing n wide tests → Falling (g p) (openings_by n adj tests g p)
  residues_fall wide [] narrow = tt
  residues_fall wide (keeps ∷ rest) (more, inside, narrow) =
      (opened_le n adj keeps g p below, openings_fall keeps rest more narrow)

  -- at every pixel all residues and the last opening add up to its grey
  pub residues_total : (wide : Keeps) (tests : List Keeps) → Narrowing n wide tests
      → total (falls_from (g p) (openings_by n adj tests g p)) + last_of (g p) (openings_by n adj tests g p) ≡ g p
  residues_total wide tests narrow = falls_total (g p) (openings_by n adj tests g p) (residues_fall wide tests narrow)

-- no residue is above the largest
pub largest_bound : (rs : List ℕ) (i : ℕ) → get_or rs i 0 ≤ largest rs
unfolding largest
largest_bound [] i = omega arith
largest_bound (r ∷ rest) zero =
    cond_case (λ (x : ℕ). r ≤ x) (leb (largest rest) r) (λ e. omega arith) (λ e. omega (arith, leb-false (largest rest) r e))
largest_bound (r ∷ rest) (suc i) =
    cond_case
    (λ (x : ℕ). get_or rest i 0 ≤ x)
    (leb (largest rest) r)
    (λ e. omega (arith, leb-true (largest rest) r e, largest_bound rest i))
    (λ e. largest_bound rest i)

-- the largest is 0 or one of them
pub largest_attained : (rs : List ℕ) → 0 < largest rs → (i : ℕ) × (i < length rs) × (get_or rs i 0 ≡ largest rs)
unfolding largest
largest_attained [] pos = absurd (omega arith)
largest_attained (r ∷ rest) pos =
    cond_case
    (λ (x : ℕ). (i : ℕ) × (i < suc (length rest)) × (get_or (r ∷ rest) i 0 ≡ x))
    (leb (largest rest) r)
    (λ e. (0, omega arith, refl))
    (λ e.
    let (i, b, at) = largest_attained rest (omega (arith, leb-false (largest rest) r e)) in
    (suc i, omega arith, at))

-- a last place that is not 0 is one more than the place of v, counted from i
last_place_attains : (v i : ℕ) (rs : List ℕ) → 0 < last_place v i rs
    → (k : ℕ) × (k < length rs) × (last_place v i rs ≡ suc (i + k)) × (get_or rs k 0 ≡ v)
unfolding last_place
last_place_attains v i [] pos = absurd (omega arith)
last_place_attains v i (r ∷ rest) pos =
    cond_case
    Found
    (eqb (last_place v (suc i) rest) 0)
    (λ e.
    cond_case
    Found
    (eqb r v)
    (λ at above. (0, omega arith, omega arith, eqb-true r v at))
    (λ at above. absurd (omega arith)))
    (λ e above. let (k, b, place, at) = last_place_attains v (suc i) rest above in (suc k, omega arith, omega arith, at))
    pos
  where
    Found : ℕ → Type 0
    Found x = 0 < x → (k : ℕ) × (k < suc (length rest)) × (x ≡ suc (i + k)) × (get_or (r ∷ rest) k 0 ≡ v)

-- no v stands after it
last_place_last : (v i : ℕ) (rs : List ℕ) (k : ℕ) → k < length rs → get_or rs k 0 ≡ v → suc (i + k) ≤ last_place v i rs
unfolding last_place
last_place_last v i [] k b at = absurd (omega arith)
last_place_last v i (r ∷ rest) zero b at =
    cond_case
    (λ (x : ℕ). suc (i + 0) ≤ x)
    (eqb (last_place v (suc i) rest) 0)
    (λ e. cond_case (λ (x : ℕ). suc (i + 0) ≤ x) (eqb r v) (λ f. omega arith) (λ f. absurd (eqb-false r v f at)))
    (λ e.
    let (k, c, place, found) = last_place_attains v (suc i) rest (omega (arith, eqb-false (last_place v (suc i) rest) 0 e)) in
    omega arith)
last_place_last v i (r ∷ rest) (suc k) b at =
    let later : suc (suc i + k) ≤ last_place v (suc i) rest = last_place_last v (suc i) rest k (omega arith) at in
    cond_case
    (λ (x : ℕ). suc (i + suc k) ≤ x)
    (eqb (last_place v (suc i) rest) 0)
    (λ e. absurd (omega (arith, eqb-true (last_place v (suc i) rest) 0 e)))
    (λ e. omega arith)

-- the place is 0 where the largest residue is 0
pub largest_place_zero : (rs : List ℕ) → largest rs ≡ 0 → largest_place rs ≡ 0
unfolding largest_place
largest_place_zero rs none = rw none

-- elsewhere it is the place, counted from 1, of a largest residue
pub largest_place_attains : (rs : List ℕ) → 0 < largest rs
    → (k : ℕ) × (k < length rs) × (largest_place rs ≡ suc k) × (get_or rs k 0 ≡ largest rs)
unfolding largest_place
largest_place_attains rs pos =
    let (i, b, at) = largest_attained rs pos in
    let (k, c, place, found) =
    last_place_attains (largest rs) 0 rs (omega (arith, last_place_last (largest rs) 0 rs i b at)) in
    (k, c, rw (ne_eqb (largest rs) 0 (omega arith)) (omega arith), found)

-- and the greatest such place
pub largest_place_last : (rs : List ℕ) (k : ℕ) → 0 < largest rs → k < length rs → get_or rs k 0 ≡ largest rs → suc k ≤ largest_place rs
unfolding largest_place
largest_place_last rs k pos b at =
    rw (ne_eqb (largest rs) 0 (omega arith)) (omega (arith, last_place_last (largest rs) 0 rs k b at))
