-- Runs of residues: a run as residues are put in front of the list. Each residue that is not null is in a run, and in one only.
use Prim.Native.Nat.{ℕ, zero, suc, ◌-◌, ◌≤◌, ◌<◌}
use mathlib.Core.List.{List, [], ◌∷◌}
use mathlib.Core.Logic.{◌⊎◌, inl, inr, ⊎_elim}
use mathlib.Core.Path.{◌≡◌}
use native.Mathlib.Omega.{arith}
use lib.ListN.{get_or}
use Rattle.sets.proofs.Tests.{decided, le_or_lt, last_or_below}
use Rattle.opening.specs.Residue.{soon}
use Rattle.opening.specs.Runs.{Successive, Near, Apart, Run}
use Rattle.opening.proofs.Joined.{soon_found, soon_not}

-- all residues before a are null
abbrev pub First : List ℕ → ℕ → Type 0
First rs a = (i : ℕ) → i < a → get_or rs i 0 ≡ 0

-- two next to each other are so without the residue before them
successive_down : (r : ℕ) (rest : List ℕ) (i j : ℕ) → Successive (r ∷ rest) (suc i) (suc j) → Successive rest i j
successive_down r rest i j n =
    record {
      here = n.here;
      there = n.there;
      later = omega (arith, n.later);
      between = λ k l m. n.between (suc k) (omega arith) (omega arith);
    }

module _ (gap r : ℕ) (rest : List ℕ) where
  -- residues behind a run are behind it with one more residue in front
  after_shift : (b : ℕ) → ((j : ℕ) → b < j → 0 < get_or rest j 0 → Apart gap b j) → (j : ℕ) → suc b < j → 0 < get_or (r ∷ rest) j 0
      → Apart gap (suc b) j
  after_shift b after zero l some = absurd (omega arith)
  after_shift b after (suc j) l some = omega (arith, after j (omega arith) some)

  -- a run behind one more residue that is null or not near
  pub run_shift : (a b : ℕ) → (0 < r → gap ≤ a) → Run gap rest a b → Run gap (r ∷ rest) (suc a) (suc b)
  run_shift a b far run =
      record {
        first = run.first;
        last = run.last;
        order = omega (arith, run.order);
        together = together_up;
        before = before_up;
        after = after_shift b run.after;
      }
    where
      together_up : (i j : ℕ) → suc a ≤ i → j ≤ suc b → Successive (r ∷ rest) i j → Near gap i j
      together_up zero j low high n = absurd (omega arith)
      together_up (suc i) zero low high n = absurd (omega (arith, n.later))
      together_up (suc i) (suc j) low high n =
          omega (arith, run.together i j (omega arith) (omega arith) (successive_down r rest i j n))

      before_up : (i : ℕ) → i < suc a → 0 < get_or (r ∷ rest) i 0 → Apart gap i (suc a)
      before_up zero l some = omega (arith, far some)
      before_up (suc i) l some = omega (arith, run.before i (omega arith) some)

  -- before the first place of a run that is near all residues are null
  run_first : (a b : ℕ) → a < gap → Run gap rest a b → First rest a
  run_first a b near run i l =
      ⊎_elim
      (λ (z : get_or rest i 0 ≤ 0). omega arith)
      (λ (some : 0 < get_or rest i 0). absurd (omega (arith, run.before i l some)))
      (le_or_lt (get_or rest i 0) 0)

  -- a run that is near, with the residue in front of it
  pub run_extend : (a b : ℕ) → 0 < r → a < gap → Run gap rest a b → Run gap (r ∷ rest) 0 (suc b)
  run_extend a b pos near run =
      record {
        first = pos;
        last = run.last;
        order = omega arith;
        together = together_up;
        before = λ i l some. absurd (omega arith);
        after = after_shift b run.after;
      }
    where
      null : First rest a
      null = run_first a b near run

      together_up : (i j : ℕ) → 0 ≤ i → j ≤ suc b → Successive (r ∷ rest) i j → Near gap i j
      together_up i zero low high n = absurd (omega (arith, n.later))
      together_up zero (suc j) low high n =
          ⊎_elim
          (λ (l : j ≤ a). omega arith)
          (λ (l : a < j). absurd (omega (arith, run.first, n.between (suc a) (omega arith) (omega arith))))
          (le_or_lt j a)
      together_up (suc i) (suc j) low high n =
          ⊎_elim
          (λ (l : a ≤ i). omega (arith, run.together i j l (omega arith) (successive_down r rest i j n)))
          (λ (l : i < a). absurd (omega (arith, n.here, null i l)))
          (le_or_lt a i)

  -- a residue that is not null and has none near behind it is a run
  pub run_single : 0 < r → ((j : ℕ) → 0 < get_or rest j 0 → gap ≤ j) → Run gap (r ∷ rest) 0 0
  run_single pos far =
      record {
        first = pos;
        last = pos;
        order = omega arith;
        together = λ i j low high n. absurd (omega (arith, n.later));
        before = λ i l some. absurd (omega arith);
        after = after_up;
      }
    where
      after_up : (j : ℕ) → 0 < j → 0 < get_or (r ∷ rest) j 0 → Apart gap 0 j
      after_up zero l some = absurd (omega arith)
      after_up (suc j) l some = omega (arith, far j some)

  -- with one more residue in front a run ends where it did, and starts where it did or earlier
  run_lift : (a b : ℕ) → Run gap rest a b → (c : ℕ) × (c ≤ suc a) × Run gap (r ∷ rest) c (suc b)
  run_lift a b run =
      ⊎_elim
      (λ (null : r ≤ 0). (suc a, omega arith, run_shift a b (λ pos. absurd (omega arith)) run))
      (λ (pos : 0 < r).
      ⊎_elim
      (λ (far : gap ≤ a). (suc a, omega arith, run_shift a b (λ p. far) run))
      (λ (near : a < gap). (0, omega arith, run_extend a b pos near run))
      (le_or_lt gap a))
      (le_or_lt r 0)

-- each residue that is not null is in a run
pub in_a_run : (gap : ℕ) (rs : List ℕ) (i : ℕ) → 0 < get_or rs i 0 → (a : ℕ) × (b : ℕ) × (a ≤ i) × (i ≤ b) × Run gap rs a b
in_a_run gap [] i some = absurd (omega arith)
in_a_run gap (r ∷ rest) zero some =
    ⊎_elim
    (λ near.
    let (j, l, found) = soon_found gap rest near in
    let (a, b, low, high, run) = in_a_run gap rest j found in
    (0, suc b, omega arith, omega arith, run_extend gap r rest a b some (omega arith) run))
    (λ far. (0, 0, omega arith, omega arith, run_single gap r rest some (soon_not gap rest far)))
    (decided (soon gap rest))
in_a_run gap (r ∷ rest) (suc i) some =
    let (a, b, low, high, run) = in_a_run gap rest i some in
    let (c, l, up) = run_lift gap r rest a b run in
    (c, suc b, omega arith, omega arith, up)

-- all residues between x and y are null
abbrev Null : List ℕ → ℕ → ℕ → Type 0
Null rs x y = (m : ℕ) → x < m → m < y → get_or rs m 0 ≡ 0

module _ (rs : List ℕ) where
  -- up to the place behind y too, if the residue at y is null
  null_more : (x y : ℕ) → get_or rs y 0 ≤ 0 → Null rs x y → Null rs x (suc y)
  null_more x y z null m low high =
      ⊎_elim (λ (e : m ≡ y). rw e (omega arith)) (λ (l : m < y). null m low l) (last_or_below m y high)

  -- the last residue before y that is not null stands at x or later, where one stands at x
  last_before : (x y : ℕ) → x < y → 0 < get_or rs x 0 → (k : ℕ) × (x ≤ k) × (k < y) × (0 < get_or rs k 0) × Null rs k y
  last_before x zero l some = absurd (omega arith)
  last_before x (suc y) l some =
      ⊎_elim
      (λ (z : get_or rs y 0 ≤ 0).
      let early : x < y = ⊎_elim (λ (e : x ≡ y). absurd (omega (arith, rw e at some))) (λ b. b) (last_or_below x y l) in
      let (k, low, high, found, null) = last_before x y early some in
      (k, low, omega arith, found, null_more k y z null))
      (λ (found : 0 < get_or rs y 0). (y, omega arith, omega arith, found, λ m low high. absurd (omega arith)))
      (le_or_lt (get_or rs y 0) 0)

  -- the first residue after x that is not null stands before y, or all up to y are null
  first_after : (x y : ℕ) → ((k : ℕ) × (x < k) × (k < y) × (0 < get_or rs k 0) × Null rs x k) ⊎ Null rs x y
  first_after x zero = inr (λ m low high. absurd (omega arith))
  first_after x (suc y) = go (first_after x y)
    where
      go : ((k : ℕ) × (x < k) × (k < y) × (0 < get_or rs k 0) × Null rs x k) ⊎ Null rs x y
          → ((k : ℕ) × (x < k) × (k < suc y) × (0 < get_or rs k 0) × Null rs x k) ⊎ Null rs x (suc y)
      go (inl (k, low, high, found, null)) = inl (k, low, omega arith, found, null)
      go (inr null) =
          ⊎_elim
          (λ (z : get_or rs y 0 ≤ 0). inr (null_more x y z null))
          (λ (found : 0 < get_or rs y 0).
          ⊎_elim
          (λ (b : y ≤ x). inr (λ m low high. absurd (omega arith)))
          (λ (b : x < y). inl (y, b, omega arith, found, null))
          (le_or_lt y x))
          (le_or_lt (get_or rs y 0) 0)

  -- two residues that are not null: the later one is next to one that is no earlier than the other
  successive_before : (x y : ℕ) → x < y → 0 < get_or rs x 0 → 0 < get_or rs y 0 → (k : ℕ) × (x ≤ k) × Successive rs k y
  successive_before x y l some there =
      let (k, low, high, here, null) = last_before x y l some in
      (k, low, record { here = here; there = there; later = high; between = null })

  -- the earlier one is next to one that is no later than the other
  successive_after : (x y : ℕ) → x < y → 0 < get_or rs x 0 → 0 < get_or rs y 0 → (k : ℕ) × (k ≤ y) × Successive rs x k
  successive_after x y l here some =
      ⊎_elim
      (λ (k, low, high, there, null). (k, omega arith, record { here = here; there = there; later = low; between = null }))
      (λ null. (y, omega arith, record { here = here; there = some; later = l; between = null }))
      (first_after x y)

module _ (gap : ℕ) (rs : List ℕ) (a b a' b' : ℕ) (run : Run gap rs a b) (run' : Run gap rs a' b') where
  -- a run that starts before another ends, or where it does, starts no later than it
  starts_no_later : a' ≤ b → a' ≤ a
  starts_no_later inside =
      ⊎_elim
      (λ l. l)
      (λ (l : a < a').
      let (k, low, n) = successive_before rs a a' l run.first run'.first in
      absurd (omega (arith, run.together k a' low inside n, run'.before k n.later n.here)))
      (le_or_lt a' a)

  -- and ends no later than it
  ends_no_later : a' ≤ b → b' ≤ b
  ends_no_later inside =
      ⊎_elim
      (λ l. l)
      (λ (l : b < b').
      let (k, high, n) = successive_after rs b b' l run.last run'.last in
      absurd (omega (arith, run'.together b k inside high n, run.after k n.later n.there)))
      (le_or_lt b' b)

-- two runs that have a place in common are one
pub run_once : (gap : ℕ) (rs : List ℕ) (a b a' b' i : ℕ) → Run gap rs a b → Run gap rs a' b' → a ≤ i → i ≤ b → a' ≤ i → i ≤ b'
    → (a ≡ a') × (b ≡ b')
run_once gap rs a b a' b' i run run' low high low' high' = (
  omega (arith, starts_no_later gap rs a b a' b' run run' (omega arith), starts_no_later gap rs a' b' a b run' run (omega arith)),
  omega (arith, ends_no_later gap rs a b a' b' run run' (omega arith), ends_no_later gap rs a' b' a b run' run (omega arith)),
)
