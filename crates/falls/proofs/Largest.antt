-- The largest of a list of residues and its last place, after one residue has been raised before which all are 0. On a tie the
-- raised one does not win: another stands behind it.
use Prim.Native.Nat.{ℕ, suc, ◌≤◌, ◌<◌}
use mathlib.Core.Bool.{cond}
use mathlib.Core.List.{List}
use mathlib.Core.Logic.{⊎_elim}
use mathlib.Core.Path.{◌≡◌, sym, ap, ◌∙◌}
use native.Mathlib.Nat.{le_antisymm}
use native.Mathlib.Omega.{arith}
use lib.Dec.{eqb, ltb}
use lib.ListN.{length, get_or, set, length-set}
use lib.Seq.{get_or-set_same, get_or-set_other}
use borrow.Author.Tests.{ltb-true, ltb-false, eqb-true, eqb-false}
use Rattle.sets.proofs.Tests.{decided, le_or_lt}
use Rattle.opening.specs.Residue.{largest, largest_place}
use Rattle.opening.proofs.Levels.{cond_case}
use Rattle.opening.proofs.Residue.{largest_bound, largest_attained, largest_place_zero, largest_place_attains, largest_place_last}

-- a residue that no other exceeds is the largest
largest_is : (rs : List ℕ) (k v : ℕ) → get_or rs k 0 ≡ v → ((i : ℕ) → get_or rs i 0 ≤ v) → largest rs ≡ v
largest_is rs k v at most =
    le_antisymm
    (⊎_elim
    (λ (none : largest rs ≤ 0). omega arith)
    (λ (some : 0 < largest rs). let (i, b, e) = largest_attained rs some in omega (arith, most i))
    (le_or_lt (largest rs) 0))
    (omega (arith, largest_bound rs k))

-- a largest residue behind which all are smaller has the largest place
largest_place_is : (rs : List ℕ) (k : ℕ) → 0 < largest rs → k < length rs → get_or rs k 0 ≡ largest rs
    → ((i : ℕ) → k < i → i < length rs → get_or rs i 0 < largest rs) → largest_place rs ≡ suc k
largest_place_is rs k pos b at less =
    let (j, c, e, found) = largest_place_attains rs pos in
    let low : suc k ≤ largest_place rs = largest_place_last rs k pos b at in
    ⊎_elim (λ (l : j ≤ k). omega arith) (λ (l : k < j). absurd (omega (arith, less j l c))) (le_or_lt j k)

-- behind the largest place all residues are smaller
behind_smaller : (rs : List ℕ) (i : ℕ) → 0 < largest rs → i < length rs → largest_place rs ≤ i → get_or rs i 0 < largest rs
behind_smaller rs i pos b behind =
    ⊎_elim
    (λ (l : largest rs ≤ get_or rs i 0). absurd (omega (arith, largest_place_last rs i pos b (le_antisymm (largest_bound rs i) l))))
    (λ l. l)
    (le_or_lt (largest rs) (get_or rs i 0))

-- residues that are all 0
pub largest_none : (rs : List ℕ) → ((i : ℕ) → i < length rs → get_or rs i 0 ≡ 0) → (largest rs ≡ 0) × (largest_place rs ≡ 0)
largest_none rs none =
    let e : largest rs ≡ 0 =
    ⊎_elim
    (λ (l : largest rs ≤ 0). omega arith)
    (λ (l : 0 < largest rs). let (i, b, at) = largest_attained rs l in absurd (omega (arith, none i b)))
    (le_or_lt (largest rs) 0) in
    (e, largest_place_zero rs e)

module _ (rs : List ℕ) (k r : ℕ) (inside : k < length rs) (zeros : (i : ℕ) → i < k → get_or rs i 0 ≡ 0) (more : get_or rs k 0 < r) where
  raised_here : get_or (set rs k r) k 0 ≡ r
  raised_here = get_or-set_same rs k r 0 inside

  raised_there : (i : ℕ) → (i ≡ k → ⊥) → get_or (set rs k r) i 0 ≡ get_or rs i 0
  raised_there i off = get_or-set_other rs k i r 0 off

  raised_most : (v : ℕ) → r ≤ v → ((i : ℕ) → get_or rs i 0 ≤ v) → (i : ℕ) → get_or (set rs k r) i 0 ≤ v
  raised_most v l most i =
      ⊎_elim
      (λ e. let at : i ≡ k = eqb-true i k e in rw at (omega (arith, raised_here)))
      (λ e. omega (arith, raised_there i (eqb-false i k e), most i))
      (decided (eqb i k))

  -- a residue that is as large stands behind it
  raised_before : (j : ℕ) → r ≤ get_or rs j 0 → k < j
  raised_before j l =
      ⊎_elim
      (λ (at : k ≤ j). ⊎_elim (λ (b : j ≤ k). let e : j ≡ k = omega arith in absurd (omega (arith, ap (λ (i : ℕ). get_or rs i 0) e))) (λ b. b) (le_or_lt j k))
      (λ (b : j < k). absurd (omega (arith, zeros j b)))
      (le_or_lt k j)

  -- above all others it is the largest
  raised_wins : largest rs < r → (largest (set rs k r) ≡ r) × (largest_place (set rs k r) ≡ suc k)
  raised_wins above =
      let e : largest (set rs k r) ≡ r = largest_is (set rs k r) k r raised_here (raised_most r (omega arith) (λ i. omega (arith, largest_bound rs i))) in (
        e,
        largest_place_is
            (set rs k r)
            k
            (omega arith)
            (omega (arith, length-set rs k r))
            (omega (arith, raised_here))
            (λ i l c. omega (arith, raised_there i (omega arith), largest_bound rs i)),
      )

  -- else the largest is where it was, since that is behind it
  raised_loses : r ≤ largest rs → (largest (set rs k r) ≡ largest rs) × (largest_place (set rs k r) ≡ largest_place rs)
  raised_loses below =
      let (j, b, place, at) = largest_place_attains rs (omega arith) in
      let behind : k < j = raised_before j (omega arith) in
      let there : get_or (set rs k r) j 0 ≡ largest rs = raised_there j (omega arith) ∙ at in
      let e : largest (set rs k r) ≡ largest rs = largest_is (set rs k r) j (largest rs) there (raised_most (largest rs) below (largest_bound rs)) in (
        e,
        largest_place_is
            (set rs k r)
            j
            (omega arith)
            (omega (arith, length-set rs k r))
            (there ∙ sym e)
            (λ i l c. omega (arith, raised_there i (omega arith), behind_smaller rs i (omega arith) (omega (arith, length-set rs k r)) (omega arith)))
            ∙ sym place,
      )

  pub largest_raised : largest (set rs k r) ≡ cond (ltb (largest rs) r) r (largest rs)
  largest_raised =
      cond_case
      (λ (x : ℕ). largest (set rs k r) ≡ x)
      (ltb (largest rs) r)
      (λ e. (raised_wins (ltb-true (largest rs) r e)).0)
      (λ e. (raised_loses (ltb-false (largest rs) r e)).0)

  pub place_raised : largest_place (set rs k r) ≡ cond (ltb (largest rs) r) (suc k) (largest_place rs)
  place_raised =
      cond_case
      (λ (x : ℕ). largest_place (set rs k r) ≡ x)
      (ltb (largest rs) r)
      (λ e. (raised_wins (ltb-true (largest rs) r e)).1)
      (λ e. (raised_loses (ltb-false (largest rs) r e)).1)
