-- What is computed to join residues: whether one that is not null comes soon, and the totals by place, 0 where no run ends and at most the
-- sum of all. At gap 0 each residue is a run of its own.
use Prim.Native.Nat.{ℕ, zero, suc, ◌+◌, ◌≤◌, ◌<◌}
use mathlib.Core.Bool.{Bool, true, false, true≢false, false≢true}
use mathlib.Core.List.{List, [], ◌∷◌}
use mathlib.Core.Logic.{⊎_elim}
use mathlib.Core.Path.{◌≡◌, refl, ap, ap₂}
use native.Mathlib.Omega.{arith}
use lib.Dec.{eqb}
use lib.ListN.{length, get_or}
use borrow.Author.Tests.{eq-eqb, ne_eqb, eqb-true, eqb-false}
use Rattle.sets.proofs.Tests.{clash, decided, le_or_lt}
use Rattle.connected.specs.Component.{Adjacency}
use Rattle.opening.specs.Opening.{Keeps}
use Rattle.opening.specs.Residue.{total, soon, joined, largest, largest_place, residues, residue_by, index_by}
use Rattle.opening.proofs.Levels.{cond_case}
use Rattle.opening.proofs.Residue.{largest_attained}

-- soon: some residue is not null at a place below the gap
pub soon_found : (gap : ℕ) (rs : List ℕ) → soon gap rs ≡ true → (j : ℕ) × (j < gap) × (0 < get_or rs j 0)
unfolding soon
soon_found zero rs e = absurd (false≢true e)
soon_found (suc gap) [] e = absurd (false≢true e)
soon_found (suc gap) (r ∷ rest) e =
    cond_case
    (λ (b : Bool). b ≡ true → (j : ℕ) × (j < suc gap) × (0 < get_or (r ∷ rest) j 0))
    (eqb r 0)
    (λ z later. let (j, near, some) = soon_found gap rest later in (suc j, omega arith, some))
    (λ z now. (0, omega arith, omega (arith, eqb-false r 0 z)))
    e

-- not soon: none is
pub soon_not : (gap : ℕ) (rs : List ℕ) → soon gap rs ≡ false → (j : ℕ) → 0 < get_or rs j 0 → gap ≤ j
unfolding soon
soon_not zero rs e j some = omega arith
soon_not (suc gap) [] e j some = absurd (omega arith)
soon_not (suc gap) (r ∷ rest) e zero some = absurd (true≢false (rw (ne_eqb r 0 (omega arith)) at e))
soon_not (suc gap) (r ∷ rest) e (suc j) some =
    cond_case
    (λ (b : Bool). b ≡ false → suc gap ≤ suc j)
    (eqb r 0)
    (λ z later. omega (arith, soon_not gap rest later j some))
    (λ z now. absurd (true≢false now))
    e

-- and the other way round
pub soon_yes : (gap : ℕ) (rs : List ℕ) (j : ℕ) → 0 < get_or rs j 0 → j < gap → soon gap rs ≡ true
soon_yes gap rs j some l = ⊎_elim (λ e. e) (λ e. absurd (omega (arith, soon_not gap rs e j some))) (decided (soon gap rs))

pub soon_no : (gap : ℕ) (rs : List ℕ) → ((j : ℕ) → 0 < get_or rs j 0 → gap ≤ j) → soon gap rs ≡ false
soon_no gap rs far =
    ⊎_elim (λ e. let (j, l, some) = soon_found gap rs e in absurd (omega (arith, far j some))) (λ e. e) (decided (soon gap rs))

-- a residue is null, or its run goes on, or ends with it
module _ (gap c r : ℕ) (rest : List ℕ) where
  pub joined_null_first : r ≡ 0 → joined gap c (r ∷ rest) ≡ 0 ∷ joined gap c rest
  unfolding joined
  joined_null_first e = rw (eq-eqb r 0 e) refl

  pub joined_goes_on : 0 < r → soon gap rest ≡ true → joined gap c (r ∷ rest) ≡ 0 ∷ joined gap (c + r) rest
  unfolding joined
  joined_goes_on some is = rw (ne_eqb r 0 (λ e. omega arith), is) refl

  pub joined_stops : 0 < r → soon gap rest ≡ false → joined gap c (r ∷ rest) ≡ (c + r) ∷ joined gap 0 rest
  unfolding joined
  joined_stops some is = rw (ne_eqb r 0 (λ e. omega arith), is) refl

  pub joined_cases : (P : List ℕ → Type 0) → (r ≡ 0 → P (0 ∷ joined gap c rest))
      → (0 < r → soon gap rest ≡ true → P (0 ∷ joined gap (c + r) rest)) → (0 < r → soon gap rest ≡ false → P ((c + r) ∷ joined gap 0 rest))
      → P (joined gap c (r ∷ rest))
  unfolding joined
  joined_cases P null goes_on stops =
      cond_case
      P
      (eqb r 0)
      (λ e. null (eqb-true r 0 e))
      (λ e.
      let some : 0 < r = omega (arith, eqb-false r 0 e) in
      cond_case P (soon gap rest) (goes_on some) (stops some))

pub length_joined : (gap c : ℕ) (rs : List ℕ) → length (joined gap c rs) ≡ length rs
unfolding joined
length_joined gap c [] = refl
length_joined gap c (r ∷ rest) =
    joined_cases gap c r rest
    (λ (l : List ℕ). length l ≡ suc (length rest))
    (λ e. ap suc (length_joined gap c rest))
    (λ e s. ap suc (length_joined gap (c + r) rest))
    (λ e s. ap suc (length_joined gap 0 rest))

-- no run ends at a null residue
pub joined_null : (gap c : ℕ) (rs : List ℕ) (i : ℕ) → get_or rs i 0 ≡ 0 → get_or (joined gap c rs) i 0 ≡ 0
unfolding joined
joined_null gap c [] i none = refl
joined_null gap c (r ∷ rest) zero none =
    joined_cases gap c r rest (λ (l : List ℕ). get_or l 0 0 ≡ 0) (λ e. refl) (λ e s. refl) (λ e s. absurd (omega arith))
joined_null gap c (r ∷ rest) (suc i) none =
    joined_cases gap c r rest
    (λ (l : List ℕ). get_or l (suc i) 0 ≡ 0)
    (λ e. joined_null gap c rest i none)
    (λ e s. joined_null gap (c + r) rest i none)
    (λ e s. joined_null gap 0 rest i none)

-- a total is at most that of all residues
pub joined_le : (gap c : ℕ) (rs : List ℕ) (i : ℕ) → get_or (joined gap c rs) i 0 ≤ c + total rs
unfolding joined total
joined_le gap c [] i = omega arith
joined_le gap c (r ∷ rest) zero =
    joined_cases gap c r rest (λ (l : List ℕ). get_or l 0 0 ≤ c + (r + total rest)) (λ e. omega arith) (λ e s. omega arith) (λ e s. omega arith)
joined_le gap c (r ∷ rest) (suc i) =
    joined_cases gap c r rest
    (λ (l : List ℕ). get_or l (suc i) 0 ≤ c + (r + total rest))
    (λ e. omega (arith, joined_le gap c rest i))
    (λ e s. omega (arith, joined_le gap (c + r) rest i))
    (λ e s. omega (arith, joined_le gap 0 rest i))

-- residues that are all null have none
pub joined_none : (gap : ℕ) (rs : List ℕ) → total rs ≡ 0 → largest (joined gap 0 rs) ≡ 0
joined_none gap rs none =
    ⊎_elim
    (λ (l : largest (joined gap 0 rs) ≤ 0). omega arith)
    (λ (l : 0 < largest (joined gap 0 rs)).
    let (i, b, at) = largest_attained (joined gap 0 rs) l in absurd (omega (arith, joined_le gap 0 rs i)))
    (le_or_lt (largest (joined gap 0 rs)) 0)

-- at gap 0 no run goes on, so each residue stays where it is
pub joined_zero : (rs : List ℕ) → joined 0 0 rs ≡ rs
unfolding soon joined
joined_zero [] = refl
joined_zero (r ∷ rest) =
    joined_cases 0 0 r rest
    (λ (l : List ℕ). l ≡ r ∷ rest)
    (λ e. ap₂ (λ (x : ℕ) (l : List ℕ). x ∷ l) (omega arith) (joined_zero rest))
    (λ e s. clash false s refl)
    (λ e s. ap₂ (λ (x : ℕ) (l : List ℕ). x ∷ l) (omega arith) (joined_zero rest))

-- so gap 0 gives "the largest residue", and "the largest i + 1 attaining it, or 0 where it is 0"
module _ (n : ℕ) (adj : Adjacency) (tests : List Keeps) (g : ℕ → ℕ) (p : ℕ) where
  pub residue_zero : residue_by n adj tests 0 g p ≡ largest (residues n adj tests g p)
  unfolding residue_by
  residue_zero = ap largest (joined_zero (residues n adj tests g p))

  pub index_zero : index_by n adj tests 0 g p ≡ largest_place (residues n adj tests g p)
  unfolding index_by
  index_zero = ap largest_place (joined_zero (residues n adj tests g p))
