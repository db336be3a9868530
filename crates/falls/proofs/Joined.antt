-- The joined totals of a list of residues, after one residue has been raised before which all are null: its total lands at the end of the
-- first run if that starts within the gap, and else where it stands.
use Prim.Native.Nat.{ℕ, zero, suc, ◌+◌, ◌≤◌, ◌<◌}
use mathlib.Core.Bool.{Bool, true, false, cond}
use mathlib.Core.List.{List, [], ◌∷◌}
use mathlib.Core.Logic.{⊎_elim}
use mathlib.Core.Path.{◌≡◌, refl, sym, ap, ◌∙◌}
use native.Mathlib.Omega.{arith}
use lib.Dec.{eqb, leb, ltb}
use lib.ListN.{length, get_or, set, get_or-eq_default}
use borrow.Author.Tests.{eq-eqb, ne_eqb, eqb-true, lt-ltb, le-ltb, ltb-true, le-leb, lt-leb, leb-true}
use Rattle.sets.proofs.Tests.{clash, decided, le_or_lt, and_left, and_right, and_false}
use Rattle.opening.specs.Residue.{soon, joined}
use Rattle.opening.proofs.Joined.{soon_yes, soon_no, soon_found, joined_null_first, joined_goes_on, joined_stops, joined_cases, length_joined, joined_null}
use Rattle.opening.proofs.Levels.{cond_case}
use Rattle.falls.specs.Falls.{joins, first_place}

-- the first number of a list that is not 0
first_here : (r : ℕ) (rest : List ℕ) → 0 < r → first_place (r ∷ rest) ≡ 0
unfolding first_place
first_here r rest some = rw (ne_eqb r 0 (λ e. omega arith)) refl

first_later : (rest : List ℕ) → first_place (0 ∷ rest) ≡ suc (first_place rest)
unfolding first_place
first_later rest = refl

-- before it all are 0
pub first_before : (l : List ℕ) (i : ℕ) → i < first_place l → get_or l i 0 ≡ 0
unfolding first_place
first_before [] i = λ b. refl
first_before (r ∷ rest) zero =
    cond_case (λ (k : ℕ). 0 < k → r ≡ 0) (eqb r 0) (λ e b. eqb-true r 0 e) (λ e b. absurd (omega arith))
first_before (r ∷ rest) (suc i) =
    cond_case
    (λ (k : ℕ). suc i < k → get_or rest i 0 ≡ 0)
    (eqb r 0)
    (λ e b. first_before rest i (omega arith))
    (λ e b. absurd (omega arith))

-- a number that is not 0 is the first, if all before it are 0
pub first_is : (l : List ℕ) (k : ℕ) → 0 < get_or l k 0 → ((i : ℕ) → i < k → get_or l i 0 ≡ 0) → first_place l ≡ k
unfolding first_place
first_is [] k some zeros = absurd (omega arith)
first_is (r ∷ rest) zero some zeros = first_here r rest some
first_is (r ∷ rest) (suc k) some zeros =
    rw (eq-eqb r 0 (zeros 0 (omega arith))) (ap suc (first_is rest k some (λ i b. zeros (suc i) (omega arith))))

-- where a residue is not null a run ends
pub joined_some : (gap c : ℕ) (rs : List ℕ) (j : ℕ) → 0 < get_or rs j 0 → first_place (joined gap c rs) < length rs
unfolding joined
joined_some gap c [] j some = absurd (omega arith)
joined_some gap c (r ∷ rest) zero some =
    joined_cases gap c r rest
    (λ (l : List ℕ). first_place l < suc (length rest))
    (λ e. absurd (omega arith))
    (λ e s. let (j, l, later) = soon_found gap rest s in omega (arith, first_later (joined gap (c + r) rest), joined_some gap (c + r) rest j later))
    (λ e s. omega (arith, first_here (c + r) (joined gap 0 rest) (omega arith)))
joined_some gap c (r ∷ rest) (suc j) some =
    joined_cases gap c r rest
    (λ (l : List ℕ). first_place l < suc (length rest))
    (λ e. omega (arith, first_later (joined gap c rest), joined_some gap c rest j some))
    (λ e s. omega (arith, first_later (joined gap (c + r) rest), joined_some gap (c + r) rest j some))
    (λ e s. omega (arith, first_here (c + r) (joined gap 0 rest) (omega arith)))

-- a list with its first number that is not 0 raised by d
unfoldable raise_first : ℕ → List ℕ → List ℕ
raise_first d l = set l (first_place l) (d + get_or l (first_place l) 0)

raise_later : (d : ℕ) (rest : List ℕ) → raise_first d (0 ∷ rest) ≡ 0 ∷ raise_first d rest
unfolding raise_first
raise_later d rest = rw (first_later rest) refl

raise_here : (d r : ℕ) (rest : List ℕ) → 0 < r → raise_first d (r ∷ rest) ≡ (d + r) ∷ rest
unfolding raise_first
raise_here d r rest some = rw (first_here r rest some) refl

-- what is carried lands at the end of the first run
module _ (gap d : ℕ) where
  carried_step : (c r : ℕ) (rest : List ℕ) → (r ≡ 0 → joined gap (d + c) rest ≡ raise_first d (joined gap c rest))
      → (soon gap rest ≡ true → joined gap (d + (c + r)) rest ≡ raise_first d (joined gap (c + r) rest))
      → joined gap (d + c) (r ∷ rest) ≡ raise_first d (joined gap c (r ∷ rest))
  carried_step c r rest null goes_on =
      let sum : d + c + r ≡ d + (c + r) = omega arith in
      joined_cases gap c r rest
      (λ (l : List ℕ). joined gap (d + c) (r ∷ rest) ≡ raise_first d l)
      (λ e. joined_null_first gap (d + c) r rest e ∙ ap (λ (l : List ℕ). 0 ∷ l) (null e) ∙ sym (raise_later d (joined gap c rest)))
      (λ e s.
      joined_goes_on gap (d + c) r rest e s
      ∙ rw sum (ap (λ (l : List ℕ). 0 ∷ l) (goes_on s))
      ∙ sym (raise_later d (joined gap (c + r) rest)))
      (λ e s. joined_stops gap (d + c) r rest e s ∙ rw sum (sym (raise_here d (c + r) (joined gap 0 rest) (omega arith))))

  carried_lands : (c : ℕ) (rs : List ℕ) (j : ℕ) → 0 < get_or rs j 0 → joined gap (d + c) rs ≡ raise_first d (joined gap c rs)
  carried_lands c [] j some = absurd (omega arith)
  carried_lands c (r ∷ rest) zero some =
      carried_step c r rest
      (λ e. absurd (omega arith))
      (λ s. let (j, l, later) = soon_found gap rest s in carried_lands (c + r) rest j later)
  carried_lands c (r ∷ rest) (suc j) some =
      carried_step c r rest
      (λ e. carried_lands c rest j some)
      (λ s. carried_lands (c + r) rest j some)

-- a residue that can stand nowhere is null
null_first : {k : ℕ} (r : ℕ) (rest : List ℕ) → (0 < get_or (r ∷ rest) 0 0 → k < 0) → r ≡ 0
null_first r rest far = ⊎_elim (λ (l : r ≤ 0). omega arith) (λ (l : 0 < r). absurd (omega (arith, far l))) (le_or_lt r 0)

-- the residue at place k is raised by d; before the place m, which is not before k, all are null
module _ (gap d : ℕ) (more : 0 < d) where
  -- one at m that is not null takes it up within the gap
  raised_joins : (rs : List ℕ) (k m : ℕ) → k ≤ m → ((i : ℕ) → i < m → get_or rs i 0 ≡ 0) → 0 < get_or rs m 0 → m ≤ k + gap
      → joined gap 0 (set rs k (d + get_or rs k 0)) ≡ raise_first d (joined gap 0 rs)
  raised_joins [] k m l zeros some near = absurd (omega arith)
  raised_joins (r ∷ rest) zero zero l zeros some near =
      joined_cases gap 0 r rest
      (λ (j : List ℕ). joined gap 0 ((d + r) ∷ rest) ≡ raise_first d j)
      (λ e. absurd (omega arith))
      (λ e s.
      let (j, l, later) = soon_found gap rest s in
      joined_goes_on gap 0 (d + r) rest (omega arith) s
      ∙ ap (λ (c : ℕ). 0 ∷ joined gap c rest) (omega arith)
      ∙ ap (λ (j : List ℕ). 0 ∷ j) (carried_lands gap d (0 + r) rest j later)
      ∙ sym (raise_later d (joined gap (0 + r) rest)))
      (λ e s.
      joined_stops gap 0 (d + r) rest (omega arith) s
      ∙ ap (λ (c : ℕ). c ∷ joined gap 0 rest) (omega arith)
      ∙ sym (raise_here d (0 + r) (joined gap 0 rest) (omega arith)))
  raised_joins (r ∷ rest) zero (suc m) l zeros some near =
      joined_goes_on gap 0 (d + r) rest (omega arith) (soon_yes gap rest m some (omega arith))
      ∙ ap (λ (c : ℕ). 0 ∷ joined gap c rest) (omega (arith, zeros 0 (omega arith)))
      ∙ ap (λ (j : List ℕ). 0 ∷ j) (carried_lands gap d 0 rest m some)
      ∙ sym (raise_later d (joined gap 0 rest))
      ∙ ap (raise_first d) (sym (joined_null_first gap 0 r rest (zeros 0 (omega arith))))
  raised_joins (r ∷ rest) (suc k) zero l zeros some near = absurd (omega arith)
  raised_joins (r ∷ rest) (suc k) (suc m) l zeros some near =
      let none : r ≡ 0 = zeros 0 (omega arith) in
      joined_null_first gap 0 r _ none
      ∙ ap (λ (j : List ℕ). 0 ∷ j) (raised_joins rest k m (omega arith) (λ i b. zeros (suc i) (omega arith)) some (omega arith))
      ∙ sym (raise_later d (joined gap 0 rest))
      ∙ ap (raise_first d) (sym (joined_null_first gap 0 r rest none))

  -- where none is within the gap it is a run of its own
  raised_alone : (rs : List ℕ) (k : ℕ) → k < length rs → ((j : ℕ) → 0 < get_or rs j 0 → k + gap < j)
      → joined gap 0 (set rs k (d + get_or rs k 0)) ≡ set (joined gap 0 rs) k (d + 0)
  raised_alone [] k b far = absurd (omega arith)
  raised_alone (r ∷ rest) zero b far =
      let none : r ≡ 0 = null_first r rest (far 0) in
      joined_stops gap 0 (d + r) rest (omega arith) (soon_no gap rest (λ j some. omega (arith, far (suc j) some)))
      ∙ ap (λ (c : ℕ). c ∷ joined gap 0 rest) (omega arith)
      ∙ ap (λ (l : List ℕ). set l 0 (d + 0)) (sym (joined_null_first gap 0 r rest none))
  raised_alone (r ∷ rest) (suc k) b far =
      let none : r ≡ 0 = null_first r rest (far 0) in
      joined_null_first gap 0 r _ none
      ∙ ap (λ (l : List ℕ). 0 ∷ l) (raised_alone rest k (omega arith) (λ j some. omega (arith, far (suc j) some)))
      ∙ ap (λ (l : List ℕ). set l (suc k) (d + 0)) (sym (joined_null_first gap 0 r rest none))

-- whether a node and its parent share a run
module _ (m gap k up : ℕ) where
  pub joins_yes : up < m → up ≤ k + gap → joins m gap k up ≡ true
  unfolding joins
  joins_yes falls near = rw (lt-ltb up m falls, le-leb up (k + gap) near) refl

  pub joins_never : m ≤ up → joins m gap k up ≡ false
  unfolding joins
  joins_never never = rw (le-ltb up m never) refl

  pub joins_far : k + gap < up → joins m gap k up ≡ false
  unfolding joins
  joins_far far = rw (lt-leb up (k + gap) far) (and_false (ltb up m))

  pub joins_true : joins m gap k up ≡ true → (up < m) × (up ≤ k + gap)
  unfolding joins
  joins_true e =
      (ltb-true up m (and_left (ltb up m) (leb up (k + gap)) e), leb-true up (k + gap) (and_right (ltb up m) (leb up (k + gap)) e))

-- the residues of a node from those of its parent, which falls at m, its first residue that is not null, or never
module _ (gap d : ℕ) (rs : List ℕ) (k m : ℕ) (inside : k < length rs) (order : k ≤ m) (zeros : (i : ℕ) → i < m → get_or rs i 0 ≡ 0)
    (falls : m < length rs → 0 < get_or rs m 0) (more : 0 < d) where
  abbrev runs : List ℕ
  runs = joined gap 0 rs

  abbrev share : Bool
  share = joins (length rs) gap k m

  -- the place at which the total of the raised residue lands, and what is there already
  abbrev lands : ℕ
  lands = cond share (first_place runs) k

  abbrev shared : ℕ
  shared = cond share (get_or runs (first_place runs) 0) 0

  -- in the one case the first residue is within the gap, in the other none is
  falls_near : share ≡ true → (0 < get_or rs m 0) × (m ≤ k + gap)
  falls_near e = let (l, near) = joins_true (length rs) gap k m e in (falls l, near)

  all_far : share ≡ false → (j : ℕ) → 0 < get_or rs j 0 → k + gap < j
  all_far e j some =
      let after : m ≤ j = ⊎_elim (λ l. l) (λ (l : j < m). absurd (omega (arith, zeros j l))) (le_or_lt m j) in
      ⊎_elim
      (λ (near : m ≤ k + gap).
      ⊎_elim
      (λ (past : length rs ≤ m). let beyond : length rs ≤ j = omega arith in absurd (omega (arith, get_or-eq_default rs 0 beyond)))
      (λ l. clash share (joins_yes (length rs) gap k m l near) e)
      (le_or_lt (length rs) m))
      (λ (far : k + gap < m). omega arith)
      (le_or_lt m (k + gap))

  pub runs_raised : joined gap 0 (set rs k (d + get_or rs k 0)) ≡ set runs lands (d + shared)
  unfolding raise_first
  runs_raised =
      ⊎_elim
      (λ (e : share ≡ true). let (some, near) = falls_near e in rw e (raised_joins gap d more rs k m order zeros some near))
      (λ (e : share ≡ false). rw e (raised_alone gap d more rs k inside (all_far e)))
      (decided share)

  pub lands_inside : lands < length runs
  lands_inside =
      cond_case
      (λ (x : ℕ). x < length runs)
      share
      (λ e. omega (arith, length_joined gap 0 rs, joined_some gap 0 rs m (falls_near e).0))
      (λ e. omega (arith, length_joined gap 0 rs))

  pub lands_first : (i : ℕ) → i < lands → get_or runs i 0 ≡ 0
  lands_first i =
      cond_case
      (λ (x : ℕ). i < x → get_or runs i 0 ≡ 0)
      share
      (λ e. first_before runs i)
      (λ e b. joined_null gap 0 rs i (zeros i (omega arith)))

  -- a residue at k that is not null is within the gap
  null_here : share ≡ false → get_or rs k 0 ≡ 0
  null_here e =
      ⊎_elim
      (λ (l : get_or rs k 0 ≤ 0). omega arith)
      (λ (l : 0 < get_or rs k 0). absurd (omega (arith, all_far e k l)))
      (le_or_lt (get_or rs k 0) 0)

  pub lands_more : get_or runs lands 0 < d + shared
  lands_more =
      ⊎_elim
      (λ (e : share ≡ true). rw e (omega arith))
      (λ (e : share ≡ false). rw e (omega (arith, joined_null gap 0 rs k (null_here e))))
      (decided share)
