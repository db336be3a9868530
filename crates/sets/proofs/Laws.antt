-- Laws of sets of positions below n: what a table holds, a witness of some_in, and how a count grows with its set.
-- Assumes nothing.
use Prim.Native.Nat.{ℕ, zero, suc, ◌+◌, ◌≤◌, ◌<◌}
use mathlib.Core.Bool.{Bool, true, false, cond, not, ◌&&◌, true≢false, false≢true}
use mathlib.Core.List.{List}
use mathlib.Core.Logic.{◌⊎◌, inl, inr, ⊎_elim}
use mathlib.Core.Path.{◌≡◌, refl, sym, ap, subst, ◌∙◌}
use native.Mathlib.Nat.{add-zero, zero-add, add-suc, suc-add, le_of_suc-le-suc, not-suc-le-zero}
use native.Mathlib.Omega.{arith}
use borrow.Author.Tests.{not-true}
use lib.ListN.{length, get_or, get_or-eq_default}
use lib.Seq.{ext_get_or}
use Rattle.sets.specs.Sets.{Positions, Inside, some_in, count, table_from, table, member}
use Rattle.sets.proofs.Tests.{and_left, and_right, and_both, same_truth, or_cases, or_left, or_right, last_or_below, le_or_lt, is_false, decided, clash}

length_table_from : {A : Type 0} (i k : ℕ) (f : ℕ → A) → length (table_from i k f) ≡ k
unfolding table_from
length_table_from i zero f = refl
length_table_from i (suc k) f = ap suc (length_table_from (suc i) k f)

table_from_at : {A : Type 0} (i k : ℕ) (f : ℕ → A) (q : ℕ) (d : A) → q < k → get_or (table_from i k f) q d ≡ f (i + q)
unfolding table_from
table_from_at i zero f q d h = absurd (not-suc-le-zero h)
table_from_at i (suc k) f zero d h = ap f (sym (add-zero i))
table_from_at i (suc k) f (suc q) d h =
    table_from_at (suc i) k f q d (le_of_suc-le-suc h) ∙ ap f (suc-add i q ∙ sym (add-suc i q))

pub length_table : {A : Type 0} (n : ℕ) (f : ℕ → A) → length (table n f) ≡ n
unfolding table
length_table n f = length_table_from 0 n f

-- a table holds the value at each position below n
pub table_at : {A : Type 0} (n : ℕ) (f : ℕ → A) (q : ℕ) (d : A) → q < n → get_or (table n f) q d ≡ f q
unfolding table
table_at n f q d h = table_from_at 0 n f q d h ∙ ap f (zero-add q)

pub member_table : (n : ℕ) (s : Positions) (q : ℕ) → q < n → member (table n s) q ≡ s q
member_table n s q h = table_at n s q false h

-- and no position past n
pub member_table_past : (n : ℕ) (s : Positions) (q : ℕ) → n ≤ q → member (table n s) q ≡ false
member_table_past n s q h = get_or-eq_default (table n s) false (subst (λ (k : ℕ). k ≤ q) (sym (length_table n s)) h)

pub member_table_below : (n : ℕ) (s : Positions) (q : ℕ) → member (table n s) q ≡ true → q < n
member_table_below n s q h = go (le_or_lt n q)
  where
    go : (n ≤ q) ⊎ (q < n) → q < n
    go (inl l) = clash (member (table n s) q) h (member_table_past n s q l)
    go (inr l) = l

pub member_table_holds : (n : ℕ) (s : Positions) (q : ℕ) → member (table n s) q ≡ true → s q ≡ true
member_table_holds n s q h = sym (member_table n s q (member_table_below n s q h)) ∙ h

-- two lists of n tests that agree below n are equal
pub list_ext : (n : ℕ) (l m : List Bool) → length l ≡ n → length m ≡ n → ((q : ℕ) → q < n → member l q ≡ member m q) → l ≡ m
list_ext n l m e f h = ext_get_or false l m (e ∙ sym f) (λ i b. h i (subst (λ (k : ℕ). i < k) e b))

pub table_ext : {A : Type 0} (n : ℕ) (f g : ℕ → A) → ((q : ℕ) → q < n → f q ≡ g q) → table n f ≡ table n g
table_ext n f g h =
    ext_get_or
    (f 0)
    (table n f)
    (table n g)
    (length_table n f ∙ sym (length_table n g))
    (λ i b.
    let c : i < n = subst (λ (k : ℕ). i < k) (length_table n f) b in
    table_at n f i (f 0) c ∙ h i c ∙ sym (table_at n g i (f 0) c))

pub some_in_intro : (n : ℕ) (s : Positions) (q : ℕ) → q < n → s q ≡ true → some_in n s ≡ true
unfolding some_in
some_in_intro zero s q b h = absurd (not-suc-le-zero b)
some_in_intro (suc n) s q b h =
    ⊎_elim
    (λ e. or_left (s n) (some_in n s) (subst (λ (k : ℕ). s k ≡ true) e h))
    (λ l. or_right (s n) (some_in n s) (some_in_intro n s q l h))
    (last_or_below q n b)

pub some_in_elim : (n : ℕ) (s : Positions) → some_in n s ≡ true → (q : ℕ) × (q < n) × (s q ≡ true)
unfolding some_in
some_in_elim zero s e = absurd (false≢true e)
some_in_elim (suc n) s e =
    ⊎_elim
    (λ h. (n, omega arith, h))
    (λ h. let w = some_in_elim n s h in (w.0, omega (arith, w.1), w.2))
    (or_cases (s n) (some_in n s) e)

pub none_in : (n : ℕ) (s : Positions) → some_in n s ≡ false → (q : ℕ) → q < n → s q ≡ false
none_in n s e q b = is_false (s q) (λ h. true≢false (sym (some_in_intro n s q b h) ∙ e))

one_le : (a b : Bool) → (a ≡ true → b ≡ true) → cond a 1 0 ≤ cond b 1 0
one_le true true h = omega arith
one_le true false h = absurd (false≢true (h refl))
one_le false true h = omega arith
one_le false false h = omega arith

pub some_in_ext : (n : ℕ) (s t : Positions) → ((q : ℕ) → q < n → s q ≡ t q) → some_in n s ≡ some_in n t
unfolding some_in
some_in_ext zero s t h = refl
some_in_ext (suc n) s t h = cc (h n (omega arith), some_in_ext n s t (λ q b. h q (omega arith)))

pub count_le : (n : ℕ) (s : Positions) → count n s ≤ n
unfolding count
count_le zero s = omega arith
count_le (suc n) s = omega (arith, count_le n s, one_le (s n) true (λ e. refl))

pub count_none : (n : ℕ) (s : Positions) → ((q : ℕ) → q < n → s q ≡ false) → count n s ≡ 0
unfolding count
count_none zero s none = refl
count_none (suc n) s none = rw (none n (omega arith)) (omega (arith, count_none n s (λ q b. none q (omega arith))))

pub count_mono : (n : ℕ) (s t : Positions) → Inside n s t → count n s ≤ count n t
unfolding count
count_mono zero s t h = omega arith
count_mono (suc n) s t h = omega (arith, one_le (s n) (t n) (h n (omega arith)), count_mono n s t (λ q b. h q (omega arith)))

-- a set that holds one position more counts more
pub count_more : (n : ℕ) (s t : Positions) (q : ℕ) → Inside n s t → q < n → s q ≡ false → t q ≡ true → count n s < count n t
unfolding count
count_more zero s t q h b f e = absurd (not-suc-le-zero b)
count_more (suc n) s t q h b f e =
    ⊎_elim
    (λ z. rw (subst (λ (k : ℕ). s k ≡ false) z f, subst (λ (k : ℕ). t k ≡ true) z e) (omega (arith, count_mono n s t (λ r l. h r (omega arith)))))
    (λ l. omega (arith, one_le (s n) (t n) (h n (omega arith)), count_more n s t q (λ r l. h r (omega arith)) l f e))
    (last_or_below q n b)

-- a set with a position in it counts some
pub count_some : (n : ℕ) (s : Positions) (q : ℕ) → q < n → s q ≡ true → 0 < count n s
count_some n s q b e = omega (arith, count_more n (λ (r : ℕ). false) s q (λ r l no_r. absurd (false≢true no_r)) b refl e)

pub count_ext : (n : ℕ) (s t : Positions) → ((q : ℕ) → q < n → s q ≡ t q) → count n s ≡ count n t
unfolding count
count_ext zero s t h = refl
count_ext (suc n) s t h = cc (h n (omega arith), count_ext n s t (λ q b. h q (omega arith)))

-- of two sets, one inside the other, the larger is the same or counts more
pub same_or_more : (n : ℕ) (s t : Positions) → Inside n s t → ((q : ℕ) → q < n → t q ≡ s q) ⊎ (count n s < count n t)
same_or_more n s t h = go (decided (some_in n new))
  where
    new : Positions
    new q = t q && not (s q)

    go : (some_in n new ≡ true) ⊎ (some_in n new ≡ false) → ((q : ℕ) → q < n → t q ≡ s q) ⊎ (count n s < count n t)
    go (inl e) =
        let w = some_in_elim n new e in
        inr (count_more n s t w.0 h w.1 (not-true (s w.0) (and_right (t w.0) (not (s w.0)) w.2)) (and_left (t w.0) (not (s w.0)) w.2))
    go (inr f) = inl (λ q b. same_truth (t q) (s q) (λ e. ⊎_elim (λ y. y) (λ x. clash (new q) (and_both (t q) (not (s q)) e (ap not x)) (none_in n new f q b)) (decided (s q))) (h q b))
