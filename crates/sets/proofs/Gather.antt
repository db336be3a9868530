-- Laws of what is gathered over a set: of two sets that do not meet, of one position, and how the least and the greatest
-- change with the set. Assumes nothing.
use Prim.Native.Nat.{ℕ, zero, suc, ◌≤◌, ◌<◌, min, max}
use mathlib.Core.Bool.{Bool, true, false, cond, ◌||◌, true≢false, false≢true}
use mathlib.Core.Logic.{◌⊎◌, inl, inr, ⊎_elim}
use mathlib.Core.Path.{◌≡◌, refl, sym, ap, subst, ◌∙◌}
use native.Mathlib.Nat.{not-suc-le-zero}
use native.Mathlib.Omega.{arith}
use lib.Dec.{eqb}
use borrow.Author.Tests.{eqb-true, eq-eqb, ne_eqb}
use Rattle.sets.specs.Sets.{Positions, Inside}
use Rattle.sets.specs.Gather.{gather, first_in}
use Rattle.sets.proofs.Tests.{decided, last_or_below, le_or_lt}

-- what is gathered depends on the positions below n only
pub gather_ext : (n : ℕ) (op : ℕ → ℕ → ℕ) (e : ℕ) (f : ℕ → ℕ) (s t : Positions) → ((q : ℕ) → q < n → s q ≡ t q) → gather n op e f s ≡ gather n op e f t
unfolding gather
gather_ext zero op e f s t h = refl
gather_ext (suc n) op e f s t h = cc (h n (omega arith), gather_ext n op e f s t (λ q b. h q (omega arith)))

module _ (op : ℕ → ℕ → ℕ) (assoc : (a b c : ℕ) → op (op a b) c ≡ op a (op b c)) (comm : (a b : ℕ) → op a b ≡ op b a) where
  join_one : (a b : Bool) (x r u v : ℕ) → (a ≡ true → b ≡ false) → r ≡ op u v → cond (a || b) (op x r) r ≡ op (cond a (op x u) u) (cond b (op x v) v)
  join_one true true x r u v d h = absurd (true≢false (d refl))
  join_one true false x r u v d h = cc (assoc x u v)
  join_one false true x r u v d h = cc (comm u v, comm u (op x v), assoc x v u)
  join_one false false x r u v d h = h

  -- of two sets that do not meet, what is gathered is that of the one joined with that of the other
  pub gather_union : (n e : ℕ) (f : ℕ → ℕ) (s t : Positions) → op e e ≡ e → ((q : ℕ) → q < n → s q ≡ true → t q ≡ false) → gather n op e f (λ (q : ℕ). s q || t q) ≡ op (gather n op e f s) (gather n op e f t)
  unfolding gather
  gather_union zero e f s t idem d = sym idem
  gather_union (suc n) e f s t idem d =
      join_one (s n) (t n) (f n) (gather n op e f (λ (q : ℕ). s q || t q)) (gather n op e f s) (gather n op e f t) (d n (omega arith))
      (gather_union n e f s t idem (λ q b. d q (omega arith)))

pub gather_none : (n : ℕ) (op : ℕ → ℕ → ℕ) (e : ℕ) (f : ℕ → ℕ) (s : Positions) → ((q : ℕ) → q < n → s q ≡ false) → gather n op e f s ≡ e
unfolding gather
gather_none zero op e f s h = refl
gather_none (suc n) op e f s h = rw (h n (omega arith)) (gather_none n op e f s (λ q b. h q (omega arith)))

-- of one position
pub gather_one : (n : ℕ) (op : ℕ → ℕ → ℕ) (e : ℕ) (f : ℕ → ℕ) (p : ℕ) → p < n → gather n op e f (eqb p) ≡ op (f p) e
unfolding gather
gather_one zero op e f p b = absurd (not-suc-le-zero b)
gather_one (suc n) op e f p b =
    ⊎_elim
    (λ same. rw (eq-eqb p n same) (cc (ap f same, gather_none n op e f (eqb p) (λ q c. ne_eqb p q (λ z. absurd (omega arith))))))
    (λ l. rw (ne_eqb p n (λ z. absurd (omega arith))) (gather_one n op e f p l))
    (last_or_below p n b)

-- what is gathered goes one way as the set grows, if joining one value more goes that way
module _ (op : ℕ → ℕ → ℕ) (R : ℕ → ℕ → Type 0) (same : (a : ℕ) → R a a) (more : (x a b : ℕ) → R a b → R a (op x b)) (both : (x a b : ℕ) → R a b → R (op x a) (op x b)) where
  grow_one : (a b : Bool) (x u v : ℕ) → (a ≡ true → b ≡ true) → R u v → R (cond a (op x u) u) (cond b (op x v) v)
  grow_one true true x u v i h = both x u v h
  grow_one true false x u v i h = absurd (false≢true (i refl))
  grow_one false true x u v i h = more x u v h
  grow_one false false x u v i h = h

  gather_mono : (n e : ℕ) (f : ℕ → ℕ) (s t : Positions) → Inside n s t → R (gather n op e f s) (gather n op e f t)
  unfolding gather
  gather_mono zero e f s t h = same e
  gather_mono (suc n) e f s t h =
      grow_one (s n) (t n) (f n) (gather n op e f s) (gather n op e f t) (h n (omega arith))
      (gather_mono n e f s t (λ q b. h q (omega arith)))

pub min_mono : (n e : ℕ) (f : ℕ → ℕ) (s t : Positions) → Inside n s t → gather n min e f t ≤ gather n min e f s
min_mono = gather_mono min (λ (a b : ℕ). b ≤ a) (λ a. omega arith) (λ x a b h. omega arith) (λ x a b h. omega arith)

pub max_mono : (n e : ℕ) (f : ℕ → ℕ) (s t : Positions) → Inside n s t → gather n max e f s ≤ gather n max e f t
max_mono = gather_mono max (λ (a b : ℕ). a ≤ b) (λ a. omega arith) (λ x a b h. omega arith) (λ x a b h. omega arith)

one_inside : (n : ℕ) (s : Positions) (q : ℕ) → s q ≡ true → Inside n (eqb q) s
one_inside n s q h r b e = subst (λ (k : ℕ). s k ≡ true) (eqb-true q r e) h

-- the least is at most each value
pub min_le : (n e : ℕ) (f : ℕ → ℕ) (s : Positions) (q : ℕ) → q < n → s q ≡ true → gather n min e f s ≤ f q
min_le n e f s q b h = omega (arith, gather_one n min e f q b, min_mono n e f (eqb q) s (one_inside n s q h))

-- and the greatest at least
pub max_ge : (n e : ℕ) (f : ℕ → ℕ) (s : Positions) (q : ℕ) → q < n → s q ≡ true → f q ≤ gather n max e f s
max_ge n e f s q b h = omega (arith, gather_one n max e f q b, max_mono n e f (eqb q) s (one_inside n s q h))

-- and no more than a bound on all values
pub max_le : (n e : ℕ) (f : ℕ → ℕ) (s : Positions) (b : ℕ) → e ≤ b → ((q : ℕ) → q < n → f q ≤ b) → gather n max e f s ≤ b
unfolding gather
max_le zero e f s b start each = start
max_le (suc n) e f s b start each =
    let rest : gather n max e f s ≤ b = max_le n e f s b start (λ q c. each q (omega arith)) in
    ⊎_elim (λ t. rw t (omega (arith, each n (omega arith)))) (λ t. rw t rest) (decided (s n))

-- v is e, or the value at a position of s below n
abbrev pub Found : ℕ → ℕ → (ℕ → ℕ) → Positions → ℕ → Type 0
Found n e f s v = (v ≡ e) ⊎ ((q : ℕ) × (q < n) × (s q ≡ true) × (v ≡ f q))

found_on : (n e : ℕ) (f : ℕ → ℕ) (s : Positions) (v u : ℕ) → v ≡ u → Found n e f s u → Found (suc n) e f s v
found_on n e f s v u h (inl z) = inl (h ∙ z)
found_on n e f s v u h (inr w) = inr (w.0, omega (arith, w.1), w.2, h ∙ w.3)

found_step : (n e : ℕ) (f : ℕ → ℕ) (s : Positions) (u : ℕ) → Found n e f s u → (b : Bool) → s n ≡ b → Found (suc n) e f s (cond b (min (f n) u) u)
found_step n e f s u w true h =
    ⊎_elim
    (λ l. inr (n, omega arith, h, omega arith))
    (λ l. found_on n e f s (min (f n) u) u (omega arith) w)
    (le_or_lt (f n) u)
found_step n e f s u w false h = found_on n e f s u u refl w

-- the least is a value of the set, or what the gathering started from
pub min_found : (n e : ℕ) (f : ℕ → ℕ) (s : Positions) → Found n e f s (gather n min e f s)
unfolding gather
min_found zero e f s = inl refl
min_found (suc n) e f s = found_step n e f s (gather n min e f s) (min_found n e f s) (s n) refl

-- the first position is at most each
pub first_in_le : (n : ℕ) (s : Positions) (q : ℕ) → q < n → s q ≡ true → first_in n s ≤ q
first_in_le n s q b h = min_le n n (λ (q : ℕ). q) s q b h

-- the first position is in the set, unless it is n
pub first_in_holds : (n : ℕ) (s : Positions) → first_in n s < n → s (first_in n s) ≡ true
first_in_holds n s b =
    ⊎_elim (λ e. absurd (omega arith)) (λ w. rw w.3 w.2) (min_found n n (λ (q : ℕ). q) s)
