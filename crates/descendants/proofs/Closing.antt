-- The order of closing: the nodes that are closed at the places below i, one place more, and that a node's children are closed before it.
-- Assumes nothing.
use Prim.Native.Nat.{ℕ, ◌+◌, ◌≤◌, ◌<◌}
use mathlib.Core.Bool.{true, false, ◌&&◌, ◌||◌}
use mathlib.Core.Logic.{◌⊎◌, inl, inr, ⊎_elim}
use mathlib.Core.Path.{◌≡◌, refl, sym, ap, ◌∙◌}
use native.Mathlib.Omega.{arith}
use lib.Dec.{eqb, ltb}
use borrow.Author.Tests.{eqb-true, eq-eqb, ltb-true, lt-ltb}
use Rattle.sets.specs.Sets.{Positions}
use Rattle.sets.specs.Gather.{first_in}
use Rattle.sets.proofs.Tests.{is_false, same_truth, and_left, and_right, and_both, or_cases, or_left, or_right, le_or_lt}
use Rattle.sets.proofs.Gather.{first_in_le, first_in_holds}
use Rattle.connected.specs.Component.{Adjacency}
use Rattle.tree.specs.Forest.{NodeRoot}
use Rattle.levels.proofs.Counts.{equal_or_not}
use Rattle.flooding.specs.Numbers.{ClosingOrder, Numbered, parent_by}
use Rattle.numbers.proofs.Numbers.{parent_first, root_is_first, first_apart}

-- the place of the number k in the order of closing, m if it is not there
abbrev place_of : ℕ → (ℕ → ℕ) → ℕ → ℕ
place_of m closed k = first_in m (λ (j : ℕ). eqb (closed j) k)

module _ {m : ℕ} {up closed : ℕ → ℕ} (order : ClosingOrder m up closed) where
  place_holds : (k : ℕ) → place_of m closed k < m → closed (place_of m closed k) ≡ k
  place_holds k b =
      eqb-true (closed (place_of m closed k)) k (first_in_holds m (λ (j : ℕ). eqb (closed j) k) b)

  place_below : (k : ℕ) → k < m → place_of m closed k < m
  place_below k b =
      let (i, c, e) = order.place k b in
      omega (arith, first_in_le m (λ (j : ℕ). eqb (closed j) k) i c (eq-eqb (closed i) k e))

  place_at : (i : ℕ) → i < m → place_of m closed (closed i) ≡ i
  place_at i b =
      let p : ℕ = place_of m closed (closed i) in
      let l : p ≤ i = first_in_le m (λ (j : ℕ). eqb (closed j) (closed i)) i b (eq-eqb (closed i) (closed i) refl) in
      ⊎_elim (λ k. omega arith) (λ k. absurd (order.once p i k b (place_holds (closed i) (omega arith)))) (le_or_lt i p)

  -- a node stands before its parent
  place_later : (k : ℕ) → k < m → (up k ≡ k) ⊎ (place_of m closed k < place_of m closed (up k))
  place_later k b =
      let i : ℕ = place_of m closed k in
      let c : i < m = place_below k b in
      let here : closed i ≡ k = place_holds k c in
      ⊎_elim
      (λ e. inl (sym (ap up here) ∙ e ∙ here))
      (λ w.
      let (j, l, d, e) = w in
      let there : place_of m closed (up k) ≡ j = ap (place_of m closed) (ap up (sym here) ∙ sym e) ∙ place_at j d in
      inr (omega arith))
      (order.later i c)

-- the roots of the nodes that are closed at the places below i
abbrev pub shut : {n : ℕ} {adj : Adjacency} {g num up closed drop : ℕ → ℕ} {m : ℕ} → Numbered n adj g num up closed drop m → ℕ → Positions
shut {num = num} {closed = closed} {m = m} N i c = eqb (N.first (num c)) c && ltb (place_of m closed (num c)) i

module _ {n : ℕ} {adj : Adjacency} {g num up closed drop : ℕ → ℕ} {m : ℕ} (N : Numbered n adj g num up closed drop m) where
  abbrev par : ℕ → ℕ
  par = parent_by N.first num up

  shut_in : (i c : ℕ) → N.first (num c) ≡ c → place_of m closed (num c) < i → shut N i c ≡ true
  shut_in i c e l =
      let p : ℕ = place_of m closed (num c) in
      and_both (eqb (N.first (num c)) c) (ltb p i) (eq-eqb (N.first (num c)) c e) (lt-ltb p i l)

  shut_holds : (i c : ℕ) → shut N i c ≡ true → (N.first (num c) ≡ c) × (place_of m closed (num c) < i)
  shut_holds i c e =
      let p : ℕ = place_of m closed (num c) in (
        eqb-true (N.first (num c)) c (and_left (eqb (N.first (num c)) c) (ltb p i) e),
        ltb-true p i (and_right (eqb (N.first (num c)) c) (ltb p i) e),
      )

  shut_first : (i k : ℕ) → k < m → shut N i (N.first k) ≡ ltb (place_of m closed k) i
  shut_first i k b = rw (N.first_own k b, eq-eqb (N.first k) (N.first k) refl) refl

  -- none is closed at first, and all at last
  pub shut_none : (c : ℕ) → shut N 0 c ≡ false
  shut_none c = is_false (shut N 0 c) (λ e. let (f, l) = shut_holds 0 c e in omega arith)

  pub shut_all : (i k : ℕ) → m ≤ i → k < m → shut N i (N.first k) ≡ true
  shut_all i k all b =
      shut_first i k b ∙ lt-ltb (place_of m closed k) i (omega (arith, place_below N.order k b))

  module _ (i : ℕ) (b : i < m) where
    abbrev q : ℕ
    q = N.first (closed i)

    here : closed i < m
    here = N.order.within i b

    pub shut_not : shut N i q ≡ false
    shut_not =
        shut_first i (closed i) here
        ∙ is_false
        (ltb (place_of m closed (closed i)) i)
        (λ e. omega (arith, ltb-true (place_of m closed (closed i)) i e, place_at N.order i b))

    pub shut_more : (c : ℕ) → shut N (i + 1) c ≡ (shut N i c || eqb q c)
    shut_more c =
        let p : ℕ = place_of m closed (num c) in
        same_truth
        (shut N (i + 1) c)
        (shut N i c || eqb q c)
        (λ e.
        let (f, l) = shut_holds (i + 1) c e in
        ⊎_elim
        (λ z.
        let holds : closed i ≡ num c = ap closed z ∙ place_holds N.order (num c) (omega arith) in
        or_right (shut N i c) (eqb q c) (eq-eqb q c (ap N.first holds ∙ f)))
        (λ z. or_left (shut N i c) (eqb q c) (shut_in i c f (omega arith)))
        (equal_or_not i p))
        (λ e.
        ⊎_elim
        (λ d. let (f, l) = shut_holds i c d in shut_in (i + 1) c f (omega arith))
        (λ d.
        let z : q ≡ c = eqb-true q c d in
        let k : num c ≡ closed i = ap num (sym z) ∙ N.first_own (closed i) here in
        let at : p ≡ i = ap (place_of m closed) k ∙ place_at N.order i b in
        shut_in (i + 1) c (ap N.first k ∙ z) (omega arith))
        (or_cases (shut N i c) (eqb q c) e))

    -- the children of the node at place i are closed before it, its parent later
    pub shut_children : (c : ℕ) → c < n → g q < g c → NodeRoot g par c → par c ≡ q → shut N i c ≡ true
    shut_children c d l root e =
        let k : ℕ = num c in
        let r : k < m = N.within c d in
        let f : N.first k ≡ c = root_is_first N c d root in
        let over : up k ≡ closed i =
        first_apart N (up k) (closed i) (N.up_within k r) here (sym (parent_first N k r) ∙ ap par f ∙ e) in
        ⊎_elim
        (λ own.
        let same : g c ≡ g q = ap g (sym f ∙ ap N.first (sym own ∙ over)) in
        absurd (omega arith))
        (λ before.
        let at : place_of m closed (up k) ≡ i = ap (place_of m closed) over ∙ place_at N.order i b in
        shut_in i c f (omega arith))
        (place_later N.order k r)

    pub shut_parent : g (N.first (up (closed i))) < g q → shut N i (N.first (up (closed i))) ≡ false
    shut_parent dark =
        let p : ℕ = place_of m closed (up (closed i)) in
        shut_first i (up (closed i)) (N.up_within (closed i) here)
        ∙ is_false
        (ltb p i)
        (λ e.
        ⊎_elim
        (λ own. let same : g (N.first (up (closed i))) ≡ g q = ap g (ap N.first own) in omega arith)
        (λ before. omega (arith, ltb-true p i e, place_at N.order i b))
        (place_later N.order (closed i) here))
