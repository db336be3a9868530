-- Laws of components. A component holds exactly the positions that a walk inside the set reaches, so connectedness is an
-- equivalence on the set, and a larger set has larger components. Growth ends within n rounds: a round that adds nothing is
-- the last, and one that adds a position raises the count.
use Prim.Native.Nat.{ℕ, zero, suc, ◌<◌}
use mathlib.Core.Bool.{Bool, true, ◌&&◌, ◌||◌}
use mathlib.Core.List.{List}
use mathlib.Core.Logic.{◌⊎◌, inl, inr, ⊎_elim}
use mathlib.Core.Path.{◌≡◌, refl, ap, subst, ◌∙◌}
use native.Mathlib.Omega.{arith}
use lib.Dec.{eqb}
use lib.ListN.{length}
use borrow.Author.Tests.{eqb-true, eq-eqb}
use Rattle.sets.specs.Sets.{Positions, Inside, some_in, count, member}
use Rattle.sets.proofs.Tests.{and_left, and_right, and_both, or_cases, or_left, or_right, same_truth}
use Rattle.sets.proofs.Laws.{length_table, member_table, member_table_below, member_table_holds, list_ext, some_in_intro, some_in_elim, count_le, same_or_more}
use Rattle.connected.specs.Component.{Adjacency, both, Symmetric, seed, grow, grown, component, Walk, here, on}

pub both_symmetric : (f : Adjacency) → Symmetric (both f)
both_symmetric f p q h = ⊎_elim (or_right (f q p) (f p q)) (or_left (f q p) (f p q)) (or_cases (f p q) (f q p) h)

module _ (n : ℕ) (adj : Adjacency) where
  -- one round keeps what is there
  grow_keeps : (s : Positions) (l : List Bool) → Inside n (member l) (member (grow n adj s l))
  unfolding grow
  grow_keeps s l q b h =
      member_table n (λ (q : ℕ). member l q || (s q && some_in n (λ (r : ℕ). member l r && adj r q))) q b
      ∙ or_left (member l q) (s q && some_in n (λ (r : ℕ). member l r && adj r q)) h

  -- and adds each neighbour that is in the set
  grow_adds : (s : Positions) (l : List Bool) (q r : ℕ) → q < n → member l q ≡ true → adj q r ≡ true → r < n → s r ≡ true → member (grow n adj s l) r ≡ true
  unfolding grow
  grow_adds s l q r c h e b i =
      member_table n (λ (q : ℕ). member l q || (s q && some_in n (λ (r : ℕ). member l r && adj r q))) r b
      ∙ or_right (member l r) (s r && some_in n (λ (q : ℕ). member l q && adj q r))
      (and_both (s r) (some_in n (λ (q : ℕ). member l q && adj q r)) i
      (some_in_intro n (λ (q : ℕ). member l q && adj q r) q c (and_both (member l q) (adj q r) h e)))

  -- and nothing else
  grow_holds : (s : Positions) (l : List Bool) (r : ℕ) → member (grow n adj s l) r ≡ true → (member l r ≡ true) ⊎ ((q : ℕ) × (member l q ≡ true) × (adj q r ≡ true) × (r < n) × (s r ≡ true))
  unfolding grow
  grow_holds s l r h =
      let t : Positions = λ (q : ℕ). member l q || (s q && some_in n (λ (r : ℕ). member l r && adj r q)) in
      ⊎_elim
      (λ old. inl old)
      (λ new.
      let w = some_in_elim n (λ (q : ℕ). member l q && adj q r) (and_right (s r) (some_in n (λ (q : ℕ). member l q && adj q r)) new) in
      inr (w.0, and_left (member l w.0) (adj w.0 r) w.2, and_right (member l w.0) (adj w.0 r) w.2, member_table_below n t r h, and_left (s r) (some_in n (λ (q : ℕ). member l q && adj q r)) new))
      (or_cases (member l r) (s r && some_in n (λ (q : ℕ). member l q && adj q r)) (member_table_holds n t r h))

  length_grown : (s : Positions) (p k : ℕ) → length (grown n adj s p k) ≡ n
  unfolding seed grow grown
  length_grown s p zero = length_table n (λ (q : ℕ). eqb p q && s q)
  length_grown s p (suc k) = length_table n (λ (q : ℕ). member (grown n adj s p k) q || (s q && some_in n (λ (r : ℕ). member (grown n adj s p k) r && adj r q)))

  grown_walk : (s : Positions) (p k q : ℕ) → member (grown n adj s p k) q ≡ true → Walk n adj s p q
  unfolding seed grown
  grown_walk s p zero q h =
      let t : Positions = λ (q : ℕ). eqb p q && s q in
      let e : eqb p q && s q ≡ true = member_table_holds n t q h in
      let same : p ≡ q = eqb-true p q (and_left (eqb p q) (s q) e) in
      subst (λ (r : ℕ). Walk n adj s p r) same
      (here (rw same (member_table_below n t q h)) (rw same (and_right (eqb p q) (s q) e)))
  grown_walk s p (suc k) q h =
      ⊎_elim
      (λ old. grown_walk s p k q old)
      (λ new. on (grown_walk s p k new.0 new.1) new.2 new.3 new.4)
      (grow_holds s (grown n adj s p k) q h)

  -- a round that adds nothing is the last
  Ended : Positions → ℕ → ℕ → Type 0
  Ended s p k = grown n adj s p (suc k) ≡ grown n adj s p k

  ended_on : (s : Positions) (p k : ℕ) → Ended s p k → Ended s p (suc k)
  unfolding Ended grown
  ended_on s p k e = ap (grow n adj s) e

  round : (s : Positions) (p k : ℕ) → Ended s p k ⊎ (count n (member (grown n adj s p k)) < count n (member (grown n adj s p (suc k))))
  unfolding Ended grown
  round s p k =
      ⊎_elim
      (λ same. inl (list_ext n (grown n adj s p (suc k)) (grown n adj s p k) (length_grown s p (suc k)) (length_grown s p k) same))
      (λ more. inr more)
      (same_or_more n (member (grown n adj s p k)) (member (grown n adj s p (suc k))) (grow_keeps s (grown n adj s p k)))

  ended_or_many : (s : Positions) (p k : ℕ) → Ended s p k ⊎ (k < count n (member (grown n adj s p (suc k))))
  ended_or_many s p zero = ⊎_elim (λ e. inl e) (λ more. inr (omega arith)) (round s p zero)
  ended_or_many s p (suc k) =
      ⊎_elim
      (λ e. inl (ended_on s p k e))
      (λ many. ⊎_elim (λ e. inl e) (λ more. inr (omega arith)) (round s p (suc k)))
      (ended_or_many s p k)

  ended : (s : Positions) (p : ℕ) → Ended s p n
  ended s p =
      ⊎_elim (λ e. e) (λ many. absurd (omega (arith, count_le n (member (grown n adj s p (suc n)))))) (ended_or_many s p n)

  pub walk_inside : (s : Positions) (p q : ℕ) → Walk n adj s p q → (q < n) × (s q ≡ true)
  walk_inside s p q (here b h) = (b, h)
  walk_inside s p q (on w e b h) = (b, h)

  pub walk_trans : (s : Positions) (p q r : ℕ) → Walk n adj s p q → Walk n adj s q r → Walk n adj s p r
  walk_trans s p q r v (here b h) = v
  walk_trans s p q r v (on {q = m} w e b h) = on (walk_trans s p q m v w) e b h

  pub walk_sym : (s : Positions) (p q : ℕ) → Symmetric adj → Walk n adj s p q → Walk n adj s q p
  walk_sym s p q sy (here b h) = here b h
  walk_sym s p q sy (on {q = m} w e b h) =
      let i = walk_inside s p m w in
      walk_trans s q m p (on (here b h) (sy m q e) i.0 i.1) (walk_sym s p m sy w)

  -- a walk whose every reachable position is in t is a walk in t
  pub walk_within : (s t : Positions) (p q : ℕ) → Walk n adj s p q → ((r : ℕ) → Walk n adj s p r → t r ≡ true) → Walk n adj t p q
  walk_within s t p q (here b h) all = here b (all p (here b h))
  walk_within s t p q (on {q = m} w e b h) all = on (walk_within s t p m w all) e b (all q (on w e b h))

  pub component_walk : (s : Positions) (p q : ℕ) → member (component n adj s p) q ≡ true → Walk n adj s p q
  unfolding component
  component_walk s p q h = grown_walk s p n q h

  pub component_below : (s : Positions) (p q : ℕ) → member (component n adj s p) q ≡ true → q < n
  component_below s p q h = (walk_inside s p q (component_walk s p q h)).0

  pub component_inside : (s : Positions) (p q : ℕ) → member (component n adj s p) q ≡ true → s q ≡ true
  component_inside s p q h = (walk_inside s p q (component_walk s p q h)).1

  pub component_step : (s : Positions) (p q r : ℕ) → member (component n adj s p) q ≡ true → adj q r ≡ true → r < n → s r ≡ true → member (component n adj s p) r ≡ true
  unfolding component Ended grown
  component_step s p q r h e b i =
      subst (λ (l : List Bool). member l r ≡ true) (ended s p)
      (grow_adds s (component n adj s p) q r (component_below s p q h) h e b i)

  grown_self : (s : Positions) (p k : ℕ) → p < n → s p ≡ true → member (grown n adj s p k) p ≡ true
  unfolding seed grown
  grown_self s p zero b h = member_table n (λ (q : ℕ). eqb p q && s q) p b ∙ and_both (eqb p p) (s p) (eq-eqb p p refl) h
  grown_self s p (suc k) b h = grow_keeps s (grown n adj s p k) p b (grown_self s p k b h)

  pub component_self : (s : Positions) (p : ℕ) → p < n → s p ≡ true → member (component n adj s p) p ≡ true
  unfolding component
  component_self s p b h = grown_self s p n b h

  pub walk_component : (s : Positions) (p q : ℕ) → Walk n adj s p q → member (component n adj s p) q ≡ true
  walk_component s p q (here b h) = component_self s p b h
  walk_component s p q (on {q = m} w e b h) = component_step s p m q (walk_component s p m w) e b h

  pub component_mono : (s t : Positions) (p q : ℕ) → Inside n s t → member (component n adj s p) q ≡ true → member (component n adj t p) q ≡ true
  component_mono s t p q i h =
      walk_component t p q
      (walk_within s t p q (component_walk s p q h) (λ r w. let x = walk_inside s p r w in i r x.0 x.1))

  pub component_trans : (s : Positions) (p q r : ℕ) → member (component n adj s p) q ≡ true → member (component n adj s q) r ≡ true → member (component n adj s p) r ≡ true
  component_trans s p q r h k = walk_component s p r (walk_trans s p q r (component_walk s p q h) (component_walk s q r k))

  pub component_sym : (s : Positions) (p q : ℕ) → Symmetric adj → member (component n adj s p) q ≡ true → member (component n adj s q) p ≡ true
  component_sym s p q sy h = walk_component s q p (walk_sym s p q sy (component_walk s p q h))

  -- two components that meet are one
  pub component_same : (s : Positions) (p q : ℕ) → Symmetric adj → member (component n adj s p) q ≡ true → (r : ℕ) → member (component n adj s p) r ≡ member (component n adj s q) r
  component_same s p q sy h r =
      same_truth (member (component n adj s p) r) (member (component n adj s q) r)
      (λ k. component_trans s q p r (component_sym s p q sy h) k)
      (λ k. component_trans s p q r h k)

  pub length_component : (s : Positions) (p : ℕ) → length (component n adj s p) ≡ n
  unfolding component
  length_component s p = length_grown s p n

  pub component_list : (s : Positions) (p q : ℕ) → Symmetric adj → member (component n adj s p) q ≡ true → component n adj s p ≡ component n adj s q
  component_list s p q sy h =
      list_ext n (component n adj s p) (component n adj s q) (length_component s p) (length_component s q)
      (λ r b. component_same s p q sy h r)
