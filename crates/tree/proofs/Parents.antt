-- The parent of a node is the smallest node that strictly contains it, its representative is found by going down from the node's
-- level, and its level is lower. Of a connected picture the root is the whole. Assumes that neighbours are mutual.
use Prim.Native.Nat.{ℕ, zero, suc, ◌≤◌, ◌<◌}
use mathlib.Core.Bool.{true, false}
use mathlib.Core.Logic.{◌⊎◌, inl, inr, ⊎_elim}
use mathlib.Core.Path.{◌≡◌, refl, sym, ap, subst, ◌∙◌}
use native.Mathlib.Nat.{le_refl}
use native.Mathlib.Omega.{arith}
use lib.Dec.{ltb}
use borrow.Author.Tests.{ltb-true, ltb-false}
use Rattle.sets.specs.Sets.{Inside, member}
use Rattle.sets.proofs.Tests.{clash, le_or_lt, is_false}
use Rattle.connected.specs.Component.{Adjacency, Symmetric}
use Rattle.opening.specs.Opening.{least_grey}
use Rattle.opening.specs.Node.{node}
use Rattle.opening.proofs.Levels.{cond_case, least_grey_le, least_grey_attained}
use Rattle.opening.proofs.Components.{level_self, component_grey}
use Rattle.tree.specs.Tree.{lowest_own, representative, node_below, parent_representative}
use Rattle.tree.proofs.Together.{Together, together_sym, together_trans, together_below, together_down}
use Rattle.tree.proofs.Representatives.{lowest_own_le, lowest_own_holds, lowest_own_same, representative_same}

-- the node of q holds p
abbrev pub Over : ℕ → Adjacency → (ℕ → ℕ) → ℕ → ℕ → Type 0
Over n adj g q p = Together n adj g (g q) p q

-- of the nodes that hold p and lie below level k, that of q is the highest
pub record Next (n : ℕ) (adj : Adjacency) (g : ℕ → ℕ) (k p q : ℕ) : Type 0 where
  pub darker : g q < k
  pub over : Over n adj g q p
  pub nearest : (r : ℕ) → Over n adj g r p → g r < k → g r ≤ g q

-- q is an own pixel of the parent of the node of p
abbrev pub Parent : ℕ → Adjacency → (ℕ → ℕ) → ℕ → ℕ → Type 0
Parent n adj g p q = Next n adj g (g p) p q

-- no node that holds p lies below level k
abbrev pub NoneBelow : ℕ → Adjacency → (ℕ → ℕ) → ℕ → ℕ → Type 0
NoneBelow n adj g k p = (r : ℕ) → Over n adj g r p → k ≤ g r

-- the node of p is the root
abbrev pub Root : ℕ → Adjacency → (ℕ → ℕ) → ℕ → Type 0
Root n adj g p = NoneBelow n adj g (g p) p

-- q is what the search down from level k ends at: the representative of the highest node below that holds p, or of p itself
abbrev pub Found : ℕ → Adjacency → (ℕ → ℕ) → ℕ → ℕ → ℕ → Type 0
Found n adj g k p q =
    ((Next n adj g k p q) × (representative n adj g q ≡ q))
    ⊎ ((NoneBelow n adj g k p) × (q ≡ representative n adj g p))

module _ (n : ℕ) (adj : Adjacency) (symm : Symmetric adj) (g : ℕ → ℕ) where
  found_here : (h p : ℕ) → lowest_own n adj g h p < n → Found n adj g (suc h) p (lowest_own n adj g h p)
  unfolding representative
  found_here h p b =
      let q : ℕ = lowest_own n adj g h p in
      let (t, e) = lowest_own_holds n adj symm g h p b in
      inl (
        record { darker = omega arith; over = rw e t; nearest = λ r o l. omega arith },
        ap (λ (k : ℕ). lowest_own n adj g k q) e ∙ sym (lowest_own_same n adj symm g h p q t),
      )

  none_here : (h p : ℕ) → n ≤ lowest_own n adj g h p → (r : ℕ) → Over n adj g r p → g r ≡ h → ⊥
  none_here h p l r o e =
      let t : Together n adj g h p r = subst (λ (k : ℕ). Together n adj g k p r) e o in
      omega (arith, lowest_own_le n adj symm g h p r t e, together_below n adj symm g h p r t)

  found_on : (h p q : ℕ) → n ≤ lowest_own n adj g h p → Found n adj g h p q → Found n adj g (suc h) p q
  found_on h p q l (inl (w, again)) =
      inl (
        record {
          darker = omega (arith, w.darker);
          over = w.over;
          nearest = λ r o b. ⊎_elim (λ d. absurd (none_here h p l r o (omega arith))) (λ d. w.nearest r o d) (le_or_lt h (g r));
        },
        again,
      )
  found_on h p q l (inr (none, e)) =
      inr ((λ r o. ⊎_elim (λ d. absurd (none_here h p l r o (omega (arith, none r o)))) (λ d. d) (le_or_lt (g r) h)), e)

  node_below_found : (k p : ℕ) → Found n adj g k p (node_below n adj g p k)
  unfolding node_below
  node_below_found zero p = inr ((λ r o. omega arith), refl)
  node_below_found (suc h) p =
      cond_case
      (Found n adj g (suc h) p)
      (ltb (lowest_own n adj g h p) n)
      (λ e. found_here h p (ltb-true (lowest_own n adj g h p) n e))
      (λ e. found_on h p (node_below n adj g p h) (ltb-false (lowest_own n adj g h p) n e) (node_below_found h p))

  -- the parent's representative, or of the root its own
  pub parent_found : (p : ℕ) → Found n adj g (g p) p (parent_representative n adj g p)
  unfolding parent_representative
  parent_found p = node_below_found (g p) p

  -- two parents of one node are one node
  pub parent_within : (p q : ℕ) → Parent n adj g p q → q < n
  parent_within p q w = together_below n adj symm g (g q) p q w.over

  pub parent_unique : (p q r : ℕ) → Parent n adj g p q → Parent n adj g p r → representative n adj g q ≡ representative n adj g r
  parent_unique p q r v w =
      let e : g r ≡ g q = omega (arith, v.nearest r w.over w.darker, w.nearest q v.over v.darker) in
      representative_same
      n
      adj
      symm
      g
      q
      r
      (together_trans n adj symm g (g q) q p r (together_sym n adj symm g (g q) p q v.over) (subst (λ (k : ℕ). Together n adj g k p r) e w.over))
      e

  pub parent_representative_eq : (p q : ℕ) → Parent n adj g p q → parent_representative n adj g p ≡ representative n adj g q
  parent_representative_eq p q w =
      ⊎_elim
      (λ f. sym f.1 ∙ parent_unique p (parent_representative n adj g p) q f.0 w)
      (λ f. absurd (omega (arith, f.0 q w.over, w.darker)))
      (parent_found p)

  pub root_representative : (p : ℕ) → Root n adj g p → parent_representative n adj g p ≡ representative n adj g p
  root_representative p root =
      ⊎_elim
      (λ f. absurd (omega (arith, root (parent_representative n adj g p) f.0.over, f.0.darker)))
      (λ f. f.1)
      (parent_found p)

  -- of two nodes that hold one pixel the lower holds the pixels of the higher
  pub over_over : (p q r : ℕ) → g r ≤ g q → Over n adj g q p → Over n adj g r p → Over n adj g r q
  over_over p q r l o u =
      together_trans n adj symm g (g r) q p r (together_down n adj symm g (g q) (g r) q p l (together_sym n adj symm g (g q) p q o)) u

  -- a node below another that holds its pixel contains it
  pub over_contains : (p q : ℕ) → g q ≤ g p → Over n adj g q p → Inside n (member (node n adj g p)) (member (node n adj g q))
  over_contains p q l o r b t =
      together_trans n adj symm g (g q) q p r (together_sym n adj symm g (g q) p q o) (together_down n adj symm g (g p) (g q) p r l t)

  -- "the smallest node that strictly contains it": it contains it
  pub parent_contains : (p q : ℕ) → Parent n adj g p q → Inside n (member (node n adj g p)) (member (node n adj g q))
  parent_contains p q w = over_contains p q (omega (arith, w.darker)) w.over

  -- strictly
  pub parent_strict : (p q : ℕ) → Parent n adj g p q → (member (node n adj g q) q ≡ true) × (member (node n adj g p) q ≡ false)
  parent_strict p q w = (
    level_self n adj g (g q) q (parent_within p q w) (le_refl (g q)),
    is_false (member (node n adj g p) q) (λ t. omega (arith, component_grey n adj g (g p) p q t, w.darker)),
  )

  -- and it lies in every other that does
  pub parent_smallest : (p q r x : ℕ) → p < n → Parent n adj g p q → Inside n (member (node n adj g p)) (member (node n adj g r)) → member (node n adj g r) x ≡ true → member (node n adj g p) x ≡ false → Inside n (member (node n adj g q)) (member (node n adj g r))
  parent_smallest p q r x b w inside t out =
      let held : Together n adj g (g r) r p = inside p b (level_self n adj g (g p) p b (le_refl (g p))) in
      let o : Over n adj g r p = together_sym n adj symm g (g r) r p held in
      ⊎_elim
      (λ l. clash (member (node n adj g p) x) (same_level (omega (arith, component_grey n adj g (g r) r p held)) o) out)
      (λ l. over_contains q r (w.nearest r o l) (over_over p q r (w.nearest r o l) w.over o))
      (le_or_lt (g p) (g r))
    where
      same_level : g r ≡ g p → Over n adj g r p → member (node n adj g p) x ≡ true
      same_level e o = together_trans n adj symm g (g p) p r x (subst (λ (k : ℕ). Together n adj g k p r) e o) (subst (λ (k : ℕ). Together n adj g k r x) e t)

  -- a node at the least grey is a root
  pub least_root : (p : ℕ) → g p ≡ least_grey n g → Root n adj g p
  least_root p e r o = omega (arith, least_grey_le n g r (together_below n adj symm g (g r) p r o))

  -- where the whole picture is connected at its least grey
  module _ (whole : (p q : ℕ) → p < n → q < n → Together n adj g (least_grey n g) p q) where
    pub root_least : (p : ℕ) → p < n → Root n adj g p → g p ≡ least_grey n g
    root_least p b root =
        let (q, c, e) = least_grey_attained n g (omega arith) in
        let o : Over n adj g q p = subst (λ (k : ℕ). Together n adj g k p q) (sym e) (whole p q b c) in
        omega (arith, root q o, least_grey_le n g p b)

    -- "The root is the node at the least grey: the whole picture."
    pub root_whole : (p q : ℕ) → p < n → q < n → Root n adj g p → member (node n adj g p) q ≡ true
    root_whole p q b c root = subst (λ (k : ℕ). Together n adj g k p q) (sym (root_least p b root)) (whole p q b c)
