-- The opened grey of a pixel is the grey of the nearest kept ancestor of its node. A kept node and the root keep their grey, a
-- node that is not kept has the opened grey of its parent, and all own pixels of a node have one. Assumes that neighbours are
-- mutual, that what is kept stays kept in a larger set, and for the root that the whole picture is connected.
use Prim.Native.Nat.{ℕ, zero, suc, ◌≤◌, ◌<◌}
use mathlib.Core.Bool.{Bool, true, false, ◌||◌}
use mathlib.Core.List.{List}
use mathlib.Core.Logic.{◌⊎◌, inl, inr, ⊎_elim}
use mathlib.Core.Path.{◌≡◌, sym, ap, subst, ◌∙◌}
use native.Mathlib.Nat.{le_refl, le_antisymm}
use native.Mathlib.Omega.{arith}
use lib.Dec.{eqb}
use borrow.Author.Tests.{eqb-true, eqb-false}
use Rattle.sets.specs.Sets.{member}
use Rattle.sets.proofs.Tests.{clash, or_cases, or_neither, le_or_lt}
use Rattle.connected.specs.Component.{Adjacency, Symmetric}
use Rattle.opening.specs.Opening.{component_at, least_grey, Keeps, Upward, opened_by}
use Rattle.opening.specs.Node.{node}
use Rattle.opening.proofs.Levels.{le_by_levels, cond_case}
use Rattle.opening.proofs.Components.{level_self, level_same, component_grey}
use Rattle.opening.proofs.Opened.{opened_ge, opened_le, opened_above, opened_kept}
use Rattle.tree.specs.Tree.{representative, parent_representative, climbed}
use Rattle.tree.proofs.Together.{Together, together_sym, together_below, together_down, component_node}
use Rattle.tree.proofs.Representatives.{representative_grey}
use Rattle.tree.proofs.Parents.{Over, Parent, Root, Found, parent_found, root_least}

module _ (n : ℕ) (adj : Adjacency) (symm : Symmetric adj) (g : ℕ → ℕ) where
  -- between a node and its parent lies no other component
  pub component_between : (p q h : ℕ) → p < n → Parent n adj g p q → g q < h → h ≤ g p → component_at n adj g h p ≡ node n adj g p
  component_between p q h b w low high =
      let (d, t, least, e) = component_node n adj symm g h p b high in
      let self : Together n adj g h p p = level_self n adj g h p b high in
      let up : Together n adj g (g d) d p = subst (λ (l : List Bool). member l p ≡ true) e self in
      let o : Over n adj g d p = together_sym n adj symm g (g d) d p up in
      let same : g d ≡ g p =
      ⊎_elim
      (λ l. omega (arith, least p self))
      (λ l. absurd (omega (arith, w.nearest d o l, component_grey n adj g h p d t)))
      (le_or_lt (g p) (g d)) in
      e ∙ level_same n adj symm g (g d) d p up ∙ ap (λ (k : ℕ). component_at n adj g k p) same

  -- a node that holds p has the component of p at each level that it reaches
  component_over : (p q h : ℕ) → h ≤ g q → Over n adj g q p → component_at n adj g h p ≡ component_at n adj g h q
  component_over p q h l o = level_same n adj symm g h p q (together_down n adj symm g (g q) h p q l o)

  module _ (keeps : Keeps) (up : Upward n keeps) where
    -- an opened grey is at most another, if a kept component of the one is a component of the other
    opened_by_levels : (p q : ℕ) → p < n → ((h : ℕ) → h ≤ g p → keeps (member (component_at n adj g h p)) ≡ true → (h ≤ g q) × (component_at n adj g h p ≡ component_at n adj g h q)) → opened_by n adj keeps g p ≤ opened_by n adj keeps g q
    opened_by_levels p q b step =
        le_by_levels
        (least_grey n g)
        (opened_by n adj keeps g p)
        (opened_by n adj keeps g q)
        (opened_ge n adj keeps g q)
        (λ h above high.
        let kept = opened_kept n adj keeps up g p h above high in
        let (l, e) = step h (omega (arith, opened_le n adj keeps g p b)) kept in
        opened_above n adj keeps g q h above l (rw e at kept))

    opened_over : (p q : ℕ) → g q ≤ g p → Over n adj g q p → opened_by n adj keeps g q ≤ opened_by n adj keeps g p
    opened_over p q l o =
        opened_by_levels q p (together_below n adj symm g (g q) p q o) (λ h high kept. (omega arith, sym (component_over p q h high o)))

    -- the own pixels of a node have one opened grey
    pub opened_own : (p q : ℕ) → p < n → Over n adj g q p → g q ≡ g p → opened_by n adj keeps g p ≡ opened_by n adj keeps g q
    opened_own p q b o e =
        le_antisymm
        (opened_by_levels p q b (λ h high kept. (omega arith, component_over p q h (omega arith) o)))
        (opened_over p q (omega arith) o)

    -- a node that is not kept has that of its parent
    pub opened_parent : (p q : ℕ) → p < n → keeps (member (node n adj g p)) ≡ false → Parent n adj g p q → opened_by n adj keeps g p ≡ opened_by n adj keeps g q
    opened_parent p q b gone w =
        le_antisymm
        (opened_by_levels p q b (λ h high kept.
        ⊎_elim
        (λ l. (l, component_over p q h l w.over))
        (λ l. clash (keeps (member (node n adj g p))) (rw (component_between p q h b w l high) at kept) gone)
        (le_or_lt h (g q))))
        (opened_over p q (omega (arith, w.darker)) w.over)

    -- a kept node keeps its grey
    pub opened_node : (p : ℕ) → p < n → keeps (member (node n adj g p)) ≡ true → opened_by n adj keeps g p ≡ g p
    opened_node p b kept =
        le_antisymm
        (opened_le n adj keeps g p b)
        (⊎_elim
        (λ l. omega (arith, opened_ge n adj keeps g p))
        (λ l. opened_above n adj keeps g p (g p) l (le_refl (g p)) kept)
        (le_or_lt (g p) (least_grey n g)))

    module _ (whole : (p q : ℕ) → p < n → q < n → Together n adj g (least_grey n g) p q) where
      -- the root keeps its grey
      pub opened_root : (p : ℕ) → p < n → Root n adj g p → opened_by n adj keeps g p ≡ g p
      opened_root p b root =
          omega (arith, root_least n adj symm g whole p b root, opened_le n adj keeps g p b, opened_ge n adj keeps g p)

      -- where the climb stops the grey is the opened one
      stops : (p : ℕ) → p < n → (keeps (member (node n adj g p)) ≡ true) ⊎ (eqb (parent_representative n adj g p) (representative n adj g p) ≡ true) → g p ≡ opened_by n adj keeps g p
      stops p b (inl kept) = sym (opened_node p b kept)
      stops p b (inr e) = sym (opened_root p b (is_root (parent_found n adj symm g p)))
        where
          same : parent_representative n adj g p ≡ representative n adj g p
          same = eqb-true (parent_representative n adj g p) (representative n adj g p) e

          is_root : Found n adj g (g p) p (parent_representative n adj g p) → Root n adj g p
          is_root (inl f) = absurd (omega (arith, f.0.darker, ap g same, representative_grey n adj symm g p b))
          is_root (inr f) = f.0

      -- where it goes on there is a parent
      goes_on : (p : ℕ) → (eqb (parent_representative n adj g p) (representative n adj g p) ≡ false) → Parent n adj g p (parent_representative n adj g p)
      goes_on p e =
          ⊎_elim
          (λ f. f.0)
          (λ f. absurd (eqb-false (parent_representative n adj g p) (representative n adj g p) e f.1))
          (parent_found n adj symm g p)

      -- "found by climbing from its node to the nearest kept ancestor", in no more steps than the grey counts
      pub climbed_opened : (k p : ℕ) → p < n → g p ≤ k → climbed n adj keeps g k p ≡ opened_by n adj keeps g p
      unfolding climbed
      climbed_opened zero p b l = omega (arith, opened_le n adj keeps g p b)
      climbed_opened (suc k) p b l =
          let kept : Bool = keeps (member (node n adj g p)) in
          let last : Bool = eqb (parent_representative n adj g p) (representative n adj g p) in
          cond_case
          (λ (x : ℕ). x ≡ opened_by n adj keeps g p)
          (kept || last)
          (λ e. stops p b (or_cases kept last e))
          (λ e.
          let (gone, more) = or_neither kept last e in
          let w = goes_on p more in
          climbed_opened k (parent_representative n adj g p) (together_below n adj symm g _ p _ w.over) (omega (arith, w.darker))
          ∙ sym (opened_parent p (parent_representative n adj g p) b gone w))
