-- The lowest own pixel of a component, and the representative of a node: it is an own pixel of the node, and all own pixels of
-- the node have the same. Assumes that neighbours are mutual.
use Prim.Native.Nat.{ℕ, ◌≤◌, ◌<◌}
use mathlib.Core.Bool.{Bool}
use mathlib.Core.List.{List}
use mathlib.Core.Path.{◌≡◌, refl, sym, ap, ◌∙◌}
use native.Mathlib.Nat.{le_refl}
use native.Mathlib.Omega.{arith}
use lib.Dec.{eqb}
use borrow.Author.Tests.{eqb-true, eq-eqb}
use Rattle.sets.specs.Sets.{member}
use Rattle.sets.specs.Gather.{first_in}
use Rattle.sets.proofs.Tests.{and_left, and_right, and_both}
use Rattle.sets.proofs.Gather.{first_in_le, first_in_holds}
use Rattle.connected.specs.Component.{Adjacency, Symmetric}
use Rattle.opening.specs.Opening.{component_at}
use Rattle.opening.proofs.Components.{level_self, level_same}
use Rattle.tree.specs.Tree.{own, lowest_own, representative}
use Rattle.tree.proofs.Together.{Together, together_below}

module _ (n : ℕ) (adj : Adjacency) (symm : Symmetric adj) (g : ℕ → ℕ) where
  pub lowest_own_le : (h p q : ℕ) → Together n adj g h p q → g q ≡ h → lowest_own n adj g h p ≤ q
  unfolding lowest_own
  lowest_own_le h p q t e =
      first_in_le
      n
      (own g h (component_at n adj g h p))
      q
      (together_below n adj symm g h p q t)
      (and_both (member (component_at n adj g h p) q) (eqb (g q) h) t (eq-eqb (g q) h e))

  pub lowest_own_holds : (h p : ℕ) → lowest_own n adj g h p < n → (Together n adj g h p (lowest_own n adj g h p)) × (g (lowest_own n adj g h p) ≡ h)
  unfolding lowest_own
  lowest_own_holds h p b =
      let q : ℕ = lowest_own n adj g h p in
      let e = first_in_holds n (own g h (component_at n adj g h p)) b in (
        and_left (member (component_at n adj g h p) q) (eqb (g q) h) e,
        eqb-true (g q) h (and_right (member (component_at n adj g h p) q) (eqb (g q) h) e),
      )

  pub lowest_own_same : (h p q : ℕ) → Together n adj g h p q → lowest_own n adj g h p ≡ lowest_own n adj g h q
  unfolding lowest_own
  lowest_own_same h p q t = ap (λ (l : List Bool). first_in n (own g h l)) (level_same n adj symm g h p q t)

  pub representative_le : (p q : ℕ) → Together n adj g (g p) p q → g q ≡ g p → representative n adj g p ≤ q
  unfolding representative
  representative_le p q t e = lowest_own_le (g p) p q t e

  pub representative_below : (p : ℕ) → p < n → representative n adj g p < n
  representative_below p b = omega (arith, representative_le p p (level_self n adj g (g p) p b (le_refl (g p))) refl)

  pub representative_in : (p : ℕ) → p < n → Together n adj g (g p) p (representative n adj g p)
  unfolding representative
  representative_in p b = (lowest_own_holds (g p) p (representative_below p b)).0

  pub representative_grey : (p : ℕ) → p < n → g (representative n adj g p) ≡ g p
  unfolding representative
  representative_grey p b = (lowest_own_holds (g p) p (representative_below p b)).1

  -- own pixels of one node have one representative
  pub representative_same : (p q : ℕ) → Together n adj g (g p) p q → g q ≡ g p → representative n adj g p ≡ representative n adj g q
  unfolding representative
  representative_same p q t e = lowest_own_same (g p) p q t ∙ ap (λ (h : ℕ). lowest_own n adj g h q) (sym e)

  pub representative_again : (p : ℕ) → p < n → representative n adj g (representative n adj g p) ≡ representative n adj g p
  representative_again p b = sym (representative_same p (representative n adj g p) (representative_in p b) (representative_grey p b))
