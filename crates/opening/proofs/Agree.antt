-- When two openings of one picture agree: exactly if no node above the least grey is kept by just one of them.
use Prim.Native.Nat.{ℕ, ◌≤◌, ◌<◌, min, max}
use mathlib.Core.Bool.{true}
use mathlib.Core.Logic.{◌↔◌, ⊎_elim}
use mathlib.Core.Path.{◌≡◌, sym, ◌∙◌}
use native.Mathlib.Omega.{arith}
use lib.Dec.{leb}
use borrow.Author.Tests.{leb-true, leb-false, le-leb, lt-leb}
use Rattle.sets.specs.Sets.{member}
use Rattle.sets.proofs.Tests.{same_truth, le_or_lt}
use Rattle.connected.specs.Component.{Adjacency, Symmetric}
use Rattle.opening.specs.Opening.{component_at, least_grey, Keeps, Upward, opened_by}
use Rattle.opening.specs.Node.{node}
use Rattle.opening.proofs.Levels.{eq_by_levels}
use Rattle.opening.proofs.Components.{level_mono, level_within, level_same, level_self, component_grey, darkest}
use Rattle.opening.proofs.Opened.{opened_ge, opened_le, opened_above, opened_kept}

module _ (n : ℕ) (adj : Adjacency) (g : ℕ → ℕ) where
  -- at every pixel above the least grey, both tests give the same on its node
  abbrev pub SameNodes : Keeps → Keeps → Type 0
  SameNodes keeps other =
      (p : ℕ) → p < n → least_grey n g < g p → keeps (member (node n adj g p)) ≡ other (member (node n adj g p))

  module _ (symm : Symmetric adj) (keeps other : Keeps) (up : Upward n keeps) (up_other : Upward n other) where
    -- every component above the least grey is a node, that of its darkest pixels; so what keeps the same nodes keeps it too
    kept_component : SameNodes keeps other → (p h : ℕ) → p < n → least_grey n g < h → h ≤ g p
        → keeps (member (component_at n adj g h p)) ≡ true → other (member (component_at n adj g h p)) ≡ true
    kept_component same p h below above high kept =
        let (q, b, i, least) = darkest n (member (component_at n adj g h p)) g p below (level_self n adj g h p below high) in
        let here : component_at n adj g h p ≡ component_at n adj g h q = level_same n adj symm g h p q i in
        let tall : h ≤ g q = component_grey n adj g h p q i in
        let node_kept : keeps (member (node n adj g q)) ≡ true =
        up
        (member (component_at n adj g h q))
        (member (node n adj g q))
        (level_within n adj g g h (g q) q (λ r c e. least r c (rw (← here) at e)))
        (rw here at kept) in
        rw
        here
        (up_other
        (member (node n adj g q))
        (member (component_at n adj g h q))
        (level_mono n adj g g (g q) h q (λ r c e. omega arith))
        (sym (same q b (omega arith)) ∙ node_kept))

    kept_opened : SameNodes keeps other → (p h : ℕ) → p < n → least_grey n g < h
        → h ≤ opened_by n adj keeps g p → h ≤ opened_by n adj other g p
    kept_opened same p h below above high =
        let tall : h ≤ g p = omega (arith, opened_le n adj keeps g p below) in
        opened_above n adj other g p h above tall (kept_component same p h below above tall (opened_kept n adj keeps up g p h above high))

    -- a pixel that keeps its grey under one opening keeps it under an opening that agrees there
    kept_node : (p : ℕ) → least_grey n g < g p → opened_by n adj keeps g p ≡ opened_by n adj other g p
        → keeps (member (node n adj g p)) ≡ true → other (member (node n adj g p)) ≡ true
    kept_node p above same kept =
        opened_kept
        n
        adj
        other
        up_other
        g
        p
        (g p)
        above
        (omega (arith, same, opened_above n adj keeps g p (g p) above (omega arith) kept))

  module _ (symm : Symmetric adj) (keeps other : Keeps) (up : Upward n keeps) (up_other : Upward n other) where
    -- two openings agree at every pixel exactly if no node above the least grey is kept by just one of them
    pub opened_agree : ((p : ℕ) → p < n → opened_by n adj keeps g p ≡ opened_by n adj other g p) ↔ SameNodes keeps other
    opened_agree = (
      (λ same p below above.
          same_truth
          (keeps (member (node n adj g p)))
          (other (member (node n adj g p)))
          (kept_node symm keeps other up up_other p above (same p below))
          (kept_node symm other keeps up_other up p above (sym (same p below)))),
      (λ same p below.
          eq_by_levels
          (least_grey n g)
          (opened_by n adj keeps g p)
          (opened_by n adj other g p)
          (opened_ge n adj keeps g p)
          (opened_ge n adj other g p)
          (λ h above. (
            kept_opened symm keeps other up up_other same p h below above,
            kept_opened symm other keeps up_other up (λ q b a. sym (same q b a)) p h below above,
          ))),
    )

-- two thresholds give the same on a number exactly if it is not at or above the smaller and below the larger
pub same_at_least : (a s t : ℕ) → (leb s a ≡ leb t a) ↔ (¬ ((min s t ≤ a) × (a < max s t)))
same_at_least a s t = (
  (λ same range.
      ⊎_elim
      (λ (l : s ≤ a). omega (arith, leb-true t a (sym same ∙ le-leb s a l), range.0, range.1))
      (λ (l : a < s). omega (arith, leb-false t a (sym same ∙ lt-leb s a l), range.0, range.1))
      (le_or_lt s a)),
  (λ free. same_truth (leb s a) (leb t a) (follows s t (λ l k. free (omega arith, omega arith))) (follows t s (λ l k. free (omega arith, omega arith)))),
)
  where
    follows : (u v : ℕ) → (u ≤ a → a < v → ⊥) → leb u a ≡ true → leb v a ≡ true
    follows u v free e =
        ⊎_elim (λ (l : v ≤ a). le-leb v a l) (λ (l : a < v). absurd (free (leb-true u a e) l)) (le_or_lt v a)
