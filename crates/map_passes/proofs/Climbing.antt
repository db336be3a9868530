-- The numbers of the nodes of a picture can be climbed by; and a node's parent is darker, unless the node is the root, which assumes that
-- neighbours are mutual.
use Prim.Native.Nat.{ℕ, ◌<◌}
use mathlib.Core.Logic.{inl, inr, ⊎_elim}
use mathlib.Core.Path.{◌≡◌, sym, ap, ◌∙◌}
use Rattle.sets.specs.Sets.{Positions}
use Rattle.connected.specs.Component.{Adjacency, Symmetric}
use Rattle.tree.specs.Tree.{representative}
use Rattle.tree.proofs.Parents.{parent_found}
use Rattle.tree.proofs.Reading.{Up}
use Rattle.numbers.specs.Nodes.{Nodes}
use Rattle.map_passes.specs.Passes.{Climbing}

pub nodes_climbable : {n nodes : ℕ} {adj : Adjacency} {attr : Positions → ℕ} {g num low up held closed drop : ℕ → ℕ}
    → Nodes n adj attr g num low up held closed drop nodes → ((q : ℕ) → g q < 256)
    → Climbing n nodes num (λ (k : ℕ). g (low k)) up closed drop
nodes_climbable {low = low} N bytes = record {
  few = N.few;
  within = N.within;
  ups = N.ups;
  byte = λ k b. bytes (low k);
  order = N.order;
  drops = N.drops;
}

module _ {n nodes : ℕ} {adj : Adjacency} {attr : Positions → ℕ} {g num low up held closed drop : ℕ → ℕ} (symm : Symmetric adj)
    (N : Nodes n adj attr g num low up held closed drop nodes) where
  -- the lowest pixel of a number is a representative
  low_self : (k : ℕ) → k < nodes → representative n adj g (low k) ≡ low k
  low_self k b = sym (N.representatives (low k) (N.low_within k b)) ∙ ap low (N.low_own k b)

  pub nodes_up : (k : ℕ) → k < nodes → Up n adj g (low k) (low (up k))
  nodes_up k b =
      rw
      (N.parents k b)
      (⊎_elim (λ found. inl found.0) (λ root. inr (root.0, root.1 ∙ low_self k b)) (parent_found n adj symm g (low k)))
