-- Equation 6 of source document 001, by which that document sums residues along the branches of the tree. A pixel stands for the node that it is
-- an own pixel of.
use Rattle.std.specs.Prelude.{ℕ, zero, suc, ◌+◌, ◌-◌, ◌<◌, max, cond, List, [], ◌∷◌, ◌≡◌, leb}
use Rattle.connected.specs.Component.{Adjacency}
use Rattle.opening.specs.Opening.{least_grey}
use Rattle.opening.specs.Runs.{Run, run_total}
use Rattle.grid.specs.Pixels.{pixels}
use Rattle.grid.specs.Neighbours.{adjacent}
use Rattle.tree.specs.Tree.{parent_representative}
use Rattle.calls.specs.Steps.{list_attribute}
use Rattle.calls.specs.Calls.{grey, node_attribute, MapCall}
use Rattle.calls.specs.declared.Kind.TheVariants.{Thresholds}
use Rattle.runs.specs.Claim.{residues_of, residue_at}

-- "steps 1, 2, 3 and on": so many from a number on
unfoldable pub counting : ℕ → ℕ → List ℕ
counting from zero = []
counting from (suc m) = from ∷ counting (suc from) m

-- r sums residues by equation 6 with attributes k, gap and greys t, and R is the largest sum on the way to the root. "The process starts at the
-- root node": it is the node at the least grey.
pub record Equation6 (n : ℕ) (adj : Adjacency) (k : ℕ → ℕ) (gap : ℕ) (t r R : ℕ → ℕ) : Type 0 where
  pub root : (p : ℕ) → p < n → t p ≡ least_grey n t → (r p ≡ 0) × (R p ≡ 0)
  -- r(node) is "t(node) − t(parent) + r(parent)" if "κ(parent) − κ(node) ≤ Δ", "t(node) − t(parent)" otherwise
  pub sum : (p : ℕ) → p < n → least_grey n t < t p
      → let q = parent_representative n adj t p in
      r p ≡ t p - t q + cond (leb (k q - k p) gap) (r q) 0
  -- "R(node) = max(r(node), R(parent))"
  pub most : (p : ℕ) → p < n → least_grey n t < t p → R p ≡ max (r p) (R (parent_representative n adj t p))

-- the attribute of a pixel's node
abbrev pub own_attribute : MapCall → ℕ → ℕ
own_attribute call p = node_attribute call.grid (list_attribute call.kind) call.picture p

-- the node of p is not the root
abbrev pub BelowRoot : MapCall → ℕ → Type 0
BelowRoot call p = least_grey (pixels call.grid) (grey call.picture) < grey call.picture p

-- thresholds of one attribute,
-- "for steps 1, 2, 3 and on if every node but the root has an attribute below the last step". What touches the frame has 1,048,577 for each
-- attribute, so only the root touches it then.
pub record Counted (call : MapCall) (m : ℕ) : Type 0 where
  pub kind : (a : ℕ) × (call.kind ≡ Thresholds a)
  pub steps : call.steps ≡ counting 1 m
  pub below_last : (p : ℕ) → p < pixels call.grid → BelowRoot call p → own_attribute call p < m

-- "Sums agree with 001's equation 6": r sums by it, and its largest sums are the residue map. The sum of a node that is not the root is the total
-- of a run of its pixels' residues, the run that starts with the node's own fall, which with these steps is the one at the place of its
-- attribute.
pub record SumsAgree (call : MapCall) (r : ℕ → ℕ) : Type 0 where
  pub sums : Equation6 (pixels call.grid) (adjacent call.grid) (own_attribute call) call.gap (grey call.picture) r (residue_at call)
  pub run : (p : ℕ) → p < pixels call.grid → BelowRoot call p
      → (b : ℕ) × Run call.gap (residues_of call p) (own_attribute call p) b × (r p ≡ run_total (residues_of call p) (own_attribute call p) b)
