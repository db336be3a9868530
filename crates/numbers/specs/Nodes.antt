-- The words of the nodes of a picture g of n pixels, under any adjacency and attribute: what the passes after the flood leave, and what the
-- record and the maps are made of.
use Rattle.std.specs.Prelude.{ℕ, ◌≤◌, ◌<◌, List, ◌≡◌, length}
use Rattle.sets.specs.Sets.{Positions, member}
use Rattle.connected.specs.Component.{Adjacency}
use Rattle.opening.specs.Node.{node}
use Rattle.grid.specs.Neighbours.{adjacent}
use Rattle.grid.specs.Attributes.{attribute}
use Rattle.grid.specs.declared.Grid.{Grid}
use Rattle.tree.specs.Tree.{representative, parent_representative}
use Rattle.levels.specs.Levels.{grey}
use Rattle.levels.specs.Workspace.{number_at, closed_of, drop_of, lowest_of, up_of, held_of}
use Rattle.flooding.specs.Numbers.{Drops, ClosingOrder}

-- m nodes have numbers: num of a pixel's node; low, up and held of a number, its node's representative, its parent's number and its attribute;
-- closed the numbers in the order of closing; drop how far the level of the node closed at a place lies above its parent's
pub record Nodes (n : ℕ) (adj : Adjacency) (attr : Positions → ℕ) (g num low up held closed drop : ℕ → ℕ) (m : ℕ) : Type 0 where
  pub few : m ≤ n
  pub within : (q : ℕ) → q < n → num q < m
  pub low_within : (k : ℕ) → k < m → low k < n
  pub low_own : (k : ℕ) → k < m → num (low k) ≡ k
  pub ups : (k : ℕ) → k < m → up k < m
  pub representatives : (q : ℕ) → q < n → low (num q) ≡ representative n adj g q
  pub parents : (k : ℕ) → k < m → low (up k) ≡ parent_representative n adj g (low k)
  pub attributes : (k : ℕ) → k < m → held k ≡ attr (member (node n adj g (low k)))
  pub order : ClosingOrder m up closed
  pub drops : Drops m (λ (k : ℕ). g (low k)) up closed drop

-- they stand in a workspace, for a picture on a grid and the attribute a
abbrev pub NodesOf : Grid → ℕ → List ℕ → List ℕ → ℕ → Type 0
NodesOf grid a picture ws m =
    Nodes
    (length picture)
    (adjacent grid)
    (attribute grid a)
    (grey picture)
    (number_at ws)
    (lowest_of (length picture) ws)
    (up_of (length picture) ws)
    (held_of (length picture) ws)
    (closed_of (length picture) ws)
    (drop_of (length picture) ws)
    m
