-- Nodes of a picture g of n pixels.
use Rattle.std.specs.Prelude.{ℕ, Bool, List}
use Rattle.connected.specs.Component.{Adjacency}
use Rattle.opening.specs.Opening.{component_at}

-- "A node is a connected component of a level set that has at least one pixel of grey exactly h; h is its level and those pixels
-- are its own." The node whose own pixels hold p: the component of p at its own grey.
abbrev pub node : ℕ → Adjacency → (ℕ → ℕ) → ℕ → List Bool
node n adj g p = component_at n adj g (g p) p
