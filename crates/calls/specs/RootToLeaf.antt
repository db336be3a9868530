-- What request E8 promises a viewer of the tree: in the words ws that an accepted call leaves for a picture, part 3 has the nodes from the root to
-- the leaves.
use Rattle.std.specs.Prelude.{ℕ, ◌+◌, ◌*◌, ◌≤◌, ◌<◌, List, ◌≡◌, get_or}
use Rattle.opening.specs.Opening.{least_grey}
use Rattle.grid.specs.Pixels.{pixels}
use Rattle.grid.specs.Neighbours.{adjacent}
use Rattle.grid.specs.declared.Grid.{Grid}
use Rattle.tree.specs.Tree.{is_representative, number_of_nodes}
use Rattle.tree.specs.Listing.{Listed}
use Rattle.calls.specs.Calls.{grey}

-- the parent word of p
abbrev pub parent : List ℕ → ℕ → ℕ
parent ws p = get_or ws p 0

-- entry i of the list
abbrev pub entry : Grid → List ℕ → ℕ → ℕ
entry grid ws i = get_or ws (2 * pixels grid + i) 0

-- as many entries as there are nodes
abbrev pub nodes : Grid → List ℕ → ℕ
nodes grid picture = number_of_nodes (pixels grid) (adjacent grid) (grey picture)

pub record RootToLeaf (grid : Grid) (picture ws : List ℕ) : Type 0 where
  -- "the representatives by rising level, lower position first within a level"
  pub listed :
      Listed
      (pixels grid)
      (nodes grid picture)
      (grey picture)
      (is_representative (pixels grid) (adjacent grid) (grey picture))
      (entry grid ws)
  -- each once
  pub once : (i j : ℕ) → i < j → j < nodes grid picture → entry grid ws i ≡ entry grid ws j → ⊥
  -- "and zeros after the last"
  pub zeros : (i : ℕ) → nodes grid picture ≤ i → i < pixels grid → entry grid ws i ≡ 0
  -- "The root always comes first": it is its own parent, at the least grey
  pub root : parent ws (entry grid ws 0) ≡ entry grid ws 0
  pub darkest : grey picture (entry grid ws 0) ≡ least_grey (pixels grid) (grey picture)
  -- "and every parent before its children"
  pub parents : (i : ℕ) → 0 < i → i < nodes grid picture → (j : ℕ) × (j < i) × (entry grid ws j ≡ parent ws (entry grid ws i))
