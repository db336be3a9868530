-- What building asks and leaves, for a picture on a grid and the attribute a.
use Rattle.std.specs.Prelude.{ℕ, ◌*◌, ◌<◌, true, List, ◌≡◌, get_or, length}
use Rattle.grid.specs.Pixels.{pixels}
use Rattle.grid.specs.Neighbours.{adjacent}
use Rattle.grid.specs.declared.Grid.{Grid}
use Rattle.tree.specs.Tree.{number_of_nodes}
use Rattle.causes.specs.Bounds.{words_a_pixel}
use Rattle.causes.specs.Sides.{sides_fit}
use Rattle.calls.specs.Calls.{grey, record_of}
use Rattle.flood.specs.Calls.{NumberedBy}
use Rattle.numbers.specs.Nodes.{NodesOf}

-- the sides fit, the picture has a byte for each pixel and the workspace its words
pub record Buildable (grid : Grid) (picture ws : List ℕ) : Type 0 where
  pub sides : sides_fit grid.width grid.height ≡ true
  pub bytes : length picture ≡ pixels grid
  pub words : length ws ≡ words_a_pixel * pixels grid

-- m nodes have numbers
pub record Flooded (grid : Grid) (picture ws : List ℕ) (m : ℕ) : Type 0 where
  pub buildable : Buildable grid picture ws
  pub numbers : NumberedBy grid picture ws m

-- the words of m nodes, from which the record and the maps are made
pub record Noded (grid : Grid) (a : ℕ) (picture ws : List ℕ) (m : ℕ) : Type 0 where
  pub buildable : Buildable grid picture ws
  pub nodes : NodesOf grid a picture ws m

-- the nodes hold the attribute a, and keep their numbers; the words before theirs are as they were
pub record Measured (grid : Grid) (a : ℕ) (picture : List ℕ) (m : ℕ) (ws ws' : List ℕ) : Type 0 where
  pub noded : Noded grid a picture ws' m
  pub flooded : Flooded grid picture ws' m
  pub before : (x : ℕ) → x < 3 * length picture → get_or ws' x 0 ≡ get_or ws x 0

-- a workspace with such words, for some grid and attribute
pub record Recordable (picture ws : List ℕ) : Type 0 where
  pub grid : Grid
  pub attribute : ℕ
  pub number : ℕ
  pub noded : Noded grid attribute picture ws number

-- the whole record, and the number of nodes
pub record Whole (grid : Grid) (a : ℕ) (picture ws : List ℕ) (nodes : ℕ) : Type 0 where
  pub left : ws ≡ record_of grid a picture
  pub number : nodes ≡ number_of_nodes (pixels grid) (adjacent grid) (grey picture)

-- the record of the words of nodes, whichever grid and attribute they are for
pub record Recorded (picture ws ws' : List ℕ) (nodes : ℕ) : Type 0 where
  pub whole : (grid : Grid) (a m : ℕ) → Noded grid a picture ws m → Whole grid a picture ws' nodes
