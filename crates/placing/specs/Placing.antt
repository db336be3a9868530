-- What placing the nodes along a step list asks and leaves, on the words that it is lent.
use Rattle.std.specs.Prelude.{ℕ, zero, suc, ◌+◌, ◌*◌, ◌/◌, ◌<◌, min, List, ◌≡◌, get_or, length}
use Rattle.sets.specs.Sets.{Positions, member}
use Rattle.opening.specs.Node.{node}
use Rattle.grid.specs.Pixels.{pixels}
use Rattle.grid.specs.Neighbours.{adjacent}
use Rattle.grid.specs.Attributes.{attribute}
use Rattle.grid.specs.Greys.{grey}
use Rattle.grid.specs.declared.Grid.{Grid}
use Rattle.grid.specs.declared.Triple.{Triple}
use Rattle.falls.specs.Falls.{outlasted, places_before}
use Rattle.calls.specs.Steps.{list_tests, list_attribute}
use Rattle.calls.specs.declared.Kind.{Kind}
use Rattle.calls.specs.declared.Kind.TheVariants.{Triples}
use Rattle.levels.specs.Workspace.{number_at, lowest_of}
use Rattle.places.specs.Places.{place_at, Outside}
use Rattle.building.specs.Building.{Flooded, Noded}

-- the parts of a triple, in the order of its words
abbrev pub part_in : ℕ → Triple → ℕ
part_in zero t = t.area
part_in (suc zero) t = t.height
part_in (suc (suc more)) t = t.width

-- entry i has the given part of triple i
abbrev pub Column : ℕ → List ℕ → List ℕ → Type 0
Column part words entries = (i : ℕ) → i < length words / 3 → get_or entries i 0 ≡ get_or words (3 * i + part) 0

-- each of m nodes has the number of steps for its place
pub record Started (n count m : ℕ) (ws ws' : List ℕ) : Type 0 where
  pub outside : Outside n ws ws'
  pub places : (k : ℕ) → k < m → place_at n ws' k ≡ count

-- the place of each pixel's node is a limit that its pixels set
abbrev pub Limited : Grid → List ℕ → (Positions → ℕ) → List ℕ → Type 0
Limited grid picture limit ws =
    (q : ℕ) → q < length picture
    → place_at (length picture) ws (number_at ws q) ≡ limit (member (node (length picture) (adjacent grid) (grey picture) q))

-- the nodes hold the attribute a, and whatever limited their places, its thresholds limit them too
pub record LoweredBy (grid : Grid) (a : ℕ) (picture steps : List ℕ) (m : ℕ) (ws ws' : List ℕ) : Type 0 where
  pub noded : Noded grid a picture ws' m
  pub flooded : Flooded grid picture ws' m
  pub limits :
      (limit : Positions → ℕ) → Limited grid picture limit ws
      → Limited grid picture (λ (s : Positions). min (limit s) (places_before (attribute grid a s) steps)) ws'

-- the same of triples: the nodes hold areas, and how many triples a node outlasts limits its place
pub record LimitedBy (grid : Grid) (picture words : List ℕ) (m : ℕ) (ws ws' : List ℕ) : Type 0 where
  pub noded : Noded grid 1 picture ws' m
  pub limits :
      (limit : Positions → ℕ) → Limited grid picture limit ws
      → Limited grid picture (λ (s : Positions). min (limit s) (outlasted s (list_tests grid Triples words))) ws'

-- the nodes hold the attribute of the kind, and each has the place at which it falls, by how many of the steps it outlasts
pub record Placed (grid : Grid) (kind : Kind) (picture steps : List ℕ) (m count : ℕ) (ws : List ℕ) : Type 0 where
  pub noded : Noded grid (list_attribute kind) picture ws m
  pub number : count ≡ length (list_tests grid kind steps)
  pub places :
      (k : ℕ) → k < m
      → place_at (length picture) ws k
      ≡ outlasted (member (node (pixels grid) (adjacent grid) (grey picture) (lowest_of (length picture) ws k))) (list_tests grid kind steps)
