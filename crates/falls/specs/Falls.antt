-- The step at which a node falls, and the run of its fall. A step is a test on sets of pixels, named by its place in the list, counted from 0.
use Rattle.std.specs.Prelude.{ℕ, suc, ◌+◌, Bool, cond, ◌&&◌, List, [], ◌∷◌, eqb, leb, ltb, length, get_or}
use Rattle.sets.specs.Sets.{Positions, member}
use Rattle.connected.specs.Component.{Adjacency}
use Rattle.opening.specs.Opening.{least_grey, Keeps}
use Rattle.opening.specs.Node.{node}
use Rattle.opening.specs.Residue.{joined, residues}

-- how many tests a set passes before the first that it fails; all of them if there is none
unfoldable pub outlasted : Positions → List Keeps → ℕ
outlasted s [] = 0
outlasted s (keeps ∷ rest) = cond (keeps s) (suc (outlasted s rest)) 0

-- the same for thresholds: how many stand before the first one above a
unfoldable pub places_before : ℕ → List ℕ → ℕ
places_before a [] = 0
places_before a (t ∷ rest) = cond (leb t a) (suc (places_before a rest)) 0

-- the place of the step at which the node of p falls, the number of steps if it never does: "a node goes exactly if it is not the root
-- and its attribute is below t"
unfoldable pub fall_place : ℕ → Adjacency → List Keeps → (ℕ → ℕ) → ℕ → ℕ
fall_place n adj tests g p = cond (eqb (g p) (least_grey n g)) (length tests) (outlasted (member (node n adj g p)) tests)

-- whether a node that falls at place k shares its run with its parent, which falls at the place `up` of m steps, or never
unfoldable pub joins : ℕ → ℕ → ℕ → ℕ → Bool
joins m gap k up = ltb up m && leb up (k + gap)

-- the place of the first number that is not 0, the length if there is none
unfoldable pub first_place : List ℕ → ℕ
first_place [] = 0
first_place (r ∷ rest) = cond (eqb r 0) (suc (first_place rest)) 0

-- the run of a node's own fall, which is the first one of its pixels: the place of its last residue, and its total
unfoldable pub run_end : ℕ → Adjacency → List Keeps → ℕ → (ℕ → ℕ) → ℕ → ℕ
run_end n adj tests gap g p = first_place (joined gap 0 (residues n adj tests g p))

unfoldable pub run_sum : ℕ → Adjacency → List Keeps → ℕ → (ℕ → ℕ) → ℕ → ℕ
run_sum n adj tests gap g p = get_or (joined gap 0 (residues n adj tests g p)) (run_end n adj tests gap g p) 0
