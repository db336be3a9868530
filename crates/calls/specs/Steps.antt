-- What a call opens by: a step, a threshold of one attribute or a triple, and a step list, the words of such steps.
use Rattle.std.specs.Prelude.{ℕ, List, [], ◌∷◌, map}
use Rattle.opening.specs.Opening.{Keeps, at_least}
use Rattle.opening.specs.Residue.{threshold_tests}
use Rattle.grid.specs.Attributes.{attribute}
use Rattle.grid.specs.Triples.{triple_of, meets, need}
use Rattle.grid.specs.declared.Grid.{Grid}
use Rattle.grid.specs.declared.Triple.{Triple}
use Rattle.calls.specs.declared.Step.{Step}
use Rattle.calls.specs.declared.Step.TheVariants.{Threshold, Three}
use Rattle.calls.specs.declared.Kind.{Kind}
use Rattle.calls.specs.declared.Kind.TheVariants.{Thresholds, Triples}

-- what a step keeps: "attribute t or more", or for a triple "A node stays if it meets all three."
unfoldable pub step_test : Grid → Step → Keeps
step_test grid (Threshold a t) = at_least (attribute grid a) t
step_test grid (Three t) = meets grid t

-- "A single threshold opens as a triple with two zeros."
unfoldable pub step_triple : Step → Triple
step_triple (Threshold a t) = need a t
step_triple (Three t) = t

-- "A call given triples names no attribute and leaves areas as its attribute words; calls with an attribute keep theirs."
abbrev pub step_attribute : Step → ℕ
step_attribute (Threshold a t) = a
step_attribute (Three t) = 1

-- "A list of triples is lent as words, three to a step: area, height, width"
unfoldable pub triples_in : List ℕ → List Triple
triples_in (area ∷ height ∷ width ∷ rest) = triple_of area height width ∷ triples_in rest
triples_in (area ∷ height ∷ []) = []
triples_in (area ∷ []) = []
triples_in [] = []

-- what the steps of a list keep, one after the other: "Maps [..] and gaps read triples as steps."
unfoldable pub list_tests : Grid → Kind → List ℕ → List Keeps
list_tests grid (Thresholds a) steps = threshold_tests (attribute grid a) steps
list_tests grid Triples steps = map (meets grid) (triples_in steps)

-- the attribute whose words a call with such a list leaves
abbrev pub list_attribute : Kind → ℕ
list_attribute (Thresholds a) = a
list_attribute Triples = 1

-- the words of a list of triples
unfoldable pub words_of : List Triple → List ℕ
words_of [] = []
words_of (t ∷ rest) = t.area ∷ t.height ∷ t.width ∷ words_of rest
