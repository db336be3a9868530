-- When a call on a picture is refused, and for which cause. Only lengths and named numbers decide, never a grey.
use Rattle.std.specs.Prelude.{Ok, Err, Result}
use Rattle.std.specs.Prelude.{ℕ, ◌*◌, ◌%◌, Bool, true, false, cond, ◌&&◌, ◌||◌, List, [], ◌∷◌, ◌++◌, map, leb, ltb, eqb, length}
use Rattle.opening.specs.Residue.{rising}
use Rattle.grid.specs.Pixels.{pixels}
use Rattle.grid.specs.Triples.{zeros}
use Rattle.grid.specs.declared.Grid.{Grid}
use Rattle.grid.specs.declared.Triple.{Triple}
use Rattle.causes.specs.Bounds.{top_threshold, most_steps, most_gap, words_a_pixel}
use Rattle.causes.specs.Causes.{number_of}
use Rattle.causes.specs.Sides.{sides_fit}
use Rattle.causes.specs.declared.Cause.{Cause}
use Rattle.causes.specs.declared.Cause.TheVariants.{Sides, PictureLength, Attribute, Steps, Workspace, Output, Neighbours, Gap}
use Rattle.calls.specs.Steps.{triples_in, list_attribute}
use Rattle.calls.specs.declared.Step.{Step}
use Rattle.calls.specs.declared.Step.TheVariants.{Threshold, Three}
use Rattle.calls.specs.declared.Kind.{Kind}
use Rattle.calls.specs.declared.Kind.TheVariants.{Thresholds, Triples}

-- "attribute not 1, 2 or 3"
unfoldable pub attribute_good : ℕ → Bool
attribute_good attribute = eqb attribute 1 || eqb attribute 2 || eqb attribute 3

-- "neighbourhood neither 4 nor 8"
unfoldable pub neighbours_good : ℕ → Bool
neighbours_good neighbours = eqb neighbours 4 || eqb neighbours 8

-- "threshold t, from 1 to 1,048,577"
unfoldable pub threshold_good : ℕ → Bool
threshold_good threshold = leb 1 threshold && leb threshold top_threshold

-- "each in the range above"
unfoldable pub all_good : List ℕ → Bool
all_good [] = true
all_good (threshold ∷ rest) = threshold_good threshold && all_good rest

-- "A step list has 1 to 256 thresholds, strictly rising, each in the range above"
unfoldable pub steps_good : List ℕ → Bool
steps_good steps = leb 1 (length steps) && leb (length steps) most_steps && (rising 0 steps && all_good steps)

-- "each part 0 to 1,048,577"
unfoldable pub parts_good : Triple → Bool
parts_good t = leb t.area top_threshold && (leb t.height top_threshold && leb t.width top_threshold)

-- "From one step to the next no part falls"
unfoldable pub no_part_falls : Triple → Triple → Bool
no_part_falls low t = leb low.area t.area && (leb low.height t.height && leb low.width t.width)

-- "and at least one rises"
unfoldable pub some_part_rises : Triple → Triple → Bool
some_part_rises low t = ltb low.area t.area || (ltb low.height t.height || ltb low.width t.width)

-- a triple that may follow low; "the first has a part above 0", so it may follow three zeros
unfoldable pub may_follow : Triple → Triple → Bool
may_follow low t = parts_good t && (no_part_falls low t && some_part_rises low t)

-- triples one after the other, the first after low
unfoldable pub rising_triples : Triple → List Triple → Bool
rising_triples low [] = true
rising_triples low (t ∷ rest) = may_follow low t && rising_triples t rest

-- "a step cut short is a breach"
abbrev pub whole_steps : List ℕ → Bool
whole_steps words = eqb (length words % 3) 0

-- a list of triples, lent as words: 1 to 256 steps
unfoldable pub triples_good : List ℕ → Bool
triples_good words =
    (whole_steps words && (leb 1 (length words) && leb (length words) (3 * most_steps))) && rising_triples zeros (triples_in words)

-- a step list of either kind
abbrev pub list_good : Kind → List ℕ → Bool
list_good (Thresholds a) steps = steps_good steps
list_good Triples steps = triples_good steps

-- a step of either kind that an opening may name: "Breaches are 4, and so is opening by three zeros."
abbrev pub step_good : Step → Bool
step_good (Threshold a t) = threshold_good t
step_good (Three t) = may_follow zeros t

-- "A gap number from 0 to 256"
unfoldable pub gap_good : ℕ → Bool
gap_good gap = leb gap most_gap

-- a test on a call, and the cause that applies where it fails
abbrev pub Test : Type 0
Test = Bool × Cause

-- whether a call is accepted, and if not the first cause that applies
abbrev pub Verdict : Type 0
Verdict = Result Unit Cause

-- one test more: it decides where all tests before it held, else the first that failed has decided
unfoldable pub also : Verdict → Test → Verdict
also (Ok done) test = cond test.0 (Ok tt) (Err test.1)
also (Err first) test = Err first

-- the verdict after further tests, in their order
abbrev pub verdict_after : Verdict → List Test → Verdict
verdict_after verdict [] = verdict
verdict_after verdict (test ∷ later) = verdict_after (also verdict test) later

-- a call is judged by its tests in order: the first that fails gives the cause
abbrev pub verdict_of : List Test → Verdict
verdict_of tests = verdict_after (Ok tt) tests

-- "Order for library calls on a picture: 1 to 6", and "17 [..] after 3": the first four, by the grid, the picture's bytes and the attribute.
abbrev pub picture_tests : Grid → ℕ → ℕ → List Test
picture_tests grid bytes attribute =
    (sides_fit grid.width grid.height, Sides)
    ∷ (eqb bytes (pixels grid), PictureLength)
    ∷ (attribute_good attribute, Attribute) ∷ (neighbours_good grid.neighbours, Neighbours)
    ∷ []

-- 5, by the workspace's words
abbrev pub workspace_test : Grid → ℕ → Test
workspace_test grid words = (eqb words (words_a_pixel * pixels grid), Workspace)

-- 6, by the entries of an output
abbrev pub output_test : Grid → ℕ → Test
output_test grid entries = (eqb entries (pixels grid), Output)

-- the tests of a call that sizes a picture, by what it names and the lengths of what it is lent: "19, gap above 256, after 4"
abbrev pub sizing_tests : Grid → ℕ → Kind → List ℕ → ℕ → ℕ → ℕ → ℕ → List Test
sizing_tests grid bytes kind steps gap words residues indices =
    picture_tests grid bytes (list_attribute kind)
    ++ (list_good kind steps, Steps)
    ∷ (gap_good gap, Gap)
    ∷ workspace_test grid words
    ∷ output_test grid residues
    ∷ output_test grid indices
    ∷ []

-- the numbers of the causes that tests judge, in their order
abbrev pub cause_order : List Test → List ℕ
cause_order tests = map (λ (test : Test). number_of test.1) tests

-- "A call is accepted if no cause for refusal applies to it, else refused."
abbrev pub accepted : Verdict → Bool
accepted (Ok done) = true
accepted (Err cause) = false

-- "this paper's number and values for each enum case": the number of an answer, 0 where the call is accepted, which has no value
abbrev pub verdict_numbers : Verdict → List ℕ
verdict_numbers (Ok done) = 0 ∷ []
verdict_numbers (Err cause) = number_of cause ∷ []
