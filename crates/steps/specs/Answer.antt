-- What parsing a steps file answers, and what the lent steps then hold.
use Rattle.std.specs.Prelude.{ℕ, not, List, [], ◌∷◌, length, eqb, Result, Ok, Err}
use Rattle.std.proofs.lemmas.List.Edits.{sets}
use Rattle.causes.specs.Causes.{number_of, must}
use Rattle.causes.specs.declared.Cause.{Cause}
use Rattle.causes.specs.declared.Cause.TheVariants.{Attribute, Steps as BadSteps, StepsFile}
use Rattle.steps.specs.Fields.{attribute_of}
use Rattle.steps.specs.Lines.{lines, well_formed, word_on, listed}
use Rattle.calls.specs.Judging.{steps_good}
use Rattle.steps.specs.declared.Parsed.{Parsed}

-- the attribute that a file names, and the thresholds that it lists, in its order
unfoldable pub attribute_in : List ℕ → ℕ
attribute_in file = attribute_of (word_on (lines file))

unfoldable pub steps_in : List ℕ → List ℕ
steps_in file = listed (lines file)

-- an answer that is an attribute and how many steps there are
abbrev pub parsed_steps : ℕ → ℕ → Result Parsed Cause
parsed_steps attribute count = Ok (record { attribute = attribute; count = count })

-- The program's order "13, 3, 4": the file's shape, its word, its steps
unfoldable pub parse_answer : List ℕ → Result Parsed Cause
parse_answer file =
    must Err (well_formed file) StepsFile
    (must Err (not (eqb (attribute_in file) 0)) Attribute
    (must Err (steps_good (steps_in file)) BadSteps (parsed_steps (attribute_in file) (length (steps_in file)))))

-- "this paper's number and values": the number of an answer, 0 where nothing is refused, then its values
abbrev pub parsed_numbers : Result Parsed Cause → List ℕ
parsed_numbers (Ok p) = 0 ∷ p.attribute ∷ p.count ∷ []
parsed_numbers (Err cause) = number_of cause ∷ []

-- the thresholds are stored from the first entry on, and the entries after them stay; a refusal leaves every entry as it was
abbrev pub steps_with : Result Parsed Cause → List ℕ → List ℕ → List ℕ
steps_with (Ok p) thresholds steps = sets steps 0 thresholds
steps_with (Err cause) thresholds steps = steps

unfoldable pub steps_after : List ℕ → List ℕ → List ℕ
steps_after file steps = steps_with (parse_answer file) (steps_in file) steps
