-- The steps file that spells an attribute and a step list, and what a file gives.
use Rattle.std.specs.Prelude.{ℕ, ◌≡◌, true, cond, List, [], ◌∷◌, ◌++◌, eqb, length}
use Rattle.pgm_write.specs.Write.{decimal}
use Rattle.calls.specs.Judging.{attribute_good, steps_good}
use Rattle.steps.specs.Fields.{area, height, width}
use Rattle.steps.specs.Lines.{attribute_head, step_head}
use Rattle.steps.specs.Answer.{steps_in, parsed_steps, parse_answer}

-- "1 area (pixels), 2 height .., 3 width"
unfoldable pub name_of : ℕ → List ℕ
name_of attribute = cond (eqb attribute 1) area (cond (eqb attribute 2) height width)

-- "lines `step`, tab, a number .. Each line ends with byte 10."
unfoldable pub spelled_steps : List ℕ → List ℕ
spelled_steps [] = []
spelled_steps (t ∷ steps) = (step_head ++ decimal 7 t) ++ 10 ∷ spelled_steps steps

-- "the line `attribute`, tab, `area`, `height` or `width` .., then lines `step`"
unfoldable pub spelled_file : ℕ → List ℕ → List ℕ
spelled_file attribute steps = (attribute_head ++ name_of attribute) ++ 10 ∷ spelled_steps steps

-- a file spells an attribute and a step list
pub record Spells (file : List ℕ) (attribute : ℕ) (steps : List ℕ) : Type 0 where
  pub known : attribute_good attribute ≡ true
  pub step_list : steps_good steps ≡ true
  pub bytes : file ≡ spelled_file attribute steps

-- a file is accepted, and gives this attribute and these steps
pub record Gives (file : List ℕ) (attribute : ℕ) (steps : List ℕ) : Type 0 where
  pub answer : parse_answer file ≡ parsed_steps attribute (length steps)
  pub listed : steps_in file ≡ steps
