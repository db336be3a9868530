-- What holds of a field, of a line and of the lines, where the tests of their shape hold.
use Prim.Native.Nat.{ℕ, ◌-◌, ◌≤◌}
use mathlib.Core.Path.{◌≡◌, refl, ap}
use mathlib.Core.Bool.{true, false, ◌&&◌}
use mathlib.Core.List.{List, [], ◌∷◌}
use lib.Dec.{eqb, leb}
use lib.ListN.{length, take, drop}
use borrow.Author.Tests.{leb-true}
use Rattle.std.specs.List.{list_all}
use Rattle.std.specs.Cmp.Lexicographic.{pointwise}
use Rattle.causes.proofs.Laws.{both_true}
use Rattle.causes.proofs.Lists.{to_end}
use Rattle.steps.specs.Fields.{all_between, field, is_number, no_leading_zero, starts_with, value_after}
use Rattle.steps.specs.Lines.{attribute_head, step_head, attribute_line, step_line, step_lines, threshold, StepLines}
use Rattle.steps.proofs.Scanning.{starts_long, starts_stripped}

pub field_some : (longest low high : ℕ) (s : List ℕ) → field longest low high s ≡ true → 1 ≤ length s
unfolding field
field_some longest low high s e =
    let f = both_true (leb 1 (length s) && leb (length s) longest) (all_between low high s) e in
    leb-true 1 (length s) (both_true (leb 1 (length s)) (leb (length s) longest) f.0).0

-- a step line, parted after its head
module _ (line : List ℕ) (step : step_line line ≡ true) where
  pub step_line_long : 5 ≤ length line
  unfolding step_line
  step_line_long = starts_long step_head line (both_true (starts_with step_head line) (is_number (drop 5 line)) step).0

  pub step_line_digits : field 7 48 57 (take (length line - 5) (drop 5 line)) ≡ true
  unfolding step_line
  step_line_digits =
      rw (to_end line 5)
      (both_true
      (field 7 48 57 (drop 5 line))
      (no_leading_zero (drop 5 line))
      (both_true (starts_with step_head line) (is_number (drop 5 line)) step).1
      ).0

pub threshold_value : (line : List ℕ) → value_after 0 (take (length line - 5) (drop 5 line)) ≡ threshold line
unfolding threshold
threshold_value line = rw (to_end line 5)

-- a line, by what `strip_prefix` finds of its head
module _ (line : List ℕ) where
  pub attribute_line_not : pointwise eqb (take 10 line) attribute_head ≡ false → attribute_line line ≡ false
  unfolding attribute_line
  attribute_line_not e = rw (← starts_stripped attribute_head line, e)

  pub attribute_line_word : (word : List ℕ) → pointwise eqb (take 10 line) attribute_head ≡ true → word ≡ drop 10 line → field 8 97 122 word ≡ attribute_line line
  unfolding attribute_line
  attribute_line_word word e is = rw (is, ← starts_stripped attribute_head line, e)

  pub step_line_not : pointwise eqb (take 5 line) step_head ≡ false → false ≡ step_line line
  unfolding step_line
  step_line_not e = rw (← starts_stripped step_head line, e)

  pub step_line_number : (number : List ℕ) → pointwise eqb (take 5 line) step_head ≡ true → number ≡ drop 5 line → is_number number ≡ step_line line
  unfolding step_line
  step_line_number number e is = rw (is, ← starts_stripped step_head line, e)

-- the lines, as `all` tests them
pub step_lines_all : (rest : List (List ℕ)) → list_all step_line rest ≡ step_lines rest
unfolding step_lines
step_lines_all [] = refl
step_lines_all (line ∷ rest) = ap (λ later. step_line line && later) (step_lines_all rest)

-- the first of the step lines that are left, and those after it
module _ {line : List ℕ} {rest : List (List ℕ)} where
  here_and_after : StepLines (line ∷ rest) → (step_line line ≡ true) × (step_lines rest ≡ true)
  unfolding step_lines
  here_and_after steps = both_true (step_line line) (step_lines rest) steps.all_steps

  pub step_here : StepLines (line ∷ rest) → step_line line ≡ true
  step_here steps = (here_and_after steps).0

  pub step_later : StepLines (line ∷ rest) → StepLines rest
  step_later steps = record { all_steps = (here_and_after steps).1 }
