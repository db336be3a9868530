-- The file that spells an attribute and a step list is accepted, and gives them.
use Prim.Native.Nat.{ℕ, suc, ◌-◌, ◌≤◌, ◌<◌}
use mathlib.Core.Path.{◌≡◌, refl, ap, ◌∙◌}
use mathlib.Core.Bool.{Bool, true, not, ◌&&◌, ◌||◌, false≢true}
use mathlib.Core.List.{List, [], ◌∷◌, ◌++◌}
use mathlib.Core.Logic.{◌⊎◌, inl, inr}
use native.Mathlib.Omega.{arith}
use lib.Dec.{eqb, leb}
use lib.ListN.{length}
use borrow.Author.Tests.{leb-true, eqb-true, ne_eqb, not-true}
use Rattle.sets.proofs.Tests.{or_cases}
use Rattle.causes.proofs.Laws.{both_true}
use Rattle.pgm_write.specs.Write.{decimal}
use Rattle.steps.specs.Fields.{all_between, field, starts_with, attribute_of}
use Rattle.steps.specs.Lines.{ends_line, longer, lines, attribute_head, step_head, attribute_line, step_line, step_lines, shaped, well_formed, threshold, thresholds}
use Rattle.causes.specs.Bounds.{top_threshold}
use Rattle.calls.proofs.Accepted.{step_list}
use Rattle.calls.specs.Judging.{attribute_good, threshold_good, all_good, steps_good}
use Rattle.calls.proofs.Accepted.{threshold_some}
use Rattle.steps.specs.Answer.{attribute_in, steps_in, parse_answer}
use Rattle.steps_laws.specs.Spelled.{name_of, spelled_steps, spelled_file, Gives}
use Rattle.steps.proofs.Splitting.{ended_some}
use Rattle.steps_laws.proofs.Digits.{decimal_digits, decimal_back, decimal_number}

-- no byte 10
one_line : List ℕ → Bool
one_line [] = true
one_line (b ∷ s) = not (eqb b 10) && one_line s

lines_split : (line s : List ℕ) → one_line line ≡ true → lines (line ++ 10 ∷ s) ≡ line ∷ lines s
unfolding one_line lines
lines_split [] s e = refl
lines_split (b ∷ line) s e =
    let p = both_true (not (eqb b 10)) (one_line line) e in
    rw (not-true (eqb b 10) p.0) (ap (longer b) (lines_split line s p.1))

one_line_between : (low high : ℕ) (s : List ℕ) → 10 < low → all_between low high s ≡ true → one_line s ≡ true
unfolding one_line all_between
one_line_between low high [] h e = refl
one_line_between low high (b ∷ s) h e =
    let p = both_true (leb low b && leb b high) (all_between low high s) e in
    let lo : low ≤ b = leb-true low b (both_true (leb low b) (leb b high) p.0).0 in
    let n : b ≡ 10 → ⊥ = λ (ten : b ≡ 10). omega arith in
    rw (ne_eqb b 10 n) (one_line_between low high s h p.1)

-- the line that spells a step
module _ (t : ℕ) (good : threshold_good t ≡ true) where
  some : 1 ≤ t
  some = threshold_some t good

  pub threshold_fits : t < 10000000
  unfolding threshold_good
  threshold_fits = omega (arith, leb-true t top_threshold (both_true (leb 1 t) (leb t top_threshold) good).1)

  spelled_line : step_line (step_head ++ decimal 7 t) ≡ true
  unfolding step_line starts_with
  spelled_line = decimal_number t threshold_fits some

  spelled_threshold : threshold (step_head ++ decimal 7 t) ≡ t
  unfolding threshold
  spelled_threshold = decimal_back t threshold_fits

  spelled_one_line : one_line (step_head ++ decimal 7 t) ≡ true
  unfolding one_line
  spelled_one_line = one_line_between 48 57 (decimal 7 t) (omega arith) (decimal_digits t threshold_fits)

-- the lines of a spelled list are step lines with its thresholds
pub record Listed (steps : List ℕ) : Type 0 where
  pub all_steps : step_lines (lines (spelled_steps steps)) ≡ true
  pub thresholds_are : thresholds (lines (spelled_steps steps)) ≡ steps

spelled_listed : (steps : List ℕ) → all_good steps ≡ true → Listed steps
unfolding spelled_steps all_good step_lines thresholds lines
spelled_listed [] e = record { all_steps = refl; thresholds_are = refl }
spelled_listed (t ∷ steps) e =
    let p = both_true (threshold_good t) (all_good steps) e in
    let later = spelled_listed steps p.1 in
    let split = lines_split (step_head ++ decimal 7 t) (spelled_steps steps) (spelled_one_line t p.0) in
    record {
      all_steps = rw (split, spelled_line t p.0) later.all_steps;
      thresholds_are = rw (split, spelled_threshold t p.0, later.thresholds_are);
    }

-- a file ends a line if its end does
pub ends_cons : (b : ℕ) (s : List ℕ) → 0 < length s → ends_line (b ∷ s) ≡ ends_line s
unfolding ends_line
ends_cons b s some =
    let here : suc (length s) - 1 ≡ suc (length s - 1) = omega arith in
    rw here

ends_append : (a s : List ℕ) → ends_line s ≡ true → ends_line (a ++ s) ≡ true
ends_append [] s e = e
ends_append (b ∷ a) s e =
    let later = ends_append a s e in
    ends_cons b (a ++ s) (ended_some (a ++ s) later) ∙ later

ends_spelled : (steps : List ℕ) → ends_line (10 ∷ spelled_steps steps) ≡ true
unfolding spelled_steps ends_line
ends_spelled [] = refl
ends_spelled (t ∷ steps) =
    ends_append (10 ∷ (step_head ++ decimal 7 t)) (10 ∷ spelled_steps steps) (ends_spelled steps)

-- the attribute line
record Named (attribute : ℕ) : Type 0 where
  line : attribute_line (attribute_head ++ name_of attribute) ≡ true
  unbroken : one_line (attribute_head ++ name_of attribute) ≡ true
  back : attribute_of (name_of attribute) ≡ attribute

named : (attribute : ℕ) → attribute_good attribute ≡ true → Named attribute
unfolding attribute_good name_of attribute_line one_line attribute_of starts_with field all_between
named attribute known = go (or_cases (eqb attribute 1 || eqb attribute 2) (eqb attribute 3) known)
  where
    one_or_two : (eqb attribute 1 ≡ true) ⊎ (eqb attribute 2 ≡ true) → Named attribute
    one_or_two (inl e) = rw (eqb-true attribute 1 e) (record { line = refl; unbroken = refl; back = refl })
    one_or_two (inr e) = rw (eqb-true attribute 2 e) (record { line = refl; unbroken = refl; back = refl })

    go : (eqb attribute 1 || eqb attribute 2 ≡ true) ⊎ (eqb attribute 3 ≡ true) → Named attribute
    go (inl e) = one_or_two (or_cases (eqb attribute 1) (eqb attribute 2) e)
    go (inr e) = rw (eqb-true attribute 3 e) (record { line = refl; unbroken = refl; back = refl })

module _ (attribute : ℕ) (steps : List ℕ) (known : attribute_good attribute ≡ true) (good : steps_good steps ≡ true) where
  name : Named attribute
  name = named attribute known

  split : lines (spelled_file attribute steps) ≡ (attribute_head ++ name_of attribute) ∷ lines (spelled_steps steps)
  unfolding spelled_file
  split = lines_split (attribute_head ++ name_of attribute) (spelled_steps steps) name.unbroken

  listed : Listed steps
  listed = spelled_listed steps (step_list steps good).each_good

  ended : ends_line (spelled_file attribute steps) ≡ true
  unfolding spelled_file
  ended = ends_append (attribute_head ++ name_of attribute) (10 ∷ spelled_steps steps) (ends_spelled steps)

  spelled_shape : well_formed (spelled_file attribute steps) ≡ true
  unfolding well_formed shaped
  spelled_shape = rw (ended, split, name.line, listed.all_steps)

  attribute_back : attribute_in (spelled_file attribute steps) ≡ attribute
  unfolding attribute_in
  attribute_back = rw split name.back

  steps_back : steps_in (spelled_file attribute steps) ≡ steps
  unfolding steps_in
  steps_back = rw (split, listed.thresholds_are)

  pub spelled_gives : Gives (spelled_file attribute steps) attribute steps
  unfolding parse_answer attribute_good
  spelled_gives =
      let n : attribute ≡ 0 → ⊥ = λ (e : attribute ≡ 0). false≢true (rw e at known) in
      record {
        answer = rw (spelled_shape, attribute_back, ne_eqb attribute 0 n, steps_back, good);
        listed = steps_back;
      }
