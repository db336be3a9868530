-- What an answer's numbers tell, and what an accepted steps file gives: an attribute, a step list, and where its thresholds stand in the
-- lent steps.
use Prim.Native.Nat.{ℕ, ◌≤◌}
use mathlib.Core.Path.{◌≡◌, ◌∙◌, ap}
use mathlib.Core.Bool.{Bool, true, false, cond, not}
use mathlib.Core.List.{List, ◌++◌}
use native.Mathlib.Nat.{zero-add}
use native.Mathlib.Omega.{arith}
use lib.Dec.{eqb}
use lib.ListN.{length, drop}
use lib.Seq.{sets-eq}
use borrow.Author.Tests.{not-true, eqb-false}
use Rattle.causes.specs.Causes.{must}
use Rattle.causes.specs.declared.Cause.{Cause}
use Rattle.causes.specs.declared.Cause.TheVariants.{Attribute, Steps as BadSteps, StepsFile}
use Rattle.causes.proofs.Refusing.{must_passed}
use Rattle.causes.proofs.Numbers.{number_determined}
use Rattle.steps.specs.Fields.{same, area, height, width, attribute_of}
use Rattle.steps.specs.Lines.{lines, word_on, well_formed}
use Rattle.causes.specs.Bounds.{most_steps}
use Rattle.calls.specs.Judging.{steps_good}
use Rattle.calls.proofs.Accepted.{step_list}
use Rattle.steps.specs.Answer.{attribute_in, steps_in, parsed_steps, parse_answer, parsed_numbers, steps_after}
use Rattle.steps.specs.declared.Parsed.{Parsed}
use Rattle.std.specs.Prelude.{Result, Ok, Err}

same_parsed : (p q : Parsed) → p.attribute ≡ q.attribute → p.count ≡ q.count → p ≡ q
same_parsed p q a c = λ i. record { attribute = a i; count = c i }

-- the number and the values of an answer determine it: a promise of them is one of the answer
pub parsed_determined : (r s : Result Parsed Cause) → parsed_numbers r ≡ parsed_numbers s → r ≡ s
parsed_determined (Ok p) (Ok q) e = ap Ok (same_parsed p q (cc e) (cc e))
parsed_determined (Ok p) (Err d) e = absurd (omega (arith, ap length e))
parsed_determined (Err c) (Ok q) e = absurd (omega (arith, ap length e))
parsed_determined (Err c) (Err d) e = ap Err (number_determined c d (cc e))

-- a test that did not refuse
must_steps : (b : Bool) (cause : Cause) (answer : Result Parsed Cause) (attribute count : ℕ) → must Err b cause answer ≡ parsed_steps attribute count → (b ≡ true) × (answer ≡ parsed_steps attribute count)
must_steps b cause answer attribute count e =
    must_passed Err b cause answer (parsed_steps attribute count) (λ f. let z : ◌≡◌ {A = ℕ} 0 1 = cc in omega arith) e

attribute_most : (word : List ℕ) → attribute_of word ≤ 3
unfolding attribute_of
attribute_most word = go (same area word) (same height word) (same width word)
  where
    go : (a h w : Bool) → cond a 1 (cond h 2 (cond w 3 0)) ≤ 3
    go true h w = omega arith
    go false true w = omega arith
    go false false true = omega arith
    go false false false = omega arith

pub record Accepted (file : List ℕ) (attribute count : ℕ) : Type 0 where
  pub shape : well_formed file ≡ true
  pub named : attribute ≡ attribute_in file
  pub some_attribute : 1 ≤ attribute
  pub attribute_within : attribute ≤ 3
  pub step_list : steps_good (steps_in file) ≡ true
  pub total : count ≡ length (steps_in file)
  pub few_steps : count ≤ most_steps

pub accepted_file : (file : List ℕ) (attribute count : ℕ) → parse_answer file ≡ parsed_steps attribute count → Accepted file attribute count
unfolding parse_answer attribute_in
accepted_file file attribute count e =
    let judged : Result Parsed Cause = must Err (steps_good (steps_in file)) BadSteps (parsed_steps (attribute_in file) (length (steps_in file))) in
    let a = must_steps (well_formed file) StepsFile (must Err (not (eqb (attribute_in file) 0)) Attribute judged) attribute count e in
    let b = must_steps (not (eqb (attribute_in file) 0)) Attribute judged attribute count a.1 in
    let c = must_steps (steps_good (steps_in file)) BadSteps (parsed_steps (attribute_in file) (length (steps_in file))) attribute count b.1 in
    let answer : parsed_steps (attribute_in file) (length (steps_in file)) ≡ parsed_steps attribute count = c.1 in
    let same_attribute : attribute ≡ attribute_in file = cc (ap parsed_numbers answer) in
    let as_many : count ≡ length (steps_in file) = cc (ap parsed_numbers answer) in
    let known = eqb-false (attribute_in file) 0 (not-true (eqb (attribute_in file) 0) b.0) in
    record {
      shape = a.0;
      named = same_attribute;
      some_attribute = omega (arith, known);
      attribute_within = omega (arith, attribute_most (word_on (lines file)));
      step_list = c.0;
      total = as_many;
      few_steps = omega (arith, (step_list (steps_in file) c.0).not_more);
    }

-- the first `count` of 256 lent entries are the listed thresholds, the others as they were
pub accepted_steps : (file lent : List ℕ) (attribute count : ℕ) → length lent ≡ most_steps → parse_answer file ≡ parsed_steps attribute count → steps_after file lent ≡ steps_in file ++ drop count lent
unfolding steps_after
accepted_steps file lent attribute count size e =
    let a = accepted_file file attribute count e in
    let few : length (steps_in file) ≤ length lent = omega (arith, a.few_steps, a.total) in
    rw (e, a.total) (sets-eq (steps_in file) lent 0 (omega arith) ∙ rw (zero-add (length (steps_in file))))
