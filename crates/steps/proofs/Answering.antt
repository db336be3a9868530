-- How the parts of a file and the tests of parsing decide its answer, and what the lent steps then hold.
use Prim.Native.Nat.{ℕ}
use mathlib.Core.Path.{◌≡◌, refl, sym, ◌∙◌, ap}
use mathlib.Core.Bool.{Bool, true, false, cond, false≢true}
use mathlib.Core.List.{List, [], ◌∷◌}
use lib.Dec.{eqb}
use lib.ListN.{length, drop}
use lib.Seq.{sets}
use Rattle.std.specs.Prelude.{Option, Some, None, Result, Ok, Err}
use Rattle.sets.proofs.Tests.{and_false}
use Rattle.causes.specs.declared.Cause.{Cause}
use Rattle.causes.specs.declared.Cause.TheVariants.{Attribute, Steps as BadSteps, StepsFile}
use Rattle.steps.specs.Fields.{attribute_of}
use Rattle.steps.specs.Lines.{ends_line, lines, attribute_line, step_lines, shaped, well_formed, thresholds, Parts}
use Rattle.calls.specs.Judging.{steps_good, also, verdict_of}
use Rattle.std.specs.Option.{ok_or, MatchOption}
use Rattle.std.specs.Result.{IsErr, IsErrAnd}
use native.Mathlib.Omega.{arith}
use Rattle.steps.specs.Answer.{attribute_in, steps_in, parsed_steps, parse_answer, parsed_numbers, steps_after}
use Rattle.steps.specs.declared.Parsed.{Parsed}

-- the parts of a file, by its last byte, its first line and the others
module _ (file : List ℕ) where
  pub not_ended : ends_line file ≡ false → well_formed file ≡ false
  unfolding well_formed
  not_ended e = rw e

  pub no_line : lines file ≡ [] → well_formed file ≡ false
  unfolding well_formed shaped
  no_line e = rw (e, and_false)

  module _ (first : List ℕ) (rest : List ℕ) (splits : lines file ≡ first ∷ lines rest) where
    pub first_not : attribute_line first ≡ false → well_formed file ≡ false
    unfolding well_formed shaped
    first_not e = rw (splits, e, and_false)

    pub others_not : step_lines (lines rest) ≡ false → well_formed file ≡ false
    unfolding well_formed shaped
    others_not e = rw (splits, e, and_false, and_false)

    pub parted : ends_line file ≡ true → (attribute_line first ≡ true) → (word : List ℕ) → word ≡ drop 10 first → step_lines (lines rest) ≡ true → Parts file word rest
    unfolding well_formed shaped
    parted ended line word is steps =
        record {
          shape = rw (ended, splits, line, steps);
          word_is = rw splits is;
          steps = record { all_steps = steps };
          listed_are = rw splits;
        }

-- what holds of the answer and the lent steps after a call
abbrev pub Called : List ℕ → List ℕ → Result Parsed Cause → List ℕ → Type 0
Called file lent answer now =
    (parsed_numbers answer ≡ parsed_numbers (parse_answer file)) × (now ≡ steps_after file lent)

pub refused_kept : (file lent : List ℕ) {cause : Cause} → Err cause ≡ parse_answer file → Called file lent (Err cause) lent
unfolding steps_after
refused_kept file lent e = (ap parsed_numbers e, rw (← e))

pub malformed : (file : List ℕ) → well_formed file ≡ false → Err StepsFile ≡ parse_answer file
unfolding parse_answer
malformed file e = rw e

module _ {file word rest : List ℕ} (parts : Parts file word rest) where
  attribute_first : attribute_in file ≡ attribute_of word
  unfolding attribute_in
  attribute_first = rw parts.word_is

  steps_others : steps_in file ≡ thresholds (lines rest)
  unfolding steps_in
  steps_others = sym parts.listed_are

  pub unknown_word : eqb (attribute_of word) 0 ≡ true → Err Attribute ≡ parse_answer file
  unfolding parse_answer
  unknown_word e = rw (parts.shape, attribute_first, e)

  module _ (known : eqb (attribute_of word) 0 ≡ false) where
    pub bad_steps : steps_good (thresholds (lines rest)) ≡ false → Err BadSteps ≡ parse_answer file
    unfolding parse_answer
    bad_steps e = rw (parts.shape, attribute_first, known, steps_others, e)

    module _ (good : steps_good (thresholds (lines rest)) ≡ true) (attribute count : ℕ) (is : attribute ≡ attribute_of word) (total : count ≡ length (thresholds (lines rest))) where
      accepted : parsed_steps attribute count ≡ parse_answer file
      unfolding parse_answer
      accepted = rw (parts.shape, attribute_first, known, steps_others, good, ← is, ← total)

      pub accepted_stored : (lent now : List ℕ) → now ≡ sets lent 0 (thresholds (lines rest)) → Called file lent (parsed_steps attribute count) now
      unfolding steps_after
      accepted_stored lent now e = (ap parsed_numbers accepted, rw (← accepted, steps_others) e)

-- what `?` tells of a test that failed: the facts of its other side, and the cause
pub refused_parts : {A : Type 0} (No : Type 0) (Yes : A → Type 0) (o : Option A) (err e : Cause) → Err e ≡ ok_or o err → MatchOption o No Yes → No × (e ≡ err)
refused_parts No Yes None err e f m = (m, cc)
refused_parts No Yes (Some x) err e f m = absurd (let z : ◌≡◌ {A = ℕ} 0 1 = cc in omega arith)

pub unnamed : (a : ℕ) (o : Option ℕ) (e : Cause) → Err e ≡ ok_or o Attribute → o ≡ cond (eqb a 0) None (Some a) → (eqb a 0 ≡ true) × (e ≡ Attribute)
unnamed a None e f is = go (eqb a 0) is
  where
    go : (t : Bool) → None ≡ cond t None (Some a) → (t ≡ true) × (e ≡ Attribute)
    go true g = (refl, cc)
    go false g = absurd (let z : ◌≡◌ {A = ℕ} 0 1 = cc in omega arith)
unnamed a (Some x) e f is = absurd (let z : ◌≡◌ {A = ℕ} 0 1 = cc in omega arith)

pub named_some : (a b : ℕ) → Some b ≡ cond (eqb a 0) None (Some a) → (eqb a 0 ≡ false) × (b ≡ a)
named_some a b e = go (eqb a 0) e
  where
    go : (t : Bool) → Some b ≡ cond t None (Some a) → (t ≡ false) × (b ≡ a)
    go true f = absurd (let z : ◌≡◌ {A = ℕ} 0 1 = cc in omega arith)
    go false f = (refl, cc)

pub check_failed : (good : Bool) (cause e : Cause) → Err e ≡ verdict_of ((good, cause) ∷ []) → (good ≡ false) × (e ≡ cause)
unfolding also
check_failed true cause e f = absurd (let z : ◌≡◌ {A = ℕ} 0 1 = cc in omega arith)
check_failed false cause e f = (refl, cc)

pub check_passed : (good : Bool) (cause : Cause) → Ok tt ≡ verdict_of ((good, cause) ∷ []) → good ≡ true
unfolding also
check_passed true cause f = refl
check_passed false cause f = absurd (let z : ◌≡◌ {A = ℕ} 0 1 = cc in omega arith)

-- the refusal that `?` hands on
pub told : (r : Result Parsed Cause) (e cause : Cause) (numbers : List ℕ) → IsErr r × IsErrAnd r (λ x. x ≡ e) → e ≡ cause → parsed_numbers (Err cause) ≡ numbers → parsed_numbers r ≡ numbers
told (Ok p) e cause numbers h is f = absurd (false≢true h.0)
told (Err d) e cause numbers h is f = ap (λ (x : Cause). parsed_numbers (Err x)) (h.1 ∙ is) ∙ f
