-- The numbers of the step lines, one line after the other: judged as a step list, and stored.
use Prim.Native.Nat.{ℕ, suc, ◌+◌, ◌≤◌, ◌<◌}
use mathlib.Core.Path.{◌≡◌, refl, sym, ◌∙◌}
use mathlib.Core.Bool.{Bool, true, false, not, ◌&&◌}
use mathlib.Core.List.{List, [], ◌∷◌}
use native.Mathlib.Numerals.{add-one}
use native.Mathlib.Nat.{add-zero, zero-add}
use native.Mathlib.Omega.{arith}
use lib.Dec.{eqb, leb}
use lib.ListN.{length, set}
use lib.Seq.{sets}
use borrow.Author.Tests.{le-leb, lt-leb, lt-ltb, le-ltb, eqb-true, eqb-false}
use Rattle.sets.proofs.Tests.{and_false}
use Rattle.steps.specs.Lines.{threshold, thresholds, StepLines}
use Rattle.causes.specs.Bounds.{most_steps}
use Rattle.calls.specs.Judging.{threshold_good, all_good, steps_good}
use Rattle.opening.specs.Residue.{rising}
use Rattle.steps.proofs.Shaping.{step_later}

-- whether thresholds after `count` others, the last of which is low, make a step list
unfoldable pub rest_good : ℕ → ℕ → List ℕ → Bool
rest_good low count ts = leb 1 (count + length ts) && leb (count + length ts) most_steps && (rising low ts && all_good ts)

rest_good_all : (ts : List ℕ) → rest_good 0 0 ts ≡ steps_good ts
unfolding rest_good steps_good
rest_good_all ts = rw (zero-add (length ts))

rest_good_none : (low count : ℕ) → count ≤ most_steps → not (eqb count 0) ≡ rest_good low count []
unfolding rest_good rising all_good
rest_good_none low count few = rw (add-zero count, le-leb count most_steps few) (go (eqb count 0) refl)
  where
    go : (t : Bool) → eqb count 0 ≡ t → not t ≡ (leb 1 count && true && true)
    go true e = let z : count ≡ 0 = eqb-true count 0 e in rw z
    go false e =
        let some : 1 ≤ count = omega (arith, eqb-false count 0 e) in
        rw (le-leb 1 count some)

module _ (low count t : ℕ) (ts : List ℕ) where
  rest_good_full : count ≡ most_steps → false ≡ rest_good low count (t ∷ ts)
  unfolding rest_good
  rest_good_full e =
      let many : most_steps < count + suc (length ts) = omega arith in
      rw (lt-leb (count + suc (length ts)) most_steps many, and_false)

  rest_good_falls : t ≤ low → false ≡ rest_good low count (t ∷ ts)
  unfolding rest_good rising
  rest_good_falls h = rw (le-ltb low t h, and_false)

  module _ (above : low < t) where
    rest_good_outside : threshold_good t ≡ false → false ≡ rest_good low count (t ∷ ts)
    unfolding rest_good rising all_good
    rest_good_outside h = rw (lt-ltb low t above, h, and_false, and_false)

    rest_good_more : threshold_good t ≡ true → rest_good low count (t ∷ ts) ≡ rest_good t (count + 1) ts
    unfolding rest_good rising all_good
    rest_good_more h =
        let e : count + suc (length ts) ≡ count + 1 + length ts = omega arith in
        rw (lt-ltb low t above, h, e)

-- the steps before those that are left are good and rise, the last of them to low: what is left to judge are the others
pub record JudgedSoFar (all left : List (List ℕ)) (low count : ℕ) : Type 0 where
  pub steps : StepLines left
  pub few : count ≤ most_steps
  pub rest : rest_good low count (thresholds left) ≡ steps_good (thresholds all)

pub judged_none : (all : List (List ℕ)) → StepLines all → JudgedSoFar all all 0 0
judged_none all steps = record { steps = steps; few = omega arith; rest = rest_good_all (thresholds all) }

pub judged_end : {all left : List (List ℕ)} {low count : ℕ} → JudgedSoFar all left low count → left ≡ [] → not (eqb count 0) ≡ steps_good (thresholds all)
unfolding thresholds
judged_end {low = low} {count = count} so_far e = rest_good_none low count so_far.few ∙ (rw e at so_far.rest)

module _ {all : List (List ℕ)} {line : List ℕ} {left : List (List ℕ)} {low count : ℕ} (so_far : JudgedSoFar all (line ∷ left) low count) (t : ℕ) (is : t ≡ threshold line) where
  rest_here : rest_good low count (t ∷ thresholds left) ≡ steps_good (thresholds all)
  unfolding thresholds
  rest_here = rw is so_far.rest

  pub judged_full : count ≡ most_steps → false ≡ steps_good (thresholds all)
  judged_full e = rest_good_full low count t (thresholds left) e ∙ rest_here

  pub judged_falls : t ≤ low → false ≡ steps_good (thresholds all)
  judged_falls h = rest_good_falls low count t (thresholds left) h ∙ rest_here

  module _ (above : low < t) where
    pub judged_outside : threshold_good t ≡ false → false ≡ steps_good (thresholds all)
    judged_outside h = rest_good_outside low count t (thresholds left) above h ∙ rest_here

    pub judged_more : (count ≡ most_steps → ⊥) → threshold_good t ≡ true → JudgedSoFar all left t (count + 1)
    judged_more n h =
        record {
          steps = step_later so_far.steps;
          few = omega (arith, so_far.few);
          rest = sym (rest_good_more low count t (thresholds left) above h) ∙ rest_here;
        }

-- the thresholds before those that are left are stored, `count` of them: storing the others ends with all stored
pub record StoredSoFar (all left : List (List ℕ)) (count : ℕ) (lent now : List ℕ) : Type 0 where
  pub steps : StepLines left
  pub counted : count + length (thresholds left) ≡ length (thresholds all)
  pub stored : sets now count (thresholds left) ≡ sets lent 0 (thresholds all)

module _ {all left : List (List ℕ)} {count : ℕ} {lent now : List ℕ} (so_far : StoredSoFar all left count lent now) (e : left ≡ []) where
  pub stored_total : count ≡ length (thresholds all)
  unfolding thresholds
  stored_total = sym (add-zero count) ∙ (rw e at so_far.counted)

  pub stored_all : now ≡ sets lent 0 (thresholds all)
  unfolding thresholds
  stored_all = rw e at so_far.stored

module _ {all : List (List ℕ)} {line : List ℕ} {left : List (List ℕ)} {count : ℕ} {lent now : List ℕ} (so_far : StoredSoFar all (line ∷ left) count lent now) where
  pub place_left : count < length (thresholds all)
  unfolding thresholds
  place_left = omega (arith, so_far.counted)

  pub stored_more : (t : ℕ) → t ≡ threshold line → StoredSoFar all left (count + 1) lent (set now count t)
  unfolding thresholds
  stored_more t is =
      record {
        steps = step_later so_far.steps;
        counted = omega (arith, so_far.counted);
        stored = rw (is, add-one count) so_far.stored;
      }
