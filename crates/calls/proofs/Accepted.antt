-- The tests of each call: the order of their causes, and what holds of a call that is accepted, since it passed every one. Assumes nothing.
use Rattle.std.specs.Prelude.{Ok, Err}
use Rattle.calls.specs.Judging.{Verdict}
use Prim.Native.Nat.{ℕ, ◌*◌, ◌≤◌}
use mathlib.Core.Bool.{true, false, ◌&&◌}
use mathlib.Core.List.{List, [], ◌∷◌}
use mathlib.Core.Path.{◌≡◌, refl}
use native.Mathlib.Omega.{arith}
use lib.Dec.{leb}
use lib.IntN.{ℤ}
use lib.ListN.{length}
use borrow.Author.Tests.{leb-true, eqb-true}
use Rattle.sets.proofs.Tests.{and_left, and_right}
use Rattle.opening.specs.Residue.{rising}
use Rattle.grid.specs.Pixels.{pixels}
use Rattle.grid.specs.declared.Grid.{Grid}
use Rattle.causes.specs.Bounds.{top_threshold, most_steps, most_gap, words_a_pixel}
use Rattle.causes.specs.Sides.{sides_fit}
pub use Rattle.causes.proofs.Laws.{Bounded, bounded}
use Rattle.causes.specs.declared.Cause.{Cause}
use Rattle.calls.specs.Judging.{threshold_good, all_good, steps_good, step_good, list_good, gap_good, Test, also, verdict_after, verdict_of, cause_order, accepted}
use Rattle.calls.specs.Calls.{BuildCall, build_tests, build_verdict, OpenCall, open_tests, open_verdict, MapCall, map_tests, map_verdict, kept_by, map_residue, map_index, residue_map, index_map}
use Rattle.calls.specs.Combined.{combined_tests}

-- "Order for library calls on a picture: 1 to 6", "17, neighbourhood neither 4 nor 8, after 3", "19, gap above 256, after 4": the causes of each call
-- by their numbers, of which it has those that can apply to it
pub build_order : (call : BuildCall) → cause_order (build_tests call) ≡ 1 ∷ 2 ∷ 3 ∷ 17 ∷ 5 ∷ []
build_order call = refl

pub open_order : (call : OpenCall) → cause_order (open_tests call) ≡ 1 ∷ 2 ∷ 3 ∷ 17 ∷ 4 ∷ 5 ∷ 6 ∷ []
open_order call = refl

-- 6 for the residue map, then for the index map
pub map_order : (call : MapCall) → cause_order (map_tests call) ≡ 1 ∷ 2 ∷ 3 ∷ 17 ∷ 4 ∷ 19 ∷ 5 ∷ 6 ∷ 6 ∷ []
map_order call = refl

-- and for the contrast map
pub combined_order :
    (call : MapCall) (contrast : List ℤ) → cause_order (combined_tests call contrast) ≡ 1 ∷ 2 ∷ 3 ∷ 17 ∷ 4 ∷ 19 ∷ 5 ∷ 6 ∷ 6 ∷ 6 ∷ []
combined_order call contrast = refl

-- a threshold is from 1 on
pub threshold_some : (t : ℕ) → threshold_good t ≡ true → 1 ≤ t
unfolding threshold_good
threshold_some t good = leb-true 1 t (and_left (leb 1 t) _ good)

-- and at most the top threshold
pub threshold_top : (t : ℕ) → threshold_good t ≡ true → t ≤ top_threshold
unfolding threshold_good
threshold_top t good = leb-true t top_threshold (and_right (leb 1 t) _ good)

-- a step list
pub record StepList (steps : List ℕ) : Type 0 where
  pub not_more : length steps ≤ most_steps
  pub rises : rising 0 steps ≡ true
  pub each_good : all_good steps ≡ true

pub step_list : (steps : List ℕ) → steps_good steps ≡ true → StepList steps
unfolding steps_good
step_list steps good =
    let l : ℕ = length steps in
    let counted : (leb 1 l && leb l most_steps) ≡ true =
    and_left (leb 1 l && leb l most_steps) (rising 0 steps && all_good steps) good in
    let listed : (rising 0 steps && all_good steps) ≡ true =
    and_right (leb 1 l && leb l most_steps) (rising 0 steps && all_good steps) good in
    record {
      not_more = leb-true l most_steps (and_right (leb 1 l) (leb l most_steps) counted);
      rises = and_left (rising 0 steps) (all_good steps) listed;
      each_good = and_right (rising 0 steps) (all_good steps) listed;
    }

-- every test of a list holds
unfoldable pub AllHold : List Test → Type 0
AllHold [] = Unit {0}
AllHold (test ∷ later) = (test.0 ≡ true) × AllHold later

not_refused : (cause : Cause) → ◌≡◌ {A = Verdict} (Err cause) (Ok tt) → ⊥
not_refused cause e = let clash : ◌≡◌ {A = ℕ} 0 1 = cc in omega arith

-- no test takes a refusal back
refused_on : (cause : Cause) (tests : List Test) → verdict_after (Err cause) tests ≡ Ok tt → ⊥
unfolding also
refused_on cause [] e = not_refused cause e
refused_on cause (test ∷ later) e = refused_on cause later e

-- one test more: where it is accepted it was before, and the test holds
pub also_accepted : (verdict : Verdict) (test : Test) → also verdict test ≡ Ok tt → (verdict ≡ Ok tt) × (test.0 ≡ true)
unfolding also
also_accepted (Ok done) (true, cause) e = (refl, refl)
also_accepted (Ok done) (false, cause) e = absurd (not_refused cause e)
also_accepted (Err first) test e = absurd (not_refused first e)

-- a call that is accepted passes every test
pub all_hold : (tests : List Test) → verdict_of tests ≡ Ok tt → AllHold tests
unfolding AllHold also
all_hold [] e = tt
all_hold ((true, cause) ∷ later) e = (refl, all_hold later e)
all_hold ((false, cause) ∷ later) e = absurd (refused_on cause later e)

-- what an accepted call has passed whatever else it names
pub record Passed (grid : Grid) (bytes words : ℕ) : Type 0 where
  pub sides : sides_fit grid.width grid.height ≡ true
  pub a_byte_each : bytes ≡ pixels grid
  pub words_each : words ≡ words_a_pixel * pixels grid

pub build_passed : (call : BuildCall) → build_verdict call ≡ Ok tt → Passed call.grid (length call.picture) (length call.workspace)
unfolding AllHold
build_passed call ok =
    let h = all_hold (build_tests call) ok in
    record { sides = h.0; a_byte_each = eqb-true _ _ h.1.0; words_each = eqb-true _ _ h.1.1.1.1.0 }

pub record OpenPassed (call : OpenCall) : Type 0 where
  pub common : Passed call.grid (length call.picture) (length call.workspace)
  pub step : step_good call.step ≡ true
  pub output : length call.output ≡ pixels call.grid

pub open_passed : (call : OpenCall) → open_verdict call ≡ Ok tt → OpenPassed call
unfolding AllHold
open_passed call ok =
    let h = all_hold (open_tests call) ok in
    let named = h.1.1.1.1 in
    record {
      common = record { sides = h.0; a_byte_each = eqb-true _ _ h.1.0; words_each = eqb-true _ _ named.1.0 };
      step = named.0;
      output = eqb-true _ _ named.1.1.0;
    }

pub record MapPassed (call : MapCall) : Type 0 where
  pub common : Passed call.grid (length call.picture) (length call.workspace)
  pub steps : list_good call.kind call.steps ≡ true
  pub gap : call.gap ≤ most_gap
  pub residue : length call.residue ≡ pixels call.grid
  pub index : length call.index ≡ pixels call.grid

pub map_passed : (call : MapCall) → map_verdict call ≡ Ok tt → MapPassed call
unfolding AllHold gap_good
map_passed call ok =
    let h = all_hold (map_tests call) ok in
    let named = h.1.1.1.1 in
    record {
      common = record { sides = h.0; a_byte_each = eqb-true _ _ h.1.0; words_each = eqb-true _ _ named.1.1.0 };
      steps = named.0;
      gap = leb-true call.gap most_gap named.1.0;
      residue = eqb-true _ _ named.1.1.1.0;
      index = eqb-true _ _ named.1.1.1.1.0;
    }

-- what an accepted map call writes
pub maps_accepted : (call : MapCall) → map_verdict call ≡ Ok tt
    → (map_residue call ≡ residue_map call.grid (kept_by call) call.gap call.picture)
    × (map_index call ≡ index_map call.grid (kept_by call) call.gap call.picture)
unfolding map_residue map_index
maps_accepted call ok = (rw ok, rw ok)

-- the test and the verdict
pub accepted_verdict : (verdict : Verdict) → accepted verdict ≡ true → verdict ≡ Ok tt
accepted_verdict (Ok done) e = refl
accepted_verdict (Err cause) e = let clash : ◌≡◌ {A = ℕ} 0 1 = cc in absurd (omega arith)
