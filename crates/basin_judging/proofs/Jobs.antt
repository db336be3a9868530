-- The causes of the program, one way out after the other, and what an accepted job gives. Assumes nothing.
use Prim.Native.Nat.{ℕ, ◌≤◌, ◌<◌}
use mathlib.Core.Bool.{Bool, true, false, false≢true}
use mathlib.Core.List.{List}
use mathlib.Core.Path.{◌≡◌, refl, sym, ap, ◌∙◌}
use native.Mathlib.Omega.{arith}
use lib.Dec.{ltb}
use lib.ListN.{length}
use borrow.Author.Tests.{ltb-false, lt-ltb, le-ltb}
use Rattle.std.specs.Prelude.{Result, Ok, Err}
use Rattle.std.specs.Result.{IsErr, IsErrAnd}
use Rattle.grid.specs.Pixels.{pixels}
use Rattle.grid.specs.declared.Grid.{Grid}
use Rattle.grid.proofs.Grids.{same_grid}
use Rattle.causes.specs.declared.Cause.{Cause}
use Rattle.causes.proofs.Numbers.{number_determined}
use Rattle.causes.specs.declared.Cause.TheVariants.{TooLarge}
use Rattle.pgm_read.specs.Read.{read_answer, raster_of}
use Rattle.pgm_read.specs.declared.Picture.{Picture}
use Rattle.pgm.proofs.Burst.{accepted_page}
use Rattle.steps.specs.Answer.{parsed_steps, parse_answer, steps_after}
use Rattle.steps.specs.declared.Parsed.{Parsed}
use Rattle.basin_judging.specs.declared.Lengths.{Lengths}
use Rattle.basin_judging.specs.declared.Job.{Job}
use Rattle.basin_judging.specs.Judging.{most_sized, lengths_numbers, basin_grid, basin_picture, sized_by, judged_with, job_of, job_numbers, job_steps}

same_lengths : (l m : Lengths) → l.picture ≡ m.picture → l.list ≡ m.list → l ≡ m
same_lengths l m p s = λ i. record { picture = p i; list = s i }

same_job : (j k : Job) → j.grid ≡ k.grid → j.attribute ≡ k.attribute → j.count ≡ k.count → j.gap ≡ k.gap → j ≡ k
same_job j k g a c u = λ i. record { grid = g i; attribute = a i; count = c i; gap = u i }

-- an answer's numbers determine it
pub lengths_determined : (r s : Result Lengths Cause) → lengths_numbers r ≡ lengths_numbers s → r ≡ s
lengths_determined (Ok l) (Ok m) e = ap Ok (same_lengths l m (cc e) (cc e))
lengths_determined (Ok l) (Err d) e = absurd (omega (arith, ap length e))
lengths_determined (Err c) (Ok m) e = absurd (omega (arith, ap length e))
lengths_determined (Err c) (Err d) e = ap Err (number_determined c d (cc e))

pub job_determined : (r s : Result Job Cause) → job_numbers r ≡ job_numbers s → r ≡ s
job_determined (Ok j) (Ok k) e = ap Ok (same_job j k (same_grid j.grid k.grid (cc e) (cc e) (cc e)) (cc e) (cc e) (cc e))
job_determined (Ok j) (Err d) e = absurd (omega (arith, ap length e))
job_determined (Err c) (Ok k) e = absurd (omega (arith, ap length e))
job_determined (Err c) (Err d) e = ap Err (number_determined c d (cc e))

-- the refusal that `?` hands on
pub told : {T : Type 0} (r : Result T Cause) (cause : Cause) → IsErr r × IsErrAnd r (λ x. x ≡ cause) → r ≡ Err cause
told (Ok t) cause h = absurd (false≢true h.0)
told (Err d) cause h = ap Err h.1

-- what is answered, and what the thresholds then are
abbrev pub Judged : List ℕ → List ℕ → List ℕ → Result Job Cause → List ℕ → Type 0
Judged file list lent answer after = (job_numbers answer ≡ job_numbers (job_of file list)) × (after ≡ job_steps file list lent)

pub unread : (file list lent : List ℕ) (cause : Cause) → read_answer file basin_picture ≡ Err cause → Judged file list lent (Err cause) lent
unfolding job_of job_steps
unread file list lent cause e = rw e (refl, refl)

module _ (file list lent : List ℕ) (picture : Picture) (is : read_answer file basin_picture ≡ Ok picture) where
  pub too_large : most_sized < pixels (basin_grid picture.width picture.height) → Judged file list lent (Err TooLarge) lent
  unfolding job_of job_steps
  too_large l = rw (is, lt-ltb most_sized (pixels (basin_grid picture.width picture.height)) l) (refl, refl)

  pub small_enough : pixels (basin_grid picture.width picture.height) ≤ most_sized → (answer : Result Job Cause) (after : List ℕ) → answer ≡ sized_by (basin_grid picture.width picture.height) (parse_answer list) → after ≡ steps_after list lent → Judged file list lent answer after
  unfolding job_of job_steps
  small_enough l answer after e f = rw (is, le-ltb most_sized (pixels (basin_grid picture.width picture.height)) l) (ap job_numbers e, f)

-- what is to be sized: a picture of at most 2,048 pixels, by a steps file that is accepted
pub record Sizing (file list lent : List ℕ) (attribute count : ℕ) : Type 0 where
  pub few : length (raster_of file basin_picture) ≤ most_sized
  pub parsed : parse_answer list ≡ parsed_steps attribute count
  pub stored : job_steps file list lent ≡ steps_after list lent

steps_of : (g : Grid) (j : Job) (parsed : Result Parsed Cause) → sized_by g parsed ≡ Ok j → parsed ≡ parsed_steps j.attribute j.count
steps_of g j (Ok p) e =
    let f = ap job_numbers e in
    ap Ok (λ i. record { attribute = attributes f i; count = counts f i })
  where
    attributes : job_numbers (sized_by g (Ok p)) ≡ job_numbers (Ok j) → p.attribute ≡ j.attribute
    attributes f = cc f

    counts : job_numbers (sized_by g (Ok p)) ≡ job_numbers (Ok j) → p.count ≡ j.count
    counts f = cc f
steps_of g j (Err cause) e = let z : ◌≡◌ {A = ℕ} 0 1 = cc in absurd (omega arith)

module _ (file list lent : List ℕ) (j : Job) where
  within : (found : Result Picture Cause) → read_answer file basin_picture ≡ found → judged_with found (parse_answer list) ≡ Ok j → Sizing file list lent j.attribute j.count
  unfolding job_steps
  within (Err cause) is e = let z : ◌≡◌ {A = ℕ} 0 1 = cc in absurd (omega arith)
  within (Ok p) is e = go (ltb most_sized (pixels (basin_grid p.width p.height))) refl
    where
      go : (large : Bool) → ltb most_sized (pixels (basin_grid p.width p.height)) ≡ large → Sizing file list lent j.attribute j.count
      go true l = let f : Err TooLarge ≡ Ok j = sym (rw l refl) ∙ e in let z : ◌≡◌ {A = ℕ} 0 1 = cc in absurd (omega arith)
      go false l =
          let f : sized_by (basin_grid p.width p.height) (parse_answer list) ≡ Ok j = sym (rw l refl) ∙ e in
          record {
            few = omega (arith, (accepted_page file basin_picture p.width p.height p.maximum p.start is).page_right.raster_length, ltb-false most_sized (pixels (basin_grid p.width p.height)) l);
            parsed = steps_of (basin_grid p.width p.height) j (parse_answer list) f;
            stored = rw (is, l) refl;
          }

  pub sizing : (r : Result Job Cause) → job_numbers r ≡ job_numbers (job_of file list) → r ≡ Ok j → Sizing file list lent j.attribute j.count
  unfolding job_of
  sizing r e is = within (read_answer file basin_picture) refl (sym (job_determined r (job_of file list) e) ∙ is)
