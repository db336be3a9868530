-- What the viewer hands back: of an accepted call that row of that map, at every position; of a refused one an empty part, which no accepted call
-- hands back. Assumes nothing.
use Rattle.std.specs.Prelude.{Ok, Err}
use Rattle.calls.specs.Judging.{Verdict}
use Prim.Native.Nat.{ℕ, ◌+◌, ◌*◌, ◌≤◌, ◌<◌}
use mathlib.Core.Bool.{true, false, ◌||◌}
use mathlib.Core.List.{List, []}
use mathlib.Core.Logic.{◌⊎◌, inl, inr, ⊎_elim}
use mathlib.Core.Path.{◌≡◌, refl, sym, ap, ◌∙◌}
use native.Mathlib.Nat.{mul-le-mul_right, mul_comm}
use native.Mathlib.Omega.{arith}
use lib.Dec.{eqb, ltb}
use lib.ListN.{length, get_or, drop, length-drop}
use lib.Seq.{length-take-le, get_or-take, get_or-drop}
use borrow.Author.Tests.{eqb-true, ltb-true}
use Rattle.sets.proofs.Tests.{decided}
use Rattle.causes.specs.Bounds.{most_pixels}
use Rattle.causes.specs.declared.Cause.{Cause}
use Rattle.causes.proofs.Laws.{both_true, bounded}
use Rattle.calls.proofs.Accepted.{AllHold, all_hold}
use Rattle.viewer.specs.View.{ViewCall, in_view, viewing_tests, view_verdict, side_map, row_start, row_of, viewed_part, viewed, ViewClaim}

-- what an accepted call has passed
pub record ViewPassed (call : ViewCall) : Type 0 where
  pub wide : 1 ≤ call.width
  pub small : call.width * call.height ≤ most_pixels
  pub light : length call.light ≡ call.width * call.height
  pub dark : length call.dark ≡ call.width * call.height
  -- the row lies within the map of either side
  pub inside : row_start call + call.width ≤ call.width * call.height

row_inside : (width height row : ℕ) → row < height → row * width + width ≤ width * height
row_inside width height row below = omega (arith, mul-le-mul_right width below, mul_comm width height)

pub view_passed : (call : ViewCall) → view_verdict call ≡ Ok tt → ViewPassed call
unfolding AllHold in_view
view_passed call ok =
    let h = all_hold (viewing_tests (length call.light) (length call.dark) call.width call.height call.row call.side) ok in
    let fits = bounded call.width call.height h.0 in
    let seen = both_true (ltb call.row call.height) (eqb call.side 1 || eqb call.side 2) h.1.1.1.0 in
    record {
      wide = fits.wide;
      small = fits.small;
      light = eqb-true _ _ h.1.0;
      dark = eqb-true _ _ h.1.1.0;
      inside = row_inside call.width call.height call.row (ltb-true call.row call.height seen.0);
    }

-- a call that is accepted
module _ (call : ViewCall) (accepted : Ok tt ≡ view_verdict call) where
  pub passed : ViewPassed call
  passed = view_passed call (sym accepted)

-- the claim
module _ (call : ViewCall) where
  -- either map has the row
  side_long : ViewPassed call → length (side_map call) ≡ call.width * call.height
  side_long passed =
      ⊎_elim
      (λ (light : eqb call.side 1 ≡ true). rw light passed.light)
      (λ (dark : eqb call.side 1 ≡ false). rw dark passed.dark)
      (decided (eqb call.side 1))

  row_long : ViewPassed call → length (row_of call) ≡ call.width
  row_long passed =
      length-take-le
      call.width
      (drop (row_start call) (side_map call))
      (omega (arith, length-drop (row_start call) (side_map call), side_long passed, passed.inside))

  part_long : view_verdict call ≡ Ok tt → length (viewed_part call) ≡ call.width
  unfolding viewed_part
  part_long ok = rw ok (row_long (view_passed call ok))

  part_row : view_verdict call ≡ Ok tt → (column : ℕ) → column < call.width
      → get_or (viewed_part call) column 0 ≡ get_or (side_map call) (row_start call + column) 0
  unfolding viewed_part
  part_row ok column inside =
      rw
      ok
      (get_or-take call.width (drop (row_start call) (side_map call)) column 0 inside
      ∙ get_or-drop (row_start call) (side_map call) column 0)

  refused_or : (verdict : Verdict) → (verdict ≡ Ok tt) ⊎ ((cause : Cause) × (verdict ≡ Err cause))
  refused_or (Ok done) = inl refl
  refused_or (Err cause) = inr (cause, refl)

  part_empty : viewed_part call ≡ [] → (cause : Cause) × (view_verdict call ≡ Err cause)
  part_empty none =
      ⊎_elim
      (λ (ok : view_verdict call ≡ Ok tt).
      absurd (omega (arith, part_long ok, ap (λ (part : List ℕ). length part) none, (view_passed call ok).wide)))
      (λ refused. refused)
      (refused_or (view_verdict call))

  start_is : view_verdict call ≡ Ok tt → viewed call ≡ Ok (row_start call)
  unfolding viewed
  start_is ok = rw ok refl

  pub part_refused : {cause : Cause} → view_verdict call ≡ Err cause → [] ≡ viewed_part call
  unfolding viewed_part
  part_refused is = rw is refl

  pub view_claim : ViewClaim call
  view_claim =
      record {
        start = start_is;
        long = part_long;
        row = part_row;
        empty = (part_empty, (λ (cause, refused). sym (part_refused refused)));
      }
