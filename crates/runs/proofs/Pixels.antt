-- At every pixel the maps of an accepted call are by runs, and by nothing else.
use Rattle.std.specs.Prelude.{Ok}
use Prim.Native.Nat.{ℕ, suc, ◌+◌, ◌≤◌, ◌<◌}
use mathlib.Core.List.{List, map}
use mathlib.Core.Path.{◌≡◌, ◌∙◌}
use native.Mathlib.Omega.{arith}
use lib.ListN.{get_or, length-map}
use Rattle.sets.proofs.Laws.{table_at}
use Rattle.opening.specs.Opening.{Keeps, opened_by}
use Rattle.opening.specs.Residue.{largest, largest_place, Narrowing, residues, residue_by, index_by}
use Rattle.opening.specs.Runs.{Run, run_total, ByRuns}
use Rattle.opening.proofs.Joined.{joined_le, residue_zero, index_zero}
use Rattle.opening.proofs.Residue.{residues_fall, residues_total}
use Rattle.opening.proofs.Runs.{in_a_run, run_once}
use Rattle.opening.proofs.RunLaws.{by_runs, by_runs_only, run_joined, place_inside, run_telescopes}
use Rattle.grid.specs.Pixels.{pixels}
use Rattle.grid.specs.Neighbours.{adjacent}
use Rattle.falls.proofs.Raised.{length_falls}
use Rattle.calls.specs.Calls.{grey, MapCall, map_verdict, kept_by, residue_map, index_map}
use Rattle.calls.proofs.Accepted.{map_passed, maps_accepted, bounded}
use Rattle.calls.proofs.Steps.{everything, list_narrow}
use Rattle.runs.specs.Claim.{residues_of, greys_of, residue_at, index_at, AtPixel}

module _ (call : MapCall) (ok : map_verdict call ≡ Ok tt) where
  -- what the call writes
  abbrev tests : List Keeps
  tests = kept_by call

  pub residue_is : (p : ℕ) → p < pixels call.grid
      → residue_at call p ≡ residue_by (pixels call.grid) (adjacent call.grid) tests call.gap (grey call.picture) p
  unfolding residue_map
  residue_is p below = rw (maps_accepted call ok).0 (table_at (pixels call.grid) _ p 0 below)

  index_is : (p : ℕ) → p < pixels call.grid
      → index_at call p ≡ index_by (pixels call.grid) (adjacent call.grid) tests call.gap (grey call.picture) p
  unfolding index_map
  index_is p below = rw (maps_accepted call ok).1 (table_at (pixels call.grid) _ p 0 below)

  -- its tests get narrower
  narrow : Narrowing (pixels call.grid) everything tests
  narrow =
      let passed = map_passed call ok in
      list_narrow call.grid (bounded call.grid.width call.grid.height passed.common.sides).small call.kind call.steps passed.steps

  module _ (p : ℕ) (below : p < pixels call.grid) where
    abbrev rs : List ℕ
    rs = residues_of call p

    both_by_runs : ByRuns call.gap rs (residue_at call p) (index_at call p)
    unfolding residue_by index_by
    both_by_runs = rw (residue_is p below, index_is p below) (by_runs call.gap rs)

    zero_residue : call.gap ≡ 0 → residue_at call p ≡ largest rs
    zero_residue none = residue_is p below ∙ rw none (residue_zero _ _ tests _ p)

    zero_index : call.gap ≡ 0 → index_at call p ≡ largest_place rs
    zero_index none = index_is p below ∙ rw none (index_zero _ _ tests _ p)

    total_fits : (a b : ℕ) → Run call.gap rs a b → run_total rs a b ≤ grey call.picture p
    unfolding residues
    total_fits a b run =
        omega (
          arith,
          run_joined call.gap rs a b run,
          joined_le call.gap 0 rs b,
          residues_total (pixels call.grid) (adjacent call.grid) (grey call.picture) p below _ tests narrow,
        )

    total_telescopes : (a b : ℕ) → Run call.gap rs a b → run_total rs a b + get_or (greys_of call p) (suc b) 0 ≡ get_or (greys_of call p) a 0
    unfolding residues
    total_telescopes a b run =
        let n : ℕ = pixels call.grid in
        let g : ℕ → ℕ = grey call.picture in
        let opened : Keeps → ℕ = λ (keeps : Keeps). opened_by n (adjacent call.grid) keeps g p in
        run_telescopes
        (g p)
        (map opened tests)
        (residues_fall n (adjacent call.grid) g p below _ tests narrow)
        a
        b
        run.order
        (omega (arith, place_inside rs b run.last, length_falls opened (g p) tests, length-map tests opened))

  -- the claim, for every accepted call and every pixel of its picture
  pub at_pixel : (p : ℕ) → p < pixels call.grid → AtPixel call p
  at_pixel p below =
      record {
        in_a_run = in_a_run call.gap (residues_of call p);
        in_one = λ a b c d i. run_once call.gap (residues_of call p) a b c d i;
        by_runs = both_by_runs p below;
        only = λ r i by. by_runs_only call.gap (residues_of call p) r i _ _ by (both_by_runs p below);
        telescopes = total_telescopes p below;
        fits = total_fits p below;
        gap_zero = λ none. (zero_residue p below none, zero_index p below none);
      }
