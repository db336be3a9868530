-- The 64 bits of every call of the C interface tell its answer, since no value of an accepted call reaches the limit. Assumes nothing.
use Rattle.std.specs.Prelude.{Ok, Err}
use Rattle.calls.specs.Judging.{Verdict}
use Prim.Native.Nat.{ℕ, ◌<◌}
use mathlib.Core.Bool.{true, false}
use mathlib.Core.List.{List}
use mathlib.Core.Path.{◌≡◌, refl}
use native.Mathlib.Omega.{arith}
use lib.IntN.{ℤ}
use lib.ListN.{length}
use Rattle.grid.specs.Pixels.{pixels}
use Rattle.grid.specs.Neighbours.{adjacent}
use Rattle.tree.specs.Tree.{number_of_nodes}
use Rattle.tree.proofs.RootToLeaf.{nodes_few}
use Rattle.causes.proofs.Laws.{bounded}
use Rattle.calls.specs.Judging.{verdict_numbers}
use Rattle.calls.specs.Calls.{grey, BuildCall, build_verdict, built_by, built, built_numbers, open_verdict, MapCall, map_verdict}
use Rattle.calls.specs.Reversed.{reversed_call}
use Rattle.calls.specs.Combined.{combined_verdict}
use Rattle.calls.proofs.Accepted.{build_passed}
use Rattle.calls.proofs.Answers.{verdict_determined, built_determined}
use Rattle.viewer.specs.View.{ViewCall, view_verdict, row_start, viewed_by, viewed, viewed_numbers}
use Rattle.viewer.proofs.Viewing.{view_passed}
use Rattle.viewer.proofs.Answers.{viewed_determined}
use Rattle.pgm_header.specs.Header.{most_digits}
use Rattle.pgm_write.specs.Write.{written_numbers}
use Rattle.std.specs.Prelude.{Result}
use Rattle.causes.specs.declared.Cause.{Cause}
use Rattle.pgm_write.proofs.Decimals.{length_decimal}
use Rattle.pgm_write.proofs.Files.{file_length}
use Rattle.pgm_write.proofs.Judging.{writable_is}
use Rattle.pgm_write.proofs.Answers.{written_determined}
use Rattle.codes.specs.Codes.{value_limit}
use Rattle.codes.specs.Told.{Unambiguous, WriteCall, written, CallsTold}
use Rattle.codes.proofs.Told.{Answered, refused, done, valued, unambiguous}
use Rattle.codes.proofs.Head.{head_told}

-- a verdict, whatever call it is on, has no value
verdict_answered : (verdict : Verdict) → Answered false (verdict_numbers verdict)
verdict_answered (Ok nothing) = done
verdict_answered (Err cause) = refused cause

verdicts : {Call : Type 0} (verdict : Call → Verdict) → Unambiguous verdict verdict_numbers
verdicts verdict = unambiguous verdict verdict_numbers (λ call. verdict_answered (verdict call)) verdict_determined

-- a file has a byte a pixel, and a short header
bytes_below : (call : WriteCall) (total : ℕ) → written call ≡ Ok total → total < value_limit
bytes_below call total is =
    let file = writable_is call.picture call.width call.height call.maximum (length call.buffer) total is in
    let sides = bounded call.width call.height file.sides_right in
    omega (
      arith,
      file_length call.picture call.width call.height call.maximum,
      length_decimal most_digits call.width,
      length_decimal most_digits call.height,
      length_decimal most_digits call.maximum,
    )

written_answered : (answer : Result ℕ Cause) → ((total : ℕ) → answer ≡ Ok total → total < value_limit) → Answered true (written_numbers answer)
written_answered (Ok total) below = valued (below total refl)
written_answered (Err cause) below = refused cause

writes : Unambiguous written written_numbers
writes = unambiguous written written_numbers (λ call. written_answered (written call) (bytes_below call)) written_determined

-- a tree has at most as many nodes as pixels
nodes_below : (call : BuildCall) → build_verdict call ≡ Ok tt
    → number_of_nodes (pixels call.grid) (adjacent call.grid) (grey call.picture) < value_limit
nodes_below call ok =
    let sides = bounded call.grid.width call.grid.height (build_passed call ok).sides in
    omega (arith, nodes_few (pixels call.grid) (adjacent call.grid) (grey call.picture))

built_answered : (verdict : Verdict) (nodes : ℕ) → (verdict ≡ Ok tt → nodes < value_limit) → Answered true (built_numbers (built_by verdict nodes))
built_answered (Ok nothing) nodes below = valued (below refl)
built_answered (Err cause) nodes below = refused cause

builds : Unambiguous built built_numbers
unfolding built
builds = unambiguous built built_numbers (λ call. built_answered (build_verdict call) _ (nodes_below call)) built_determined

-- a row starts within its map
start_below : (call : ViewCall) → view_verdict call ≡ Ok tt → row_start call < value_limit
start_below call ok = let passed = view_passed call ok in omega arith

viewed_answered : (verdict : Verdict) (start : ℕ) → (verdict ≡ Ok tt → start < value_limit) → Answered true (viewed_numbers (viewed_by verdict start))
viewed_answered (Ok nothing) start below = valued (below refl)
viewed_answered (Err cause) start below = refused cause

views : Unambiguous viewed viewed_numbers
unfolding viewed
views = unambiguous viewed viewed_numbers (λ call. viewed_answered (view_verdict call) _ (start_below call)) viewed_determined

pub calls_told : CallsTold
calls_told =
    record {
      reading = head_told;
      writing = writes;
      building = builds;
      opening = verdicts open_verdict;
      mapping = verdicts map_verdict;
      dark_mapping = verdicts (λ (call : MapCall). map_verdict (reversed_call call));
      combining = verdicts (λ (call : MapCall × List ℤ). combined_verdict call.0 call.1);
      viewing = views;
    }
