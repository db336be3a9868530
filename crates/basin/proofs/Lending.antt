-- Parts of lent memory: how long they are before and after a call, and what a map call that is done and a steps file that is accepted give.
use Rattle.std.specs.Prelude.{Result, Ok, Err}
use Rattle.causes.specs.declared.Cause.{Cause}
use Prim.Native.Nat.{ℕ, ◌≤◌, ◌<◌}
use mathlib.Core.List.{List}
use mathlib.Core.Path.{◌≡◌, refl, sym, ◌∙◌, ap}
use native.Mathlib.Omega.{arith}
use lib.ListN.{length, take}
use lib.Seq.{length-take-le, length-sets}
use Rattle.causes.specs.Bounds.{most_steps}
use Rattle.calls.specs.Calls.{MapCall, map_verdict}
use Rattle.calls.proofs.Accepted.{map_passed, bounded}
use Rattle.steps.specs.Answer.{steps_in, parsed_steps, parse_answer, steps_with, steps_after}
use Rattle.steps.specs.declared.Parsed.{Parsed}
use Rattle.steps.proofs.Laws.{accepted_file}

pub taken : (l : List ℕ) (k : ℕ) → k ≤ length l → k ≡ length (take k l)
taken l k h = sym (length-take-le k l h)

-- a picture whose maps are done has a column
pub done_wide : (call : MapCall) → map_verdict call ≡ Ok tt → 0 < call.grid.width
done_wide call ok = (bounded call.grid.width call.grid.height (map_passed call ok).common.sides).wide

-- the steps that parsing leaves: as many entries as were lent, room for all that it counts
steps_length : (answer : Result Parsed Cause) (thresholds lent : List ℕ) → length (steps_with answer thresholds lent) ≡ length lent
steps_length (Ok p) thresholds lent = length-sets lent 0 thresholds
steps_length (Err cause) thresholds lent = refl

pub steps_room : (file lent after : List ℕ) (attribute count : ℕ) → after ≡ steps_after file lent → length lent ≡ most_steps → parse_answer file ≡ parsed_steps attribute count → count ≤ length after
unfolding steps_after
steps_room file lent after attribute count e long f =
    omega (
      arith,
      ap length e ∙ steps_length (parse_answer file) (steps_in file) lent,
      (accepted_file file attribute count f).few_steps,
    )
