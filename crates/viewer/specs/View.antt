-- The viewer's call: "A viewer gives a row (from 0) and a side (1 light, 2 dark) and receives that row of the one lent residue map or the other,
-- uncopied."
use Rattle.std.specs.Prelude.{Result, Ok, Err}
use Rattle.calls.specs.Judging.{Verdict}
use Rattle.std.specs.Prelude.{ℕ, ◌+◌, ◌*◌, ◌<◌, Bool, cond, ◌&&◌, ◌||◌, List, [], ◌∷◌, ◌↔◌, ◌≡◌, eqb, ltb, length, get_or, take, drop}
use Rattle.causes.specs.Causes.{number_of}
use Rattle.causes.specs.Sides.{sides_fit}
use Rattle.causes.specs.declared.Cause.{Cause}
use Rattle.causes.specs.declared.Cause.TheVariants.{Sides, Output, View}
use Rattle.calls.specs.Judging.{Test, verdict_of}
use Rattle.calls.specs.Calls.{after}

-- what a call names and is lent
pub record ViewCall : Type 0 where
  pub light : List ℕ
  pub dark : List ℕ
  pub width : ℕ
  pub height : ℕ
  pub row : ℕ
  pub side : ℕ

-- the same from the parameters of a function, by what they hold at entry
abbrev pub view_call : List ℕ → List ℕ → ℕ → ℕ → ℕ → ℕ → ViewCall
view_call light dark width height row side =
    record { light = light; dark = dark; width = width; height = height; row = row; side = side }

-- "row or side outside its range": rows count from 0, and the sides are 1 and 2
unfoldable pub in_view : ℕ → ℕ → ℕ → Bool
in_view height row side = ltb row height && (eqb side 1 || eqb side 2)

-- the tests, in order, by the lengths of the maps: 1, 6 for each of them, whichever side is asked for, and 16
abbrev pub viewing_tests : ℕ → ℕ → ℕ → ℕ → ℕ → ℕ → List Test
viewing_tests light dark width height row side =
    (sides_fit width height, Sides)
    ∷ (eqb light (width * height), Output)
    ∷ (eqb dark (width * height), Output)
    ∷ (in_view height row side, View)
    ∷ []

abbrev pub view_verdict : ViewCall → Verdict
view_verdict call =
    verdict_of
    (viewing_tests (length call.light) (length call.dark) call.width call.height call.row call.side)

-- the map of the side
abbrev pub side_map : ViewCall → List ℕ
side_map call = cond (eqb call.side 1) call.light call.dark

-- where the row starts in it, and the row
abbrev pub row_start : ViewCall → ℕ
row_start call = call.row * call.width

abbrev pub row_of : ViewCall → List ℕ
row_of call = take call.width (drop (row_start call) (side_map call))

-- the part that is handed back: "a refused viewer call hands back an empty part"
unfoldable pub viewed_part : ViewCall → List ℕ
viewed_part call = after (view_verdict call) (row_of call) []

-- the answer: where the row starts, or the cause
abbrev pub viewed_by : Verdict → ℕ → Result ℕ Cause
viewed_by (Ok done) start = Ok start
viewed_by (Err cause) start = Err cause

unfoldable pub viewed : ViewCall → Result ℕ Cause
viewed call = viewed_by (view_verdict call) (row_start call)

-- "this paper's number and values for each enum case": 0 and where the row starts, or the number of the cause
abbrev pub viewed_numbers : Result ℕ Cause → List ℕ
viewed_numbers (Ok start) = 0 ∷ start ∷ []
viewed_numbers (Err cause) = number_of cause ∷ []

-- what the two functions promise of a call, the answer and the part
pub record ViewClaim (call : ViewCall) : Type 0 where
  -- an accepted call is told where the row starts
  pub start : view_verdict call ≡ Ok tt → viewed call ≡ Ok (call.row * call.width)
  -- an accepted call gets that row of that map, at every position
  pub long : view_verdict call ≡ Ok tt → length (viewed_part call) ≡ call.width
  pub row : view_verdict call ≡ Ok tt → (column : ℕ) → column < call.width
      → get_or (viewed_part call) column 0 ≡ get_or (side_map call) (call.row * call.width + column) 0
  -- the part is empty exactly where the call is refused
  pub empty : viewed_part call ≡ [] ↔ ((cause : Cause) × (view_verdict call ≡ Err cause))
