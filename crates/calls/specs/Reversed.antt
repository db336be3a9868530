-- Dark floc on light water: the reversed picture, and the map call on it.
use Rattle.std.specs.Prelude.{ℕ, ◌-◌, List, length}
use Rattle.sets.specs.Sets.{table}
use Rattle.calls.specs.Calls.{grey, MapCall, mapping_of}

-- "255 less each grey"
unfoldable pub reversed : List ℕ → List ℕ
reversed picture = table (length picture) (λ (p : ℕ). 255 - grey picture p)

-- "The dark maps are the light ones of 255 less each grey", and dark calls "leave the reversed picture's record": a dark call is the map call on
-- the reversed picture, with all else named and lent alike
abbrev pub reversed_call : MapCall → MapCall
reversed_call call =
    mapping_of
    (reversed call.picture)
    call.grid
    call.kind
    call.steps
    call.gap
    call.workspace
    call.residue
    call.index
