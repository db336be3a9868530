-- What the check leaves of `lower_by_part`.
use Prim.Native.Nat.{◌≤◌, ◌/◌}
use mathlib.Core.List.{map}
use mathlib.Core.Path.{◌≡◌, sym}
use native.Mathlib.Omega.{arith}
use lib.ListN.{length, take}
use lib.Seq.{length-take-le}
use Rattle.calls.specs.Steps.{triples_in}
use Rattle.calls.proofs.Steps.{triple_list}
use Rattle.placing.specs.Placing.{part_in}
use Rattle.placing.proofs.Columns.{part_is, part_rise}
use Rattle.placing.proofs.lower_by_part.Goals as goal
use Rattle.placing.proofs.lower_by_part.Goals.{After-column-entries, Start}

-- there are not too many words
few : (c : Start) → length c.args.words.now ≤ 768
few c = (triple_list _ c.requires.words_value).not_more

-- what the column holds
is : (c : After-column-entries)
    → let words = c.args.words.now in
    take (length words / 3) c.column-entries.result ≡ map (part_in c.args.part) (triples_in words)
is c = part_is _ _ (omega arith) (few (goal.at.After-column-entries c).Start) _ c.requires.part_bound c.column-entries.ensures

pub column-entries-requires-clause-words_len_bound : goal.column-entries-requires-clause-words_len_bound
column-entries-requires-clause-words_len_bound c = few (goal.at.column-entries-requires-clause-words_len_bound c).Start

pub slice_bounds-entries-end : goal.slice_bounds-entries-end
slice_bounds-entries-end c = omega (arith, few (goal.at.slice_bounds-entries-end c).Start)

pub slice_bounds-steps-end : goal.slice_bounds-steps-end
slice_bounds-steps-end c = sym (length-take-le _ _ (omega (arith, few (goal.at.slice_bounds-steps-end c).Start)))

pub lower_by-requires-clause-steps_value : goal.lower_by-requires-clause-steps_value
lower_by-requires-clause-steps_value c =
    rw (is (goal.at.lower_by-requires-clause-steps_value c).After-column-entries) (part_rise c.args.words.now c.requires.words_value c.args.part)

pub returns : goal.returns
returns c = rw (← is (goal.at.returns c).After-column-entries) c.lower_by.ensures
