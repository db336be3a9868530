-- `visit_around` meets its contract. Each visit that stays leaves the flood at p for the next; one that does not leaves it at the pixel on its
-- side.
use Prim.Native.Nat.{ℕ}
use lib.ListN.{length}
use mathlib.Core.Path.{refl}
use Rattle.sets.specs.Sets.{Positions}
use Rattle.grid.specs.declared.Grid.{Grid}
use Rattle.queues.specs.Queues.{Lists, lists_of}
use Rattle.visits.specs.Visits.{above, left_of, below, either_side, Visited}
use Rattle.visits.proofs.Visits.{still, visits, moves, leads, then_moves, then_last}
use Rattle.visits.proofs.Beside.{only_above, only_below, visit_above, visit_below, based_here, near_above, near_left, near_below, near_corner, not_right, met_but_right}
use Rattle.visits.proofs.Picture.visit_around.Goals as goal
use Rattle.visits.proofs.Picture.visit_around.Goals.{In_default, In_default-visit_left, In_default-visit_side, In_default-visit_corners, Start}

-- the visits of a side took the flood to the lists s, and it stayed at p
abbrev Stayed : Start → Lists → (Grid → ℕ → Positions) → Type 0
Stayed c s side =
    let at = c.args in
    Visited at.self.grid at.self.greys.now (lists_of at.ws.now at.queues.now) s at.p at.p (side at.self.grid at.p)

-- what each visit and those before it saw
upto-up : (c : In_default) → Stayed (goal.at.In_default c).Start (lists_of c.visit_side.new.ws c.visit_side.new.queues) above
upto-up c =
    let at = c.args in
    (c.visit_side.ensures _ (only_above at.self.grid (length at.self.greys.now) at.p _ c.above.ensures)).stayed c.in_default.is

upto-left :
    (c : In_default-visit_left)
    → Stayed (goal.at.In_default-visit_left c).Start (lists_of c.visit_left.new.ws c.visit_left.new.queues) (either_side above left_of)
upto-left c = visits (upto-up (goal.at.In_default-visit_left c).In_default) refl (c.visit_left.ensures.stayed c.in_default-visit_left.is)

upto-down :
    (c : In_default-visit_side)
    → Stayed (goal.at.In_default-visit_side c).Start (lists_of c.visit_side-2.new.ws c.visit_side-2.new.queues)
    (either_side (either_side above left_of) below)
upto-down c =
    let at = c.args in
    let down = c.visit_side-2.ensures _ (only_below at.self.grid (length at.self.greys.now) at.p _ c.below.ensures) in
    visits (upto-left (goal.at.In_default-visit_side c).In_default-visit_left) refl (down.stayed c.in_default-visit_side.is)

upto-corners :
    (c : In_default-visit_corners)
    → Stayed (goal.at.In_default-visit_corners c).Start (lists_of c.visit_corners.new.ws c.visit_corners.new.queues) not_right
upto-corners c =
    visits (upto-down (goal.at.In_default-visit_corners c).In_default-visit_side) refl
    (c.visit_corners.ensures.stayed c.in_default-visit_corners.is)

pub visit_side-requires : goal.visit_side-requires
visit_side-requires c = record { standing = c.requires; near = visit_above c.requires _ c.above.ensures }

pub returns-in-Some : goal.returns-in-Some
returns-in-Some c =
    let at = c.args in
    let up = c.visit_side.ensures _ (only_above at.self.grid (length at.self.greys.now) at.p _ c.above.ensures) in
    moves (leads up c.in-Some.is (near_above at.self.grid at.p _))

pub visit_left-requires : goal.visit_left-requires
visit_left-requires c =
    let stands = still (upto-up (goal.at.visit_left-requires c).In_default) c.requires refl in
    record { standing = stands; based = based_here stands }

pub returns-in-Some-visit_left : goal.returns-in-Some-visit_left
returns-in-Some-visit_left c =
    let at = c.args in
    moves
    (then_moves
    (upto-up (goal.at.returns-in-Some-visit_left c).In_default)
    (leads c.visit_left.ensures c.in-Some-visit_left.is (near_left at.self.grid at.p _)))

pub visit_side-requires-2 : goal.visit_side-requires-2
visit_side-requires-2 c =
    let stands = still (upto-left (goal.at.visit_side-requires-2 c).In_default-visit_left) c.requires refl in
    record { standing = stands; near = visit_below stands _ c.below.ensures }

pub returns-in-Some-visit_side : goal.returns-in-Some-visit_side
returns-in-Some-visit_side c =
    let at = c.args in
    let down = c.visit_side-2.ensures _ (only_below at.self.grid (length at.self.greys.now) at.p _ c.below.ensures) in
    moves
    (then_moves
    (upto-left (goal.at.returns-in-Some-visit_side c).In_default-visit_left)
    (leads down c.in-Some-visit_side.is (near_below at.self.grid at.p _)))

pub visit_corners-requires : goal.visit_corners-requires
visit_corners-requires c = still (upto-down (goal.at.visit_corners-requires c).In_default-visit_side) c.requires refl

pub returns-in-Some-visit_corners : goal.returns-in-Some-visit_corners
returns-in-Some-visit_corners c =
    let at = c.args in
    moves
    (then_moves
    (upto-down (goal.at.returns-in-Some-visit_corners c).In_default-visit_side)
    (leads c.visit_corners.ensures c.in-Some-visit_corners.is (near_corner at.self.grid at.p _)))

pub visit_last-requires : goal.visit_last-requires
visit_last-requires c =
    let stayed = upto-corners (goal.at.visit_last-requires c).In_default-visit_corners in
    record { standing = still stayed c.requires refl; met_but = met_but_right stayed refl }

pub returns : goal.returns
returns c = then_last (upto-corners (goal.at.returns c).In_default-visit_corners) c.visit_last.ensures
