-- `visit_corners` meets its contract. Where 8 neighbours are not named, no corner is one.
use mathlib.Core.Path.{refl, sym, ◌∙◌}
use mathlib.Core.Logic.{inl}
use Rattle.visits.proofs.Visits.{no_visit, still, covers_to, moves, leads, then_to}
use Rattle.visits.proofs.Beside.{no_corners, based_over, based_under, corner_over, corners_are}
use Rattle.visits.proofs.Picture.visit_corners.Goals as goal

pub returns-then-self-ne8 : goal.returns-then-self-ne8
returns-then-self-ne8 c = no_visit (no_corners c.requires c.if-self-ne8.true)

pub visit_beside-requires : goal.visit_beside-requires
visit_beside-requires c =
    record { standing = c.requires; based = based_over c.requires c.if-self-ne8.false _ c.above.ensures }

pub returns-in-Some : goal.returns-in-Some
returns-in-Some c =
    moves
    (leads c.visit_beside.ensures c.in-Some.is (corner_over c.requires c.if-self-ne8.false _ c.above.ensures c.in-Some.over))

pub visit_beside-requires-2 : goal.visit_beside-requires-2
visit_beside-requires-2 c =
    record {
      standing = still (c.visit_beside.ensures.stayed c.in_default.is) c.requires refl;
      based = based_under c.requires c.if-self-ne8.false _ c.below.ensures;
    }

pub returns : goal.returns
returns c =
    let same = corners_are c.requires c.if-self-ne8.false _ _ c.above.ensures c.below.ensures in
    covers_to
    (then_to (c.visit_beside.ensures.stayed c.in_default.is) c.visit_beside-2.ensures)
    (λ x h e. inl (same x h ∙ e))
    (λ x h e. sym (same x h) ∙ e)
