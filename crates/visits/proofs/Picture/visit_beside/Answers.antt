-- `visit_beside` meets its contract.
use mathlib.Core.Path.{◌≡◌, refl}
use Rattle.std.specs.Prelude.{Some}
use Rattle.sets.proofs.Tests.{or_left}
use Rattle.visits.proofs.Visits.{still, moves, leads, then_to}
use Rattle.visits.proofs.Picture.visit_beside.Goals as goal

pub returns-in-Some : goal.returns-in-Some
returns-in-Some c =
    let e : c.args.base ≡ Some c.in_ok-base.base = c.in_ok-base.was in
    rw e (moves (leads c.visit_left.ensures c.in-Some.is (or_left _ _)))

pub visit_right-requires : goal.visit_right-requires
visit_right-requires c =
    record {
      standing = still (c.visit_left.ensures.stayed c.in_default.is) c.requires.standing refl;
      based = c.requires.based _ c.in_ok-base.was;
    }

pub returns : goal.returns
returns c =
    let e : c.args.base ≡ Some c.in_ok-base.base = c.in_ok-base.was in
    rw e (then_to (c.visit_left.ensures.stayed c.in_default.is) c.visit_right.ensures)
