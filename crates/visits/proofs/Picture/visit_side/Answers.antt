-- `visit_side` meets its contract.
use Rattle.visits.proofs.Visits.{on_side_to}
use Rattle.visits.proofs.Picture.visit_side.Goals as goal

pub visit-requires : goal.visit-requires
visit-requires c = c.requires.near _ c.in_ok-q.was

pub returns : goal.returns
returns c =
    λ side O.
    on_side_to c.visit.ensures (λ x h e. let a = O.only x h e in let b = c.in_ok-q.was in cc (a, b)) (O.one _ c.in_ok-q.was)
