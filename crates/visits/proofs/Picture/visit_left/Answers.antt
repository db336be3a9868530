-- `visit_left` meets its contract. A pixel at which a row starts has none to its left.
use mathlib.Core.Path.{sym, ◌∙◌}
use Rattle.visits.proofs.Visits.{no_visit, met_already, on_side_to}
use Rattle.visits.proofs.Beside.{none_left, row_starts, visit_left, one_left, is_left}
use Rattle.visits.proofs.Picture.visit_left.Goals as goal
use Rattle.visits.proofs.Picture.visit_left.Goals.{then-base-eq0-via-then-base-eq0, then-base-eq0-via-else-base-eq0+then-met, then-base-eq0-via-else-base-eq0+else-met+then-starts_row}

pub returns-then-base-eq0 : goal.returns-then-base-eq0
returns-then-base-eq0 c =
    let standing = c.requires.standing in
    let based = c.requires.based in
    elim c.then-base-eq0.branch [
      | then-base-eq0-via-then-base-eq0 w ↦ no_visit (none_left standing based w.if-base-eq0.true)
      | then-base-eq0-via-else-base-eq0+then-met w ↦
          no_visit (met_already standing (is_left c.args.self.grid c.args.base) (sym w.met.ensures ∙ w.if-met.true))
      | then-base-eq0-via-else-base-eq0+else-met+then-starts_row w ↦
          no_visit (row_starts standing based (sym w.starts_row.ensures ∙ w.if-starts_row.true))
    ]

pub visit-requires : goal.visit-requires
visit-requires c =
    visit_left c.requires.standing c.requires.based c.if-base-eq0.false (sym c.starts_row.ensures ∙ c.if-starts_row.false)

pub returns : goal.returns
returns c =
    on_side_to
    c.visit.ensures
    (λ x h. is_left c.args.self.grid c.args.base x)
    (one_left c.requires.standing c.requires.based c.if-base-eq0.false (sym c.starts_row.ensures ∙ c.if-starts_row.false))
