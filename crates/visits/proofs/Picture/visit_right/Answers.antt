-- `visit_right` meets its contract. A pixel after which a row starts has none to its right.
use mathlib.Core.Path.{sym, ◌∙◌}
use Rattle.visits.proofs.Visits.{no_visit, met_already, on_side_to}
use Rattle.visits.proofs.Beside.{row_ends, visit_right, one_right, is_right}
use Rattle.visits.proofs.Picture.visit_right.Goals as goal
use Rattle.visits.proofs.Picture.visit_right.Goals.{then-met-via-then-met, then-met-via-else-met+then-starts_row}

pub returns-then-met : goal.returns-then-met
returns-then-met c =
    let standing = c.requires.standing in
    elim c.then-met.branch [
      | then-met-via-then-met w ↦
          no_visit (met_already standing (is_right c.args.self.grid c.args.base) (sym c.met.ensures ∙ w.if-met.true))
      | then-met-via-else-met+then-starts_row w ↦
          no_visit (row_ends standing c.requires.based (sym w.starts_row.ensures ∙ w.if-starts_row.true))
    ]

pub visit-requires : goal.visit-requires
visit-requires c =
    visit_right c.requires.standing c.requires.based (sym c.starts_row.ensures ∙ c.if-starts_row.false)

pub returns : goal.returns
returns c =
    on_side_to
    c.visit.ensures
    (λ x h. is_right c.args.self.grid c.args.base x)
    (one_right c.requires.standing c.requires.based (sym c.starts_row.ensures ∙ c.if-starts_row.false))
