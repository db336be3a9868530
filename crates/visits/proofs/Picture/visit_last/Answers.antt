-- `visit_last` meets its contract. A pixel after which a row starts has no neighbour to the right; one that is not met and of the level takes
-- the place of p, and any other is visited like the neighbours before it.
use Prim.Native.Nat.{◌+◌}
use mathlib.Core.Path.{sym, ◌∙◌}
use Rattle.queues.specs.Queues.{lists_of}
use Rattle.visits.specs.Visits.{Visiting}
use Rattle.visits.proofs.Visits.{no_visit, met_already, covers, covers_to, on_side_to, replaceable, follows}
use Rattle.visits.proofs.Beside.{based_here, row_ends, visit_right, one_right, is_right, near_right}
use Rattle.visits.proofs.Picture.visit_last.Goals as goal
use Rattle.visits.proofs.Picture.visit_last.Goals.{Else-starts_row, then-met-via-then-met, then-met-via-else-met+then-starts_row}

on-right :
    (c : Else-starts_row)
    → let at = c.args in
    Visiting at.self.grid at.self.greys.now (lists_of at.ws.now at.queues.now) at.level at.p (at.p + 1)
on-right c =
    visit_right c.requires.standing (based_here c.requires.standing) (sym c.starts_row.ensures ∙ c.if-starts_row.false)

pub returns-then-met : goal.returns-then-met
returns-then-met c =
    let standing = c.requires.standing in
    elim c.then-met.branch [
      | then-met-via-then-met w ↦
          no_visit
          (covers (met_already standing (is_right c.args.self.grid c.args.p) (sym c.met.ensures ∙ w.if-met.true)) c.requires.met_but)
      | then-met-via-else-met+then-starts_row w ↦
          no_visit
          (covers (row_ends standing (based_here standing) (sym w.starts_row.ensures ∙ w.if-starts_row.true)) c.requires.met_but)
    ]

pub bounds-self-q : goal.bounds-self-q
bounds-self-q c = (on-right (goal.at.bounds-self-q c).Else-starts_row).within

pub replace-requires : goal.replace-requires
replace-requires c =
    replaceable
    (on-right (goal.at.replace-requires c).Else-starts_row)
    c.requires.met_but
    (is_right c.args.self.grid c.args.p)
    (sym c.met.ensures ∙ c.if-met.false)
    c.if-self-q.true

pub returns-then-self-q : goal.returns-then-self-q
returns-then-self-q c =
    follows
    (on-right (goal.at.returns-then-self-q c).Else-starts_row)
    c.requires.met_but
    (is_right c.args.self.grid c.args.p)
    (sym c.met.ensures ∙ c.if-met.false)
    c.if-self-q.true
    c.replace.auto.ws
    c.replace.ensures

pub visit-requires : goal.visit-requires
visit-requires c = on-right (goal.at.visit-requires c).Else-starts_row

pub returns : goal.returns
returns c =
    let grid = c.args.self.grid in
    let p = c.args.p in
    let standing = c.requires.standing in
    let one = one_right standing (based_here standing) (sym c.starts_row.ensures ∙ c.if-starts_row.false) in
    covers_to (on_side_to c.visit.ensures (λ x h. is_right grid p x) one) c.requires.met_but (λ x h. near_right grid p x)
