-- `visit` meets its contract: a pixel that is met leaves all as it was, and one that is not is put into its queue.
use mathlib.Core.Path.{◌≡◌, refl, sym, ◌∙◌}
use lib.ListN.{length}
use Rattle.levels.specs.Workspace.{number_at}
use Rattle.queues.specs.Queues.{Fitting}
use Rattle.queues.proofs.Parts.{appendable, placing}
use Rattle.levels.specs.Levels.{grey}
use Rattle.visits.proofs.Visits.{already, unnumbered, is_open, not_open, fits, queued_to}
use Rattle.visits.proofs.Picture.visit.Goals as goal
use Rattle.visits.proofs.Picture.visit.Goals.{Else-met}

new : (c : Else-met) → number_at c.args.ws.now c.args.q ≡ length c.args.self.greys.now
new c = unnumbered c.requires (sym c.met.ensures ∙ c.if-met.false)

room :
    (c : Else-met)
    → let at = c.args in
    Fitting (length at.self.greys.now) at.q (grey at.self.greys.now at.q) at.ws.now at.queues.now.tails at.queues.now.opened
room c = fits c.requires (new c)

pub returns-then-met : goal.returns-then-met
returns-then-met c = already c.requires (sym c.met.ensures ∙ c.if-met.true)

pub number_for-k-requires : goal.number_for-k-requires
number_for-k-requires c =
    record {
      nameable = (room (goal.at.number_for-k-requires c).Else-met).nameable;
      open_here = is_open c.requires;
      none_brighter = not_open c.requires;
    }

pub append-requires : goal.append-requires
append-requires c = appendable (room (goal.at.append-requires c).Else-met) c.number_for-k.ensures

pub returns : goal.returns
returns c =
    let same = rw c.append.ensures.words at c.append.auto.ws in
    let P = placing (room (goal.at.returns c).Else-met) c.number_for-k.ensures in
    rw
    (c.append.ensures.words, c.append.ensures.queues, c.then_some.ensures)
    (queued_to c.requires (new (goal.at.returns c).Else-met) same P _ refl)
