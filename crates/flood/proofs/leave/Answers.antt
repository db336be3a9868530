-- `leave` meets its contract: the flood goes on at its level, or closes it and goes on below or ends.
use mathlib.Core.Path.{refl}
use native.Mathlib.Omega.{arith}
use Rattle.visits.proofs.Visits.{head_in}
use Rattle.flood.proofs.Steps.{goes_on, closable, empties}
use Rattle.flood.proofs.leave.Goals as goal

pub overflow_add-queues : goal.overflow_add-queues
overflow_add-queues c =
    let ready = c.requires.stands.ready in
    omega (arith, head_in ready, ready.sized.small)

pub returns-then-queues-level : goal.returns-then-queues-level
returns-then-queues-level c = record { left = goes_on c.requires c.if-queues-level.true; tails = refl }

pub close-requires : goal.close-requires
close-requires c = closable c.requires

pub returns : goal.returns
returns c = record { left = empties c.requires c.if-queues-level.false c.close.result c.close.auto.ws c.close.ensures; tails = refl }
