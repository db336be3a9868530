-- What the check leaves of `run`.
use mathlib.Core.Path.{refl}
use native.Mathlib.Omega.{arith}
use Rattle.grid.specs.Neighbours.{adjacent}
use Rattle.queues.specs.Queues.{lists_of}
use Rattle.visits.specs.Visits.{Ready, Visited, Moved}
use Rattle.visits.proofs.Visits.{standing_in, head_in}
use Rattle.flood.proofs.Steps.{moves, leavable, leaves, spent_falls, next_ready}
use Rattle.flood.proofs.run.Goals as goal
use Rattle.flood.proofs.run.Goals.{In-Some, In_default, In-Some-leave}

-- the flood moves, or stays at its pixel, whose neighbours are then all met
moved :
    (c : In-Some)
    → let at = c.args.picture in
    Moved at.grid at.greys.now (lists_of c.loop-q.ws c.loop-q.queues) (lists_of c.visit_around.new.ws c.visit_around.new.queues) c.loop-q.p
    c.in-Some.q
    (adjacent at.grid c.loop-q.p)
moved c = c.visit_around.ensures.went c.in-Some.q c.in-Some.is

stayed :
    (c : In_default)
    → let at = c.args.picture in
    Visited at.grid at.greys.now (lists_of c.loop-q.ws c.loop-q.queues) (lists_of c.visit_around.new.ws c.visit_around.new.queues) c.loop-q.p
    c.loop-q.p
    (adjacent at.grid c.loop-q.p)
stayed c = c.visit_around.ensures.stayed c.in_default.is

-- and goes on at another level
ready :
    (c : In-Some-leave)
    → let at = c.args.picture in
    Ready at.grid at.greys.now (lists_of c.leave.new.ws c.leave.new.queues) c.in-Some-leave.next
ready c = next_ready c.leave.ensures.left c.in-Some-leave.is

pub loop-q-init : goal.loop-q-init
loop-q-init c = c.requires

pub visit_around-requires : goal.visit_around-requires
visit_around-requires c = c.loop-q.invariant

pub bounds-picture-q : goal.bounds-picture-q
bounds-picture-q c = standing_in (moved (goal.at.bounds-picture-q c).In-Some).visited.stands

pub loop-q-smaller-in-Some : goal.loop-q-smaller-in-Some
loop-q-smaller-in-Some c =
    spent_falls (lists_of c.visit_around.new.ws c.visit_around.new.queues) c.loop-q.invariant (moves (moved (goal.at.loop-q-smaller-in-Some c).In-Some))

pub loop-q-preserved-in-Some : goal.loop-q-preserved-in-Some
loop-q-preserved-in-Some c = (moved (goal.at.loop-q-preserved-in-Some c).In-Some).visited.stands

pub leave-requires : goal.leave-requires
leave-requires c = leavable (stayed (goal.at.leave-requires c).In_default) c.loop-q.invariant

pub overflow_add-p : goal.overflow_add-p
overflow_add-p c = let r = ready (goal.at.overflow_add-p c).In-Some-leave in omega (arith, head_in r, r.sized.small)

pub offset_bounds-ws-n : goal.offset_bounds-ws-n
offset_bounds-ws-n c = let r = ready (goal.at.offset_bounds-ws-n c).In-Some-leave in omega (arith, head_in r, r.sized.small)

pub bounds-ws-n : goal.bounds-ws-n
bounds-ws-n c = let r = ready (goal.at.bounds-ws-n c).In-Some-leave in omega (arith, head_in r, r.sized.words)

pub loop-q-smaller : goal.loop-q-smaller
loop-q-smaller c =
    spent_falls (lists_of c.leave.new.ws c.leave.new.queues) c.loop-q.invariant (leaves (stayed (goal.at.loop-q-smaller c).In_default) c.leave.ensures.left)

pub loop-q-preserved : goal.loop-q-preserved
loop-q-preserved c = record { ready = ready (goal.at.loop-q-preserved c).In-Some-leave; here = refl }
