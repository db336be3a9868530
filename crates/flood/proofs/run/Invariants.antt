-- `run` meets its contract. The invariant: the flood stands at the pixel, at the head of the level. The measure is how many
-- pixels are left to meet and what the heads have left to go, and every turn takes some of it.
use Prim.Native.Nat.{◌+◌, ◌*◌, ◌-◌}
use lib.ListN.{length}
use Rattle.queues.specs.Queues.{lists_of}
use Rattle.visits.specs.Visits.{Standing}
use Rattle.flood.specs.Calls.{spent}
use Rattle.flood.proofs.run.Given as goal

abbrev pub invariant-loop-q : goal.invariant-loop-q
invariant-loop-q l = Standing l.picture.grid l.picture.greys.now (lists_of l.ws l.queues) l.level l.p

abbrev pub decreases-loop-q : goal.decreases-loop-q
decreases-loop-q l = 257 * length l.picture.greys.now + 1 - spent (length l.picture.greys.now) (lists_of l.ws l.queues)
