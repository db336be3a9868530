-- `close` meets its contract. The level that the search found is darker, so its number is not the one that is closed.
use mathlib.Core.Path.{refl}
use native.Mathlib.Omega.{arith}
use Rattle.queues.proofs.Parts.{shuts, shuts_below}
use Rattle.queues.proofs.Opened.close.Goals as goal
use Rattle.queues.proofs.Opened.close.Goals.{in-Some, in-None}

pub returns : goal.returns
returns c = elim c.match-below.branch [
  | in-Some w ↦ let next = w.in-Some.ensures c.args.n c.requires.marks in rw (w.parent-is, w.below-is) (next, shuts_below c.requires next)
  | in-None w ↦ rw (w.parent-is, w.below-is, w.in-None.is) (w.in-None.ensures c.args.n c.requires.marks, shuts c.requires _ refl (omega arith))
]
