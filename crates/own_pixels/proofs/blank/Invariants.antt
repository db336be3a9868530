-- `own_pixels::blank` meets its contract. Invariant: the accumulators of the nodes below k are those of no pixel. Assumes nothing.
use Rattle.own_pixels.specs.OwnPixels.{Blank}
use Rattle.own_pixels.proofs.blank.Given as goal

abbrev pub invariant-loop-k : goal.invariant-loop-k
invariant-loop-k l = Blank l.attribute l.k l.initial.words l.words
