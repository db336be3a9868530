-- The loop's invariant: the pictures from `at` on, the number that is left and what is held decide the answer. The measure is what is left
-- of the file: a picture ends after it starts.
use Prim.Native.Nat.{◌-◌}
use lib.ListN.{length}
use Rattle.pgm_read.proofs.Walk.{Walking}
use Rattle.pgm_read.proofs.pick.Given as goal

abbrev pub invariant-loop-picture : goal.invariant-loop-picture
invariant-loop-picture l = Walking l.file l.number l.at l.left l.held

abbrev pub decreases-loop-picture : goal.decreases-loop-picture
decreases-loop-picture l = length l.file - l.at
