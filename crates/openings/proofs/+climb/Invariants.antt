-- `openings::climb` meets its contract, by recursion on the grey of the node, which falls. Assumes nothing.
use Rattle.std.proofs.Common.{get_or}
use Rattle.openings.proofs.+climb.Given as goal

abbrev pub decreases-climb : goal.decreases-climb
decreases-climb l = get_or l.picture.now l.r 0
