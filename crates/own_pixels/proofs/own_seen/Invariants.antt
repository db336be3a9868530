-- `own_pixels::own_seen` meets its contract. Invariant: the words of each node hold what is seen of its own pixels from q on, and the point is
-- that of q. Assumes nothing.
use mathlib.Core.Path.{◌≡◌}
use Rattle.own_pixels.specs.Points.{point_of}
use Rattle.own_pixels.proofs.OwnPixels.{Owning}
use Rattle.own_pixels.proofs.own_seen.Given as goal

abbrev pub invariant-loop-q : goal.invariant-loop-q
invariant-loop-q l = Owning l.grid l.attribute l.n l.nodes l.initial.ws l.ws l.q × (l.point ≡ point_of l.grid.width l.q)
