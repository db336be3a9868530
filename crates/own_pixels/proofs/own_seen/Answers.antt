-- What the check leaves of `own_seen`.
use Prim.Native.Nat.{◌-◌}
use mathlib.Core.Path.{◌≡◌}
use native.Mathlib.Omega.{arith}
use Rattle.accumulators.specs.Accumulators.{seen}
use Rattle.own_pixels.specs.Points.{point_of}
use Rattle.own_pixels.proofs.Points.{end_point, previous_is, side_is, own_seen}
use Rattle.own_pixels.proofs.OwnPixels.{owning_none, gather_asked, owning_more, owning_end}
use Rattle.own_pixels.proofs.own_seen.Goals as goal
use Rattle.own_pixels.proofs.own_seen.Goals.{After-one-own, After-previous-point}

-- the point is that of the pixel
there : (c : After-previous-point) →
    c.previous-point.result ≡ point_of c.args.grid.width (c.loop-q.q - 1)
there c =
    previous_is c.args.grid.width c.loop-q.q c.loop-q.invariant.1 c.previous-point.ensures

-- so the accumulator is that of what is seen of it
own_is : (c : After-one-own) →
    c.one-own.result ≡ seen c.args.grid c.args.attribute (c.loop-q.q - 1)
own_is c =
    own_seen c.args.grid c.args.attribute (c.loop-q.q - 1) (there (goal.at.After-one-own c).After-previous-point) c.coordinate.ensures c.one-own.ensures

pub loop-q-init : goal.loop-q-init
loop-q-init c =
    (owning_none c.requires c.blank.ensures, end_point c.args.grid c.args.n c.requires.wide c.requires.whole)

pub one-own-requires : goal.one-own-requires
one-own-requires c =
    let q = c.loop-q.q in
    omega (
      arith,
      side_is c.args.grid c.args.attribute (q - 1) (there (goal.at.one-own-requires c).After-previous-point) c.coordinate.ensures,
      c.requires.short (q - 1) (omega (arith, c.loop-q.invariant.0.top)),
    )

pub gather-requires : goal.gather-requires
gather-requires c =
    gather_asked c.requires c.blank.ensures (omega arith) c.loop-q.invariant.0 (own_is (goal.at.gather-requires c).After-one-own)

pub loop-q-preserved : goal.loop-q-preserved
loop-q-preserved c = (
  owning_more c.requires c.blank.ensures (omega arith) c.loop-q.invariant.0 (own_is (goal.at.loop-q-preserved c).After-one-own) c.gather.ensures,
  there (goal.at.loop-q-preserved c).After-previous-point,
)

pub returns : goal.returns
returns c =
    owning_end c.requires c.blank.ensures (omega arith) c.loop-q.invariant.0
