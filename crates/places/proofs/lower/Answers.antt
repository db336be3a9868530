-- What the check leaves of `lower`.
use Rattle.std.proofs.Common.{rules}
use mathlib.Core.Path.{◌∙◌, ap}
use native.Mathlib.Omega.{arith}
use lib.ListN.{length}
use Rattle.falls.specs.Falls.{places_before}
use Rattle.places.proofs.Lowering.{found_le, lower_more}
use Rattle.places.proofs.lower.Goals as goal

pub overflow_cast-place : goal.overflow_cast-place
overflow_cast-place c =
    omega (arith, found_le _ _ c.of-place.ensures, ap length c.new-places.ensures, c.requires.small)

-- what is stored is the smaller of the two
pub loop-k-preserved : goal.loop-k-preserved
loop-k-preserved c = lower_more c.requires c.loop-k-test.true c.loop-k.invariant (c.of-place.ensures ∙ ap (places_before _) c.new-places.ensures) (search rules)
