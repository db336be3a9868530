-- `basin::answer` is safe and ends: what is to be sized is small, and an accepted steps file lists at most 256 steps. Assumes nothing.
use mathlib.Core.Path.{◌∙◌, refl}
use mathlib.Core.List.{[]}
use Rattle.basin.proofs.Lending.{taken, steps_room}
use Rattle.basin_judging.proofs.Jobs.{sizing}
use Rattle.basin.proofs.answer.Goals as goal

pub slice_bounds-thresholds-end : goal.slice_bounds-thresholds-end
slice_bounds-thresholds-end g c =
    let S = sizing _ _ _ _ _ c.judge.ensures.answer c.in-Ok.is in
    steps_room _ _ _ _ _ (c.judge.ensures.thresholds ∙ S.stored) refl S.parsed

pub slice_bounds-maps-end : goal.slice_bounds-maps-end
slice_bounds-maps-end g c =
    let S = sizing _ _ _ _ _ c.judge.ensures.answer c.in-Ok.is in
    taken _ _ (steps_room _ _ _ _ _ (c.judge.ensures.thresholds ∙ S.stored) refl S.parsed)

pub maps-requires : goal.maps-requires
maps-requires g c =
    let S = sizing _ _ [] _ _ c.judge.ensures.answer c.in-Ok.is in
    rw c.raster.ensures.raster S.few
