-- A picture that was accepted has sides that fit, and ends within the file.
use Rattle.std.proofs.Common.{arith, sym}
use Rattle.pgm_read.proofs.Judging.{judged_accepted}
use Rattle.pgm_read.proofs.raster_span.Goals as goal

pub pixels-requires : goal.pixels-requires
pixels-requires c = (judged_accepted _ _ _ _ _ _ (sym c.in-Ok.ensures)).sides_right

pub overflow_add-result : goal.overflow_add-result
overflow_add-result c =
    let a = judged_accepted _ _ _ _ _ _ (sym c.in-Ok.ensures) in
    omega (arith, c.pixels.ensures, a.length_right)
