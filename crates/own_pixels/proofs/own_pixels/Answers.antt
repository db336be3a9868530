-- `own_pixels::own_pixels` meets its contract: the frame is noted of what is seen. Assumes nothing.
use Rattle.own_pixels.proofs.OwnPixels.{framed_end}
use Rattle.own_pixels.proofs.own_pixels.Goals as goal

pub returns : goal.returns
returns c =
    framed_end c.requires c.own_seen.ensures c.mark_frame.ensures
