-- `frame::mark_frame` meets its contract: the four runs are the frame. Assumes nothing.
use Rattle.frame.proofs.Sides.{framed_all}
use Rattle.frame.proofs.mark_frame.Goals as goal

pub returns : goal.returns
returns c =
    framed_all
    c.requires
    c.mark_run.ensures
    c.mark_run-2.ensures
    c.mark_run-3.ensures
    c.mark_run-4.ensures
