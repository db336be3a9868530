-- Only what is judged right is written, and it has room.
use Rattle.std.proofs.Common.{sym}
use Rattle.pgm_write.proofs.Judging.{writable_is, buffer_written, buffer_kept}
use Rattle.pgm_write.proofs.write.Goals as goal

pub returns-in_err-needed-clause-buffer : goal.returns-in_err-needed-clause-buffer
returns-in_err-needed-clause-buffer c = buffer_kept _ _ _ _ _ _ (sym c.in_err-needed.ensures)

pub put_file-requires-clause-sides : goal.put_file-requires-clause-sides
put_file-requires-clause-sides c = (writable_is _ _ _ _ _ _ (sym c.in_ok-needed.ensures)).sides_right

pub put_file-requires-clause-maximum : goal.put_file-requires-clause-maximum
put_file-requires-clause-maximum c = (writable_is _ _ _ _ _ _ (sym c.in_ok-needed.ensures)).maximum_right

pub put_file-requires-clause-room : goal.put_file-requires-clause-room
put_file-requires-clause-room c = (writable_is _ _ _ _ _ _ (sym c.in_ok-needed.ensures)).room_right

pub returns-clause-buffer : goal.returns-clause-buffer
returns-clause-buffer c = buffer_written _ _ _ _ _ _ _ (sym c.in_ok-needed.ensures) c.put_file.ensures.buffer
