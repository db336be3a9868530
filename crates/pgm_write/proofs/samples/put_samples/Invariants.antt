-- `pgm_write::samples::put_samples` meets its contract. The loop's invariant: the first `i` samples are stored from `at` on (`StoredSoFar`).
use Rattle.pgm_write.proofs.Stores.{StoredSoFar}
use Rattle.pgm_write.proofs.samples.put_samples.Given as goal

abbrev pub invariant-loop-i : goal.invariant-loop-i
invariant-loop-i l = StoredSoFar l.initial.buffer l.at l.samples l.i l.buffer
