-- What the check leaves of `put_samples`.
use Rattle.pgm_write.proofs.Stores.{stored_more}
use Rattle.pgm_write.proofs.samples.put_samples.Goals as goal

pub loop-i-preserved : goal.loop-i-preserved
loop-i-preserved c = stored_more c.loop-i.invariant c.loop-i-test.true
