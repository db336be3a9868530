-- The step by which `largest` takes the next sample in, and that no sample is left at the end.
use Rattle.pgm_values.proofs.Largest.{largest_more, largest_all}
use Rattle.pgm_values.proofs.most.Goals as goal

pub loop-sample-preserved : goal.loop-sample-preserved
loop-sample-preserved c = largest_more _ _ _ c.loop-sample.invariant _ c.loop-sample-test.true c.max-best.ensures

pub returns : goal.returns
returns c = largest_all _ _ _ c.loop-sample.invariant c.loop-sample-test.false
