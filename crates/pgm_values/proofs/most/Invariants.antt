-- The loop's invariant: the largest of all samples is the larger of `best` and the largest of those that are left.
use Rattle.pgm_values.proofs.Largest.{LargestSoFar}
use Rattle.pgm_values.proofs.most.Given as goal

abbrev pub invariant-loop-sample : goal.invariant-loop-sample
invariant-loop-sample l = LargestSoFar l.samples l.sample-index l.best
