-- `pgm_header::gap_end` meets its contract. The outer loop's invariant: the rest of the gap starts at `at`. The inner loop's: the same,
-- inside a comment. The measure of both is what is left of the file. Assumes nothing.
use Prim.Native.Nat.{◌+◌, ◌-◌, ◌≤◌}
use mathlib.Core.Path.{◌≡◌}
use mathlib.Core.Bool.{true, false}
use lib.ListN.{length, drop}
use Rattle.pgm_header.specs.Header.{gap_length}
use Rattle.pgm_header.proofs.gap_end.Given as goal

abbrev pub invariant-loop-at : goal.invariant-loop-at
invariant-loop-at l = (l.from + gap_length false (drop l.from l.file) ≡ l.at + gap_length true (drop l.at l.file)) × (l.initial.at ≤ l.at)

abbrev pub decreases-loop-at : goal.decreases-loop-at
decreases-loop-at l = length l.file - l.at

abbrev pub invariant-gap : goal.invariant-gap
invariant-gap l = l.from + gap_length false (drop l.from l.file) ≡ l.at + gap_length false (drop l.at l.file)

abbrev pub decreases-gap : goal.decreases-gap
decreases-gap l = length l.file - l.at
