-- The loop's invariant: `count` digits, those from `from` up to `at`, have been read, and
-- `value` is theirs (`Reading`).
use Rattle.pgm_header.proofs.Scan.{Reading}
use Rattle.pgm_header.proofs.number_at.Given as goal

abbrev pub invariant-loop-at : goal.invariant-loop-at
invariant-loop-at l = Reading l.file l.from l.at l.value l.count
