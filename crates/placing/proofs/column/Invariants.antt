-- The loop's invariant: there are 256 entries, and those below i are the part of the triples.
use Prim.Native.Nat.{ℕ, ◌+◌, ◌*◌, ◌<◌}
use mathlib.Core.Path.{◌≡◌}
use lib.ListN.{get_or, length}
use Rattle.placing.proofs.column.Given as goal

abbrev pub invariant-loop-i : goal.invariant-loop-i
invariant-loop-i l = (length l.entries ≡ 256) × ((k : ℕ) → k < l.i → get_or l.entries k 0 ≡ get_or l.words (3 * k + l.part) 0)
