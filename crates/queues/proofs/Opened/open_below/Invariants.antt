-- `open_below` meets its contract. The invariant: no level from the first of word i up to the one named is open.
use Prim.Native.Nat.{ℕ, ◌*◌, ◌≤◌, ◌<◌}
use mathlib.Core.Path.{◌≡◌}
use lib.ListN.{get_or}
use Rattle.queues.specs.Marks.{Marked}
use Rattle.queues.proofs.Opened.open_below.Given as goal

abbrev pub invariant-loop-i : goal.invariant-loop-i
invariant-loop-i l =
    (n : ℕ) → Marked n l.self → (k : ℕ) → 64 * l.i ≤ k → k < l.level → get_or l.self.numbers k 0 ≡ n
