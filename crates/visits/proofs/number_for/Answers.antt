-- `number_for` meets its contract: at a level brighter than the one at which the flood stands no node is open, so a number is left for one.
use native.Mathlib.Omega.{arith}
use Rattle.visits.proofs.number_for.Goals as goal

pub next_number-requires : goal.next_number-requires
next_number-requires c =
    let named = c.requires.nameable in
    record { level = named.level; small = omega (arith, named.small, named.left (c.requires.none_brighter c.if-l-level-2.true)) }
