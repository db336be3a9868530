-- The table of the places: its entries go on from one another.
use Prim.Native.Nat.{ℕ, ◌≤◌}
use mathlib.Core.Bool.{true}
use mathlib.Core.List.{List}
use mathlib.Core.Path.{◌≡◌}
use native.Mathlib.Omega.{arith}
use Rattle.opening.specs.Residue.{not_falling}
use Rattle.falls.specs.Falls.{places_before}
use Rattle.falls.proofs.Places.{places_le, places_above, places_past}

-- a greater attribute outlasts no fewer thresholds
pub more_outlasted : (a : ℕ) (steps : List ℕ) → not_falling 0 steps ≡ true → (b : ℕ) → a ≤ b → places_before a steps ≤ places_before b steps
more_outlasted a steps rise b h = grind (arith, places_le a steps, places_above a steps (places_before b steps), places_past b steps rise (places_before b steps))
