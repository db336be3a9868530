-- The reversed picture: its length and greys, which are bytes, that reversing twice gives the picture back, and that a dark call is judged as the map call is.
-- Reversing twice assumes that greys are bytes; the rest assumes nothing.
use Prim.Native.Nat.{ℕ, ◌-◌, ◌<◌}
use mathlib.Core.List.{List}
use mathlib.Core.Path.{◌≡◌, refl, sym}
use native.Mathlib.Omega.{arith}
use lib.ListN.{length}
use Rattle.sets.proofs.Laws.{length_table, table_at}
use Rattle.sets.proofs.Tables.{as_table}
use Rattle.calls.specs.Calls.{grey, MapCall, map_verdict}
use Rattle.calls.specs.Reversed.{reversed, reversed_call}

module _ (picture : List ℕ) where
  pub length_reversed : length (reversed picture) ≡ length picture
  unfolding reversed
  length_reversed = length_table (length picture) _

  pub reversed_at : (p : ℕ) → p < length picture → grey (reversed picture) p ≡ 255 - grey picture p
  unfolding reversed
  reversed_at p b = table_at (length picture) _ p 0 b

-- a reversed picture is a picture: its greys are bytes
pub reversed_byte : (picture : List ℕ) (p : ℕ) → p < length picture → grey (reversed picture) p < 256
reversed_byte picture p b = omega (arith, reversed_at picture p b)

-- reversal twice gives the picture back
pub reversed_twice : (picture : List ℕ) → ((p : ℕ) → grey picture p < 256) → reversed (reversed picture) ≡ picture
unfolding reversed
reversed_twice picture bytes =
    sym
    (as_table
    0
    (λ (p : ℕ). 255 - grey (reversed picture) p)
    (sym (length_reversed picture))
    (λ p b.
    let inside : p < length picture = omega (arith, length_reversed picture) in
    omega (arith, reversed_at picture p inside, bytes p)))

-- only lengths and named numbers decide, never a grey
pub reversed_verdict : (call : MapCall) → map_verdict (reversed_call call) ≡ map_verdict call
reversed_verdict call = rw (length_reversed call.picture) refl
