-- The total in a pair, a byte, as a signed number of 16 bits, and its negative; so contrasts have 16 bits. Assumes nothing.
use Prim.Native.Nat.{ℕ, zero, suc, ◌≤◌}
use mathlib.Core.Bool.{true, false}
use mathlib.Core.Logic.{⊎_elim}
use mathlib.Core.Path.{◌≡◌, ap, ◌∙◌}
use native.Mathlib.Omega.{arith}
use lib.IntN.{ℤ, pos, neg_ℤ, ◌-ℤ◌, +ℤ_idl}
use lib.Signed.{mag}
use mir.Syntax.{w16}
use mir.Val.{SFits, to_z, of_z}
use mir.Facts.{to_z_pos, to_z-of_z}
use borrow.Author.Rules.{sfits_of}
use Rattle.sets.proofs.Tests.{decided}
use Rattle.calls.specs.Combined.{light_wins, contrast_of}
use Rattle.map_passes.specs.Settle.{total_in}

mag_negative : (k : ℕ) → mag (neg_ℤ (pos k)) ≤ k
mag_negative zero = omega arith
mag_negative (suc k) = omega arith

module _ (pair : ℕ) where
  pub total_signed : to_z w16 (total_in pair) ≡ pos (total_in pair)
  total_signed = to_z_pos w16 (omega arith)

  negated : pos 0 -ℤ to_z w16 (total_in pair) ≡ neg_ℤ (pos (total_in pair))
  negated = ap (λ (z : ℤ). pos 0 -ℤ z) total_signed ∙ +ℤ_idl (neg_ℤ (pos (total_in pair)))

  pub negative_fits : SFits w16 (pos 0 -ℤ to_z w16 (total_in pair))
  negative_fits = rw negated (sfits_of (omega (arith, mag_negative (total_in pair))))

  pub negative_signed : to_z w16 (of_z w16 (pos 0 -ℤ to_z w16 (total_in pair))) ≡ neg_ℤ (pos (total_in pair))
  negative_signed = to_z-of_z negative_fits ∙ negated

-- a contrast has 16 bits, so it is stored as it is
contrast_fits : (light dark : ℕ) → SFits w16 (contrast_of (total_in light) (total_in dark))
contrast_fits light dark =
    ⊎_elim
    (λ (wins : light_wins (total_in light) (total_in dark) ≡ true). rw wins (sfits_of (omega arith)))
    (λ (loses : light_wins (total_in light) (total_in dark) ≡ false). rw loses (sfits_of (omega (arith, mag_negative (total_in dark)))))
    (decided (light_wins (total_in light) (total_in dark)))

pub contrast_stored : (light dark : ℕ) {z : ℤ} → z ≡ contrast_of (total_in light) (total_in dark)
    → to_z w16 (of_z w16 z) ≡ contrast_of (total_in light) (total_in dark)
contrast_stored light dark is = ap (λ (z : ℤ). to_z w16 (of_z w16 z)) is ∙ to_z-of_z (contrast_fits light dark)
