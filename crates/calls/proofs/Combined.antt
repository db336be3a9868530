-- The combined call: what holds of one that is accepted, and the contrast beside the residue. Assumes nothing.
use Rattle.std.specs.Prelude.{Ok}
use Prim.Native.Nat.{ℕ, zero, suc, ◌≤◌, ◌<◌}
use mathlib.Core.Bool.{cond}
use mathlib.Core.List.{List}
use mathlib.Core.Logic.{⊎_elim}
use mathlib.Core.Path.{◌≡◌, refl, ◌∙◌}
use native.Mathlib.Omega.{arith}
use lib.Dec.{ltb}
use lib.IntN.{ℤ, pos, neg_ℤ, nat_abs}
use lib.ListN.{length, get_or}
use borrow.Author.Tests.{eqb-true, lt-ltb, le-ltb}
use Rattle.sets.proofs.Laws.{table_at}
use Rattle.sets.proofs.Tests.{le_or_lt}
use Rattle.grid.specs.Pixels.{pixels}
use Rattle.calls.specs.Calls.{MapCall, map_verdict, map_residue, map_index}
use Rattle.calls.specs.Reversed.{reversed_call}
use Rattle.calls.specs.Combined.{larger_residue, winning_index, contrast_of, light_residue, light_index, dark_residue, dark_index, combined_residues, combined_indices, combined_contrasts, combined_verdict, combined_residue, combined_index, combined_contrast, AtCombined}
use Rattle.calls.proofs.Accepted.{also_accepted, maps_accepted}
use Rattle.calls.proofs.Reversed.{reversed_verdict}

-- an accepted combined call would be accepted as a map call, and its contrast map has an entry for each pixel
pub combined_passed : (call : MapCall) (contrast : List ℤ) → combined_verdict call contrast ≡ Ok tt
    → (map_verdict call ≡ Ok tt) × (length contrast ≡ pixels call.grid)
combined_passed call contrast ok =
    let both = also_accepted (map_verdict call) _ ok in
    (both.0, eqb-true _ _ both.1)

-- the larger of two numbers by a test
pub chosen_larger : (light dark : ℕ) → cond (ltb dark light) light dark ≡ larger_residue light dark
chosen_larger light dark =
    ⊎_elim
    (λ (l : light ≤ dark). rw (le-ltb dark light l) (omega arith))
    (λ (l : dark < light). rw (lt-ltb dark light l) (omega arith))
    (le_or_lt light dark)

-- at each pixel of an accepted call
module _ (call : MapCall) (contrast : List ℤ) (ok : combined_verdict call contrast ≡ Ok tt) (p : ℕ) (inside : p < pixels call.grid) where
  residue_is : get_or (combined_residue call contrast) p 0 ≡ larger_residue (light_residue call p) (dark_residue call p)
  unfolding combined_residue combined_residues
  residue_is = rw ok (table_at (pixels call.grid) _ p 0 inside)

  index_is : get_or (combined_index call contrast) p 0
      ≡ winning_index (light_residue call p) (dark_residue call p) (light_index call p) (dark_index call p)
  unfolding combined_index combined_indices
  index_is = rw ok (table_at (pixels call.grid) _ p 0 inside)

  contrast_is : get_or (combined_contrast call contrast) p (pos 0) ≡ contrast_of (light_residue call p) (dark_residue call p)
  unfolding combined_contrast combined_contrasts
  contrast_is = rw ok (table_at (pixels call.grid) _ p (pos 0) inside)

  pub at_combined : AtCombined call contrast p
  at_combined =
      let passed = (combined_passed call contrast ok).0 in
      let light = maps_accepted call passed in
      let dark = maps_accepted (reversed_call call) (reversed_verdict call ∙ passed) in
      let l : get_or (map_residue call) p 0 ≡ light_residue call p = rw light.0 refl in
      let i : get_or (map_index call) p 0 ≡ light_index call p = rw light.1 refl in
      let d : get_or (map_residue (reversed_call call)) p 0 ≡ dark_residue call p = rw dark.0 refl in
      let j : get_or (map_index (reversed_call call)) p 0 ≡ dark_index call p = rw dark.1 refl in
      record {
        residue = residue_is ∙ rw (l, d) refl;
        light =
            λ wins.
            let won = lt-ltb (dark_residue call p) (light_residue call p) (omega (arith, wins, l, d)) in
            (index_is ∙ rw (won, i) refl, contrast_is ∙ rw (won, l) refl);
        dark =
            λ loses.
            let lost = le-ltb (dark_residue call p) (light_residue call p) (omega (arith, loses, l, d)) in
            (index_is ∙ rw (lost, j) refl, contrast_is ∙ rw (lost, d) refl);
        none = λ no_light no_dark. contrast_is ∙ rw (← l, ← d, no_light, no_dark) refl;
      }

abs_negative : (k : ℕ) → nat_abs (neg_ℤ (pos k)) ≡ k
abs_negative zero = refl
abs_negative (suc k) = refl

-- but for its sign the contrast is the residue
pub contrast_residue : (light dark : ℕ) → nat_abs (contrast_of light dark) ≡ larger_residue light dark
contrast_residue light dark =
    ⊎_elim
    (λ (l : light ≤ dark). rw (le-ltb dark light l, abs_negative dark) (omega arith))
    (λ (l : dark < light). rw (lt-ltb dark light l) (omega arith))
    (le_or_lt light dark)
