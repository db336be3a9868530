-- What the dark call and the combined call answer and write. A dark call is a map call on the picture that stands in the lent residue map, `shown`,
-- which is the reversed one. Assumes nothing.
use Rattle.std.specs.Prelude.{Ok}
use Rattle.calls.specs.Judging.{Verdict}
use Prim.Native.Nat.{ℕ}
use mathlib.Core.List.{List}
use mathlib.Core.Path.{◌≡◌, refl, sym, subst, ap, ◌∙◌}
use lib.IntN.{ℤ}
use lib.ListN.{length, get_or}
use Rattle.sets.specs.Sets.{table}
use Rattle.grid.specs.Pixels.{pixels}
use Rattle.calls.specs.Steps.{list_attribute}
use Rattle.calls.specs.Judging.{verdict_numbers, verdict_of, also}
use Rattle.causes.specs.declared.Cause.TheVariants.{Output}
use mathlib.Core.Bool.{Bool}
use mathlib.Core.List.{[], ◌∷◌}
use lib.Dec.{eqb}
use Rattle.calls.specs.Calls.{MapCall, map_verdict, kept_by}
use Rattle.calls.specs.Reversed.{reversed, reversed_call}
use Rattle.calls.specs.Combined.{contrast_of, combined_verdict, combined_workspace, combined_residue, combined_index, combined_contrast}
use Rattle.calls.proofs.Accepted.{map_passed}
use Rattle.calls.proofs.Reversed.{length_reversed, reversed_verdict}
use Rattle.calls.proofs.Combined.{combined_passed}
use Rattle.building.specs.Building.{Recorded}
use Rattle.map_passes.specs.Settle.{total_in, index_in}
use Rattle.map_passes.specs.Passes.{pair_for, Holdable}
use Rattle.sizing.specs.Sizing.{Sizeable, NodePairs, PixelPairs}
use Rattle.sizing.proofs.Mapping.{Called, called_done, sizes, size_asks, hold_asks}
use Rattle.dark.specs.Merging.{merged}
use Rattle.dark.proofs.Merging.{merged_residues, merged_indices, merged_contrasts}

-- a picture that an accepted map call sizes, and its reversed one
module _ (call : MapCall) (accepted : map_verdict call ≡ Ok tt) where
  pub light_asks : Sizeable call.grid call.picture call.kind call.steps call.gap call.workspace
  light_asks = size_asks call accepted

  pub index_long : length call.index ≡ pixels call.grid
  index_long = (map_passed call accepted).index

  pub reverse_asks : length call.residue ≡ length call.picture
  reverse_asks = let passed = map_passed call accepted in passed.residue ∙ sym passed.common.a_byte_each

  pub dark_asks : {shown ws : List ℕ} → shown ≡ reversed call.picture → length ws ≡ length call.workspace
      → Sizeable call.grid shown call.kind call.steps call.gap ws
  dark_asks is long =
      let passed = map_passed call accepted in
      sizes passed (rw is (length_reversed call.picture) ∙ passed.common.a_byte_each) (long ∙ passed.common.words_each)

-- the dark call
module _ (call : MapCall) where
  pub dark_done : {shown ws left pairs residue index : List ℕ} {number : ℕ} → map_verdict call ≡ Ok tt → shown ≡ reversed call.picture
      → NodePairs call.grid shown call.kind call.steps call.gap ws
      → PixelPairs call.grid shown (kept_by call) call.gap pairs
      → Recorded shown ws left number
      → (residue ≡ table (length pairs) (λ (q : ℕ). total_in (get_or pairs q 0)))
      × (index ≡ table (length pairs) (λ (q : ℕ). index_in (get_or pairs q 0)))
      → Called (reversed_call call) (Ok tt) left residue index
  dark_done {shown} {ws} {left} {pairs} {number = number} accepted is words held recorded maps =
      called_done
      (reversed_call call)
      (reversed_verdict call ∙ accepted)
      (subst (λ (picture : List ℕ). NodePairs call.grid picture call.kind call.steps call.gap ws) is words)
      (subst (λ (picture : List ℕ). PixelPairs call.grid picture (kept_by call) call.gap pairs) is held)
      (subst (λ (picture : List ℕ). Recorded picture ws left number) is recorded)
      maps

-- what holds of the answer, the workspace and the maps after a combined call
abbrev pub CombinedCalled : MapCall → List ℤ → Verdict → List ℕ → List ℕ → List ℕ → List ℤ → Type 0
CombinedCalled call lent answer workspace residue index contrast =
    (verdict_numbers answer ≡ verdict_numbers (combined_verdict call lent))
    × ((workspace ≡ combined_workspace call lent)
    × ((residue ≡ combined_residue call lent)
    × ((index ≡ combined_index call lent)
    × (contrast ≡ combined_contrast call lent))))

-- a combined call is accepted where the map call is and the contrast map has an entry for each pixel
pub combined_accepted : (call : MapCall) (lent : List ℤ) {good : Bool} → Ok tt ≡ map_verdict call → Ok tt ≡ verdict_of ((good, Output) ∷ [])
    → good ≡ eqb (length lent) (pixels call.grid) → combined_verdict call lent ≡ Ok tt
combined_accepted call lent mapped long is =
    ap (λ (verdict : Verdict). also verdict (eqb (length lent) (pixels call.grid), Output)) (sym mapped)
    ∙ ap (λ (b : Bool). also (Ok tt) (b, Output)) (sym is)
    ∙ sym long

module _ (call : MapCall) (lent : List ℤ) (accepted : combined_verdict call lent ≡ Ok tt) where
  pub sizing_accepted : map_verdict call ≡ Ok tt
  sizing_accepted = (combined_passed call lent accepted).0

  pub contrast_long : length lent ≡ pixels call.grid
  contrast_long = (combined_passed call lent accepted).1

  module _ {shown light ws : List ℕ} (is : shown ≡ reversed call.picture)
      (lights : PixelPairs call.grid call.picture (kept_by call) call.gap light)
      (darks : NodePairs call.grid shown call.kind call.steps call.gap ws) where
    pub merge_asks : Holdable (length shown) ws (length light) × (length lent ≡ length shown)
    merge_asks = (hold_asks darks lights.size, contrast_long ∙ sym darks.noded.buildable.bytes)

    pub combined_done : {left pairs residue index : List ℕ} {contrast : List ℤ} {number : ℕ}
        → (pairs ≡ table (length shown) (λ (q : ℕ). merged (get_or light q 0) (pair_for (length shown) ws q)))
        × (contrast ≡ table (length shown) (λ (q : ℕ). contrast_of (total_in (get_or light q 0)) (total_in (pair_for (length shown) ws q))))
        → Recorded shown ws left number
        → (residue ≡ table (length pairs) (λ (q : ℕ). total_in (get_or pairs q 0)))
        × (index ≡ table (length pairs) (λ (q : ℕ). index_in (get_or pairs q 0)))
        → CombinedCalled call lent (Ok tt) left residue index contrast
    unfolding combined_workspace combined_residue combined_index combined_contrast
    combined_done merging recorded maps =
        let whole = (recorded.whole call.grid (list_attribute call.kind) darks.number darks.noded).left in
        rw
        accepted (
          refl,
          (
            rw (← is) whole,
            (
              merged_residues call is lights darks merging maps,
              (
                merged_indices call is lights darks merging maps,
                merged_contrasts call is lights darks merging maps,
              ),
            ),
          ),
        )
