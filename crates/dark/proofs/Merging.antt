-- The pairs of both sides, merged, hold the three maps of a combined call. Assumes nothing.
use Prim.Native.Nat.{ℕ, ◌<◌}
use mathlib.Core.List.{List}
use mathlib.Core.Logic.{⊎_elim}
use mathlib.Core.Path.{◌≡◌, refl, sym, ap, subst, ◌∙◌}
use native.Mathlib.Omega.{arith}
use lib.Dec.{ltb}
use lib.IntN.{ℤ}
use lib.ListN.{length, get_or}
use Rattle.sets.specs.Sets.{table}
use Rattle.sets.proofs.Laws.{table_at, table_ext}
use Rattle.sets.proofs.Tables.{table_long}
use Rattle.sets.proofs.Tests.{decided}
use Rattle.grid.specs.Pixels.{pixels}
use Rattle.calls.specs.Calls.{residue_map, index_map, MapCall, kept_by}
use Rattle.calls.specs.Reversed.{reversed}
use Rattle.calls.specs.Combined.{larger_residue, winning_index, contrast_of, light_residue, light_index, dark_residue, dark_index, combined_residues, combined_indices, combined_contrasts}
use Rattle.calls.proofs.Combined.{chosen_larger}
use Rattle.map_passes.specs.Settle.{total_in, index_in}
use Rattle.map_passes.specs.Passes.{pair_for}
use Rattle.map_passes.proofs.Settling.{read_chosen}
use Rattle.sizing.specs.Sizing.{NodePairs, PixelPairs}
use Rattle.sizing.proofs.Mapping.{right_maps}
use Rattle.dark.specs.Merging.{merged}

-- a merged pair has 16 bits
pub merged_fits : (light dark : ℕ) → light < 65536 → dark < 65536 → merged light dark < 65536
merged_fits light dark l d = ⊎_elim (λ e. rw e l) (λ e. rw e d) (decided (ltb (total_in dark) (total_in light)))

-- both sides are sized: `light` holds the pairs of the picture, the workspace ws those of the nodes of the reversed one
module _ (call : MapCall) {shown light ws : List ℕ} (is : shown ≡ reversed call.picture)
    (lights : PixelPairs call.grid call.picture (kept_by call) call.gap light)
    (darks : NodePairs call.grid shown call.kind call.steps call.gap ws) where
  abbrev n : ℕ
  n = pixels call.grid

  abbrev light_at : ℕ → ℕ
  light_at q = get_or light q 0

  abbrev dark_at : ℕ → ℕ
  dark_at q = pair_for (length shown) ws q

  dark_right : (q : ℕ) → q < n → (total_in (dark_at q) ≡ dark_residue call q) × (index_in (dark_at q) ≡ dark_index call q)
  dark_right =
      subst
      (λ (picture : List ℕ).
      (q : ℕ) → q < n
      → (total_in (dark_at q) ≡ get_or (residue_map call.grid (kept_by call) call.gap picture) q 0)
      × (index_in (dark_at q) ≡ get_or (index_map call.grid (kept_by call) call.gap picture) q 0))
      is
      (right_maps call.grid (kept_by call) call.gap shown dark_at darks.right)

  light_right : (q : ℕ) → q < n → (total_in (light_at q) ≡ light_residue call q) × (index_in (light_at q) ≡ light_index call q)
  light_right = right_maps call.grid (kept_by call) call.gap call.picture light_at lights.right

  total_merged : (q : ℕ) → q < n → total_in (merged (light_at q) (dark_at q)) ≡ larger_residue (light_residue call q) (dark_residue call q)
  total_merged q b =
      read_chosen total_in (ltb (total_in (dark_at q)) (total_in (light_at q))) _ _ _ _ (λ e. refl) (λ e. refl)
      ∙ rw ((light_right q b).0, (dark_right q b).0) (chosen_larger (light_residue call q) (dark_residue call q))

  index_merged : (q : ℕ) → q < n
      → index_in (merged (light_at q) (dark_at q)) ≡ winning_index (light_residue call q) (dark_residue call q) (light_index call q) (dark_index call q)
  index_merged q b =
      read_chosen
      index_in
      (ltb (total_in (dark_at q)) (total_in (light_at q)))
      _
      _
      _
      _
      (λ e. (light_right q b).1)
      (λ e. (dark_right q b).1)
      ∙ rw ((light_right q b).0, (dark_right q b).0) refl

  -- merged and unpacked they are the three maps
  module _ {pairs residue index : List ℕ} {contrast : List ℤ}
      (merging : (pairs ≡ table (length shown) (λ (q : ℕ). merged (light_at q) (dark_at q)))
      × (contrast ≡ table (length shown) (λ (q : ℕ). contrast_of (total_in (light_at q)) (total_in (dark_at q)))))
      (maps : (residue ≡ table (length pairs) (λ (q : ℕ). total_in (get_or pairs q 0)))
      × (index ≡ table (length pairs) (λ (q : ℕ). index_in (get_or pairs q 0)))) where
    size : length shown ≡ n
    size = darks.noded.buildable.bytes

    pairs_long : length pairs ≡ n
    pairs_long = table_long _ merging.0 ∙ size

    pair_at : (q : ℕ) → q < n → get_or pairs q 0 ≡ merged (light_at q) (dark_at q)
    pair_at q b = rw merging.0 (table_at (length shown) _ q 0 (omega (arith, size)))

    pub merged_residues : residue ≡ combined_residues call
    unfolding combined_residues
    merged_residues = maps.0 ∙ rw pairs_long (table_ext n _ _ (λ q b. ap total_in (pair_at q b) ∙ total_merged q b))

    pub merged_indices : index ≡ combined_indices call
    unfolding combined_indices
    merged_indices = maps.1 ∙ rw pairs_long (table_ext n _ _ (λ q b. ap index_in (pair_at q b) ∙ index_merged q b))

    pub merged_contrasts : contrast ≡ combined_contrasts call
    unfolding combined_contrasts
    merged_contrasts =
        merging.1
        ∙ subst
        (λ (k : ℕ).
        table k (λ (q : ℕ). contrast_of (total_in (light_at q)) (total_in (dark_at q)))
        ≡ table n (λ (q : ℕ). contrast_of (light_residue call q) (dark_residue call q)))
        (sym size)
        (table_ext n _ _ (λ q b. rw ((light_right q b).0, (dark_right q b).0) refl))
