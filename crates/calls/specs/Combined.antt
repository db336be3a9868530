-- The combined call: both sides of a picture, light floc and dark. It names and is lent what a map call is, and a contrast map.
use Rattle.calls.specs.Judging.{Verdict}
use Rattle.std.specs.Prelude.{ℕ, ◌≤◌, ◌<◌, max, Bool, cond, List, [], ◌∷◌, ◌++◌, ◌≡◌, ltb, ℤ, pos, neg_ℤ, length, get_or}
use Rattle.sets.specs.Sets.{table}
use Rattle.grid.specs.Pixels.{pixels}
use Rattle.calls.specs.Judging.{Test, verdict_of, output_test}
use Rattle.calls.specs.Steps.{list_attribute}
use Rattle.calls.specs.Calls.{residue_map, index_map, record_of, after, MapCall, map_tests, kept_by, map_residue, map_index}
use Rattle.calls.specs.Reversed.{reversed, reversed_call}

-- light wins only if its residue is larger
abbrev pub light_wins : ℕ → ℕ → Bool
light_wins light dark = ltb dark light

-- "at each pixel, the side of larger residue"
abbrev pub larger_residue : ℕ → ℕ → ℕ
larger_residue light dark = max light dark

-- "and its index; on equal residues the dark index": i is the light one, j the dark
abbrev pub winning_index : ℕ → ℕ → ℕ → ℕ → ℕ
winning_index light dark i j = cond (light_wins light dark) i j

-- "the contrast, a signed 16-bit number: the residue where light won, its negative where dark won or tied, 0 where both are 0"
abbrev pub contrast_of : ℕ → ℕ → ℤ
contrast_of light dark = cond (light_wins light dark) (pos light) (neg_ℤ (pos dark))

-- the entries of the light maps of a call at a position, and of the dark ones
module _ (call : MapCall) (p : ℕ) where
  abbrev pub light_residue : ℕ
  light_residue = get_or (residue_map call.grid (kept_by call) call.gap call.picture) p 0

  abbrev pub light_index : ℕ
  light_index = get_or (index_map call.grid (kept_by call) call.gap call.picture) p 0

  abbrev pub dark_residue : ℕ
  dark_residue = get_or (residue_map call.grid (kept_by call) call.gap (reversed call.picture)) p 0

  abbrev pub dark_index : ℕ
  dark_index = get_or (index_map call.grid (kept_by call) call.gap (reversed call.picture)) p 0

-- the three maps
unfoldable pub combined_residues : MapCall → List ℕ
combined_residues call = table (pixels call.grid) (λ (p : ℕ). larger_residue (light_residue call p) (dark_residue call p))

unfoldable pub combined_indices : MapCall → List ℕ
combined_indices call =
    table
    (pixels call.grid)
    (λ (p : ℕ). winning_index (light_residue call p) (dark_residue call p) (light_index call p) (dark_index call p))

unfoldable pub combined_contrasts : MapCall → List ℤ
combined_contrasts call = table (pixels call.grid) (λ (p : ℕ). contrast_of (light_residue call p) (dark_residue call p))

-- its tests, in order: those of a map call, and 6 by the entries of the contrast map; the verdict is its answer
abbrev pub combined_tests : MapCall → List ℤ → List Test
combined_tests call contrast = map_tests call ++ output_test call.grid (length contrast) ∷ []

abbrev pub combined_verdict : MapCall → List ℤ → Verdict
combined_verdict call contrast = verdict_of (combined_tests call contrast)

-- the workspace after it: "Dark and combined calls leave the reversed picture's record."
unfoldable pub combined_workspace : MapCall → List ℤ → List ℕ
combined_workspace call contrast =
    after
    (combined_verdict call contrast)
    (record_of call.grid (list_attribute call.kind) (reversed call.picture))
    call.workspace

-- and the three maps
unfoldable pub combined_residue : MapCall → List ℤ → List ℕ
combined_residue call contrast = after (combined_verdict call contrast) (combined_residues call) call.residue

unfoldable pub combined_index : MapCall → List ℤ → List ℕ
combined_index call contrast = after (combined_verdict call contrast) (combined_indices call) call.index

unfoldable pub combined_contrast : MapCall → List ℤ → List ℤ
combined_contrast call contrast = after (combined_verdict call contrast) (combined_contrasts call) contrast

-- what an accepted combined call writes at the pixel p, beside what the map call and the dark call write there
pub record AtCombined (call : MapCall) (contrast : List ℤ) (p : ℕ) : Type 0 where
  -- "the side of larger residue"
  pub residue : get_or (combined_residue call contrast) p 0 ≡ max (get_or (map_residue call) p 0) (get_or (map_residue (reversed_call call)) p 0)
  -- "and its index", and "the residue where light won"
  pub light : get_or (map_residue (reversed_call call)) p 0 < get_or (map_residue call) p 0
      → (get_or (combined_index call contrast) p 0 ≡ get_or (map_index call) p 0)
      × (get_or (combined_contrast call contrast) p (pos 0) ≡ pos (get_or (map_residue call) p 0))
  -- "on equal residues the dark index", and "its negative where dark won or tied"
  pub dark : get_or (map_residue call) p 0 ≤ get_or (map_residue (reversed_call call)) p 0
      → (get_or (combined_index call contrast) p 0 ≡ get_or (map_index (reversed_call call)) p 0)
      × (get_or (combined_contrast call contrast) p (pos 0) ≡ neg_ℤ (pos (get_or (map_residue (reversed_call call)) p 0)))
  -- "0 where both are 0"
  pub none : get_or (map_residue call) p 0 ≡ 0 → get_or (map_residue (reversed_call call)) p 0 ≡ 0
      → get_or (combined_contrast call contrast) p (pos 0) ≡ pos 0
