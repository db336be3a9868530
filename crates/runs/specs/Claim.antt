-- What an accepted map call writes at each pixel, in the words of the request: runs of residues as opening.specs/Runs has them.
use Rattle.std.specs.Prelude.{ℕ, suc, ◌+◌, ◌≤◌, ◌<◌, List, ◌∷◌, ◌≡◌, get_or}
use Rattle.opening.specs.Residue.{largest, largest_place, openings_by, residues}
use Rattle.opening.specs.Runs.{Run, run_total, ByRuns}
use Rattle.grid.specs.Pixels.{pixels}
use Rattle.grid.specs.Neighbours.{adjacent}
use Rattle.calls.specs.Calls.{grey, MapCall, kept_by, map_residue, map_index}

-- the residues of the pixel p of a call's picture under its steps
abbrev pub residues_of : MapCall → ℕ → List ℕ
residues_of call p =
    residues (pixels call.grid) (adjacent call.grid) (kept_by call) (grey call.picture) p

-- its greys: that of the picture, then those of the openings, one a step
abbrev pub greys_of : MapCall → ℕ → List ℕ
greys_of call p =
    grey call.picture p ∷ openings_by (pixels call.grid) (adjacent call.grid) (kept_by call) (grey call.picture) p

-- its entries of the two maps after the call
abbrev pub residue_at : MapCall → ℕ → ℕ
residue_at call p = get_or (map_residue call) p 0

abbrev pub index_at : MapCall → ℕ → ℕ
index_at call p = get_or (map_index call) p 0

pub record AtPixel (call : MapCall) (p : ℕ) : Type 0 where
  -- each residue that is not null stands in a run, and in no other
  pub in_a_run : (i : ℕ) → 0 < get_or (residues_of call p) i 0 → (a : ℕ) × (b : ℕ) × (a ≤ i) × (i ≤ b) × Run call.gap (residues_of call p) a b
  pub in_one : (a b c d i : ℕ) → Run call.gap (residues_of call p) a b → Run call.gap (residues_of call p) c d
      → a ≤ i → i ≤ b → c ≤ i → i ≤ d → (a ≡ c) × (b ≡ d)
  -- "The map holds the largest run total; the index is the largest i + 1 of a non-null residue in a run attaining it, the largest among such
  -- runs, or 0."
  pub by_runs : ByRuns call.gap (residues_of call p) (residue_at call p) (index_at call p)
  -- no other two numbers do
  pub only : (r i : ℕ) → ByRuns call.gap (residues_of call p) r i → (r ≡ residue_at call p) × (i ≡ index_at call p)
  -- a run's total is a difference of two greys, so it fits a byte
  pub telescopes : (a b : ℕ) → Run call.gap (residues_of call p) a b
      → run_total (residues_of call p) a b + get_or (greys_of call p) (suc b) 0 ≡ get_or (greys_of call p) a 0
  pub fits : (a b : ℕ) → Run call.gap (residues_of call p) a b → run_total (residues_of call p) a b ≤ grey call.picture p
  -- "Gap 0 is the map of 01": "the largest residue", and "the largest i + 1 attaining it (16 bits), or 0 where it is 0"
  pub gap_zero : call.gap ≡ 0
      → (residue_at call p ≡ largest (residues_of call p)) × (index_at call p ≡ largest_place (residues_of call p))
