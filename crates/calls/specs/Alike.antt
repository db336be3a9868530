-- "A single threshold opens as a triple with two zeros": a call by an attribute beside the same call by triples. Both are judged alike, where the attribute
-- is one, and write the same pictures and maps; the workspace of each has its own attribute words.
use Rattle.std.specs.Prelude.{ℕ, List, map, ◌≡◌, ℤ}
use Rattle.grid.specs.Triples.{need}
use Rattle.calls.specs.Steps.{words_of}
use Rattle.calls.specs.Calls.{OpenCall, open_verdict, open_output, MapCall, map_verdict, map_residue, map_index}
use Rattle.calls.specs.Combined.{combined_verdict, combined_residue, combined_index, combined_contrast}

-- two opening calls
pub record OpensAlike (one other : OpenCall) : Type 0 where
  pub verdict : open_verdict one ≡ open_verdict other
  pub output : open_output one ≡ open_output other

-- two map calls
pub record MapsAlike (one other : MapCall) : Type 0 where
  pub verdict : map_verdict one ≡ map_verdict other
  pub residue : map_residue one ≡ map_residue other
  pub index : map_index one ≡ map_index other

-- and two combined calls
pub record CombinesAlike (one other : MapCall) (contrast : List ℤ) : Type 0 where
  pub verdict : combined_verdict one contrast ≡ combined_verdict other contrast
  pub residue : combined_residue one contrast ≡ combined_residue other contrast
  pub index : combined_index one contrast ≡ combined_index other contrast
  pub contrasts : combined_contrast one contrast ≡ combined_contrast other contrast

-- the words of the triples of thresholds of the attribute a
abbrev pub words_needed : ℕ → List ℕ → List ℕ
words_needed a steps = words_of (map (need a) steps)
