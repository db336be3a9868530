-- A threshold and its triple with two zeros open alike, and a step list and its triples give the same maps: of light floc, of dark floc and of both.
-- Assumes that the attribute is one.
use Rattle.calls.specs.Judging.{Verdict}
use Prim.Native.Nat.{ℕ}
use mathlib.Core.Bool.{true}
use mathlib.Core.List.{List}
use mathlib.Core.Path.{◌≡◌, refl, ap}
use lib.IntN.{ℤ}
use Rattle.opening.specs.Opening.{Keeps}
use Rattle.grid.specs.Triples.{need}
use Rattle.grid.specs.declared.Grid.{Grid}
use Rattle.calls.specs.Steps.{step_test, step_triple}
use Rattle.calls.specs.Judging.{attribute_good}
use Rattle.calls.specs.Calls.{opened_picture, residue_map, index_map, after, opening_of, open_verdict, open_output, MapCall, mapping_of, map_verdict, map_residue, map_index}
use Rattle.calls.specs.Combined.{combined_verdict, combined_residues, combined_indices, combined_contrasts, combined_residue, combined_index, combined_contrast}
use Rattle.calls.specs.Alike.{OpensAlike, MapsAlike, CombinesAlike, words_needed}
use Rattle.calls.specs.declared.Step.TheVariants.{Threshold, Three}
use Rattle.calls.specs.declared.Kind.TheVariants.{Thresholds, Triples}
use Rattle.calls.proofs.Unnamed.{area_good}
use Rattle.calls.proofs.Steps.{step_same, threshold_judged, list_meets, list_judged}

-- what a call leaves, by its verdict and what it writes
after_same : {E : Type 0} {v v' : Verdict} {written written' : List E} → v ≡ v' → written ≡ written' → (lent : List E) → after v written lent ≡ after v' written' lent
after_same {written = written} {written' = written'} verdict same lent = rw (verdict, same) refl

-- a threshold and its triple keep the same
kept_alike : (grid : Grid) (a t : ℕ) → step_test grid (Threshold a t) ≡ step_test grid (Three (need a t))
unfolding step_test step_triple
kept_alike grid a t = step_same grid (Threshold a t)

pub opens_alike : (picture : List ℕ) (grid : Grid) (a t : ℕ) (workspace output : List ℕ) → attribute_good a ≡ true
    → OpensAlike (opening_of picture grid (Threshold a t) workspace output) (opening_of picture grid (Three (need a t)) workspace output)
unfolding open_output
opens_alike picture grid a t workspace output good =
    let same : open_verdict (opening_of picture grid (Threshold a t) workspace output) ≡ open_verdict (opening_of picture grid (Three (need a t)) workspace output) =
    rw (good, area_good, threshold_judged a t) refl in
    record { verdict = same; output = after_same same (ap (λ (keeps : Keeps). opened_picture grid keeps picture) (kept_alike grid a t)) output }

-- a map call that names thresholds, and the same with their triples
module _ (picture : List ℕ) (grid : Grid) (a : ℕ) (steps : List ℕ) (gap : ℕ) (workspace residue index : List ℕ) (good : attribute_good a ≡ true) where
  abbrev one : MapCall
  one = mapping_of picture grid (Thresholds a) steps gap workspace residue index

  abbrev other : MapCall
  other = mapping_of picture grid Triples (words_needed a steps) gap workspace residue index

  same_verdict : map_verdict one ≡ map_verdict other
  same_verdict = rw (good, area_good, list_judged a steps) refl

  pub maps_alike : MapsAlike one other
  unfolding map_residue map_index
  maps_alike =
      record {
        verdict = same_verdict;
        residue = after_same same_verdict (ap (λ (tests : List Keeps). residue_map grid tests gap picture) (list_meets grid a steps)) residue;
        index = after_same same_verdict (ap (λ (tests : List Keeps). index_map grid tests gap picture) (list_meets grid a steps)) index;
      }

  pub combines_alike : (contrast : List ℤ) → CombinesAlike one other contrast
  unfolding combined_residue combined_index combined_contrast combined_residues combined_indices combined_contrasts
  combines_alike contrast =
      let same : combined_verdict one contrast ≡ combined_verdict other contrast = rw (good, area_good, list_judged a steps) refl in
      let kept = list_meets grid a steps in
      record {
        verdict = same;
        residue = after_same same (rw kept refl) residue;
        index = after_same same (rw kept refl) index;
        contrasts = after_same same (rw kept refl) contrast;
      }
