-- What an opening call answers and writes: refused, it leaves all as it was; accepted, the pass over the record of the picture opens it, or the
-- falls along one triple do, under the neighbours and the attributes of the grid. Assumes nothing.
use Rattle.std.specs.Prelude.{Ok, Err}
use Rattle.calls.specs.Judging.{Verdict}
use Prim.Native.Nat.{ℕ, ◌-◌, ◌<◌}
use mathlib.Core.Bool.{true}
use mathlib.Core.List.{List, [], ◌∷◌}
use mathlib.Core.Path.{◌≡◌, refl, sym, ap, subst, ◌∙◌}
use native.Mathlib.Omega.{arith}
use lib.ListN.{length}
use borrow.Author.Tests.{le-leb}
use Rattle.sets.specs.Sets.{table}
use Rattle.sets.proofs.Laws.{table_ext}
use Rattle.connected.specs.Component.{Adjacency}
use Rattle.opening.specs.Opening.{Keeps, at_least, opened_by}
use Rattle.opening.specs.Residue.{falls_from, largest, residues, residue_by}
use Rattle.opening.proofs.Opened.{opened_le}
use Rattle.opening.proofs.Joined.{residue_zero}
use Rattle.grid.specs.Pixels.{pixels}
use Rattle.grid.specs.Neighbours.{adjacent}
use Rattle.grid.specs.Attributes.{attribute}
use Rattle.grid.specs.Triples.{meets, zeros}
use Rattle.grid.specs.declared.Grid.{Grid}
use Rattle.grid.specs.declared.Triple.{Triple}
use Rattle.grid.proofs.Attributes.{adjacent_symmetric, attribute_increasing, attribute_some}
use Rattle.grid.proofs.Whole.{grid_whole}
use Rattle.causes.specs.declared.Cause.{Cause}
use Rattle.calls.specs.Steps.{step_test, step_attribute, triples_in, list_tests}
use Rattle.calls.specs.Judging.{may_follow, rising_triples, triples_good, verdict_numbers}
use Rattle.calls.specs.Calls.{grey, opened_picture, record_of, OpenCall, open_verdict, open_workspace, open_output}
use Rattle.calls.specs.declared.Step.{Step}
use Rattle.calls.specs.declared.Step.TheVariants.{Threshold, Three}
use Rattle.calls.specs.declared.Kind.TheVariants.{Triples}
use Rattle.calls.proofs.Accepted.{open_passed, Bounded, bounded, threshold_some}
use Rattle.building.specs.Building.{Recorded}
use Rattle.map_passes.specs.Settle.{total_in}
use Rattle.map_passes.specs.Passes.{pair_for, RightPairs}
use Rattle.sizing.specs.Sizing.{Sizeable, NodePairs}
use Rattle.sizing.proofs.Mapping.{hold_asks}
use Rattle.openings.specs.Climbing.{Climbable, OpenedBefore}
use Rattle.openings.specs.Opening.{Openable, Fallen, less_its_fall}
use Rattle.openings.proofs.Record.{record_climbable, pass_opened}

module _ (grid : Grid) (a : ℕ) (picture : List ℕ) where
  pub record_of_climbable : length picture ≡ pixels grid → Climbable picture (record_of grid a picture) (pixels grid)
  record_of_climbable size =
      record_climbable (pixels grid) (adjacent grid) (adjacent_symmetric grid) (attribute grid a) (attribute_some grid a) picture size

  pub pass_opens : Bounded grid.width grid.height → (t : ℕ) (output : List ℕ) → length output ≡ pixels grid
      → OpenedBefore picture (record_of grid a picture) (pixels grid) t (pixels grid) output
      → output ≡ opened_picture grid (at_least (attribute grid a) t) picture
  unfolding opened_picture
  pass_opens fits t output entries found =
      pass_opened
      (pixels grid)
      (adjacent grid)
      (adjacent_symmetric grid)
      (attribute grid a)
      (attribute_some grid a)
      picture
      (attribute_increasing grid a fits.small)
      (grid_whole grid fits.wide (grey picture))
      t
      output
      entries
      found

-- at a threshold
module _ {grid : Grid} {a t : ℕ} {picture lent output : List ℕ} (asks : Openable grid (Threshold a t) picture lent output) where
  fits : Bounded grid.width grid.height
  fits = bounded grid.width grid.height asks.buildable.sides

  pub pass_asks : {ws : List ℕ} → ws ≡ record_of grid a picture
      → Climbable picture ws (length picture) × ((length output ≡ length picture) × (0 < t))
  pass_asks built =
      let bytes = asks.buildable.bytes in
      (rw (built, bytes) (record_of_climbable grid a picture bytes), (asks.entries ∙ sym bytes, threshold_some t asks.good))

  pub opened_at : {ws written : List ℕ} → ws ≡ record_of grid a picture → length written ≡ length output
      → OpenedBefore picture ws (length picture) t (length picture) written
      → (ws ≡ record_of grid a picture) × (written ≡ opened_picture grid (step_test grid (Threshold a t)) picture)
  unfolding step_test
  opened_at {written = written} built same found =
      (built, pass_opens grid a picture fits t written (same ∙ asks.entries) (rw (built, asks.buildable.bytes) at found))

-- the words of one triple
one_list : (t : Triple) → may_follow zeros t ≡ true → triples_good (t.area ∷ t.height ∷ t.width ∷ []) ≡ true
unfolding triples_good triples_in rising_triples
one_list t good = rw good refl

one_test : (grid : Grid) (t : Triple) → list_tests grid Triples (t.area ∷ t.height ∷ t.width ∷ []) ≡ meets grid t ∷ []
unfolding list_tests triples_in
one_test grid t = refl

-- one residue
one_residue : (n : ℕ) (adj : Adjacency) (keeps : Keeps) (g : ℕ → ℕ) (p : ℕ) → residue_by n adj (keeps ∷ []) 0 g p ≡ g p - opened_by n adj keeps g p
unfolding residues falls_from largest
one_residue n adj keeps g p = residue_zero n adj (keeps ∷ []) g p ∙ rw (le-leb 0 (g p - opened_by n adj keeps g p) (omega arith)) refl

-- by a triple
module _ {grid : Grid} {t : Triple} {picture lent output : List ℕ} (asks : Openable grid (Three t) picture lent output) where
  abbrev words : List ℕ
  words = t.area ∷ t.height ∷ t.width ∷ []

  abbrev n : ℕ
  n = pixels grid

  pub settle_asks : Sizeable grid picture Triples words 0 lent
  settle_asks = record { buildable = asks.buildable; step_list = one_list t asks.good; small_gap = omega arith }

  module _ {ws : List ℕ} (settled : NodePairs grid picture Triples words 0 ws) where
    -- what falls
    fall_is : (q : ℕ) → q < n → total_in (pair_for (length picture) ws q) ≡ grey picture q - opened_by n (adjacent grid) (meets grid t) (grey picture) q
    fall_is q b =
        ((subst (λ (tests : List Keeps). RightPairs grid tests 0 picture (pair_for (length picture) ws)) (one_test grid t) settled.right) q b).0
        ∙ one_residue n (adjacent grid) (meets grid t) (grey picture) q

    pub falls_asks : Fallen picture ws (length output)
    falls_asks =
        let bytes = asks.buildable.bytes in
        record {
          holdable = hold_asks settled asks.entries;
          less = λ q b. omega (arith, fall_is q (omega (arith, bytes)));
        }

    pub opened_by_triple : {left written : List ℕ} {number : ℕ} → Recorded picture ws left number
        → written ≡ table (length picture) (λ (q : ℕ). less_its_fall picture ws q)
        → (left ≡ record_of grid 1 picture) × (written ≡ opened_picture grid (step_test grid (Three t)) picture)
    unfolding step_test opened_picture
    opened_by_triple recorded is =
        let bytes = asks.buildable.bytes in (
          (recorded.whole grid 1 settled.number settled.noded).left,
          is
              ∙ ap (λ (k : ℕ). table k (λ (q : ℕ). less_its_fall picture ws q)) bytes
              ∙ table_ext n _ _ (λ q b. omega (arith, fall_is q b, opened_le n (adjacent grid) (meets grid t) (grey picture) q b)),
        )

-- by either
module _ {grid : Grid} {step : Step} {picture ws output : List ℕ} (asks : Openable grid step picture ws output) where
  pub asks_threshold : {a t : ℕ} → step ≡ Threshold a t → Openable grid (Threshold a t) picture ws output
  asks_threshold is = subst (λ (s : Step). Openable grid s picture ws output) is asks

  pub asks_triple : {t : Triple} → step ≡ Three t → Openable grid (Three t) picture ws output
  asks_triple is = subst (λ (s : Step). Openable grid s picture ws output) is asks

abbrev pub Opens : Grid → Step → List ℕ → List ℕ → List ℕ → Type 0
Opens grid step picture ws output = (ws ≡ record_of grid (step_attribute step) picture) × (output ≡ opened_picture grid (step_test grid step) picture)

pub opens_by : (grid : Grid) (picture : List ℕ) {step same : Step} {ws output : List ℕ} → step ≡ same → Opens grid same picture ws output → Opens grid step picture ws output
opens_by grid picture {ws = ws} {output = output} is done = subst (λ (s : Step). Opens grid s picture ws output) (sym is) done

-- what an accepted call asks of the opening is there
pub open_asks : (call : OpenCall) → open_verdict call ≡ Ok tt → Openable call.grid call.step call.picture call.workspace call.output
open_asks call accepted =
    let passed = open_passed call accepted in
    record {
      buildable = record { sides = passed.common.sides; bytes = passed.common.a_byte_each; words = passed.common.words_each };
      good = passed.step;
      entries = passed.output;
    }
