-- What sizing a picture gives, and what a map call answers and writes: refused, it leaves all as it was; accepted, the record, and both maps from
-- the pairs of the pixels. Assumes nothing.
use Rattle.std.specs.Prelude.{Ok, Err}
use Rattle.calls.specs.Judging.{Verdict}
use Prim.Native.Nat.{ℕ, ◌*◌, ◌≤◌, ◌<◌}
use mathlib.Core.List.{List}
use mathlib.Core.Path.{◌≡◌, refl, sym, ap, ◌∙◌}
use native.Mathlib.Omega.{arith}
use lib.ListN.{length, get_or}
use Rattle.sets.specs.Sets.{table}
use Rattle.sets.proofs.Laws.{table_at, table_ext}
use Rattle.sets.proofs.Tables.{table_long}
use Rattle.opening.specs.Opening.{Keeps}
use Rattle.grid.specs.Pixels.{pixels}
use Rattle.grid.specs.declared.Grid.{Grid}
use Rattle.causes.specs.Bounds.{words_a_pixel, most_steps}
use Rattle.causes.specs.declared.Cause.{Cause}
use Rattle.calls.specs.Steps.{list_tests, list_attribute}
use Rattle.calls.specs.Judging.{verdict_numbers}
use Rattle.calls.specs.Calls.{grey, residue_map, index_map, MapCall, map_verdict, kept_by, map_workspace, map_residue, map_index}
use Rattle.calls.specs.declared.Kind.{Kind}
use Rattle.calls.proofs.Accepted.{MapPassed, map_passed, bounded}
use Rattle.calls.proofs.Steps.{everything, list_narrow, list_few}
use Rattle.building.specs.Building.{Recordable, Recorded}
use Rattle.building.proofs.Assembly.{rebuildable}
use Rattle.map_passes.specs.Settle.{total_in, index_in}
use Rattle.map_passes.specs.Passes.{Given, pair_for, RightPairs, Holdable, Paired}
use Rattle.map_passes.proofs.Climbing.{nodes_climbable}
use Rattle.map_passes.proofs.Keeping.{nodes_kept}
use Rattle.placing.specs.Placing.{Placed}
use Rattle.sizing.specs.Sizing.{Sizeable, NodePairs, PixelPairs}

-- sizing, once the nodes have their places
module _ {grid : Grid} {kind : Kind} {gap nodes count : ℕ} {picture steps lent ws : List ℕ} (sizeable : Sizeable grid picture kind steps gap lent)
    (placed : Placed grid kind picture steps nodes count ws) where
  pub few_steps : count ≤ most_steps
  few_steps = rw placed.number (list_few grid kind steps sizeable.step_list)

  pub pass_asks : ((q : ℕ) → grey picture q < 256) → Given (length picture) nodes gap count ws
  pass_asks bytes =
      let built = placed.noded in
      record {
        few = few_steps;
        small_gap = sizeable.small_gap;
        ws_size = built.buildable.words ∙ ap (λ (n : ℕ). words_a_pixel * n) (sym built.buildable.bytes);
        level = _;
        climb = nodes_climbable built.nodes bytes;
      }

  -- and the pass over them is made
  pub settled : {ws' : List ℕ} → Paired picture count gap nodes ws ws' → NodePairs grid picture kind steps gap ws'
  settled paired =
      let built = placed.noded in
      let fits = bounded grid.width grid.height built.buildable.sides in
      record {
        number = nodes;
        noded =
            record {
              buildable = rebuildable built.buildable paired.kept.words;
              nodes = nodes_kept grid (list_attribute kind) picture paired.kept built.nodes;
            };
        holdable = paired.holdable;
        right =
            paired.right grid (list_attribute kind) fits.wide built.buildable.bytes built.nodes everything (list_tests grid kind steps)
            (list_narrow grid fits.small kind steps sizeable.step_list)
            (sym placed.number)
            placed.places;
      }

-- the pass over the pixels
module _ {grid : Grid} {kind : Kind} {gap : ℕ} {picture steps ws : List ℕ} (words : NodePairs grid picture kind steps gap ws) where
  pub hold_asks : {pairs : ℕ} → pairs ≡ pixels grid → Holdable (length picture) ws pairs
  hold_asks size =
      let all = words.holdable in
      record { ws_size = all.ws_size; pairs_size = size ∙ sym words.noded.buildable.bytes; within = all.within; fits = all.fits }

  pub held : {pairs : List ℕ} → pairs ≡ table (length picture) (pair_for (length picture) ws) → PixelPairs grid picture (list_tests grid kind steps) gap pairs
  held is =
      let n : ℕ = length picture in
      let bytes = words.noded.buildable.bytes in
      record {
        size = table_long (pair_for n ws) is ∙ bytes;
        right =
            λ q b.
            let inside : q < n = omega (arith, bytes) in
            rw (is, table_at n (pair_for n ws) q 0 inside) (words.right q b);
      }

  pub record_asks : Recordable picture ws
  record_asks = record { grid = grid; attribute = list_attribute kind; number = words.number; noded = words.noded }

-- right pairs hold the entries of both maps
pub right_maps : (grid : Grid) (tests : List Keeps) (gap : ℕ) (picture : List ℕ) (pair : ℕ → ℕ) → RightPairs grid tests gap picture pair
    → (q : ℕ) → q < pixels grid
    → (total_in (pair q) ≡ get_or (residue_map grid tests gap picture) q 0) × (index_in (pair q) ≡ get_or (index_map grid tests gap picture) q 0)
unfolding residue_map index_map
right_maps grid tests gap picture pair right q b = ((right q b).0 ∙ sym (table_at (pixels grid) _ q 0 b), (right q b).1 ∙ sym (table_at (pixels grid) _ q 0 b))

-- the maps of the pairs of the pixels
pub unpacked : {grid : Grid} {tests : List Keeps} {gap : ℕ} {picture pairs residue index : List ℕ} → PixelPairs grid picture tests gap pairs
    → (residue ≡ table (length pairs) (λ (q : ℕ). total_in (get_or pairs q 0)))
    × (index ≡ table (length pairs) (λ (q : ℕ). index_in (get_or pairs q 0)))
    → (residue ≡ residue_map grid tests gap picture) × (index ≡ index_map grid tests gap picture)
unfolding residue_map index_map
unpacked {grid} held (is_residue, is_index) =
    let n : ℕ = pixels grid in (
      is_residue ∙ rw held.size (table_ext n _ _ (λ q b. (held.right q b).0)),
      is_index ∙ rw held.size (table_ext n _ _ (λ q b. (held.right q b).1)),
    )

-- an accepted call asks what sizing needs, of its picture or another of as many pixels
pub sizes : {call : MapCall} → MapPassed call → {picture ws : List ℕ} → length picture ≡ pixels call.grid → length ws ≡ words_a_pixel * pixels call.grid
    → Sizeable call.grid picture call.kind call.steps call.gap ws
sizes passed bytes words =
    record {
      buildable = record { sides = passed.common.sides; bytes = bytes; words = words };
      step_list = passed.steps;
      small_gap = passed.gap;
    }

-- what holds of the answer, the workspace and the maps after a call
abbrev pub Called : MapCall → Verdict → List ℕ → List ℕ → List ℕ → Type 0
Called call answer workspace residue index =
    (verdict_numbers answer ≡ verdict_numbers (map_verdict call))
    × ((workspace ≡ map_workspace call)
    × ((residue ≡ map_residue call)
    × (index ≡ map_index call)))

-- a call that is accepted
module _ (call : MapCall) (accepted : map_verdict call ≡ Ok tt) where
  pub passed : MapPassed call
  passed = map_passed call accepted

  pub size_asks : Sizeable call.grid call.picture call.kind call.steps call.gap call.workspace
  size_asks = sizes passed passed.common.a_byte_each passed.common.words_each

  -- the record is written, and then the maps
  pub called_done : {ws left pairs residue index : List ℕ} {number : ℕ}
      → NodePairs call.grid call.picture call.kind call.steps call.gap ws
      → PixelPairs call.grid call.picture (kept_by call) call.gap pairs
      → Recorded call.picture ws left number
      → (residue ≡ table (length pairs) (λ (q : ℕ). total_in (get_or pairs q 0)))
      × (index ≡ table (length pairs) (λ (q : ℕ). index_in (get_or pairs q 0)))
      → Called call (Ok tt) left residue index
  unfolding map_workspace map_residue map_index
  called_done words held recorded maps =
      let both = unpacked held maps in
      rw accepted (refl, ((recorded.whole call.grid (list_attribute call.kind) words.number words.noded).left, (both.0, both.1)))
