-- The places of the nodes along a step list: what a list of thresholds makes of them, and that in the end each node has the place at which it falls.
use Prim.Native.Nat.{ℕ, ◌+◌, ◌-◌, ◌*◌, ◌/◌, ◌%◌, ◌≤◌, ◌<◌, min}
use mathlib.Core.Bool.{Bool, true}
use mathlib.Core.List.{List, map}
use mathlib.Core.Path.{◌≡◌, refl, sym, ap, ◌∙◌}
use native.Mathlib.Omega.{arith}
use lib.ListN.{get_or, length, replicate, length-map}
use Rattle.sets.specs.Sets.{Positions, member}
use Rattle.connected.specs.Component.{Adjacency, Symmetric}
use Rattle.opening.specs.Opening.{component_at, at_least}
use Rattle.opening.specs.Node.{node}
use Rattle.opening.specs.Residue.{not_falling}
use Rattle.opening.proofs.Components.{level_same}
use Rattle.opening.proofs.Residue.{rising_not_falling}
use Rattle.grid.specs.Neighbours.{adjacent}
use Rattle.grid.specs.Attributes.{attribute}
use Rattle.grid.specs.Greys.{grey}
use Rattle.grid.specs.Triples.{meets}
use Rattle.grid.specs.declared.Grid.{Grid}
use Rattle.grid.proofs.Attributes.{adjacent_symmetric}
use Rattle.tree.specs.Tree.{representative}
use Rattle.tree.proofs.Representatives.{representative_in, representative_grey}
use Rattle.falls.specs.Falls.{outlasted, places_before}
use Rattle.falls.proofs.Outlasted.{outlasted_le}
use Rattle.falls.proofs.Places.{places_outlasted}
use Rattle.causes.specs.Bounds.{most_steps}
use Rattle.levels.specs.Workspace.{Sized, number_at, closed_of, drop_of, lowest_of, up_of, held_of}
use Rattle.numbers.proofs.Same.{numbered_same, nodes_same}
use Rattle.parts.specs.Parts.{filled}
use Rattle.parts.proofs.Parts.{lent, returned, part_filled, filled_long, filled_before, filled_inside, filled_after}
use Rattle.places.specs.Places.{place_at, Outside, Lowerable, Lowered}
use Rattle.calls.specs.Steps.{triples_in, list_tests, list_attribute}
use Rattle.calls.specs.Judging.{steps_good, triples_good, list_good}
use Rattle.calls.specs.declared.Kind.{Kind}
use Rattle.calls.specs.declared.Kind.TheVariants.{Thresholds, Triples}
use Rattle.calls.proofs.Accepted.{step_list}
use Rattle.calls.proofs.Steps.{triple_list, length_triples}
use Rattle.building.specs.Building.{Flooded, Noded, Measured}
use Rattle.building.proofs.Assembly.{sized, rebuildable}
use Rattle.placing.specs.Placing.{Started, Limited, LoweredBy, LimitedBy, Placed}
use Rattle.placing.proofs.Columns.{area_in, height_in, width_in, outlasted_triples}

-- the number of steps for each place
pub started : (n count m : ℕ) (ws : List ℕ) → Sized n ws → m ≤ n → {part : List ℕ} → part ≡ replicate (length (lent (2 * n) (2 * n + m) ws)) count
    → Started n count m ws (returned (2 * n) (2 * n + m) ws part)
started n count m ws size few {part} all =
    let high : 2 * n + m ≤ length ws = omega (arith, size.words) in
    let low : 2 * n ≤ 2 * n + m = omega arith in
    let is : returned (2 * n) (2 * n + m) ws part ≡ filled (2 * n) (2 * n + m) count ws = part_filled (2 * n) (2 * n + m) count ws low high refl all in
    record {
      outside =
          record {
            words = ap length is ∙ filled_long (2 * n) (2 * n + m) count ws low high;
            front = λ x b. ap (λ (l : List ℕ). get_or l x 0) is ∙ filled_before (2 * n) (2 * n + m) count ws low high x b;
            back =
                λ x b.
                let k : ℕ = x - (2 * n + m) in
                let at : 2 * n + m + k ≡ x = omega arith in
                rw (← at) (ap (λ (l : List ℕ). get_or l (2 * n + m + k) 0) is ∙ filled_after (2 * n) (2 * n + m) count ws low high k);
          };
      places = λ k b. ap (λ (l : List ℕ). get_or l (2 * n + k) 0) is ∙ filled_inside (2 * n) (2 * n + m) count ws low high k (omega arith);
    }

-- where the words outside the third part are as they were
module _ {n : ℕ} {ws ws' : List ℕ} (kept : Outside n ws ws') where
  same_number : (q : ℕ) → q < n → number_at ws' q ≡ number_at ws q
  same_number q b = kept.front q (omega arith)

  same_closed : (i : ℕ) → i < n → closed_of n ws' i ≡ closed_of n ws i
  same_closed i b = ap (λ (v : ℕ). v / 256) (kept.front (n + i) (omega arith))

  same_drop : (i : ℕ) → i < n → drop_of n ws' i ≡ drop_of n ws i
  same_drop i b = ap (λ (v : ℕ). v % 256) (kept.front (n + i) (omega arith))

  same_up : (k : ℕ) → up_of n ws' k ≡ up_of n ws k
  same_up k = kept.back (3 * n + 3 * k + 1) (omega arith)

-- so the nodes have the same numbers and the same words
flooded_still : {grid : Grid} {picture ws ws' : List ℕ} {m : ℕ} → Outside (length picture) ws ws' → Flooded grid picture ws m → Flooded grid picture ws' m
flooded_still kept F =
    record {
      buildable = rebuildable F.buildable kept.words;
      numbers =
          numbered_same
          (same_number kept)
          (λ k b. same_up kept k)
          (λ i b. same_closed kept i (omega (arith, F.numbers.few)))
          (λ i b. same_drop kept i (omega (arith, F.numbers.few)))
          F.numbers;
    }

noded_still : {grid : Grid} {picture ws ws' : List ℕ} {a m : ℕ} → Outside (length picture) ws ws' → Noded grid a picture ws m → Noded grid a picture ws' m
noded_still {picture = picture} kept N =
    record {
      buildable = rebuildable N.buildable kept.words;
      nodes =
          nodes_same
          (same_number kept)
          (λ k b. kept.back (3 * length picture + 3 * k) (omega arith))
          (λ k b. same_up kept k)
          (λ k b. kept.back (3 * length picture + 3 * k + 2) (omega arith))
          (λ i b. same_closed kept i (omega (arith, N.nodes.few)))
          (λ i b. same_drop kept i (omega (arith, N.nodes.few)))
          N.nodes;
    }

-- the node of a pixel is that of its representative
node_same : (n : ℕ) (adj : Adjacency) → Symmetric adj → (g : ℕ → ℕ) (q : ℕ) → q < n → node n adj g (representative n adj g q) ≡ node n adj g q
node_same n adj symm g q b =
    let r : ℕ = representative n adj g q in
    ap (λ (h : ℕ). component_at n adj g h r) (representative_grey n adj symm g q b)
    ∙ sym (level_same n adj symm g (g q) q r (representative_in n adj symm g q b))

-- before any list of thresholds
module _ {grid : Grid} {picture ws ws' : List ℕ} {count m : ℕ} (S : Started (length picture) count m ws ws') (F : Flooded grid picture ws m) where
  pub start_flooded : Flooded grid picture ws' m
  start_flooded = flooded_still S.outside F

  pub start_limited : Limited grid picture (λ (s : Positions). count) ws'
  start_limited q b = S.places (number_at ws' q) (start_flooded.numbers.within q b)

-- one list of thresholds more
module _ {grid : Grid} {a m : ℕ} {picture lent ws : List ℕ} (M : Measured grid a picture m lent ws) where
  pub lower_asked : {steps : List ℕ} → length steps ≤ most_steps → not_falling 0 steps ≡ true → Lowerable (length picture) m steps ws
  lower_asked few rise =
      record {
        words = M.flooded.buildable.words ∙ ap (λ (k : ℕ). 7 * k) (sym M.flooded.buildable.bytes);
        few = M.flooded.numbers.few;
        small = few;
        rise = rise;
      }

  module _ {steps ws' : List ℕ} (L : Lowered (length picture) m steps ws ws') where
    pub lowered_by : LoweredBy grid a picture steps m lent ws'
    lowered_by =
        let k : ℕ = length picture in
        let N = M.noded.nodes in
        record {
          noded = noded_still L.outside M.noded;
          flooded = flooded_still L.outside M.flooded;
          limits =
              λ limit limited q b.
              let j : ℕ = number_at ws q in
              let inside : j < m = M.flooded.numbers.within q b in
              let s : Positions = member (node k (adjacent grid) (grey picture) q) in
              let same_j : number_at ws q ≡ number_at lent q = M.before q (omega arith) in
              let before : place_at k ws j ≡ limit s =
              M.before (2 * k + j) (omega (arith, M.flooded.numbers.few)) ∙ ap (place_at k lent) same_j ∙ limited q b in
              let holds : held_of k ws j ≡ attribute grid a s =
              N.attributes j inside
              ∙ ap (λ (p : ℕ). attribute grid a (member (node k (adjacent grid) (grey picture) p))) (N.representatives q b)
              ∙ ap (λ (l : List Bool). attribute grid a (member l)) (node_same k (adjacent grid) (adjacent_symmetric grid) (grey picture) q b) in
              ap (place_at k ws') (same_number L.outside q b) ∙ L.lowered j inside ∙ rw (before, holds) refl;
        }

-- all three parts of the triples, the areas last
pub limited_by : {grid : Grid} {m : ℕ} {picture words lent second third ws : List ℕ}
    → LoweredBy grid 2 picture (map height_in (triples_in words)) m lent second
    → LoweredBy grid 3 picture (map width_in (triples_in words)) m second third
    → LoweredBy grid 1 picture (map area_in (triples_in words)) m third ws
    → LimitedBy grid picture words m lent ws
limited_by {grid} {picture = picture} {words = words} H W A =
    let tall : Positions → ℕ = λ (s : Positions). places_before (attribute grid 2 s) (map height_in (triples_in words)) in
    let broad : Positions → ℕ = λ (s : Positions). places_before (attribute grid 3 s) (map width_in (triples_in words)) in
    let large : Positions → ℕ = λ (s : Positions). places_before (attribute grid 1 s) (map area_in (triples_in words)) in
    record {
      noded = A.noded;
      limits =
          λ limit limited q b.
          let s : Positions = member (node (length picture) (adjacent grid) (grey picture) q) in
          let least : min (min (min (limit s) (tall s)) (broad s)) (large s) ≡ min (limit s) (outlasted s (list_tests grid Triples words)) =
          omega (arith, outlasted_triples grid words s) in
          A.limits (λ (u : Positions). min (min (limit u) (tall u)) (broad u)) (W.limits (λ (u : Positions). min (limit u) (tall u)) (H.limits limit limited)) q b
          ∙ least;
    }

-- what a good list of either kind asks for
good_thresholds : {kind : Kind} {a : ℕ} (steps : List ℕ) → kind ≡ Thresholds a → list_good kind steps ≡ true → steps_good steps ≡ true
good_thresholds steps is good = rw is at good

pub good_triples : {kind : Kind} (steps : List ℕ) → kind ≡ Triples → list_good kind steps ≡ true → triples_good steps ≡ true
good_triples steps is good = rw is at good

module _ {grid : Grid} {picture ws : List ℕ} {m : ℕ} (F : Flooded grid picture ws m) (steps : List ℕ) where
  abbrev StartAsks : ℕ → Type 0
  StartAsks count = Sized (length picture) ws × ((m ≤ length picture) × (count ≤ most_steps))

  pub thresholds_start : {kind : Kind} {a : ℕ} → kind ≡ Thresholds a → list_good kind steps ≡ true → StartAsks (length steps)
  thresholds_start is good = (sized F.buildable refl, (F.numbers.few, (step_list steps (good_thresholds steps is good)).not_more))

  pub triples_start : {kind : Kind} → kind ≡ Triples → list_good kind steps ≡ true → StartAsks (length steps / 3)
  triples_start is good =
      (sized F.buildable refl, (F.numbers.few, omega (arith, (triple_list steps (good_triples steps is good)).not_more)))

  pub thresholds_asked : {kind : Kind} {a : ℕ} → kind ≡ Thresholds a → list_good kind steps ≡ true
      → Flooded grid picture ws m × ((length steps ≤ most_steps) × (not_falling 0 steps ≡ true))
  thresholds_asked is good =
      let list = step_list steps (good_thresholds steps is good) in
      (F, (list.not_more, rising_not_falling 0 steps list.rises))

-- in the end each node has the place at which it falls
placed_nodes : {grid : Grid} {kind : Kind} {picture steps ws : List ℕ} {m count : ℕ} → Noded grid (list_attribute kind) picture ws m
    → count ≡ length (list_tests grid kind steps)
    → Limited grid picture (λ (s : Positions). min count (outlasted s (list_tests grid kind steps))) ws
    → Placed grid kind picture steps m count ws
placed_nodes {grid} {kind} {picture} {steps} {ws} noded number limited =
    let N = noded.nodes in
    record {
      noded = noded;
      number = number;
      places =
          λ k b.
          let p : ℕ = lowest_of (length picture) ws k in
          let s : Positions = member (node (length picture) (adjacent grid) (grey picture) p) in
          rw
          (← noded.buildable.bytes)
          (ap (place_at (length picture) ws) (sym (N.low_own k b))
          ∙ limited p (N.low_within k b)
          ∙ omega (arith, number, outlasted_le s (list_tests grid kind steps)));
    }

-- for thresholds
pub placed_thresholds : {grid : Grid} {kind : Kind} {a m : ℕ} {picture steps lent start ws : List ℕ} → kind ≡ Thresholds a
    → Started (length picture) (length steps) m lent start → Flooded grid picture lent m → LoweredBy grid a picture steps m start ws
    → Placed grid kind picture steps m (length steps) ws
unfolding list_tests
placed_thresholds {grid} {a = a} {picture = picture} {steps = steps} is S F L =
    rw is
    (placed_nodes
    L.noded
    (sym (length-map steps (at_least (attribute grid a))))
    (λ q b.
    L.limits (λ (s : Positions). length steps) (start_limited S F) q b
    ∙ ap (min (length steps)) (sym (places_outlasted (attribute grid a) (member (node (length picture) (adjacent grid) (grey picture) q)) steps))))

-- for triples
pub placed_triples : {grid : Grid} {kind : Kind} {m : ℕ} {picture steps lent start ws : List ℕ} → kind ≡ Triples
    → Started (length picture) (length steps / 3) m lent start → Flooded grid picture lent m → LimitedBy grid picture steps m start ws
    → Placed grid kind picture steps m (length steps / 3) ws
unfolding list_tests
placed_triples {grid} {steps = steps} is S F L =
    rw is
    (placed_nodes
    L.noded
    (sym (length-map (triples_in steps) (meets grid) ∙ length_triples steps))
    (L.limits (λ (s : Positions). length steps / 3) (start_limited S F)))
