-- What the frame keeps: no step removes a node with a pixel in the first or last row or column, and the root is such a node. So an opening
-- changes no pixel of such a node, and both maps are 0 there. A picture has no more pixels than it may have.
use Prim.Native.Nat.{ℕ, ◌-◌, ◌≤◌, ◌<◌}
use mathlib.Core.Bool.{true}
use mathlib.Core.List.{List, [], ◌∷◌}
use mathlib.Core.Logic.{⊎_elim}
use mathlib.Core.Path.{◌≡◌, refl, sym, subst, ◌∙◌}
use native.Mathlib.Omega.{arith}
use lib.ListN.{get_or}
use borrow.Author.Tests.{le-leb}
use Rattle.sets.specs.Sets.{Positions, member}
use Rattle.sets.proofs.Laws.{table_at}
use Rattle.sets.proofs.Tests.{clash, le_or_lt}
use Rattle.connected.proofs.Laws.{component_self}
use Rattle.grid.specs.Pixels.{pixels}
use Rattle.grid.specs.Neighbours.{adjacent}
use Rattle.grid.specs.Attributes.{on_frame, attribute}
use Rattle.grid.specs.declared.Grid.{Grid}
use Rattle.grid.proofs.Attributes.{touches_intro, attribute_framed}
use Rattle.grid.proofs.Frame.{first_framed}
use Rattle.grid.proofs.Whole.{grid_whole}
use Rattle.causes.specs.Bounds.{most_pixels, top_threshold}
use Rattle.opening.specs.Opening.{level_set, component_at, least_grey, Keeps, Upward, opened_by}
use Rattle.opening.specs.Node.{node}
use Rattle.opening.specs.Residue.{falls_from, total, joined, Narrowing, openings_by, residues, residue_by, index_by}
use Rattle.opening.proofs.Opened.{opened_le}
use Rattle.opening.proofs.Greatest.{opened_goes}
use Rattle.opening.proofs.Joined.{joined_none}
use Rattle.opening.proofs.Residue.{largest_place_zero}
use Rattle.calls.specs.Steps.{step_test, list_tests}
use Rattle.calls.specs.Judging.{step_good, list_good}
use Rattle.calls.specs.Calls.{grey, residue_map, index_map}
use Rattle.calls.specs.declared.Step.{Step}
use Rattle.calls.specs.declared.Kind.{Kind}
use Rattle.calls.proofs.Steps.{step_up, step_touched, everything, PassesAll, list_narrow, list_touched}

-- a pixel whose node is kept keeps its grey
kept_stays : (grid : Grid) (g : ℕ → ℕ) (p : ℕ) → p < pixels grid → (keeps : Keeps) → Upward (pixels grid) keeps
    → keeps (member (node (pixels grid) (adjacent grid) g p)) ≡ true → opened_by (pixels grid) (adjacent grid) keeps g p ≡ g p
kept_stays grid g p below keeps up kept =
    ⊎_elim
    (λ high. omega (arith, opened_le (pixels grid) (adjacent grid) keeps g p below))
    (λ less. clash (keeps (member (node (pixels grid) (adjacent grid) g p))) kept ((opened_goes (pixels grid) (adjacent grid) keeps up g p).0 less).1)
    (le_or_lt (g p) (opened_by (pixels grid) (adjacent grid) keeps g p))

module _ (grid : Grid) (g : ℕ → ℕ) where
  own_pixel : (p : ℕ) → p < pixels grid → member (node (pixels grid) (adjacent grid) g p) p ≡ true
  unfolding component_at
  own_pixel p below = component_self (pixels grid) (adjacent grid) (level_set g (g p)) p below (le-leb (g p) (g p) (omega arith))

  -- "a node with a pixel in the first or last row or column has 1,048,577 for each attribute"
  pub node_framed : (a p q : ℕ) → q < pixels grid → member (node (pixels grid) (adjacent grid) g p) q ≡ true → on_frame grid q ≡ true
      → attribute grid a (member (node (pixels grid) (adjacent grid) g p)) ≡ top_threshold
  node_framed a p q below in_node frame =
      attribute_framed grid a (member (node (pixels grid) (adjacent grid) g p)) q below in_node frame

  -- "the root too": it holds the first pixel, which is on the frame
  pub root_framed : (a : ℕ) → 1 ≤ grid.width → (p : ℕ) → p < pixels grid → g p ≡ least_grey (pixels grid) g
      → attribute grid a (member (node (pixels grid) (adjacent grid) g p)) ≡ top_threshold
  root_framed a wide p below least =
      node_framed
      a
      p
      0
      (omega arith)
      (subst
      (λ (k : ℕ). member (component_at (pixels grid) (adjacent grid) g k p) 0 ≡ true)
      (sym least)
      (grid_whole grid wide g p 0 below (omega arith)))
      (first_framed grid)

  -- "so no threshold removes it": no step of either kind that an opening may name
  pub framed_stays : pixels grid ≤ most_pixels → (p q : ℕ) → p < pixels grid → q < pixels grid → member (node (pixels grid) (adjacent grid) g p) q ≡ true
      → on_frame grid q ≡ true → (step : Step) → step_good step ≡ true → opened_by (pixels grid) (adjacent grid) (step_test grid step) g p ≡ g p
  framed_stays few p q below below_q in_node frame step good =
      let set : Positions = member (node (pixels grid) (adjacent grid) g p) in
      kept_stays grid g p below (step_test grid step) (step_up grid few step)
      (step_touched grid step good set (touches_intro grid set q below_q in_node frame))

  -- nor does it change a pixel on the frame
  pub frame_stays : pixels grid ≤ most_pixels → (p : ℕ) → p < pixels grid → on_frame grid p ≡ true → (step : Step) → step_good step ≡ true
      → opened_by (pixels grid) (adjacent grid) (step_test grid step) g p ≡ g p
  frame_stays few p below frame = framed_stays few p p below below (own_pixel p below) frame

-- where the node of p passes all tests, both maps are 0
module _ (grid : Grid) (g : ℕ → ℕ) (p : ℕ) (below : p < pixels grid) (wide : Keeps) where
  abbrev falls : List Keeps → List ℕ
  falls tests = falls_from (g p) (openings_by (pixels grid) (adjacent grid) tests g p)

  no_falls : (w : Keeps) (tests : List Keeps) → Narrowing (pixels grid) w tests → PassesAll (member (node (pixels grid) (adjacent grid) g p)) tests
      → total (falls tests) ≡ 0
  unfolding falls_from total
  no_falls w [] narrow all = refl
  no_falls w (keeps ∷ rest) narrow all =
      let here : opened_by (pixels grid) (adjacent grid) keeps g p ≡ g p = kept_stays grid g p below keeps narrow.0 all.0 in
      let later : total (falls rest) ≡ 0 = no_falls keeps rest narrow.2 all.1 in
      let none : g p - g p ≡ 0 = omega arith in
      rw (here, later, none) refl

  module _ (tests : List Keeps) (narrow : Narrowing (pixels grid) wide tests) (all : PassesAll (member (node (pixels grid) (adjacent grid) g p)) tests)
      (gap : ℕ) where
    no_residue : residue_by (pixels grid) (adjacent grid) tests gap g p ≡ 0
    unfolding residue_by residues
    no_residue = joined_none gap (falls tests) (no_falls wide tests narrow all)

    no_index : index_by (pixels grid) (adjacent grid) tests gap g p ≡ 0
    unfolding index_by residues
    no_index = largest_place_zero (joined gap 0 (falls tests)) (joined_none gap (falls tests) (no_falls wide tests narrow all))

-- so both maps are 0 at each own pixel p of a node with a pixel q on the frame, for steps of either kind
pub framed_maps : (grid : Grid) (kind : Kind) (picture steps : List ℕ) (gap : ℕ) → pixels grid ≤ most_pixels → list_good kind steps ≡ true → (p q : ℕ) → p < pixels grid
    → q < pixels grid → member (node (pixels grid) (adjacent grid) (grey picture) p) q ≡ true → on_frame grid q ≡ true
    → (get_or (residue_map grid (list_tests grid kind steps) gap picture) p 0 ≡ 0) × (get_or (index_map grid (list_tests grid kind steps) gap picture) p 0 ≡ 0)
unfolding residue_map index_map
framed_maps grid kind picture steps gap few good p q below below_q in_node frame =
    let set : Positions = member (node (pixels grid) (adjacent grid) (grey picture) p) in
    let narrow = list_narrow grid few kind steps good in
    let all = list_touched grid kind steps good set (touches_intro grid set q below_q in_node frame) in (
      table_at (pixels grid) _ p 0 below ∙ no_residue grid (grey picture) p below everything (list_tests grid kind steps) narrow all gap,
      table_at (pixels grid) _ p 0 below ∙ no_index grid (grey picture) p below everything (list_tests grid kind steps) narrow all gap,
    )
