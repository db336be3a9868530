-- What the scope says of an opening of a picture with the greys g, at every threshold, and by a step of either kind. Each law cites one over
-- any test on sets. A picture has no more pixels than it may have.
use Rattle.std.specs.Prelude.{Ok}
use Prim.Native.Nat.{ℕ, ◌≤◌, ◌<◌}
use mathlib.Core.Logic.{◌↔◌, inl, inr}
use mathlib.Core.Bool.{true, false}
use mathlib.Core.Path.{◌≡◌, sym}
use lib.ListN.{get_or}
use borrow.Author.Tests.{leb-true, leb-false, le-leb, lt-leb}
use Rattle.sets.specs.Sets.{member}
use Rattle.sets.proofs.Laws.{table_at}
use Rattle.grid.specs.Pixels.{pixels}
use Rattle.grid.specs.Neighbours.{adjacent}
use Rattle.grid.specs.Attributes.{attribute}
use Rattle.grid.specs.declared.Grid.{Grid}
use Rattle.grid.proofs.Attributes.{adjacent_symmetric, attribute_increasing, attribute_needs_pixel}
use Rattle.grid.proofs.Whole.{grid_whole}
use Rattle.causes.specs.Bounds.{most_pixels}
use Rattle.opening.specs.Opening.{component_at, least_grey, Upward, at_least, opened_by, Greatest}
use Rattle.opening.specs.Node.{node}
use Rattle.opening.proofs.Threshold.{at_least_up}
use Rattle.opening.proofs.Greatest.{opened_greatest, opened_goes}
use Rattle.tree.specs.Tree.{climbed, longest_climb}
use Rattle.tree.proofs.Climb.{climbed_opened}
use Rattle.calls.specs.Steps.{step_test}
use Rattle.calls.specs.Judging.{step_good}
use Rattle.calls.specs.Calls.{grey, opening, opened_picture, OpenCall, open_verdict, open_output}
use Rattle.calls.specs.declared.Step.{Step}
use Rattle.calls.proofs.Accepted.{open_passed, bounded}
use Rattle.calls.proofs.Steps.{step_up, step_needs_pixel}

-- levels that pass one test are those that pass another
greatest_same : (P Q : ℕ → Type 0) → ((h : ℕ) → P h ↔ Q h) → (least v : ℕ) → Greatest P least v → Greatest Q least v
greatest_same P Q same least v (inl (pass, highest)) = inl ((same v).0 pass, λ h pass_h. highest h ((same h).1 pass_h))
greatest_same P Q same least v (inr (none, is_least)) = inr ((λ h pass. none h ((same h).1 pass)), is_least)

-- a climb of 255 finds the new grey of a byte by a step of either kind: "The opened grey of a pixel is found by climbing from its node to the
-- nearest kept ancestor."
pub climb_opens_by :
    (grid : Grid) → pixels grid ≤ most_pixels → (step : Step) (g : ℕ → ℕ) (p : ℕ) → 1 ≤ grid.width → p < pixels grid → g p ≤ longest_climb
    → climbed (pixels grid) (adjacent grid) (step_test grid step) g longest_climb p ≡ opened_by (pixels grid) (adjacent grid) (step_test grid step) g p
climb_opens_by grid few step g p wide below byte =
    climbed_opened
    (pixels grid)
    (adjacent grid)
    (adjacent_symmetric grid)
    g
    (step_test grid step)
    (step_up grid few step)
    (grid_whole grid wide g)
    longest_climb
    p
    below
    byte

-- so is every grey that an accepted call writes, whichever kind of step it names
pub climb_writes : (call : OpenCall) → open_verdict call ≡ Ok tt → (p : ℕ) → p < pixels call.grid → grey call.picture p ≤ longest_climb
    → get_or (open_output call) p 0
    ≡ climbed (pixels call.grid) (adjacent call.grid) (step_test call.grid call.step) (grey call.picture) longest_climb p
unfolding open_output opened_picture
climb_writes call is p below byte =
    let fits = bounded call.grid.width call.grid.height (open_passed call is).common.sides in
    rw (is, table_at (pixels call.grid) (opened_by (pixels call.grid) (adjacent call.grid) (step_test call.grid call.step) (grey call.picture)) p 0 below)
    (sym (climb_opens_by call.grid fits.small call.step (grey call.picture) p fits.wide below byte))

module _ (grid : Grid) (few : pixels grid ≤ most_pixels) (a t : ℕ) (g : ℕ → ℕ) (p : ℕ) where
  up : Upward (pixels grid) (at_least (attribute grid a) t)
  up = at_least_up (pixels grid) (attribute grid a) (attribute_increasing grid a few) t

  -- "Opening at threshold t, from 1 [on]: a pixel's new grey is the greatest h for which its component of the level set at h has
  -- attribute t or more; the picture's least grey if there is none."
  pub opening_greatest : 1 ≤ t
      → Greatest
      (λ (level : ℕ). t ≤ attribute grid a (member (component_at (pixels grid) (adjacent grid) g level p)))
      (least_grey (pixels grid) g)
      (opening grid a t g p)
  opening_greatest from_one =
      greatest_same
      _
      _
      (λ level. (leb-true t _, le-leb t _))
      (least_grey (pixels grid) g)
      (opening grid a t g p)
      (opened_greatest
      (pixels grid)
      (adjacent grid)
      (at_least (attribute grid a) t)
      up
      g
      p
      (attribute_needs_pixel grid a t from_one))

  -- "a node goes exactly if it is not the root and its attribute is below t": the own pixels of a node lose grey. "The root is the node
  -- at the least grey".
  pub node_goes : opening grid a t g p < g p
      ↔ ((least_grey (pixels grid) g < g p) × (attribute grid a (member (node (pixels grid) (adjacent grid) g p)) < t))
  node_goes =
      let goes = opened_goes (pixels grid) (adjacent grid) (at_least (attribute grid a) t) up g p in (
        (λ less. let (inner, small) = goes.0 less in (inner, leb-false t _ small)),
        (λ both. goes.1 (both.0, lt-leb t _ both.1)),
      )

  -- the same of steps of either kind: "A node stays if it meets all three."
  pub step_goes : (step : Step) → opened_by (pixels grid) (adjacent grid) (step_test grid step) g p < g p
      ↔ ((least_grey (pixels grid) g < g p) × (step_test grid step (member (node (pixels grid) (adjacent grid) g p)) ≡ false))
  step_goes step = opened_goes (pixels grid) (adjacent grid) (step_test grid step) (step_up grid few step) g p

  pub step_greatest : (step : Step) → step_good step ≡ true
      → Greatest
      (λ (level : ℕ). step_test grid step (member (component_at (pixels grid) (adjacent grid) g level p)) ≡ true)
      (least_grey (pixels grid) g)
      (opened_by (pixels grid) (adjacent grid) (step_test grid step) g p)
  step_greatest step good =
      opened_greatest (pixels grid) (adjacent grid) (step_test grid step) (step_up grid few step) g p (step_needs_pixel grid step good)

  -- "Levels fall strictly on the way up, so a climb has at most 255 steps": a climb of 255 finds the new grey of a byte
  pub climb_opens : 1 ≤ grid.width → p < pixels grid → g p ≤ 255
      → climbed (pixels grid) (adjacent grid) (at_least (attribute grid a) t) g 255 p ≡ opening grid a t g p
  climb_opens wide below byte =
      climbed_opened
      (pixels grid)
      (adjacent grid)
      (adjacent_symmetric grid)
      g
      (at_least (attribute grid a) t)
      up
      (grid_whole grid wide g)
      255
      p
      below
      byte
