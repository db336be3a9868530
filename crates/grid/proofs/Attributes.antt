-- An attribute cannot fall as a set grows, is 1,048,577 of a set with a pixel on the frame, and 0 of the empty set alone; neighbours are
-- mutual. That it cannot fall asks that a picture has no more pixels than it may have.
use Prim.Native.Nat.{ℕ, ◌+◌, ◌-◌, ◌≤◌, ◌<◌}
use mathlib.Core.Bool.{Bool, true, false, cond, false≢true, ◌&&◌}
use mathlib.Core.Logic.{⊎_elim}
use mathlib.Core.Path.{◌≡◌, refl}
use native.Mathlib.Nat.{div-le_self, mod-le}
use native.Mathlib.Omega.{arith}
use lib.Dec.{eqb}
use borrow.Author.Tests.{leb-true}
use Rattle.sets.specs.Sets.{Positions, Inside, some_in, count}
use Rattle.sets.specs.Gather.{least, greatest}
use Rattle.sets.proofs.Laws.{some_in_intro, some_in_elim, none_in, count_le, count_mono, count_none, count_some}
use Rattle.sets.proofs.Tests.{decided, clash, and_left, and_right, and_both}
use Rattle.sets.proofs.Gather.{min_mono, max_mono, max_le}
use Rattle.causes.specs.Bounds.{most_pixels, top_threshold}
use Rattle.connected.specs.Component.{Symmetric}
use Rattle.connected.proofs.Laws.{both_symmetric}
use Rattle.opening.specs.Opening.{Increasing, NeedsPixel, at_least}
use Rattle.opening.proofs.Levels.{cond_case}
use Rattle.grid.specs.Pixels.{pixels}
use Rattle.grid.specs.Neighbours.{adjacent, next_of}
use Rattle.grid.specs.Attributes.{extent, side, visible, on_frame, touches_frame, attribute}
use Rattle.grid.specs.declared.Grid.{Grid}

-- neighbours are mutual, 4 or 8
pub adjacent_symmetric : (grid : Grid) → Symmetric (adjacent grid)
unfolding adjacent
adjacent_symmetric grid = both_symmetric (next_of grid.neighbours grid.width)

extent_step : (a b : Bool) (x y u v : ℕ) → (a ≡ true → b ≡ true) → u ≤ v → y ≤ x → cond a (u - x + 1) 0 ≤ cond b (v - y + 1) 0
extent_step true true x y u v i h k = omega arith
extent_step true false x y u v i h k = absurd (false≢true (i refl))
extent_step false b x y u v i h k = omega arith

extent_mono : (n : ℕ) (key : ℕ → ℕ) (s t : Positions) → Inside n s t → extent n key s ≤ extent n key t
unfolding extent
extent_mono n key s t h =
    extent_step (some_in n s) (some_in n t) (least n key s) (least n key t) (greatest n key s) (greatest n key t)
    (λ e. let w = some_in_elim n s e in some_in_intro n t w.0 w.1 (h w.0 w.1 w.2))
    (max_mono n 0 key s t h)
    (min_mono n n key s t h)

-- an extent by its two ends, of a set that is not empty
pub extent_ends : (n : ℕ) (key : ℕ → ℕ) (s : Positions) → some_in n s ≡ true → extent n key s ≡ greatest n key s - least n key s + 1
unfolding extent
extent_ends n key s e = rw e

-- a row or a column is no larger than the position, so below n
pub side_le : (w a q : ℕ) → side w a q ≤ q
unfolding side
side_le w a q = cond_case (λ (k : ℕ). k ≤ q) (eqb a 2) (λ e. div-le_self q w) (λ e. mod-le q w)

-- an extent is at most n
extent_le : (n : ℕ) (key : ℕ → ℕ) (s : Positions) → ((q : ℕ) → key q ≤ q) → extent n key s ≤ n
unfolding extent
extent_le n key s low =
    cond_case
    (λ (k : ℕ). k ≤ n)
    (some_in n s)
    (λ e. let (p, below, in_s) = some_in_elim n s e in omega (arith, max_le n 0 key s (n - 1) (omega arith) (λ q c. omega (arith, low q))))
    (λ e. omega arith)

either : (b : Bool) (k l u v : ℕ) → k ≤ l → u ≤ v → cond b k u ≤ cond b l v
either true k l u v h i = h
either false k l u v h i = i

-- what is seen of a set grows with it, is at most the number of pixels, and is 0 of the empty set alone
module _ (grid : Grid) (a : ℕ) where
  visible_mono : Increasing (pixels grid) (visible grid a)
  unfolding visible
  visible_mono s t h =
      either (eqb a 1) (count (pixels grid) s) (count (pixels grid) t)
      (extent (pixels grid) (side grid.width a) s)
      (extent (pixels grid) (side grid.width a) t)
      (count_mono (pixels grid) s t h)
      (extent_mono (pixels grid) (side grid.width a) s t h)

  visible_le : (s : Positions) → visible grid a s ≤ pixels grid
  unfolding visible
  visible_le s =
      cond_case
      (λ (k : ℕ). k ≤ pixels grid)
      (eqb a 1)
      (λ e. count_le (pixels grid) s)
      (λ e. extent_le (pixels grid) (side grid.width a) s (side_le grid.width a))

  visible_some : (s : Positions) (q : ℕ) → q < pixels grid → s q ≡ true → 1 ≤ visible grid a s
  unfolding visible
  visible_some s q below in_s =
      cond_case
      (λ (k : ℕ). 1 ≤ k)
      (eqb a 1)
      (λ e. count_some (pixels grid) s q below in_s)
      (λ e. rw (extent_ends (pixels grid) (side grid.width a) s (some_in_intro (pixels grid) s q below in_s)) (omega arith))

  visible_none : (s : Positions) → some_in (pixels grid) s ≡ false → visible grid a s ≡ 0
  unfolding visible extent
  visible_none s none =
      cond_case (λ (k : ℕ). k ≡ 0) (eqb a 1) (λ e. count_none (pixels grid) s (none_in (pixels grid) s none)) (λ e. rw none)

module _ (grid : Grid) (s : Positions) where
  pub touches_intro : (q : ℕ) → q < pixels grid → s q ≡ true → on_frame grid q ≡ true → touches_frame grid s ≡ true
  touches_intro q below in_s frame =
      some_in_intro (pixels grid) (λ (x : ℕ). s x && on_frame grid x) q below (and_both (s q) (on_frame grid q) in_s frame)

  touches_elim : touches_frame grid s ≡ true → (q : ℕ) × (q < pixels grid) × (s q ≡ true) × (on_frame grid q ≡ true)
  touches_elim e =
      let (q, below, both) = some_in_elim (pixels grid) (λ (x : ℕ). s x && on_frame grid x) e in
      (q, below, and_left (s q) (on_frame grid q) both, and_right (s q) (on_frame grid q) both)

-- a set that touches the frame is never the smaller one
grown : (b c : Bool) (top k l : ℕ) → (b ≡ true → c ≡ true) → k ≤ top → k ≤ l → cond b top k ≤ cond c top l
grown true true top k l i h m = omega arith
grown true false top k l i h m = absurd (false≢true (i refl))
grown false true top k l i h m = h
grown false false top k l i h m = m

module _ (grid : Grid) (a : ℕ) where
  -- a set that touches the frame has 1,048,577, and any other what is seen of it
  pub attribute_touched : (s : Positions) → touches_frame grid s ≡ true → attribute grid a s ≡ top_threshold
  unfolding attribute
  attribute_touched s e = rw e refl

  pub attribute_untouched : (s : Positions) → touches_frame grid s ≡ false → attribute grid a s ≡ visible grid a s
  unfolding attribute
  attribute_untouched s e = rw e refl

  -- so one with a pixel on the frame
  pub attribute_framed : (s : Positions) (q : ℕ) → q < pixels grid → s q ≡ true → on_frame grid q ≡ true → attribute grid a s ≡ top_threshold
  attribute_framed s q below in_s frame = attribute_touched s (touches_intro grid s q below in_s frame)

  -- "The attribute still cannot fall as a set grows." More pixels than a picture may have could outgrow the frame's attribute.
  pub attribute_increasing : pixels grid ≤ most_pixels → Increasing (pixels grid) (attribute grid a)
  unfolding attribute
  attribute_increasing few s t h =
      grown (touches_frame grid s) (touches_frame grid t) top_threshold (visible grid a s) (visible grid a t)
      (λ e. let (q, below, in_s, frame) = touches_elim grid s e in touches_intro grid t q below (h q below in_s) frame)
      (omega (arith, visible_le grid a s))
      (visible_mono grid a s t h)

  -- a set with a pixel in it has an attribute above 0
  pub attribute_some : (s : Positions) (q : ℕ) → q < pixels grid → s q ≡ true → 1 ≤ attribute grid a s
  unfolding attribute
  attribute_some s q below in_s =
      cond_case (λ (k : ℕ). 1 ≤ k) (touches_frame grid s) (λ e. omega arith) (λ e. visible_some grid a s q below in_s)

  -- a set with no pixel in it has attribute 0
  attribute_none : (s : Positions) → some_in (pixels grid) s ≡ false → attribute grid a s ≡ 0
  unfolding attribute
  attribute_none s none =
      cond_case
      (λ (k : ℕ). k ≡ 0)
      (touches_frame grid s)
      (λ e. let (q, below, in_s, frame) = touches_elim grid s e in clash (s q) in_s (none_in (pixels grid) s none q below))
      (λ e. visible_none grid a s none)

  -- so it passes no threshold from 1 on
  pub attribute_needs_pixel : (t : ℕ) → 1 ≤ t → NeedsPixel (pixels grid) (at_least (attribute grid a) t)
  attribute_needs_pixel t from_one s pass =
      ⊎_elim
      (λ some. some)
      (λ none. absurd (omega (arith, leb-true t (attribute grid a s) pass, attribute_none s none)))
      (decided (some_in (pixels grid) s))
