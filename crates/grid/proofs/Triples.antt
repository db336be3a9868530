-- Meeting all three thresholds of a triple: of more as a set grows, of less as a part rises; a single threshold as a triple with two zeros; both of
-- two triples as the largest value in each part; every triple of a set on the frame. That it holds of more as a set grows asks that a picture has
-- no more pixels than it may have.
use Prim.Native.Nat.{ℕ, ◌≤◌, max}
use mathlib.Core.Bool.{Bool, true, false, cond, ◌&&◌}
use mathlib.Core.Logic.{◌⊎◌, ⊎_elim}
use mathlib.Core.Path.{◌≡◌, refl, ap, fun_ext, ◌∙◌}
use native.Mathlib.Omega.{arith}
use lib.Dec.{leb, eqb}
use borrow.Author.Tests.{leb-true, le-leb, eqb-true}
use Rattle.sets.specs.Sets.{Positions}
use Rattle.sets.proofs.Tests.{and_left, and_right, and_both, same_truth, decided}
use Rattle.causes.specs.Bounds.{most_pixels, top_threshold}
use Rattle.opening.specs.Opening.{Upward, NeedsPixel, at_least}
use Rattle.opening.proofs.Threshold.{at_least_up, at_least_less}
use Rattle.grid.specs.Pixels.{pixels}
use Rattle.grid.specs.Attributes.{extent, side, visible, touches_frame, attribute}
use Rattle.grid.specs.Triples.{triple_of, meets, zeros, need, join}
use Rattle.grid.specs.declared.Grid.{Grid}
use Rattle.grid.specs.declared.Triple.{Triple}
use Rattle.grid.proofs.Attributes.{attribute_increasing, attribute_needs_pixel, attribute_touched}

-- no part of t is above that of u
pub record Within (t u : Triple) : Type 0 where
  pub areas : t.area ≤ u.area
  pub heights : t.height ≤ u.height
  pub widths : t.width ≤ u.width

-- triples with equal parts are equal
same_parts : (t u : Triple) → t.area ≡ u.area → t.height ≡ u.height → t.width ≡ u.width → t ≡ u
same_parts t u areas heights widths = λ i. triple_of (areas i) (heights i) (widths i)

-- the largest value in each part: three zeros add nothing, and neither does a triple with no part above; the order of joining is free
pub join_zeros : (t : Triple) → join t zeros ≡ t
join_zeros t = same_parts (join t zeros) t (omega arith) (omega arith) (omega arith)

pub join_within : (t u : Triple) → Within t u → join t u ≡ u
join_within t u below = same_parts (join t u) u (omega arith) (omega arith) (omega arith)

pub join_assoc : (s t u : Triple) → join (join s t) u ≡ join s (join t u)
join_assoc s t u = same_parts (join (join s t) u) (join s (join t u)) (omega arith) (omega arith) (omega arith)

module _ (grid : Grid) where
  -- to have t or more of the attribute a
  abbrev has : ℕ → ℕ → Positions → Bool
  has a t = at_least (attribute grid a) t

  -- a set that meets a triple, part by part
  pub record PartsMet (t : Triple) (s : Positions) : Type 0 where
    pub area : at_least (attribute grid 1) t.area s ≡ true
    pub height : at_least (attribute grid 2) t.height s ≡ true
    pub width : at_least (attribute grid 3) t.width s ≡ true

  pub met_parts : (t : Triple) (s : Positions) → meets grid t s ≡ true → PartsMet t s
  unfolding meets
  met_parts t s e =
      let later : (has 2 t.height s && has 3 t.width s) ≡ true =
      and_right (has 1 t.area s) (has 2 t.height s && has 3 t.width s) e in
      record {
        area = and_left (has 1 t.area s) (has 2 t.height s && has 3 t.width s) e;
        height = and_left (has 2 t.height s) (has 3 t.width s) later;
        width = and_right (has 2 t.height s) (has 3 t.width s) later;
      }

  pub parts_met : (t : Triple) (s : Positions) → PartsMet t s → meets grid t s ≡ true
  unfolding meets
  parts_met t s m =
      and_both
      (has 1 t.area s)
      (has 2 t.height s && has 3 t.width s)
      m.area
      (and_both (has 2 t.height s) (has 3 t.width s) m.height m.width)

  -- it holds of more as a set grows
  pub meets_up : pixels grid ≤ most_pixels → (t : Triple) → Upward (pixels grid) (meets grid t)
  meets_up few t s u inside e =
      let m = met_parts t s e in
      let up : (a k : ℕ) → Upward (pixels grid) (has a k) =
      λ a k. at_least_up (pixels grid) (attribute grid a) (attribute_increasing grid a few) k in
      parts_met t u (record {
        area = up 1 t.area s u inside m.area;
        height = up 2 t.height s u inside m.height;
        width = up 3 t.width s u inside m.width;
      })

  -- what meets a triple meets one with no part above
  pub meets_less : (t u : Triple) → Within t u → (s : Positions) → meets grid u s ≡ true → meets grid t s ≡ true
  meets_less t u below s e =
      let m = met_parts u s e in
      parts_met t s (record {
        area = at_least_less (attribute grid 1) t.area u.area below.areas s m.area;
        height = at_least_less (attribute grid 2) t.height u.height below.heights s m.height;
        width = at_least_less (attribute grid 3) t.width u.width below.widths s m.width;
      })

  has_none : (a : ℕ) (s : Positions) → has a 0 s ≡ true
  has_none a s = le-leb 0 (attribute grid a s) (omega arith)

  -- every set meets three zeros
  pub meets_zeros : (s : Positions) → meets grid zeros s ≡ true
  meets_zeros s = parts_met zeros s (record { area = has_none 1 s; height = has_none 2 s; width = has_none 3 s })

  has_larger : (a x y : ℕ) (s : Positions) → has a x s ≡ true → has a y s ≡ true → has a (max x y) s ≡ true
  has_larger a x y s met_x met_y =
      le-leb (max x y) (attribute grid a s) (omega (arith, leb-true x (attribute grid a s) met_x, leb-true y (attribute grid a s) met_y))

  -- to meet two triples is to meet the largest value in each part
  pub meets_join : (t u : Triple) (s : Positions) → (meets grid t s && meets grid u s) ≡ meets grid (join t u) s
  meets_join t u s =
      same_truth
      (meets grid t s && meets grid u s)
      (meets grid (join t u) s)
      (λ e.
      let m = met_parts t s (and_left (meets grid t s) (meets grid u s) e) in
      let l = met_parts u s (and_right (meets grid t s) (meets grid u s) e) in
      parts_met (join t u) s (record {
        area = has_larger 1 t.area u.area s m.area l.area;
        height = has_larger 2 t.height u.height s m.height l.height;
        width = has_larger 3 t.width u.width s m.width l.width;
      }))
      (λ e.
      and_both
      (meets grid t s)
      (meets grid u s)
      (meets_less t (join t u) (record { areas = omega arith; heights = omega arith; widths = omega arith }) s e)
      (meets_less u (join t u) (record { areas = omega arith; heights = omega arith; widths = omega arith }) s e))

  -- one threshold of each attribute
  by_area : (t : ℕ) (s : Positions) → has 1 t s ≡ meets grid (triple_of t 0 0) s
  by_area t s =
      same_truth
      (has 1 t s)
      (meets grid (triple_of t 0 0) s)
      (λ e. parts_met (triple_of t 0 0) s (record { area = e; height = has_none 2 s; width = has_none 3 s }))
      (λ e. (met_parts (triple_of t 0 0) s e).area)

  by_height : (t : ℕ) (s : Positions) → has 2 t s ≡ meets grid (triple_of 0 t 0) s
  by_height t s =
      same_truth
      (has 2 t s)
      (meets grid (triple_of 0 t 0) s)
      (λ e. parts_met (triple_of 0 t 0) s (record { area = has_none 1 s; height = e; width = has_none 3 s }))
      (λ e. (met_parts (triple_of 0 t 0) s e).height)

  by_width : (t : ℕ) (s : Positions) → has 3 t s ≡ meets grid (triple_of 0 0 t) s
  by_width t s =
      same_truth
      (has 3 t s)
      (meets grid (triple_of 0 0 t) s)
      (λ e. parts_met (triple_of 0 0 t) s (record { area = has_none 1 s; height = has_none 2 s; width = e }))
      (λ e. (met_parts (triple_of 0 0 t) s e).width)

  -- a number that names none of the three is read as the width
  other_attribute : (a : ℕ) (s : Positions) → eqb a 1 ≡ false → eqb a 2 ≡ false → attribute grid a s ≡ attribute grid 3 s
  unfolding attribute visible side
  other_attribute a s no_area no_height =
      let same : (q : ℕ) → side grid.width a q ≡ side grid.width 3 q = λ q. rw no_height refl in
      rw no_area (ap (λ (key : ℕ → ℕ). cond (touches_frame grid s) top_threshold (extent (pixels grid) key s)) (fun_ext same))

  -- "A single threshold opens as a triple with two zeros"
  pub meets_need : (a t : ℕ) (s : Positions) → at_least (attribute grid a) t s ≡ meets grid (need a t) s
  unfolding need
  meets_need a t s =
      ⊎_elim
      (λ (e : eqb a 1 ≡ true). rw (eqb-true a 1 e) (by_area t s))
      (λ (no_area : eqb a 1 ≡ false).
      ⊎_elim
      (λ (e : eqb a 2 ≡ true). rw (eqb-true a 2 e) (by_height t s))
      (λ (no_height : eqb a 2 ≡ false).
      ap (leb t) (other_attribute a s no_area no_height) ∙ rw (no_area, no_height) (by_width t s))
      (decided (eqb a 2)))
      (decided (eqb a 1))

  -- a set with a pixel on the frame meets every triple in range
  pub meets_touched : (t : Triple) → Within t (triple_of top_threshold top_threshold top_threshold) → (s : Positions)
      → touches_frame grid s ≡ true → meets grid t s ≡ true
  meets_touched t small s e =
      let top : (a k : ℕ) → k ≤ top_threshold → has a k s ≡ true =
      λ a k l. le-leb k (attribute grid a s) (omega (arith, attribute_touched grid a s e)) in
      parts_met t s (record {
        area = top 1 t.area small.areas;
        height = top 2 t.height small.heights;
        width = top 3 t.width small.widths;
      })

  -- a set without pixels meets none with a part above 0
  pub meets_needs_pixel : (t : Triple) → (1 ≤ t.area) ⊎ ((1 ≤ t.height) ⊎ (1 ≤ t.width)) → NeedsPixel (pixels grid) (meets grid t)
  meets_needs_pixel t some s e =
      let m = met_parts t s e in
      ⊎_elim
      (λ l. attribute_needs_pixel grid 1 t.area l s m.area)
      (λ later.
      ⊎_elim
      (λ l. attribute_needs_pixel grid 2 t.height l s m.height)
      (λ l. attribute_needs_pixel grid 3 t.width l s m.width)
      later)
      some
