-- Laws of the accumulators, for the three attributes together: joining is commutative and associative, nothing changes nothing, the
-- frame is noted once for a set, and the attribute of a set is read from its accumulator. Assumes nothing.
use Prim.Native.Nat.{ℕ, zero, suc, ◌+◌, ◌-◌, ◌/◌, ◌%◌, min, max, ◌≤◌, ◌<◌}
use mathlib.Core.Bool.{Bool, true, false, cond, ◌&&◌, ◌||◌}
use mathlib.Core.Logic.{⊎_elim}
use mathlib.Core.Path.{◌≡◌, refl, sym, ap, ◌∙◌}
use native.Mathlib.Nat.{le_antisymm}
use native.Mathlib.Omega.{arith}
use lib.Dec.{eqb}
use borrow.Author.Tests.{eqb-true, lt-ltb}
use Rattle.sets.specs.Sets.{Positions, some_in, count}
use Rattle.sets.specs.Gather.{gather, least, greatest}
use Rattle.sets.proofs.Tests.{decided, clash, is_false}
use Rattle.sets.proofs.Laws.{some_in_intro, count_le}
use Rattle.sets.proofs.Gather.{gather_ext, gather_one, gather_union, min_le, max_ge, max_le, min_found}
use Rattle.grid.specs.Pixels.{pixels}
use Rattle.grid.specs.Attributes.{side, extent, visible, on_frame, attribute}
use Rattle.grid.specs.declared.Grid.{Grid}
use Rattle.grid.proofs.Attributes.{extent_ends, side_le, attribute_touched, attribute_untouched}
use Rattle.causes.specs.Bounds.{longest_side, most_pixels, top_threshold}
use Rattle.accumulators.specs.Accumulators.{packed, nothing, seen, framed, single, combined, measured, gathered, Small, Capped, Short, InOrder}

-- for the area, and for the other two
by_area : {A : Type 0} (a : ℕ) → (eqb a 1 ≡ true → A) → (eqb a 1 ≡ false → A) → A
by_area a f g = ⊎_elim f g (decided (eqb a 1))

combined_comm : (a x y : ℕ) → combined a x y ≡ combined a y x
unfolding combined
combined_comm a x y = by_area a (λ e. rw e (omega arith)) (λ e. rw e (omega arith))

packed_last : (l f : ℕ) → f < longest_side → packed l f / longest_side ≡ l
packed_last l f h = omega arith

packed_first : (l f : ℕ) → f < longest_side → packed l f % longest_side ≡ f
packed_first l f h = omega arith

max_assoc : (x y z : ℕ) → max (max x y) z ≡ max x (max y z)
max_assoc x y z = omega arith

min_assoc : (x y z : ℕ) → min (min x y) z ≡ min x (min y z)
min_assoc x y z = omega arith

combined_assoc : (a x y z : ℕ) → combined a (combined a x y) z ≡ combined a x (combined a y z)
unfolding combined
combined_assoc a x y z =
    by_area
    a
    (λ e. rw e (omega arith))
    (λ e.
    rw (
      e,
      packed_last (max (x / longest_side) (y / longest_side)) (min (x % longest_side) (y % longest_side)) (omega arith),
      packed_first (max (x / longest_side) (y / longest_side)) (min (x % longest_side) (y % longest_side)) (omega arith),
      packed_last (max (y / longest_side) (z / longest_side)) (min (y % longest_side) (z % longest_side)) (omega arith),
      packed_first (max (y / longest_side) (z / longest_side)) (min (y % longest_side) (z % longest_side)) (omega arith),
    )
    (cc (max_assoc (x / longest_side) (y / longest_side) (z / longest_side), min_assoc (x % longest_side) (y % longest_side) (z % longest_side))))

combined_nothing : (a x : ℕ) → Capped a x → combined a x (nothing a) ≡ x
unfolding combined nothing
combined_nothing a x cap = by_area a (λ e. rw e (omega (arith, cap e))) (λ e. rw e (omega arith))

nothing_capped : (a : ℕ) → Capped a (nothing a)
unfolding nothing
nothing_capped a e = rw e (omega arith)

module _ (a n : ℕ) (v : ℕ → ℕ) where
  -- the accumulator of two sets that do not meet
  pub gathered_union : (s t u : Positions) → ((x : ℕ) → x < n → s x ≡ true → t x ≡ false) → ((x : ℕ) → x < n → u x ≡ (s x || t x)) → gathered a n v u ≡ combined a (gathered a n v s) (gathered a n v t)
  gathered_union s t u apart both =
      gather_ext n (combined a) (nothing a) v u (λ (x : ℕ). s x || t x) both
      ∙ gather_union (combined a) (combined_assoc a) (combined_comm a) n (nothing a) v s t (combined_nothing a (nothing a) (nothing_capped a)) apart

  -- and of one pixel more
  pub gathered_with : (s u : Positions) (q : ℕ) → q < n → Capped a (v q) → s q ≡ false → ((x : ℕ) → x < n → u x ≡ (s x || eqb q x)) → gathered a n v u ≡ combined a (gathered a n v s) (v q)
  gathered_with s u q b cap out both =
      gathered_union s (eqb q) u (λ x c i. is_false (eqb q x) (λ e. clash (s q) (rw (eqb-true q x e) i) out)) both
      ∙ ap (combined a (gathered a n v s)) (gather_one n (combined a) (nothing a) v q b ∙ combined_nothing a (v q) cap)

-- accumulators stay small
combined_small : (a x y : ℕ) → Small x → Small y → Small (combined a x y)
unfolding combined
combined_small a x y h k = by_area a (λ e. rw e (omega arith)) (λ e. rw e (omega arith))

nothing_small : (a : ℕ) → Small (nothing a)
unfolding nothing
nothing_small a = by_area a (λ e. rw e (omega arith)) (λ e. rw e (omega arith))

pub gathered_small : (a n : ℕ) (v : ℕ → ℕ) (s : Positions) → ((q : ℕ) → q < n → Small (v q)) → Small (gathered a n v s)
unfolding gather
gathered_small a zero v s h = nothing_small a
gathered_small a (suc n) v s h =
    let ih : Small (gathered a n v s) = gathered_small a n v s (λ q b. h q (omega arith)) in
    ⊎_elim
    (λ t. rw t (combined_small a (v n) (gathered a n v s) (h n (omega arith)) ih))
    (λ t. rw t ih)
    (decided (s n))

pub seen_small : (grid : Grid) (a q : ℕ) → Short grid a q → Small (seen grid a q)
unfolding seen
seen_small grid a q h = by_area a (λ e. rw e (omega arith)) (λ e. rw e (omega arith))

pub seen_one : (grid : Grid) (a q : ℕ) → eqb a 1 ≡ true → seen grid a q ≡ 1
unfolding seen
seen_one grid a q e = rw e refl

pub seen_capped : (grid : Grid) (a q : ℕ) → Capped a (seen grid a q)
seen_capped grid a q e = omega (arith, seen_one grid a q e)

framed_small : (a x : ℕ) → Small (framed a x)
unfolding framed
framed_small a x = by_area a (λ e. rw e (omega arith)) (λ e. rw e (omega arith))

pub single_small : (grid : Grid) (a q : ℕ) → Short grid a q → Small (single grid a q)
unfolding single
single_small grid a q h =
    ⊎_elim
    (λ f. rw f (framed_small a (seen grid a q)))
    (λ f. rw f (seen_small grid a q h))
    (decided (on_frame grid q))

-- the frame is noted once: of the one set, of the other, or of both together is the same
pub framed_twice : (a x : ℕ) → framed a (framed a x) ≡ framed a x
unfolding framed
framed_twice a x = by_area a (λ e. rw e refl) (λ e. rw (e, packed_first longest_side (x % longest_side) (omega arith)) refl)

framed_left : (a x y : ℕ) → Small y → combined a (framed a x) y ≡ framed a (combined a x y)
unfolding framed combined
framed_left a x y h =
    let l : ℕ = max (x / longest_side) (y / longest_side) in
    let f : ℕ = min (x % longest_side) (y % longest_side) in
    by_area
    a
    (λ e. rw e (omega arith))
    (λ e.
    rw (
      e,
      packed_last longest_side (x % longest_side) (omega arith),
      packed_first longest_side (x % longest_side) (omega arith),
      packed_first l f (omega arith),
    )
    (omega arith))

framed_right : (a x y : ℕ) → Small x → combined a x (framed a y) ≡ framed a (combined a x y)
framed_right a x y h =
    combined_comm a x (framed a y) ∙ framed_left a y x h ∙ ap (framed a) (combined_comm a y x)

framed_join : (a : ℕ) (b c : Bool) (x y : ℕ) → Small x → Small y → combined a (cond b (framed a x) x) (cond c (framed a y) y) ≡ cond (b || c) (framed a (combined a x y)) (combined a x y)
framed_join a true true x y h k =
    framed_left a x (framed a y) (framed_small a y)
    ∙ ap (framed a) (framed_right a x y h)
    ∙ framed_twice a (combined a x y)
framed_join a true false x y h k = framed_left a x y k
framed_join a false true x y h k = framed_right a x y h
framed_join a false false x y h k = refl

-- its two ends are in order, and it is read as the top threshold
framed_ends : (a x : ℕ) → InOrder a (framed a x)
unfolding framed
framed_ends a x e =
    rw
    (e, packed_first longest_side (x % longest_side) (omega arith), packed_last longest_side (x % longest_side) (omega arith))
    (omega arith)

measured_framed : (a x : ℕ) → measured a (framed a x) ≡ top_threshold
unfolding measured framed
measured_framed a x =
    by_area
    a
    (λ e. rw e refl)
    (λ e. rw (e, packed_last longest_side (x % longest_side) (omega arith)) refl)

-- so the accumulator of a set is that of what is seen of it, with the frame noted if one of its pixels is on it
pub gathered_framed : (grid : Grid) (a n : ℕ) (s : Positions) → ((q : ℕ) → q < n → Short grid a q) → gathered a n (single grid a) s ≡ cond (some_in n (λ (q : ℕ). s q && on_frame grid q)) (framed a (gathered a n (seen grid a) s)) (gathered a n (seen grid a) s)
unfolding gather some_in single
gathered_framed grid a zero s short = refl
gathered_framed grid a (suc n) s short =
    let before : (q : ℕ) → q < n → Short grid a q = λ q b. short q (omega arith) in
    let ih = gathered_framed grid a n s before in
    ⊎_elim
    (λ t.
    rw t
    (ap (combined a (single grid a n)) ih
    ∙ framed_join
    a
    (on_frame grid n)
    (some_in n (λ (q : ℕ). s q && on_frame grid q))
    (seen grid a n)
    (gathered a n (seen grid a) s)
    (seen_small grid a n (short n (omega arith)))
    (gathered_small a n (seen grid a) s (λ q b. seen_small grid a q (before q b)))))
    (λ t. rw t ih)
    (decided (s n))

-- what is seen of a set is its area
module _ (grid : Grid) (a : ℕ) (e : eqb a 1 ≡ true) where
  combined_area : (q x : ℕ) → x ≤ most_pixels → combined a (seen grid a q) x ≡ 1 + x
  unfolding combined seen
  combined_area q x h = rw e (omega arith)

  nothing_area : nothing a ≡ 0
  unfolding nothing
  nothing_area = rw e

  gathered_count : (n : ℕ) (s : Positions) → n ≤ most_pixels → gathered a n (seen grid a) s ≡ count n s
  unfolding gather count
  gathered_count zero s few = nothing_area
  gathered_count (suc n) s few =
      let ih : gathered a n (seen grid a) s ≡ count n s = gathered_count n s (omega arith) in
      ⊎_elim
      (λ t.
      rw t (combined_area n (gathered a n (seen grid a) s) (omega (arith, ih, count_le n s)) ∙ ap (λ (k : ℕ). 1 + k) ih))
      (λ t. rw t (omega (arith, ih)))
      (decided (s n))

  -- at most the number of pixels
  pub gathered_area_le : (n : ℕ) (s : Positions) → n ≤ most_pixels → gathered a n (seen grid a) s ≤ n
  gathered_area_le n s few = omega (arith, gathered_count n s few, count_le n s)

min_start : (n e : ℕ) (f : ℕ → ℕ) (s : Positions) → gather n min e f s ≤ e
unfolding gather
min_start zero e f s = omega arith
min_start (suc n) e f s =
    ⊎_elim (λ t. rw t (omega (arith, min_start n e f s))) (λ t. rw t (min_start n e f s)) (decided (s n))

-- of a set that is not empty the least does not depend on where the gathering starts
min_start_le : (n d e : ℕ) (f : ℕ → ℕ) (s : Positions) (q : ℕ) → q < n → s q ≡ true → f q ≤ e → gather n min d f s ≤ gather n min e f s
min_start_le n d e f s q b i h =
    ⊎_elim
    (λ z. omega (arith, min_le n d f s q b i))
    (λ w. omega (arith, w.3, min_le n d f s w.0 w.1 w.2))
    (min_found n e f s)

-- or its two ends
module _ (grid : Grid) (a : ℕ) (e : eqb a 1 ≡ false) where
  combined_ends : (q l f : ℕ) → side grid.width a q < longest_side → f < longest_side → combined a (seen grid a q) (packed l f) ≡ packed (max (side grid.width a q) l) (min (side grid.width a q) f)
  unfolding combined seen
  combined_ends q l f h i =
      rw (
        e,
        packed_last (side grid.width a q) (side grid.width a q) h,
        packed_first (side grid.width a q) (side grid.width a q) h,
        packed_last l f i,
        packed_first l f i,
      )

  nothing_ends : nothing a ≡ packed 0 (longest_side - 1)
  unfolding nothing
  nothing_ends = rw e

  gathered_packed : (n : ℕ) (s : Positions) → ((q : ℕ) → q < n → Short grid a q) → gathered a n (seen grid a) s ≡ packed (greatest n (side grid.width a) s) (gather n min (longest_side - 1) (side grid.width a) s)
  unfolding gather
  gathered_packed zero s short = nothing_ends
  gathered_packed (suc n) s short =
      let l : ℕ = greatest n (side grid.width a) s in
      let f : ℕ = gather n min (longest_side - 1) (side grid.width a) s in
      let ih : gathered a n (seen grid a) s ≡ packed l f = gathered_packed n s (λ q b. short q (omega arith)) in
      ⊎_elim
      (λ t. rw t (ap (combined a (seen grid a n)) ih ∙ combined_ends n l f (short n (omega arith)) (omega (arith, min_start n (longest_side - 1) (side grid.width a) s))))
      (λ t. rw t ih)
      (decided (s n))

-- the attribute of a set that is not empty is read from its accumulator
module _ (grid : Grid) (a n : ℕ) (s : Positions) (q : ℕ) (b : q < n) (i : s q ≡ true) (short : (x : ℕ) → x < n → Short grid a x) where
  same_least : gather n min (longest_side - 1) (side grid.width a) s ≡ least n (side grid.width a) s
  same_least =
      le_antisymm
      (min_start_le n (longest_side - 1) n (side grid.width a) s q b i (omega (arith, side_le grid.width a q)))
      (min_start_le n n (longest_side - 1) (side grid.width a) s q b i (omega (arith, short q b)))

  ends : eqb a 1 ≡ false → gathered a n (seen grid a) s ≡ packed (greatest n (side grid.width a) s) (least n (side grid.width a) s)
  ends e = gathered_packed grid a e n s short ∙ ap (packed (greatest n (side grid.width a) s)) same_least

  least_small : least n (side grid.width a) s < longest_side
  least_small = omega (arith, min_le n n (side grid.width a) s q b i, short q b)

  greatest_small : greatest n (side grid.width a) s < longest_side
  greatest_small = omega (arith, max_le n 0 (side grid.width a) s (longest_side - 1) (omega arith) (λ x c. omega (arith, short x c)))

  seen_ends : InOrder a (gathered a n (seen grid a) s)
  seen_ends e =
      let l : ℕ = least n (side grid.width a) s in
      let g : ℕ = greatest n (side grid.width a) s in
      rw
      (ends e, packed_first g l least_small, packed_last g l least_small)
      (omega (arith, min_le n n (side grid.width a) s q b i, max_ge n 0 (side grid.width a) s q b i))

  -- the least is at most the greatest
  pub gathered_ends : InOrder a (gathered a n (single grid a) s)
  gathered_ends =
      rw
      (gathered_framed grid a n s short)
      (⊎_elim
      (λ f. rw f (framed_ends a (gathered a n (seen grid a) s)))
      (λ f. rw f seen_ends)
      (decided (some_in n (λ (x : ℕ). s x && on_frame grid x))))

  measured_ends : eqb a 1 ≡ false → measured a (gathered a n (seen grid a) s) ≡ extent n (side grid.width a) s
  unfolding measured
  measured_ends e =
      let l : ℕ = least n (side grid.width a) s in
      let g : ℕ = greatest n (side grid.width a) s in
      rw
      (ends e, e, packed_first g l least_small, packed_last g l least_small, lt-ltb g longest_side greatest_small)
      (sym (extent_ends n (side grid.width a) s (some_in_intro n s q b i)))

  measured_count : n ≤ most_pixels → eqb a 1 ≡ true → measured a (gathered a n (seen grid a) s) ≡ count n s
  unfolding measured
  measured_count few e = rw e (gathered_count grid a e n s few)

  measured_visible : n ≤ most_pixels → n ≡ pixels grid → measured a (gathered a n (seen grid a) s) ≡ visible grid a s
  unfolding visible
  measured_visible few all =
      by_area a (λ e. measured_count few e ∙ rw (e, all) refl) (λ e. measured_ends e ∙ rw (e, all) refl)

  pub measured_attribute : n ≤ most_pixels → n ≡ pixels grid → measured a (gathered a n (single grid a) s) ≡ attribute grid a s
  measured_attribute few all =
      ap (measured a) (gathered_framed grid a n s short)
      ∙ ⊎_elim
      (λ f. rw f (measured_framed a (gathered a n (seen grid a) s) ∙ sym (attribute_touched grid a s (rw all at f))))
      (λ f. rw f (measured_visible few all ∙ sym (attribute_untouched grid a s (rw all at f))))
      (decided (some_in n (λ (x : ℕ). s x && on_frame grid x)))
