-- The sides and corners of the pixel p where the flood stands: where there is no pixel on a side, what a visit of the one there asks, and that it is the
-- only one. No other laws of the flood look into what a neighbour is.
use Prim.Native.Nat.{ℕ, ◌+◌, ◌-◌, ◌%◌, ◌≤◌, ◌<◌}
use Rattle.std.specs.Prelude.{Option, Some, None, MatchOption}
use Rattle.std.proofs.lemmas.Option.{MatchOption-at_some}
use mathlib.Core.Bool.{Bool, true, false, ◌&&◌, ◌||◌}
use mathlib.Core.List.{List}
use mathlib.Core.Logic.{◌⊎◌, inl, inr}
use mathlib.Core.Path.{◌≡◌, refl, sym, ap, ap₂, ◌∙◌}
use native.Mathlib.Nat.{mod_self, mul-mod_right}
use native.Mathlib.Omega.{arith}
use lib.Dec.{eqb}
use lib.ListN.{length}
use borrow.Author.Tests.{eqb-true, eqb-false, eq-eqb}
use Rattle.sets.specs.Sets.{Positions}
use Rattle.sets.proofs.Tests.{and_left, and_right, and_both, or_cases, or_left, or_right}
use Rattle.grid.specs.Neighbours.{adjacent}
use Rattle.grid.specs.declared.Grid.{Grid}
use Rattle.grid.proofs.Sides.{After, forth, back, side_of, below_is, right_is, right_inside, is_next_in_row, is_next_in_column, row_in, row_down}
use Rattle.levels.proofs.Counts.{by_cases}
use Rattle.queues.specs.Queues.{Lists}
use Rattle.visits.specs.Visits.{Standing, Visiting, above, left_of, right_of, below, either_side, beside, corners_above, corners_below, corners, Based, Only, beside_at, Visited, MetBut}
use Rattle.visits.proofs.Visits.{standing_in, visiting, stays}

-- what comes after p, or has p after it, is a neighbour
comes : (grid : Grid) (p q : ℕ) → After grid.neighbours grid.width p q ⊎ After grid.neighbours grid.width q p → adjacent grid p q ≡ true
unfolding adjacent
comes grid p q (inl a) = forth grid.neighbours grid.width p q a
comes grid p q (inr a) = back grid.neighbours grid.width p q a

-- every side but the right one
abbrev pub not_right : Grid → ℕ → Positions
not_right = either_side (either_side (either_side above left_of) below) corners

module _ (grid : Grid) (p q : ℕ) where
  on_corner : grid.neighbours ≡ 8 → (corners_above grid p q ≡ true) ⊎ (corners_below grid p q ≡ true) → not_right grid p q ≡ true
  on_corner eight which =
      let some : either_side corners_above corners_below grid p q ≡ true =
      by_cases which (or_left _ _) (or_right (corners_above grid p q) _) in
      or_right (either_side (either_side above left_of) below grid p q) _ (and_both _ _ (eq-eqb grid.neighbours 8 eight) some)

  -- a neighbour is on one of them, or on the right
  all_around : adjacent grid p q ≡ true → (right_of grid p q ≡ true) ⊎ (not_right grid p q ≡ true)
  unfolding adjacent
  all_around e = sides (side_of grid.neighbours grid.width p q e)
    where
      sides :
          After grid.neighbours grid.width p q ⊎ After grid.neighbours grid.width q p
          → (right_of grid p q ≡ true) ⊎ (not_right grid p q ≡ true)
      sides (inl (inl (inl right))) = inl right
      sides (inl (inl (inr down))) = inr (or_left _ _ (or_right (either_side above left_of grid p q) _ down))
      sides (inl (inr corner)) = inr (on_corner corner.0 (inr corner.1))
      sides (inr (inl (inl left))) = inr (or_left _ _ (or_left _ _ (or_right (above grid p q) _ left)))
      sides (inr (inl (inr up))) = inr (or_left _ _ (or_left _ _ (or_left (above grid p q) _ up)))
      sides (inr (inr corner)) = inr (on_corner corner.0 (inl corner.1))

-- after the visits of the other sides
pub met_but_right :
    {grid : Grid} {picture : List ℕ} {s s' : Lists} {p r : ℕ} → Visited grid picture s s' p r (not_right grid p) → r ≡ p
    → MetBut grid picture s' p (right_of grid p)
met_but_right {grid = grid} {p = p} U here x hx e =
    by_cases (all_around grid p x e) (λ right. inl right) (λ other. inr (U.met here x hx other))

-- the pixels on the sides and corners are neighbours
module _ (grid : Grid) (p x : ℕ) where
  pub near_above : above grid p x ≡ true → adjacent grid p x ≡ true
  near_above e = comes grid p x (inr (inl (inr e)))

  pub near_left : left_of grid p x ≡ true → adjacent grid p x ≡ true
  near_left e = comes grid p x (inr (inl (inl e)))

  pub near_right : right_of grid p x ≡ true → adjacent grid p x ≡ true
  near_right e = comes grid p x (inl (inl (inl e)))

  pub near_below : below grid p x ≡ true → adjacent grid p x ≡ true
  near_below e = comes grid p x (inl (inl (inr e)))

  pub near_corner : corners grid p x ≡ true → adjacent grid p x ≡ true
  near_corner e =
      let eight : grid.neighbours ≡ 8 = eqb-true _ 8 (and_left (eqb grid.neighbours 8) _ e) in
      by_cases
      (or_cases (corners_above grid p x) (corners_below grid p x) (and_right (eqb grid.neighbours 8) _ e))
      (λ over. comes grid p x (inr (inr (eight, over))))
      (λ under. comes grid p x (inl (inr (eight, under))))

-- the pixel above p and the one below, by what the code finds
module _ (grid : Grid) (n p : ℕ) where
  pub only_above :
      (r : Option ℕ) → MatchOption r (p < grid.width) (λ (q : ℕ). q + grid.width ≡ p) → Only n (above grid p) r
  only_above None first =
      record { one = λ q e. absurd (cc); only = λ x h e. absurd (omega (arith, below_is grid.width x p e)) }
  only_above (Some b) is =
      record {
        one = λ q e. let same : b ≡ q = cc in is_next_in_column grid.width q p (omega arith);
        only = λ x h e. let same : b ≡ x = omega (arith, below_is grid.width x p e) in ap Some same;
      }

  pub only_below :
      (r : Option ℕ) → MatchOption r (n ≤ p + grid.width) (λ (q : ℕ). (q ≡ p + grid.width) × (q < n)) → Only n (below grid p) r
  only_below None last =
      record { one = λ q e. absurd (cc); only = λ x h e. absurd (omega (arith, below_is grid.width p x e)) }
  only_below (Some b) is =
      record {
        one = λ q e. let same : b ≡ q = cc in is_next_in_column grid.width p q (omega (arith, is.0));
        only = λ x h e. let same : b ≡ x = omega (arith, is.0, below_is grid.width p x e) in ap Some same;
      }

module _ (grid : Grid) (p : ℕ) where
  pub is_left : (q : ℕ) → left_of grid p q ≡ true → q ≡ p - 1
  is_left q e = omega (arith, right_is grid.width q p e)

  pub is_right : (q : ℕ) → right_of grid p q ≡ true → q ≡ p + 1
  is_right = right_is grid.width p

-- two tests that hold together
both_ways : (a b : Bool) → (a ≡ true → b ≡ true) → (b ≡ true → a ≡ true) → a ≡ b
both_ways true b f g = sym (f refl)
both_ways false true f g = g refl
both_ways false false f g = refl

module _ {grid : Grid} {picture : List ℕ} {s : Lists} {l p : ℕ} (S : Standing grid picture s l p) where
  abbrev w : ℕ
  w = grid.width

  pub visit_above :
      (r : Option ℕ) → MatchOption r (p < w) (λ (q : ℕ). q + w ≡ p) → (k : ℕ) → r ≡ Some k → Visiting grid picture s l p k
  visit_above r is k e =
      let one = (only_above grid (length picture) p r is).one k e in
      visiting S k (omega (arith, standing_in S, below_is w k p one)) (near_above grid p k one)

  pub visit_below :
      (r : Option ℕ) → MatchOption r (length picture ≤ p + w) (λ (q : ℕ). (q ≡ p + w) × (q < length picture)) → (k : ℕ)
      → r ≡ Some k → Visiting grid picture s l p k
  visit_below r is k e =
      let here : (k ≡ p + w) × (k < length picture) = MatchOption-at_some _ _ k e is in
      visiting S k here.1 (near_below grid p k (is_next_in_column w p k here.0))

  -- the rows are whole
  rows_whole : length picture % w ≡ 0
  rows_whole = rw S.ready.whole (mul-mod_right w grid.height)

  -- beside a base: none on the left where a row starts there, none on the right where one starts after it
  module _ {b : ℕ} (B : Based grid picture p b) where
    pub none_left : b ≡ 0 → Visited grid picture s s p p (left_of grid b)
    none_left first = stays S (λ q h e. absurd (omega (arith, right_is w q b e)))

    pub row_starts : eqb (b % w) 0 ≡ true → Visited grid picture s s p p (left_of grid b)
    row_starts start = stays S (λ q h e. absurd (right_inside w q b e (eqb-true (b % w) 0 start)))

    module _ (later : b ≡ 0 → ⊥) where
      pub left_fits : 1 ≤ b
      left_fits = omega (arith, later)

      module _ (inside : eqb (b % w) 0 ≡ false) where
        pub one_left : left_of grid b (b - 1) ≡ true
        one_left = is_next_in_row w (b - 1) b (omega (arith, left_fits)) (eqb-false (b % w) 0 inside)

        pub visit_left : Visiting grid picture s l p (b - 1)
        visit_left = visiting S (b - 1) (omega (arith, B.within)) (B.near (b - 1) (or_left _ _ one_left))

    pub row_ends : eqb ((b + 1) % w) 0 ≡ true → Visited grid picture s s p p (right_of grid b)
    row_ends end =
        stays S (λ q h e. absurd (right_inside w b q e (ap (λ (x : ℕ). x % w) (right_is w b q e) ∙ eqb-true ((b + 1) % w) 0 end)))

    module _ (inside : eqb ((b + 1) % w) 0 ≡ false) where
      pub one_right : right_of grid b (b + 1) ≡ true
      one_right = is_next_in_row w b (b + 1) refl (eqb-false ((b + 1) % w) 0 inside)

      pub visit_right : Visiting grid picture s l p (b + 1)
      visit_right =
          visiting S (b + 1) (row_in w b _ B.within rows_whole (eqb-false ((b + 1) % w) 0 inside))
          (B.near (b + 1) (or_right (left_of grid b (b + 1)) _ one_right))

  -- p is a base
  pub based_here : Based grid picture p p
  based_here =
      record {
        within = standing_in S;
        near = λ x e.
            by_cases
            (or_cases (left_of grid p x) (right_of grid p x) e)
            (near_left grid p x)
            (near_right grid p x);
      }

  -- corners: where 8 neighbours are named, those beside the pixels above and below p
  pub no_corners : (grid.neighbours ≡ 8 → ⊥) → Visited grid picture s s p p (corners grid p)
  no_corners other = stays S (λ q b e. absurd (other (eqb-true _ 8 (and_left (eqb grid.neighbours 8) _ e))))

  pub no_corners_above : p < w → (q : ℕ) → corners_above grid p q ≡ true → ⊥
  no_corners_above first q e = none q (or_cases (right_of grid p (q + w)) (left_of grid p (q + w)) e)
    where
      none : (q : ℕ) → (right_of grid p (q + w) ≡ true) ⊎ (left_of grid p (q + w) ≡ true) → ⊥
      none q (inl right) =
          let start : (q + w) % w ≡ 0 → ⊥ = right_inside w p (q + w) right in
          let same : q + w ≡ w = omega (arith, right_is w p (q + w) right) in
          start (ap (λ (k : ℕ). k % w) same ∙ mod_self w)
      none q (inr left) = omega (arith, right_is w (q + w) p left)

  pub no_corners_below : length picture ≤ p + w → (q : ℕ) → q < length picture → corners_below grid p q ≡ true → ⊥
  no_corners_below last q b e = none q b (or_cases (left_of grid (p + w) q) (right_of grid (p + w) q) e)
    where
      none : (q : ℕ) → q < length picture → (left_of grid (p + w) q ≡ true) ⊎ (right_of grid (p + w) q ≡ true) → ⊥
      none q b (inl left) =
          let same : p + w ≡ length picture = omega (arith, right_is w q (p + w) left) in
          right_inside w q (p + w) left (rw same rows_whole)
      none q b (inr right) = omega (arith, right_is w (p + w) q right)

  -- the corners above p are beside b, the pixel above it
  module _ (b : ℕ) (over : b + w ≡ p) (x : ℕ) where
    left_up : left_of grid p (x + w) ≡ left_of grid b x
    left_up = rw over at (row_down w x b)

    right_up : right_of grid p (x + w) ≡ right_of grid b x
    right_up = rw over at (row_down w b x)

    pub above_beside : corners_above grid p x ≡ true → beside grid b x ≡ true
    above_beside e =
        by_cases
        (or_cases (right_of grid p (x + w)) (left_of grid p (x + w)) e)
        (λ right. or_right (left_of grid b x) _ (sym right_up ∙ right))
        (λ left. or_left _ _ (sym left_up ∙ left))

    beside_above : beside grid b x ≡ true → corners_above grid p x ≡ true
    beside_above e =
        by_cases
        (or_cases (left_of grid b x) (right_of grid b x) e)
        (λ left. or_right (right_of grid p (x + w)) _ (left_up ∙ left))
        (λ right. or_left _ _ (right_up ∙ right))

  module _ (eight : grid.neighbours ≡ 8) where
    pub based_above : w ≤ p → Based grid picture p (p - w)
    based_above later =
        record {
          within = omega (arith, standing_in S);
          near = λ x e. comes grid p x (inr (inr (eight, beside_above (p - w) (omega arith) x e)));
        }

    pub based_below : w < length picture - p → Based grid picture p (p + w)
    based_below earlier =
        record {
          within = omega arith;
          near = λ x e. comes grid p x (inl (inr (eight, e)));
        }

    -- by what the code finds above and below p
    pub based_over :
        (r : Option ℕ) → MatchOption r (p < w) (λ (q : ℕ). q + w ≡ p) → (b : ℕ) → r ≡ Some b → Based grid picture p b
    based_over r is b e =
        let over : b + w ≡ p = MatchOption-at_some _ _ b e is in
        let same : b ≡ p - w = omega arith in
        rw same (based_above (omega arith))

    pub based_under :
        (r : Option ℕ) → MatchOption r (length picture ≤ p + w) (λ (q : ℕ). (q ≡ p + w) × (q < length picture)) → (b : ℕ)
        → r ≡ Some b → Based grid picture p b
    based_under r is b e =
        let under : (b ≡ p + w) × (b < length picture) = MatchOption-at_some _ _ b e is in
        rw under.0 (based_below (omega (arith, under.0, under.1)))

  pub beside_over :
      (r : Option ℕ) → MatchOption r (p < w) (λ (q : ℕ). q + w ≡ p) → (x : ℕ) → beside_at grid r x ≡ corners_above grid p x
  beside_over None first x = both_ways _ _ (λ e. absurd (cc)) (λ e. absurd (no_corners_above first x e))
  beside_over (Some b) over x = both_ways _ _ (beside_above b over x) (above_beside b over x)

  pub beside_under :
      (r : Option ℕ) → MatchOption r (length picture ≤ p + w) (λ (q : ℕ). (q ≡ p + w) × (q < length picture))
      → (x : ℕ) → x < length picture → beside_at grid r x ≡ corners_below grid p x
  beside_under None last x h = both_ways _ _ (λ e. absurd (cc)) (λ e. absurd (no_corners_below last x h e))
  beside_under (Some b) under x h = rw under.0 refl

  -- what is beside the base above, then the one below, is on a corner
  pub corner_over :
      grid.neighbours ≡ 8 → (r : Option ℕ) → MatchOption r (p < w) (λ (q : ℕ). q + w ≡ p) → (x : ℕ) → beside_at grid r x ≡ true
      → corners grid p x ≡ true
  corner_over eight r is x e =
      and_both _ _ (eq-eqb grid.neighbours 8 eight) (or_left _ _ (sym (beside_over r is x) ∙ e))

  pub corners_are :
      grid.neighbours ≡ 8 → (r r' : Option ℕ) → MatchOption r (p < w) (λ (q : ℕ). q + w ≡ p)
      → MatchOption r' (length picture ≤ p + w) (λ (q : ℕ). (q ≡ p + w) × (q < length picture)) → (x : ℕ) → x < length picture
      → (beside_at grid r x || beside_at grid r' x) ≡ corners grid p x
  corners_are eight r r' is is' x h =
      ap₂ (λ (a b : Bool). a || b) (beside_over r is x) (beside_under r' is' x h)
      ∙ sym (ap (λ (a : Bool). a && either_side corners_above corners_below grid p x) (eq-eqb grid.neighbours 8 eight))
