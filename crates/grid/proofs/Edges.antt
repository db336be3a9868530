-- Neighbours are the pixels that share an edge, with 8 a corner: adjacency by positions is adjacency by rows and columns. Assumes that rows
-- are not empty.
use Prim.Native.Nat.{ℕ, suc, ◌+◌, ◌*◌, ◌/◌, ◌%◌, ◌≤◌, ◌<◌}
use mathlib.Core.Bool.{true}
use mathlib.Core.Logic.{◌↔◌, ◌⊎◌, inl, inr, ⊎_elim, ⊎_swap, by_cases}
use mathlib.Core.Path.{◌≡◌, refl, sym, ◌∙◌, ap}
use native.Mathlib.Numerals.{add-one}
use native.Mathlib.Decide.{ℕ_discrete}
use native.Mathlib.Nat.{suc-mod, mod-lt, mod-eq_of_lt, mod_self, div-add-mod', add-mod_right, add-div_right, eq_of_mul-eq-mul_right}
use native.Mathlib.Omega.{arith}
use Rattle.sets.proofs.Tests.{or_cases, or_left, or_right, le_or_lt}
use Rattle.grid.specs.Neighbours.{next_in_row, next_in_column, next_on_corner, neighbours, adjacent, ShareEdge, WithinOne, ShareCorner}
use Rattle.grid.specs.declared.Grid.{Grid}
use Rattle.grid.proofs.Sides.{After, forth, back, side_of, below_is, right_is, right_inside, is_next_in_row, is_next_in_column}

module _ (w : ℕ) (wide : 0 < w) where
  -- one row and equal places in it are one position
  same_place : (p q : ℕ) → p / w ≡ q / w → p % w ≡ q % w → p ≡ q
  same_place p q rows columns = sym (div-add-mod' p w) ∙ rw (rows, columns) (div-add-mod' q w)

  next_column : (p : ℕ) → (suc p % w ≡ 0 → ⊥) → suc p % w ≡ p % w + 1
  next_column p start =
      by_cases
      (ℕ_discrete (suc (p % w)) w)
      (λ (e : suc (p % w) ≡ w). absurd (start (suc-mod p w ∙ ap (λ (k : ℕ). k % w) e ∙ mod_self w)))
      (λ (n : suc (p % w) ≡ w → ⊥).
      suc-mod p w ∙ mod-eq_of_lt (omega (arith, mod-lt p wide)) ∙ sym (add-one (p % w)))

  next_row_same : (p : ℕ) → (suc p % w ≡ 0 → ⊥) → p / w ≡ suc p / w
  next_row_same p start =
      eq_of_mul-eq-mul_right w wide (p / w) (suc p / w)
      (omega (arith, div-add-mod' p w, div-add-mod' (suc p) w, next_column p start))

  row_shares : (p q : ℕ) → next_in_row w p q ≡ true → (p / w ≡ q / w) × (q % w ≡ p % w + 1)
  row_shares p q e =
      let next : q ≡ suc p = right_is w p q e ∙ add-one p in
      let start : q % w ≡ 0 → ⊥ = right_inside w p q e in
      let start' : suc p % w ≡ 0 → ⊥ = rw next at start in
      rw next (next_row_same p start', next_column p start')

  shares_row : (p q : ℕ) → p / w ≡ q / w → q % w ≡ p % w + 1 → next_in_row w p q ≡ true
  shares_row p q rows columns =
      let place : q ≡ p + 1 = omega (arith, div-add-mod' p w, div-add-mod' q w, ap (λ (k : ℕ). k * w) rows) in
      is_next_in_row w p q place (λ e. omega arith)

  column_shares : (p q : ℕ) → next_in_column w p q ≡ true → (p % w ≡ q % w) × (q / w ≡ p / w + 1)
  column_shares p q e =
      let below : q ≡ p + w = below_is w p q e in
      (rw below (sym (add-mod_right p w)), rw below (add-div_right p wide))

  shares_column : (p q : ℕ) → p % w ≡ q % w → q / w ≡ p / w + 1 → next_in_column w p q ≡ true
  shares_column p q columns rows =
      is_next_in_column w p q
      (same_place q (p + w) (rows ∙ sym (add-div_right p wide)) (sym columns ∙ sym (add-mod_right p w)))

  -- columns or rows that differ by 1
  abbrev Apart : ℕ → ℕ → Type 0
  Apart i k = (k ≡ i + 1) ⊎ (i ≡ k + 1)

  -- a corner is beside the pixel below
  corner_shares : (p q : ℕ) → next_on_corner w p q ≡ true → (q / w ≡ p / w + 1) × Apart (p % w) (q % w)
  corner_shares p q e =
      ⊎_elim
      (λ left.
      let at = row_shares q (p + w) left in
      (at.0 ∙ add-div_right p wide, inr (sym (add-mod_right p w) ∙ at.1)))
      (λ right.
      let at = row_shares (p + w) q right in
      (sym at.0 ∙ add-div_right p wide, inl (at.1 ∙ ap (λ (k : ℕ). k + 1) (add-mod_right p w))))
      (or_cases (next_in_row w q (p + w)) (next_in_row w (p + w) q) e)

  shares_corner : (p q : ℕ) → q / w ≡ p / w + 1 → Apart (p % w) (q % w) → next_on_corner w p q ≡ true
  shares_corner p q rows columns =
      let below : q / w ≡ (p + w) / w = rows ∙ sym (add-div_right p wide) in
      let column : (p + w) % w ≡ p % w = add-mod_right p w in
      ⊎_elim
      (λ (e : q % w ≡ p % w + 1).
      or_right (next_in_row w q (p + w)) _ (shares_row (p + w) q (sym below) (e ∙ ap (λ (k : ℕ). k + 1) (sym column))))
      (λ (e : p % w ≡ q % w + 1). or_left _ _ (shares_row q (p + w) below (column ∙ e)))
      columns

  module _ (c : ℕ) where
    -- what shares an edge is a neighbour for any number
    edge_is : (p q : ℕ) → ShareEdge w p q → neighbours c w p q ≡ true
    edge_is p q (inl row) =
        ⊎_elim
        (λ (e : q % w ≡ p % w + 1). forth c w p q (inl (inl (shares_row p q row.0 e))))
        (λ (e : p % w ≡ q % w + 1). back c w p q (inl (inl (shares_row q p (sym row.0) e))))
        row.1
    edge_is p q (inr column) =
        ⊎_elim
        (λ (e : q / w ≡ p / w + 1). forth c w p q (inl (inr (shares_column p q column.0 e))))
        (λ (e : p / w ≡ q / w + 1). back c w p q (inl (inr (shares_column q p (sym column.0) e))))
        column.1

    module _ (Shares : ℕ → ℕ → Type 0) (swapped : (p q : ℕ) → Shares p q → Shares q p) (shared : (p q : ℕ) → After c w p q → Shares p q)
        (is : (p q : ℕ) → Shares p q → neighbours c w p q ≡ true)
      where
        -- neighbours by rows and columns, where those that come after a pixel are
        either_way : (p q : ℕ) → neighbours c w p q ≡ true ↔ Shares p q
        either_way p q = (
          (λ (e : neighbours c w p q ≡ true). ⊎_elim (shared p q) (λ a. swapped q p (shared q p a)) (side_of c w p q e)),
          is p q,
        )

  edge_swapped : (p q : ℕ) → ShareEdge w p q → ShareEdge w q p
  edge_swapped p q (inl row) = inl (sym row.0, ⊎_swap row.1)
  edge_swapped p q (inr column) = inr (sym column.0, ⊎_swap column.1)

  -- with any number but 8
  edge_shared : (c : ℕ) → (c ≡ 8 → ⊥) → (p q : ℕ) → After c w p q → ShareEdge w p q
  edge_shared c other p q (inl (inl row)) = inl ((row_shares p q row).0, inl (row_shares p q row).1)
  edge_shared c other p q (inl (inr column)) = inr ((column_shares p q column).0, inl (column_shares p q column).1)
  edge_shared c other p q (inr corner) = absurd (other corner.0)

  corner_swapped : (p q : ℕ) → ShareCorner w p q → ShareCorner w q p
  corner_swapped p q at =
      ((at.0.1, at.0.0), (at.1.1, at.1.0), λ same. at.2 (sym same.0, sym same.1))

  corner_shared : (c p q : ℕ) → After c w p q → ShareCorner w p q
  corner_shared c p q (inl (inl row)) =
      let (rows, columns) = row_shares p q row in
      ((omega arith, omega arith), (omega arith, omega arith), λ same. omega (arith, same.1))
  corner_shared c p q (inl (inr column)) =
      let (columns, rows) = column_shares p q column in
      ((omega arith, omega arith), (omega arith, omega arith), λ same. omega (arith, same.0))
  corner_shared c p q (inr corner) =
      let (rows, columns) = corner_shares p q corner.1 in
      let one : WithinOne (p % w) (q % w) = ⊎_elim (λ e. (omega arith, omega arith)) (λ e. (omega arith, omega arith)) columns in
      ((omega arith, omega arith), one, λ same. omega (arith, same.0))

  apart : (i k : ℕ) → WithinOne i k → (i ≡ k) ⊎ Apart i k
  apart i k near =
      by_cases
      (ℕ_discrete i k)
      (λ e. inl e)
      (λ ne.
      inr (⊎_elim (λ (le : k ≤ i). inr (omega (arith, near.0))) (λ (lt : i < k). inl (omega (arith, near.1))) (le_or_lt k i)))

  corner_is : (p q : ℕ) → ShareCorner w p q → neighbours 8 w p q ≡ true
  corner_is p q at = go (apart (p / w) (q / w) at.0) (apart (p % w) (q % w) at.1)
    where
      go : (p / w ≡ q / w) ⊎ Apart (p / w) (q / w) → (p % w ≡ q % w) ⊎ Apart (p % w) (q % w) → neighbours 8 w p q ≡ true
      go (inl rows) (inl columns) = absurd (at.2 (rows, columns))
      go (inl rows) (inr columns) = edge_is 8 p q (inl (rows, columns))
      go (inr rows) (inl columns) = edge_is 8 p q (inr (columns, rows))
      go (inr (inl below)) (inr columns) = forth 8 w p q (inr (refl, shares_corner p q below columns))
      go (inr (inr above)) (inr columns) = back 8 w p q (inr (refl, shares_corner q p above (⊎_swap columns)))

module _ (grid : Grid) (wide : 0 < grid.width) (p q : ℕ) where
  -- "Neighbours share an edge", where 4 are named
  pub neighbours_share_edge : grid.neighbours ≡ 4 → adjacent grid p q ≡ true ↔ ShareEdge grid.width p q
  unfolding adjacent
  neighbours_share_edge four =
      let w = grid.width in
      let c = grid.neighbours in
      either_way w wide c (ShareEdge w) (edge_swapped w wide) (edge_shared w wide c (λ e. omega arith)) (edge_is w wide c) p q

  -- "Corner contact counts", where 8 are named
  pub neighbours_share_corner : grid.neighbours ≡ 8 → adjacent grid p q ≡ true ↔ ShareCorner grid.width p q
  unfolding adjacent
  neighbours_share_corner eight =
      let w = grid.width in
      rw eight (either_way w wide 8 (ShareCorner w) (corner_swapped w wide) (corner_shared w wide 8) (corner_is w wide) p q)
