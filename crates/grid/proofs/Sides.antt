-- The sides and corners of a pixel: where the neighbour on each is, and that it is one. A lemma that needs rows that are not empty asks it.
use Prim.Native.Nat.{ℕ, ◌+◌, ◌-◌, ◌%◌, ◌≤◌, ◌<◌}
use mathlib.Core.Bool.{true, not, ◌&&◌, ◌||◌}
use mathlib.Core.Logic.{◌⊎◌, inl, inr, ⊎_elim, by_cases}
use mathlib.Core.Path.{◌≡◌, sym, ap, ◌∙◌}
use native.Mathlib.Decide.{ℕ_discrete}
use native.Mathlib.Nat.{mod-eq_of_lt, add-mod_right}
use native.Mathlib.Omega.{arith}
use lib.Dec.{eqb}
use borrow.Author.Tests.{eqb-true, eqb-false, eq-eqb, ne_eqb, not-true}
use Rattle.sets.proofs.Tests.{or_cases, and_left, and_both, and_right, or_left, or_right, le_or_lt}
use Rattle.grid.specs.Neighbours.{next_in_row, next_in_column, next_on_corner, next_of, neighbours, adjacent}
use Rattle.grid.specs.declared.Grid.{Grid}

-- q comes after p: on the right, below, or with 8 on a corner
abbrev pub After : ℕ → ℕ → ℕ → ℕ → Type 0
After c w p q =
    ((next_in_row w p q ≡ true) ⊎ (next_in_column w p q ≡ true)) ⊎ ((c ≡ 8) × (next_on_corner w p q ≡ true))

module _ (c w p q : ℕ) where
  after_test : After c w p q → next_of c w p q ≡ true
  after_test (inl (inl row)) = or_left _ _ (or_left (next_in_row w p q) _ row)
  after_test (inl (inr column)) = or_left _ _ (or_right (next_in_row w p q) _ column)
  after_test (inr corner) =
      or_right (next_in_row w p q || next_in_column w p q) _ (and_both _ _ (eq-eqb c 8 corner.0) corner.1)

  test_after : next_of c w p q ≡ true → After c w p q
  test_after e =
      ⊎_elim
      (λ edge. inl (or_cases (next_in_row w p q) (next_in_column w p q) edge))
      (λ corner. inr (eqb-true c 8 (and_left (eqb c 8) _ corner), and_right (eqb c 8) _ corner))
      (or_cases (next_in_row w p q || next_in_column w p q) (eqb c 8 && next_on_corner w p q) e)

module _ (c w p q : ℕ) where
  -- a pixel that comes after another is its neighbour
  pub forth : After c w p q → neighbours c w p q ≡ true
  forth a = or_left _ _ (after_test c w p q a)

  -- and has it as one
  pub back : After c w q p → neighbours c w p q ≡ true
  back a = or_right (next_of c w p q) _ (after_test c w q p a)

  -- one of two neighbours comes after the other
  pub side_of : neighbours c w p q ≡ true → After c w p q ⊎ After c w q p
  side_of e =
      ⊎_elim
      (λ a. inl (test_after c w p q a))
      (λ a. inr (test_after c w q p a))
      (or_cases (next_of c w p q) (next_of c w q p) e)

module _ (w p : ℕ) where
  pub below_is : (q : ℕ) → next_in_column w p q ≡ true → q ≡ p + w
  below_is q e = eqb-true q (p + w) e

  pub right_is : (q : ℕ) → next_in_row w p q ≡ true → q ≡ p + 1
  right_is q e = eqb-true q (p + 1) (and_left (eqb q (p + 1)) _ e)

  pub right_inside : (q : ℕ) → next_in_row w p q ≡ true → q % w ≡ 0 → ⊥
  right_inside q e = eqb-false (q % w) 0 (not-true _ (and_right (eqb q (p + 1)) (not (eqb (q % w) 0)) e))

  pub is_next_in_row : (q : ℕ) → q ≡ p + 1 → (q % w ≡ 0 → ⊥) → next_in_row w p q ≡ true
  is_next_in_row q e ne = and_both _ _ (eq-eqb q (p + 1) e) (ap not (ne_eqb (q % w) 0 ne))

  pub is_next_in_column : (q : ℕ) → q ≡ p + w → next_in_column w p q ≡ true
  is_next_in_column q e = eq-eqb q (p + w) e

  -- one row below it is the same
  pub row_down : (q : ℕ) → next_in_row w (p + w) (q + w) ≡ next_in_row w p q
  row_down q =
      let places : eqb (q + w) (p + w + 1) ≡ eqb q (p + 1) =
      by_cases
      (ℕ_discrete q (p + 1))
      (λ e. eq-eqb (q + w) (p + w + 1) (omega arith) ∙ sym (eq-eqb _ _ e))
      (λ ne. ne_eqb (q + w) (p + w + 1) (λ e. ne (omega arith)) ∙ sym (ne_eqb _ _ ne)) in
      rw (places, add-mod_right q w)

  -- a row goes on within the picture
  pub row_in : (n : ℕ) → p < n → n % w ≡ 0 → ((p + 1) % w ≡ 0 → ⊥) → p + 1 < n
  row_in n h whole ne =
      by_cases
      (ℕ_discrete (p + 1) n)
      (λ e. absurd (ne (ap (λ (x : ℕ). x % w) e ∙ whole)))
      (λ far. omega arith)

-- every pixel but the first has a neighbour before it, in its row or above
neighbour_before : (c w : ℕ) → 0 < w → (q : ℕ) → 0 < q → (r : ℕ) × (r < q) × (neighbours c w r q ≡ true)
neighbour_before c w h q hq =
    by_cases
    (ℕ_discrete (q % w) 0)
    (λ e.
    let le : w ≤ q =
    ⊎_elim (λ ge. ge) (λ lt. absurd (omega (arith, mod-eq_of_lt lt))) (le_or_lt w q)
    in
    (q - w, omega arith, forth c w (q - w) q (inl (inr (is_next_in_column w (q - w) q (omega arith))))))
    (λ ne. (q - 1, omega arith, forth c w (q - 1) q (inl (inl (is_next_in_row w (q - 1) q (omega arith) ne)))))

pub adjacent_before : (grid : Grid) → 0 < grid.width → (q : ℕ) → 0 < q → (r : ℕ) × (r < q) × (adjacent grid r q ≡ true)
unfolding adjacent
adjacent_before grid wide q later = neighbour_before grid.neighbours grid.width wide q later
