-- The frame by its four sides: the first and the last row, the first and the last column, each a run of pixels. Assumes that rows and columns
-- are not empty.
use Prim.Native.Nat.{ℕ, ◌+◌, ◌-◌, ◌*◌, ◌/◌, ◌%◌, ◌<◌}
use mathlib.Core.Bool.{true, ◌||◌}
use mathlib.Core.List.{List}
use mathlib.Core.Logic.{⊎_elim}
use mathlib.Core.Path.{◌≡◌, refl, sym, ap, ◌∙◌}
use native.Mathlib.Nat.{mul_comm, one-mul, add-mul, mod-lt, mod-eq_of_lt, mul-mod_left, add-mul-mod_self_right, div-add-mod', div-eq_of_lt, div-eq_of_lt-le}
use native.Mathlib.Omega.{arith}
use lib.Dec.{eqb}
use borrow.Author.Tests.{eqb-true, eq-eqb}
use Rattle.sets.specs.Sets.{Positions}
use Rattle.sets.proofs.Tests.{same_truth, or_cases, or_left, or_right}
use Rattle.grid.specs.Pixels.{pixels}
use Rattle.grid.specs.Attributes.{first_or_last, on_frame}
use Rattle.grid.specs.declared.Grid.{Grid}
use Rattle.grid.proofs.Frame.{row_below}
use Rattle.frame.specs.Frame.{run, Marked, Framable}
use Rattle.frame.proofs.Frame.{run_in, run_is, marked_then}

module _ (grid : Grid) (wide : 0 < grid.width) (high : 0 < grid.height) where
  abbrev w : ℕ
  w = grid.width

  abbrev h : ℕ
  h = grid.height

  abbrev n : ℕ
  n = pixels grid

  abbrev pub first_row : Positions
  first_row = run 0 1 w

  abbrev pub last_row : Positions
  last_row = run (n - w) 1 w

  abbrev pub first_column : Positions
  first_column = run 0 w h

  abbrev pub last_column : Positions
  last_column = run (w - 1) w h

  one_more : h - 1 + 1 ≡ h
  one_more = omega arith

  module _ (q : ℕ) where
    in_first_row : first_row q ≡ true → on_frame grid q ≡ true
    unfolding on_frame
    in_first_row e =
        let (i, b, is) = run_is 0 1 w q e in
        or_left _ _ (or_left _ _ (eq-eqb (q / w) 0 (div-eq_of_lt (omega arith))))

    in_last_row : last_row q ≡ true → on_frame grid q ≡ true
    unfolding on_frame
    in_last_row e =
        let (i, b, is) = run_is (n - w) 1 w q e in
        let last : (h - 1) * w + w ≡ n =
        omega (arith, add-mul (h - 1) 1 w, one-mul w, ap (λ (k : ℕ). k * w) one_more, mul_comm w h) in
        or_left _ _ (or_right (eqb (q / w) 0) _ (eq-eqb (q / w + 1) h (omega (arith, div-eq_of_lt-le {k = h - 1} w {m = q} (omega arith) (omega (arith, add-mul (h - 1) 1 w, one-mul w))))))

    in_first_column : first_column q ≡ true → on_frame grid q ≡ true
    unfolding on_frame
    in_first_column e =
        let (i, b, is) = run_is 0 w h q e in
        let at : q ≡ i * w = omega arith in
        or_right (first_or_last h (q / w)) _ (or_left _ _ (eq-eqb (q % w) 0 (ap (λ (k : ℕ). k % w) at ∙ mul-mod_left i w)))

    in_last_column : last_column q ≡ true → on_frame grid q ≡ true
    unfolding on_frame
    in_last_column e =
        let (i, b, is) = run_is (w - 1) w h q e in
        let at : q % w ≡ w - 1 =
        ap (λ (k : ℕ). k % w) (sym is) ∙ add-mul-mod_self_right (w - 1) i w ∙ mod-eq_of_lt (omega arith) in
        or_right (first_or_last h (q / w)) _ (or_right (eqb (q % w) 0) _ (eq-eqb (q % w + 1) w (omega arith)))

    module _ (below : q < n) where
      place : q / w * w + q % w ≡ q
      place = div-add-mod' q w

      of_first_row : q / w ≡ 0 → first_row q ≡ true
      of_first_row e = run_in 0 1 w q q (omega (arith, place, mod-lt q wide, ap (λ (k : ℕ). k * w) e)) (omega arith)

      of_last_row : q / w + 1 ≡ h → last_row q ≡ true
      of_last_row e =
          run_in (n - w) 1 w (q % w) q (mod-lt q wide)
          (omega (arith, place, ap (λ (k : ℕ). k * w) e, add-mul (q / w) 1 w, one-mul w, mul_comm w h))

      of_first_column : q % w ≡ 0 → first_column q ≡ true
      of_first_column e = run_in 0 w h (q / w) q (row_below grid wide q below) (omega (arith, place))

      of_last_column : q % w + 1 ≡ w → last_column q ≡ true
      of_last_column e = run_in (w - 1) w h (q / w) q (row_below grid wide q below) (omega (arith, place))

      -- "the first or last row or column"
      pub frame_sides : on_frame grid q ≡ (((first_row q || last_row q) || first_column q) || last_column q)
      unfolding on_frame
      frame_sides =
          same_truth
          (on_frame grid q)
          (((first_row q || last_row q) || first_column q) || last_column q)
          (λ e.
          ⊎_elim
          (λ rows.
          or_left _ _ (or_left _ _
          (⊎_elim
          (λ r. or_left _ _ (of_first_row (eqb-true (q / w) 0 r)))
          (λ r. or_right (first_row q) _ (of_last_row (eqb-true (q / w + 1) h r)))
          (or_cases (eqb (q / w) 0) (eqb (q / w + 1) h) rows))))
          (λ columns.
          ⊎_elim
          (λ r. or_left _ _ (or_right (first_row q || last_row q) _ (of_first_column (eqb-true (q % w) 0 r))))
          (λ r. or_right ((first_row q || last_row q) || first_column q) _ (of_last_column (eqb-true (q % w + 1) w r)))
          (or_cases (eqb (q % w) 0) (eqb (q % w + 1) w) columns))
          (or_cases (first_or_last h (q / w)) (first_or_last w (q % w)) e))
          (λ e.
          ⊎_elim
          (λ three.
          ⊎_elim
          (λ two. ⊎_elim in_first_row in_last_row (or_cases (first_row q) (last_row q) two))
          in_first_column
          (or_cases (first_row q || last_row q) (first_column q) three))
          in_last_column
          (or_cases ((first_row q || last_row q) || first_column q) (last_column q) e))

-- what the four runs leave
module _ {grid : Grid} {n : ℕ} {ws : List ℕ} (F : Framable grid n ws) where
  pub framed_all : {a : ℕ} {ws₁ ws₂ ws₃ ws₄ : List ℕ} → Marked a n (run 0 1 grid.width) ws ws₁
      → Marked a n (run (n - grid.width) 1 grid.width) ws₁ ws₂
      → Marked a n (run 0 grid.width grid.height) ws₂ ws₃
      → Marked a n (run (grid.width - 1) grid.width grid.height) ws₃ ws₄
      → Marked a n (on_frame grid) ws ws₄
  framed_all A B C D =
      let sides : (q : ℕ) → q < n
      → on_frame grid q
      ≡ (((run 0 1 grid.width q || run (n - grid.width) 1 grid.width q) || run 0 grid.width grid.height q)
      || run (grid.width - 1) grid.width grid.height q) =
      rw F.whole (frame_sides grid F.wide F.high) in
      marked_then (on_frame grid)
      (marked_then _ (marked_then _ A B (λ q b. refl)) C (λ q b. refl))
      D
      sides
