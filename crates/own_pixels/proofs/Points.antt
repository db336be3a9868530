-- Points: the point before one, the point after the last pixel, and what is seen of the pixel at a point. Assumes nothing.
use Prim.Native.Nat.{ℕ, ◌+◌, ◌-◌, ◌*◌, ◌/◌, ◌%◌, ◌<◌}
use mathlib.Core.Path.{◌≡◌, refl, sym, ap, ◌∙◌}
use native.Mathlib.Nat.{add_comm, mul_comm, div-add-mod', div-eq_of_lt, mod-eq_of_lt, add-mul-div_right, add-mul-mod_self_right}
use native.Mathlib.Omega.{arith}
use Rattle.grid.specs.Pixels.{pixels}
use Rattle.grid.specs.Attributes.{side}
use Rattle.grid.specs.declared.Grid.{Grid}
use Rattle.accumulators.specs.Accumulators.{lone, seen}
use Rattle.own_pixels.specs.declared.Point.{Point}
use Rattle.own_pixels.specs.Points.{point_of, position, coordinate}

-- the point in row i and column j
abbrev at : ℕ → ℕ → Point
at i j = record { row = i; column = j }

point_at : (w i j : ℕ) → j < w → point_of w (i * w + j) ≡ at i j
point_at w i j b =
    let rows : (i * w + j) / w ≡ i =
    ap (λ (k : ℕ). k / w) (add_comm (i * w) j) ∙ add-mul-div_right j i (omega arith) ∙ ap (λ (k : ℕ). k + i) (div-eq_of_lt b) ∙ omega arith in
    let columns : (i * w + j) % w ≡ j =
    ap (λ (k : ℕ). k % w) (add_comm (i * w) j) ∙ add-mul-mod_self_right j i w ∙ mod-eq_of_lt b in
    rw (rows, columns) refl

-- the point before one that is not the first of its row
pub previous_column : (w i j : ℕ) → j < w → 0 < i * w + j → 0 < j → at i (j - 1) ≡ point_of w (i * w + j - 1)
previous_column w i j inside left c = sym (point_at w i (j - 1) (omega arith)) ∙ ap (point_of w) (omega arith)

-- the point after the last pixel
pub end_point : (grid : Grid) (n : ℕ) → 0 < grid.width → n ≡ pixels grid → at grid.height 0 ≡ point_of grid.width n
end_point grid n wide whole =
    sym (point_at grid.width grid.height 0 wide)
    ∙ ap (point_of grid.width) (omega (arith, whole, mul_comm grid.height grid.width))

-- at the point p of the position q
module _ (w q : ℕ) {p : Point} (is : p ≡ point_of w q) where
  pub position_is : position w p ≡ q
  position_is = rw is (div-add-mod' q w)

  pub previous_is : {p' : Point} → p' ≡ point_of w (position w p - 1) → p' ≡ point_of w (q - 1)
  previous_is e = e ∙ ap (λ (k : ℕ). point_of w (k - 1)) position_is

-- what is seen of the pixel at it
module _ (grid : Grid) (a q : ℕ) {p : Point} {i : ℕ} (is : p ≡ point_of grid.width q) (e : i ≡ coordinate a p) where
  pub side_is : i ≡ side grid.width a q
  unfolding side
  side_is = e ∙ rw is refl

  pub own_seen : {own : ℕ} → own ≡ lone a i → own ≡ seen grid a q
  unfolding seen
  own_seen f = f ∙ rw side_is refl
