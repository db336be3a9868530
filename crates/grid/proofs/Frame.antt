-- The pixels on the frame: the first is one, and in a picture of one or two rows or columns every pixel is. A lemma that needs rows that are
-- not empty asks it.
use Prim.Native.Nat.{ℕ, ◌+◌, ◌/◌, ◌%◌, ◌≤◌, ◌<◌}
use mathlib.Core.Bool.{true}
use mathlib.Core.Logic.{◌⊎◌, ⊎_elim}
use mathlib.Core.Path.{◌≡◌, refl}
use native.Mathlib.Nat.{zero-div, mod-lt, mul_comm, div-lt_iff_lt-mul}
use native.Mathlib.Omega.{arith}
use lib.Dec.{eqb}
use borrow.Author.Tests.{eq-eqb}
use Rattle.sets.proofs.Tests.{or_left, or_right, le_or_lt}
use Rattle.grid.specs.Pixels.{pixels}
use Rattle.grid.specs.Attributes.{first_or_last, on_frame}
use Rattle.grid.specs.declared.Grid.{Grid}

pub first_framed : (grid : Grid) → on_frame grid 0 ≡ true
unfolding on_frame
first_framed grid = rw (zero-div grid.width) refl

-- each of one or two is the first or the last
of_two : (k i : ℕ) → k ≤ 2 → i < k → first_or_last k i ≡ true
of_two k i two below =
    ⊎_elim
    (λ first. or_left (eqb i 0) _ (eq-eqb i 0 (omega arith)))
    (λ later. or_right (eqb i 0) _ (eq-eqb (i + 1) k (omega arith)))
    (le_or_lt i 0)

-- the row of a pixel is one of the picture's
pub row_below : (grid : Grid) → 0 < grid.width → (q : ℕ) → q < pixels grid → q / grid.width < grid.height
row_below grid wide q below =
    (div-lt_iff_lt-mul {k = grid.width} {x = q} {y = grid.height} wide).1 (omega (arith, mul_comm grid.width grid.height))

pub all_framed : (grid : Grid) → 0 < grid.width → (grid.width ≤ 2) ⊎ (grid.height ≤ 2) → (q : ℕ) → q < pixels grid → on_frame grid q ≡ true
unfolding on_frame
all_framed grid wide narrow q below =
    ⊎_elim
    (λ few.
    or_right
    (first_or_last grid.height (q / grid.width))
    _
    (of_two grid.width (q % grid.width) few (mod-lt q wide)))
    (λ few. or_left _ _ (of_two grid.height (q / grid.width) few (row_below grid wide q below)))
    narrow
