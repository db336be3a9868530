-- The digits of each number, six bytes and the samples.
use Prim.Native.Nat.{◌≤◌}
use native.Mathlib.Omega.{arith}
use Rattle.causes.proofs.Laws.{bounded}
use Rattle.pgm_header.specs.Header.{most_digits}
use Rattle.pgm_write.proofs.Decimals.{length_decimal}
use Rattle.pgm_write.proofs.Files.{file_total}
use Rattle.pgm_write.proofs.file_length.Goals as goal
use Rattle.pgm_write.proofs.file_length.Goals.{After-digit_total-2, After-digit_total-3}

-- each number has few digits
few_sides : (c : After-digit_total-2) → (c.digit_total.result ≤ most_digits) × (c.digit_total-2.result ≤ most_digits)
few_sides c =
    let a = c.args in (
      omega (arith, c.digit_total.ensures, length_decimal most_digits a.width),
      omega (arith, c.digit_total-2.ensures, length_decimal most_digits a.height),
    )

few_maximum : (c : After-digit_total-3) → c.digit_total-3.result ≤ most_digits
few_maximum c = omega (arith, c.digit_total-3.ensures, length_decimal most_digits c.args.maximum)

pub overflow_add-fields : goal.overflow_add-fields
overflow_add-fields c = omega (arith, few_sides (goal.at.overflow_add-fields c).After-digit_total-2)

pub overflow_add-fields-2 : goal.overflow_add-fields-2
overflow_add-fields-2 c =
    omega (
      arith,
      few_sides (goal.at.overflow_add-fields-2 c).After-digit_total-2,
      few_maximum (goal.at.overflow_add-fields-2 c).After-digit_total-3,
    )

pub overflow_add-result : goal.overflow_add-result
overflow_add-result c =
    omega (
      arith,
      few_sides (goal.at.overflow_add-result c).After-digit_total-2,
      few_maximum (goal.at.overflow_add-result c).After-digit_total-3,
    )

pub overflow_add-result-2 : goal.overflow_add-result-2
overflow_add-result-2 c =
    omega (
      arith,
      few_sides (goal.at.overflow_add-result-2 c).After-digit_total-2,
      few_maximum (goal.at.overflow_add-result-2 c).After-digit_total-3,
      c.requires.pixels,
      bounded c.args.width c.args.height c.requires.sides,
    )

pub returns : goal.returns
returns c =
    file_total _ _ _ _ _ c.digit_total.ensures _ c.digit_total-2.ensures _ c.digit_total-3.ensures
