-- What one more digit adds, and what the number is where the digits end.
use Rattle.std.proofs.Common.{◌≡◌, ◌∙◌, ap, sym, true, ◌+◌, ◌*◌, ◌^◌, ◌<◌, slice_index_or, arith}
use Rattle.pgm_header.specs.Bytes.{move_of, digit_move}
use Rattle.pgm_header.specs.Header.{most_digits}
use Rattle.pgm_header.proofs.Moves.{named_digit, named_other}
use Rattle.pgm_header.proofs.Scan.{reading_more, reading_long, reading_done, stops_at, stops_past_end, value_small, digit_range}
use Rattle.pgm_header.proofs.number_at.Goals as goal
use Rattle.pgm_header.proofs.number_at.Goals.{Else-count-eq-MOST_DIGITS, else-loop-at-test, then-loop-at-test+then-ne}

-- past the two tests of a turn: the byte is a digit, and there is room for one more
digit : (c : Else-count-eq-MOST_DIGITS) → digit_move (move_of (slice_index_or c.args.file.now c.loop-at.at 0)) ≡ true
digit c = ap digit_move (sym c.sort.ensures) ∙ named_digit _ (sym c.ne.ensures ∙ c.if-ne.false)

small : (c : Else-count-eq-MOST_DIGITS) → c.loop-at.value * 10 + 9 < 10 ^ most_digits
small c = value_small c.loop-at.invariant c.if-count-eq-MOST_DIGITS.false

pub returns-then-count-eq-MOST_DIGITS : goal.returns-then-count-eq-MOST_DIGITS
returns-then-count-eq-MOST_DIGITS c =
    reading_long _ _ c.loop-at-test.true
    (ap digit_move (sym c.sort.ensures) ∙ named_digit _ (sym c.ne.ensures ∙ c.if-ne.false))
    _ _ _ c.loop-at.invariant c.if-count-eq-MOST_DIGITS.true

pub overflow_mul-value : goal.overflow_mul-value
overflow_mul-value c = omega (arith, small (goal.at.overflow_mul-value c).Else-count-eq-MOST_DIGITS)

pub overflow_sub-b : goal.overflow_sub-b
overflow_sub-b c = omega (arith, digit_range _ (digit (goal.at.overflow_sub-b c).Else-count-eq-MOST_DIGITS))

pub overflow_add-value : goal.overflow_add-value
overflow_add-value c =
    omega (
      arith,
      c.from.ensures,
      small (goal.at.overflow_add-value c).Else-count-eq-MOST_DIGITS,
      digit_range _ (digit (goal.at.overflow_add-value c).Else-count-eq-MOST_DIGITS),
    )

pub loop-at-preserved : goal.loop-at-preserved
loop-at-preserved c =
    rw c.from.ensures
    (reading_more _ _ c.loop-at-test.true (digit (goal.at.loop-at-preserved c).Else-count-eq-MOST_DIGITS) _ _ _
    c.loop-at.invariant c.if-count-eq-MOST_DIGITS.false)

pub returns : goal.returns
returns c =
    c.finished.ensures
    ∙ reading_done _ _ _ _ _ c.loop-at.invariant
    (elim c.loop-at-test.branch [
      | else-loop-at-test w ↦ stops_past_end _ _ w.loop-at-test.false
      | then-loop-at-test+then-ne w ↦
          stops_at _ _ w.loop-at-test.true (ap digit_move (sym w.sort.ensures) ∙ named_other _ (sym w.ne.ensures ∙ w.if-ne.true))
    ])
