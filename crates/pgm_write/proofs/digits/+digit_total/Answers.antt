-- How many digits a number has, from how many its tenth has.
use Rattle.std.proofs.Common.{sym, ◌/◌, arith}
use Rattle.pgm_header.specs.Header.{most_digits}
use Rattle.pgm_write.proofs.Decimals.{length_decimal, length_short, length_long}
use Rattle.pgm_write.proofs.digits.+digit_total.Goals as goal

pub overflow_add-result : goal.overflow_add-result
overflow_add-result t c = omega (arith, length_decimal most_digits (c.args.x / 10))

pub returns-then-x-lt10 : goal.returns-then-x-lt10
returns-then-x-lt10 t c = sym (length_short c.args.x c.if-x-lt10.true)

pub returns-else-x-lt10 : goal.returns-else-x-lt10
returns-else-x-lt10 t c = omega (arith, length_long c.args.x c.if-x-lt10.false c.requires)
