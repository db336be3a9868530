-- The digits of a number are stored from those of its tenth on.
use Rattle.std.proofs.Common.{arith}
use Rattle.pgm_write.proofs.Decimals.{length_short, length_long, store_short, store_long}
use Rattle.pgm_write.proofs.digits.+put_number.Goals as goal

pub bounds-buffer-at : goal.bounds-buffer-at
bounds-buffer-at t c = omega (arith, length_short c.args.x c.if-x-lt10.true)

pub returns-then-x-lt10-clause-next : goal.returns-then-x-lt10-clause-next
returns-then-x-lt10-clause-next t c = omega (arith, length_short c.args.x c.if-x-lt10.true)

pub returns-then-x-lt10-clause-buffer : goal.returns-then-x-lt10-clause-buffer
returns-then-x-lt10-clause-buffer t c = store_short _ _ _ c.if-x-lt10.true

pub put_number-last-requires : goal.put_number-last-requires
put_number-last-requires t c = (
  omega arith,
  (omega arith, omega (arith, length_long c.args.x c.if-x-lt10.false c.requires.number)),
)

pub bounds-buffer-last : goal.bounds-buffer-last
bounds-buffer-last t c = omega (arith, length_long c.args.x c.if-x-lt10.false c.requires.number)

pub overflow_add-result-else-x-lt10 : goal.overflow_add-result-else-x-lt10
overflow_add-result-else-x-lt10 t c = omega (arith, length_long c.args.x c.if-x-lt10.false c.requires.number)

pub returns-else-x-lt10-clause-next : goal.returns-else-x-lt10-clause-next
returns-else-x-lt10-clause-next t c = omega (arith, length_long c.args.x c.if-x-lt10.false c.requires.number)

pub returns-else-x-lt10-clause-buffer : goal.returns-else-x-lt10-clause-buffer
returns-else-x-lt10-clause-buffer t c =
    store_long _ _ _ _ _ c.if-x-lt10.false c.requires.number c.put_number-last.ensures.next c.put_number-last.ensures.buffer
