-- What the check leaves of `write_record`.
use native.Mathlib.Omega.{arith}
use Rattle.representatives.proofs.Representatives.{writing_none, write_asked, listed_room, writing_more}
use Rattle.representatives.proofs.write_record.Goals as goal

pub loop-q-init : goal.loop-q-init
loop-q-init c = writing_none c.args.n c.args.ws.now

pub write_pixel-listed-requires : goal.write_pixel-listed-requires
write_pixel-listed-requires c =
    write_asked c.requires c.loop-q-test.true c.loop-q.invariant

pub overflow_add-listed : goal.overflow_add-listed
overflow_add-listed c =
    omega (
      arith,
      listed_room c.requires c.loop-q-test.true c.loop-q.invariant c.write_pixel-listed.ensures.value,
      c.requires.sized.small,
    )

pub loop-q-preserved : goal.loop-q-preserved
loop-q-preserved c =
    let wrote = c.write_pixel-listed.ensures in
    writing_more c.requires c.loop-q-test.true c.loop-q.invariant wrote.value wrote.ws_after
