-- `basin_judging::judge` meets its contract. Assumes nothing.
use mathlib.Core.Path.{sym}
use Rattle.pgm_read.proofs.Answers.{found_determined}
use Rattle.basin_judging.proofs.Jobs.{told, unread, too_large, small_enough}
use Rattle.basin_judging.proofs.judge.Goals as goal

pub returns-in_err-picture : goal.returns-in_err-picture
returns-in_err-picture c =
    let both = unread c.args.file.now c.args.list.now c.args.thresholds.now _ (sym (found_determined _ _ c.in_err-picture.ensures.answer)) in
    record { answer = rw (told _ _ c.from_residual.ensures) both.0; thresholds = both.1 }

pub returns-then-pixels-gt-MOST_SIZED : goal.returns-then-pixels-gt-MOST_SIZED
returns-then-pixels-gt-MOST_SIZED c =
    let both = too_large c.args.file.now c.args.list.now c.args.thresholds.now _
    (sym (found_determined _ _ c.in_ok-picture.ensures.answer))
    (rw (← c.pixels.ensures.answer) c.if-pixels-gt-MOST_SIZED.true) in
    record { answer = both.0; thresholds = both.1 }

pub returns : goal.returns
returns c =
    let both = small_enough c.args.file.now c.args.list.now c.args.thresholds.now _
    (sym (found_determined _ _ c.in_ok-picture.ensures.answer))
    (rw (← c.pixels.ensures.answer) c.if-pixels-gt-MOST_SIZED.false)
    _
    _
    c.by_steps.ensures.value
    c.by_steps.ensures.thresholds_after in
    record { answer = both.0; thresholds = both.1 }
