-- The walk goes on at each picture, and ends at a faulty one or at the file's end.
use Rattle.std.proofs.Common.{◌≡◌, sym, arith, rules, cond, eqb, eq-eqb}
use Rattle.std.proofs.lemmas.Result.{err_from_is_err_and}
use Rattle.std.specs.Prelude.{Ok}
use borrow.Author.Tests.{ne_eqb}
use Rattle.pgm_read.proofs.Judging.{accepted, goes_on}
use Rattle.pgm_read.proofs.Walk.{walk_start, walk_faulty, walk_done, walk_on}
use Rattle.pgm_read.proofs.pick.Goals as goal
use Rattle.pgm_read.proofs.pick.Goals.{After-pixels, then-left-eq-FIRST, else-left-eq-FIRST}

pub loop-picture-init : goal.loop-picture-init
loop-picture-init c = walk_start _ _

pub pixels-requires : goal.pixels-requires
pixels-requires c = (accepted _ _ _ _ _ _ (sym c.in_ok-picture.ensures)).1.sides_right

pub overflow_add-at : goal.overflow_add-at
overflow_add-at c =
    let g = goes_on _ _ _ _ _ _ (sym c.in_ok-picture.ensures) in
    let n = c.pixels.ensures in
    search rules

pub returns-in_err-picture : goal.returns-in_err-picture
returns-in_err-picture c =
    let p = err_from_is_err_and c.from_residual.result c.from_residual.ensures.1 in
    let s = walk_faulty c.loop-picture.invariant _ (sym c.in_err-picture.ensures) in
    rw (p.1, p.2) (record { result_value = s.is; result_value_2 = s.stands })

-- what is held after a turn
held_now :
    (c : After-pixels) →
    c.if-left-eq-FIRST.held ≡ cond (eqb c.loop-picture.left 1) (Ok (record { at = c.loop-picture.at; picture = c.in_ok-picture.picture })) c.loop-picture.held
held_now c =
    elim c.if-left-eq-FIRST.branch [
      | then-left-eq-FIRST w ↦ rw (w.held-is, eq-eqb c.loop-picture.left 1 w.if-left-eq-FIRST.true)
      | else-left-eq-FIRST w ↦ rw (w.held-is, ne_eqb c.loop-picture.left 1 w.if-left-eq-FIRST.false)
    ]

pub returns-then-file-at : goal.returns-then-file-at
returns-then-file-at c =
    let s = walk_done c.loop-picture.invariant _ (sym c.in_ok-picture.ensures) _ (held_now (goal.at.returns-then-file-at c).After-pixels) _ c.pixels.ensures c.if-file-at.true in
    record { result_value = s.is; result_value_2 = s.stands }

pub loop-picture-smaller : goal.loop-picture-smaller
loop-picture-smaller c =
    let g = goes_on _ _ _ _ _ _ (sym c.in_ok-picture.ensures) in
    omega (arith, g.0, g.1, c.pixels.ensures, c.if-file-at.false)

pub loop-picture-preserved : goal.loop-picture-preserved
loop-picture-preserved c =
    walk_on c.loop-picture.invariant _ (sym c.in_ok-picture.ensures) _ (held_now (goal.at.loop-picture-preserved c).After-pixels)
    _ _ c.pixels.ensures c.saturating_sub-left.ensures c.if-file-at.false
