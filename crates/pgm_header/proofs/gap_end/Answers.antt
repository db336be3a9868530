-- What the check leaves of `gap_end`.
use mathlib.Core.Path.{◌∙◌, sym}
use mathlib.Core.Bool.{true, false}
use native.Mathlib.Omega.{arith}
use Rattle.pgm_header.proofs.Scan.{gap_past_end, gap_white, gap_comment, gap_digit, gap_foreign, gap_comment_on, gap_comment_end}
use Rattle.pgm_header.proofs.gap_end.Goals as goal

pub gap-preserved-in-White : goal.gap-preserved-in-White
gap-preserved-in-White c =
    c.gap.invariant
    ∙ gap_white _ _ c.if-file-at.false (sym c.sort.ensures ∙ c.in-White.is)

pub loop-at-init : goal.loop-at-init
loop-at-init c = (
  c.gap.invariant
      ∙ gap_comment _ _ c.if-file-at.false (sym c.sort.ensures ∙ c.in-Comment.is),
  omega arith,
)

pub gap-preserved : goal.gap-preserved
gap-preserved c =
    c.loop-at.invariant.0
    ∙ gap_comment_end _ _ c.if-file-at-2.false (sym c.ends_comment.ensures ∙ c.if-ends_comment.true)

pub loop-at-preserved : goal.loop-at-preserved
loop-at-preserved c = (
  c.loop-at.invariant.0
      ∙ gap_comment_on _ _ c.if-file-at-2.false (sym c.ends_comment.ensures ∙ c.if-ends_comment.false),
  omega arith,
)

pub returns-then-file-at : goal.returns-then-file-at
returns-then-file-at c =
    sym (c.gap.invariant ∙ gap_past_end _ _ false c.if-file-at.true)

pub returns-then-file-at-2 : goal.returns-then-file-at-2
returns-then-file-at-2 c =
    sym (c.loop-at.invariant.0 ∙ gap_past_end _ _ true c.if-file-at-2.true)

pub returns-in-Digit : goal.returns-in-Digit
returns-in-Digit c =
    sym (c.gap.invariant
    ∙ gap_digit _ _ c.if-file-at.false (sym c.sort.ensures ∙ c.in-Digit.is))

pub returns-in-Foreign : goal.returns-in-Foreign
returns-in-Foreign c =
    sym (c.gap.invariant
    ∙ gap_foreign _ _ c.if-file-at.false (sym c.sort.ensures ∙ c.in-Foreign.is))
