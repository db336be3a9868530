-- `steps::lines::parts` meets its contract. Assumes nothing.
use mathlib.Core.Path.{sym, ◌∙◌}
use Rattle.steps.proofs.Answering.{parted}
use Rattle.steps.proofs.lines.parts.Goals as goal

pub returns-then-all_steps : goal.returns-then-all_steps
returns-then-all_steps c =
    parted _ _ _ c.in_ok-next.ensures.steps
    (sym c.ends_line.ensures ∙ c.if-not-ends_line.false)
    c.in_ok-word.ensures.0
    _ c.in_ok-word.ensures.1
    (sym c.all_steps.ensures ∙ c.if-all_steps.true)
