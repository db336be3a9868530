-- `steps::good_steps` meets its contract. Assumes nothing.
use mathlib.Core.Path.{sym, ◌∙◌}
use Rattle.steps.proofs.Judging.{JudgedSoFar, judged_full, judged_falls, judged_outside, judged_more}
use Rattle.steps.specs.Lines.{lines}
use mathlib.Core.List.{◌∷◌}
use Rattle.steps.proofs.good_steps.Goals as goal
use Rattle.steps.proofs.good_steps.Goals.{In-Some, then-count-eq-MOST_STEPS-via-then-count-eq-MOST_STEPS, then-count-eq-MOST_STEPS-via-else-count-eq-MOST_STEPS+then-t-low, then-count-eq-MOST_STEPS-via-else-count-eq-MOST_STEPS+else-t-low+then-not-threshold_good}

-- the line that a turn looks at
here : (c : In-Some) → JudgedSoFar (lines c.args.rest.text.now) (c.in-Some.line.now ∷ lines c.next.new.self.text.now) c.loop-line.low c.loop-line.count
here c = rw c.in-Some.ensures.steps at c.loop-line.invariant

pub returns-then-count-eq-MOST_STEPS : goal.returns-then-count-eq-MOST_STEPS
returns-then-count-eq-MOST_STEPS c =
    let h = here (goal.at.returns-then-count-eq-MOST_STEPS c).In-Some in
    elim c.then-count-eq-MOST_STEPS.branch [
      | then-count-eq-MOST_STEPS-via-then-count-eq-MOST_STEPS w ↦ judged_full h _ c.threshold-t.ensures w.if-count-eq-MOST_STEPS.true
      | then-count-eq-MOST_STEPS-via-else-count-eq-MOST_STEPS+then-t-low w ↦ judged_falls h _ c.threshold-t.ensures w.if-t-low.true
      | then-count-eq-MOST_STEPS-via-else-count-eq-MOST_STEPS+else-t-low+then-not-threshold_good w ↦
          judged_outside h _ c.threshold-t.ensures w.if-t-low.false (sym w.threshold_good.ensures.answer ∙ w.if-not-threshold_good.true)
    ]

pub loop-line-preserved : goal.loop-line-preserved
loop-line-preserved c =
    judged_more (here (goal.at.loop-line-preserved c).In-Some) _ c.threshold-t.ensures
    c.if-t-low.false c.if-count-eq-MOST_STEPS.false (sym c.threshold_good.ensures.answer ∙ c.if-not-threshold_good.false)
