-- `steps::put_steps` meets its contract. Assumes nothing.
use mathlib.Core.List.{◌∷◌}
use Rattle.steps.specs.Lines.{lines}
use Rattle.steps.proofs.Judging.{StoredSoFar, stored_more}
use Rattle.steps.proofs.put_steps.Goals as goal

pub loop-line-preserved : goal.loop-line-preserved
loop-line-preserved c =
    let here : StoredSoFar (lines c.args.rest.text.now) (c.in-Some.line.now ∷ lines c.next.new.self.text.now) c.loop-line.count c.args.steps.now c.loop-line.steps =
    rw c.in-Some.ensures.steps at c.loop-line.invariant in
    stored_more here _ c.threshold.ensures
