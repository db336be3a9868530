-- `calls::steps_good` meets its contract. Assumes nothing.
use Prim.Native.Nat.{◌<◌}
use mathlib.Core.Logic.{◌⊎◌, inl, inr}
use mathlib.Core.Path.{refl, sym, ◌∙◌}
use native.Mathlib.Omega.{arith}
use lib.ListN.{length}
use Rattle.causes.specs.Bounds.{most_steps}
use Rattle.calls.proofs.Judging.{no_steps, many_steps, not_rising, out_of_range, rising_more, rising_end}
use Rattle.calls.proofs.steps_good.Goals.{then-t-low-via-then-t-low, then-t-low-via-else-t-low+then-not-threshold_good}
use Rattle.calls.proofs.steps_good.Goals as goal

pub returns-then-not-contains : goal.returns-then-not-contains
returns-then-not-contains c =
    let counted : (length c.args.steps.now < 1) ⊎ (most_steps < length c.args.steps.now) = grind arith in
    record {
      answer = elim counted [
        | inl none ↦ no_steps _ none
        | inr many ↦ many_steps _ (omega (arith, many)) many
      ];
    }

pub returns-then-t-low : goal.returns-then-t-low
returns-then-t-low c =
    record {
      answer = elim c.then-t-low.branch [
        | then-t-low-via-then-t-low w ↦ not_rising _ _ _ c.loop-t.invariant _ c.loop-t-test.true refl w.if-t-low.true
        | then-t-low-via-else-t-low+then-not-threshold_good w ↦
            out_of_range _ _ _ c.loop-t.invariant _ c.loop-t-test.true refl
            w.if-t-low.false
            (sym w.threshold_good.ensures.answer ∙ w.if-not-threshold_good.true)
      ];
    }

pub loop-t-preserved : goal.loop-t-preserved
loop-t-preserved c =
    rising_more _ _ _ c.loop-t.invariant _ c.loop-t-test.true refl
    c.if-t-low.false
    (sym c.threshold_good.ensures.answer ∙ c.if-not-threshold_good.false)

pub returns : goal.returns
returns c = record { answer = rising_end _ _ _ c.loop-t.invariant c.loop-t-test.false }
