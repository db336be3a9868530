-- `calls::triples_good` meets its contract. Assumes nothing.
use Prim.Native.Nat.{◌*◌, ◌<◌}
use mathlib.Core.Logic.{◌⊎◌, inl, inr}
use mathlib.Core.Path.{sym, ◌∙◌}
use native.Mathlib.Omega.{arith}
use lib.ListN.{length}
use Rattle.causes.specs.Bounds.{most_steps}
use Rattle.calls.proofs.Judging.{no_words, many_words, not_following, followed_more, followed_end, third_on}
use Rattle.calls.proofs.triples_good.Goals as goal

pub returns-then-not-contains : goal.returns-then-not-contains
returns-then-not-contains c =
    let counted : (length c.args.words.now < 1) ⊎ (3 * most_steps < length c.args.words.now) = grind arith in
    record {
      answer = elim counted [
        | inl none ↦ no_words _ c.if-words-ne0.false none
        | inr many ↦ many_words _ c.if-words-ne0.false (omega (arith, many)) many
      ];
    }

pub returns-then-not-may_follow : goal.returns-then-not-may_follow
returns-then-not-may_follow c =
    record {
      answer = not_following _ c.loop-i.invariant (omega (arith, c.loop-i-test.true)) (sym c.may_follow.ensures.answer ∙ c.if-not-may_follow.true);
    }

pub loop-i-preserved : goal.loop-i-preserved
loop-i-preserved c =
    third_on _
    (followed_more _ c.loop-i.invariant (omega (arith, c.loop-i-test.true)) (sym c.may_follow.ensures.answer ∙ c.if-not-may_follow.false))

pub returns : goal.returns
returns c =
    record { answer = followed_end _ c.loop-i.invariant (omega (arith, c.loop-i-test.false, c.if-words-ne0.false)) }
