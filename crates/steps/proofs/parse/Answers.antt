-- `steps::parse` meets its contract: the first test that fails decides, and only then the steps are stored. Assumes nothing.
use mathlib.Core.Path.{sym, ◌∙◌}
use Rattle.calls.proofs.Accepted.{step_list}
use Rattle.steps.specs.Lines.{Parts}
use Rattle.steps.proofs.Answering.{refused_parts, unnamed, check_failed, check_passed, told, malformed, unknown_word, bad_steps, accepted_stored, refused_kept, named_some}
use Rattle.steps.proofs.parse.Goals as goal
use Rattle.steps.proofs.parse.Goals.{In_ok-word, In_ok-attribute, In_ok-check}

parts : (c : In_ok-word) → Parts c.args.file.now c.in_ok-word.word.now c.in_ok-word.rest.text.now
parts c = rw c.in_ok-word.ensures.ok_part at c.parts.ensures

pub returns-in_err-word : goal.returns-in_err-word
returns-in_err-word c =
    let r = refused_parts _ _ _ _ _ c.in_err-word.ensures.value c.parts.ensures in
    let called = refused_kept c.args.file.now c.args.steps.now (malformed _ r.0) in
    record { answer = told _ _ _ _ c.from_residual.ensures r.1 called.0; steps = called.1 }

pub returns-in_err-attribute : goal.returns-in_err-attribute
returns-in_err-attribute c =
    let p = parts (goal.at.returns-in_err-attribute c).In_ok-word in
    let r = unnamed _ _ _ c.in_err-attribute.ensures.value c.attribute_of.ensures in
    let called = refused_kept c.args.file.now c.args.steps.now (unknown_word p r.0) in
    record { answer = told _ _ _ _ c.from_residual-in_err-attribute.ensures r.1 called.0; steps = called.1 }

pub returns-in_err-check : goal.returns-in_err-check
returns-in_err-check c =
    let p = parts (goal.at.returns-in_err-check c).In_ok-word in
    let n = named_some _ _ (sym c.in_ok-attribute.ensures.ok_part ∙ c.attribute_of.ensures) in
    let r = check_failed _ _ _ c.in_err-check.ensures.answer in
    let called = refused_kept c.args.file.now c.args.steps.now (bad_steps p n.0 (sym c.good_steps.ensures ∙ r.0)) in
    record { answer = told _ _ _ _ c.from_residual-in_err-check.ensures r.1 called.0; steps = called.1 }

pub good_steps-requires : goal.good_steps-requires
good_steps-requires c = (parts (goal.at.good_steps-requires c).In_ok-word).steps

pub put_steps-count-requires : goal.put_steps-count-requires
put_steps-count-requires c =
    let good = check_passed _ _ c.in_ok-check.ensures.answer in
    ((parts (goal.at.put_steps-count-requires c).In_ok-word).steps, (step_list _ (sym c.good_steps.ensures ∙ good)).not_more)

pub returns : goal.returns
returns c =
    let p = parts (goal.at.returns c).In_ok-word in
    let n = named_some _ _ (sym c.in_ok-attribute.ensures.ok_part ∙ c.attribute_of.ensures) in
    let good = check_passed _ _ c.in_ok-check.ensures.answer in
    let called =
    accepted_stored p n.0 (sym c.good_steps.ensures ∙ good) _ _ n.1 c.put_steps-count.ensures.count _ _ c.put_steps-count.ensures.steps in
    record { answer = called.0; steps = called.1 }
