-- `steps::lines::all_steps` meets its contract. Assumes nothing.
use mathlib.Core.Path.{refl, ◌∙◌}
use Rattle.std.proofs.Common.{rules, tests}
use Rattle.std.proofs.lemmas.Iterator.Consumers.{YieldsList-from_first}
use Rattle.std.proofs.lemmas.Iterator.Search.{all_from_yields_List}
use Rattle.steps.specs.Lines.{lines, step_line}
use Rattle.steps.proofs.Shaping.{step_lines_all}
use Rattle.steps.proofs.lines.all_steps.Goals as goal

pub returns : goal.returns
returns c =
    all_from_yields_List step_line c.all.new.self _ _ c.all.ensures.ran (YieldsList-from_first (λ x. x.now) (λ s. lines s.text.now) (lines c.args.rest.text.now) refl) (λ x b q k. search (rules, tests))
    ∙ step_lines_all (lines c.args.rest.text.now)
