-- `steps::lines::line_end` meets its contract. Assumes nothing.
use mathlib.Core.Path.{◌∙◌}
use lib.Dec.{eqb}
use Rattle.std.proofs.Common.{rules, tests}
use Rattle.std.proofs.lemmas.Iterator.{YieldsList-from_slice}
use Rattle.std.proofs.lemmas.Iterator.Search.{position_from_yields_List}
use Rattle.steps.proofs.Splitting.{line_length_found}
use Rattle.steps.proofs.lines.line_end.Goals as goal

pub returns : goal.returns
returns c =
    let e = position_from_yields_List (λ b. eqb b 10) _ _ c.position.result c.position.ensures.ran (YieldsList-from_slice _ c.iter.ensures.rest) (λ x b q k. search (rules, tests)) in
    rw e at c.unwrap_or.ensures ∙ line_length_found _
