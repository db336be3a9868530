-- `steps::lines::Lines` yields the lines of its text. Assumes nothing.
use mathlib.Core.Path.{◌≡◌, sym, ap}
use mathlib.Core.List.{◌∷◌}
use native.Mathlib.Omega.{arith}
use lib.ListN.{length, take}
use lib.Seq.{length-take-le}
use Rattle.std.proofs.Common.{rules}
use Rattle.steps.specs.Lines.{lines}
use Rattle.steps.proofs.Splitting.{line_length_le, lines_none, lines_split}
use Rattle.steps.proofs.lines.LinesIterator.next.Goals as goal

pub returns-then-is_empty-clause-steps : goal.returns-then-is_empty-clause-steps
returns-then-is_empty-clause-steps c = let e = lines_none c.args.self.now.text.now (grind arith) in (e, e)

pub overflow_add-end : goal.overflow_add-end
overflow_add-end c = omega (arith, line_length_le c.args.self.now.text.now)

pub slice_bounds-result-end : goal.slice_bounds-result-end
slice_bounds-result-end c = sym (length-take-le _ c.args.self.now.text.now (omega (arith, line_length_le c.args.self.now.text.now)))

pub returns-clause-steps : goal.returns-clause-steps
returns-clause-steps c = rw c.from-self.ensures (lines_split _ _ c.line_end-end.ensures (grind arith))

pub returns-clause-goes : goal.returns-clause-goes
returns-clause-goes c =
    let e : lines c.args.self.now.text.now ≡ take c.line_end-end.result c.args.self.now.text.now ∷ lines c.from-self.result.now =
    rw c.from-self.ensures (lines_split _ _ c.line_end-end.ensures (grind arith)) in
    let fewer = ap length e in
    search rules
