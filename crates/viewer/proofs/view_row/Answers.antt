-- `viewer::view_row` meets its contract: a part of one of two lent slices, chosen by the side. Assumes nothing.
use mathlib.Core.Path.{sym, ◌∙◌}
use native.Mathlib.Omega.{arith}
use Rattle.viewer.specs.View.{ViewCall}
use Rattle.viewer.proofs.Viewing.{ViewPassed, passed}
use Rattle.viewer.proofs.view_row.Goals as goal
use Rattle.viewer.proofs.view_row.Goals.{In-Ok}

-- the call that the verdict is on, and what it has passed
abbrev call : In-Ok → ViewCall
call c =
    let a = c.args in
    record { light = a.light.now; dark = a.dark.now; width = a.width; height = a.height; row = a.row; side = a.side }

in_range : (c : In-Ok) → ViewPassed (call c)
in_range c = passed (call c) (sym c.in-Ok.is ∙ c.judge.ensures)

pub overflow_mul-start : goal.overflow_mul-start
overflow_mul-start c = let ok = in_range (goal.at.overflow_mul-start c).In-Ok in omega (arith, ok.inside, ok.small)

pub slice_bounds-result-end-then-side-eq1 : goal.slice_bounds-result-end-then-side-eq1
slice_bounds-result-end-then-side-eq1 c =
    let ok = in_range (goal.at.slice_bounds-result-end-then-side-eq1 c).In-Ok in
    omega (arith, ok.inside, ok.light)

pub slice_bounds-result-end-else-side-eq1 : goal.slice_bounds-result-end-else-side-eq1
slice_bounds-result-end-else-side-eq1 c =
    let ok = in_range (goal.at.slice_bounds-result-end-else-side-eq1 c).In-Ok in
    omega (arith, ok.inside, ok.dark)
