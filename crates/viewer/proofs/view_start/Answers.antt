-- `viewer::view_start` meets its contract. Assumes nothing.
use native.Mathlib.Omega.{arith}
use Rattle.viewer.specs.View.{ViewCall}
use Rattle.viewer.proofs.Viewing.{passed}
use Rattle.viewer.proofs.view_start.Goals as goal

pub overflow_mul-result : goal.overflow_mul-result
overflow_mul-result c =
    let a = c.args in
    let call : ViewCall = record { light = a.light.now; dark = a.dark.now; width = a.width; height = a.height; row = a.row; side = a.side } in
    let ok = passed call c.in_ok-judge.ensures in
    omega (arith, ok.inside, ok.small)
