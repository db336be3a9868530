-- `building::clear_scratch` meets its contract: the list comes back with zeros after the nodes, each of the four parts filled. Assumes
-- nothing.
use Prim.Native.Nat.{◌+◌, ◌-◌, ◌*◌}
use mathlib.Core.Path.{◌∙◌}
use native.Mathlib.Omega.{arith}
use Rattle.parts.proofs.Parts.{rest_filled, filled_next, filled_to_end}
use Rattle.building.proofs.clear_scratch.Goals as goal

pub returns : goal.returns
returns c =
    let n = c.args.n in
    let nodes = c.args.nodes in
    let ws = c.args.workspace.now in
    let size = c.requires.sized.words in
    let few = c.requires.nodes_le_n in
    let from = 2 * n + nodes in
    let f₀ = rest_filled (2 * n) (3 * n) nodes 0 ws (omega arith) (omega arith) c.end_list.ensures in
    let f₁ = filled_next from (3 * n) (4 * n) 0 ws (omega arith) (omega arith) (omega arith) f₀ c.fill.ensures in
    let f₂ = filled_next from (4 * n) (5 * n) 0 ws (omega arith) (omega arith) (omega arith) f₁ c.fill-2.ensures in
    let f₃ = filled_next from (5 * n) (6 * n) 0 ws (omega arith) (omega arith) (omega arith) f₂ c.fill-3.ensures in
    filled_next from (6 * n) (7 * n) 0 ws (omega arith) (omega arith) (omega arith) f₃ c.fill-4.ensures
    ∙ filled_to_end from (7 * n) (5 * n - nodes) 0 ws size (omega arith)
