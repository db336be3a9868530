-- `map_passes::settle` meets its contract.
use Prim.Native.Nat.{◌+◌, ◌<◌}
use native.Mathlib.Omega.{arith}
use Rattle.map_passes.proofs.Settling.{settle_small, settle_stores}
use Rattle.map_passes.proofs.settle.Goals as goal
use Rattle.map_passes.proofs.settle.Goals.{After-shared}

-- the pair of its run has 16 bits
small : (c : After-shared) → c.shared.result + c.args.down < 65536
small c = settle_small c.requires c.shared.ensures

pub overflow_add-own : goal.overflow_add-own
overflow_add-own c = omega (arith, small (goal.at.overflow_add-own c).After-shared)

pub overflow_add-place : goal.overflow_add-place
overflow_add-place c = omega (arith, small (goal.at.overflow_add-place c).After-shared)

pub returns : goal.returns
returns c =
    settle_stores c.requires c.shared.ensures c.better-pair.ensures c.store.ensures
