-- `sizing::settle` meets its contract. Assumes nothing.
use native.Mathlib.Omega.{arith}
use Rattle.sizing.proofs.Mapping.{few_steps, pass_asks, settled}
use Rattle.sizing.proofs.settle.Goals as goal

pub overflow_cast-count : goal.overflow_cast-count
overflow_cast-count c =
    omega (arith, few_steps c.requires c.place_nodes-count.ensures)

pub settle_pairs-requires : goal.settle_pairs-requires
settle_pairs-requires c =
    pass_asks c.requires c.place_nodes-count.ensures (λ q. (c.shared_slice_known-1.given q).fits)

pub returns : goal.returns
returns c =
    settled c.requires c.place_nodes-count.ensures c.settle_pairs.ensures
