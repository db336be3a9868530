-- `map_passes::settle_pairs` meets its contract. Assumes nothing.
use Rattle.map_passes.proofs.Maps.{pairs_settled}
use Rattle.map_passes.proofs.settle_pairs.Goals as goal

pub returns : goal.returns
returns c =
    pairs_settled c.requires c.settle_nodes.ensures (λ q. (c.type_inv.picture q).fits)
