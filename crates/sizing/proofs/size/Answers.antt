-- `sizing::size` meets its contract. Assumes nothing.
use Rattle.sizing.proofs.Mapping.{held}
use Rattle.sizing.proofs.size.Goals as goal

pub returns : goal.returns
returns c =
    record { workspace = c.settle.ensures; pairs = held c.settle.ensures c.hold.ensures }
