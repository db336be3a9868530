-- `openings::open_by_triple` meets its contract. Assumes nothing.
use Rattle.openings.proofs.Opening.{settle_asks, falls_asks, opened_by_triple}
use Rattle.openings.proofs.open_by_triple.Goals as goal

pub settle-requires : goal.settle-requires
settle-requires c = settle_asks c.requires

pub take_falls-requires : goal.take_falls-requires
take_falls-requires c =
    falls_asks c.requires c.settle.ensures

pub returns : goal.returns
returns c =
    let both = opened_by_triple c.requires c.settle.ensures c.write_whole.ensures c.take_falls.ensures in
    record { workspace = both.0; output = both.1 }
