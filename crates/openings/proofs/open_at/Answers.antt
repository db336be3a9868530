-- `openings::open_at` meets its contract. Assumes nothing.
use Rattle.openings.proofs.Opening.{pass_asks, opened_at}
use Rattle.openings.proofs.open_at.Goals as goal

pub open_record-requires : goal.open_record-requires
open_record-requires c =
    let both = pass_asks c.requires c.build_record.ensures.left in
    record { climbable = both.0; output_len = both.1.0; threshold_nonzero = both.1.1 }

pub returns : goal.returns
returns c =
    let both = opened_at c.requires c.build_record.ensures.left c.open_record.auto.output c.open_record.ensures in
    record { workspace = both.0; output = both.1 }
