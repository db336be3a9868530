-- `building::write_whole` meets its contract: the record is written, its list sorted, and the rest zeroed. Assumes nothing.
use native.Mathlib.Omega.{arith}
use Rattle.building.proofs.Ordering.{record_asked, nodes_small, sort_asked, clear_asked, whole}
use Rattle.building.proofs.write_whole.Goals as goal

pub returns : goal.returns
returns c =
    record {
      whole = λ grid a m D.
          whole D c.write_record-nodes.ensures c.sort_by_level.ensures c.clear_scratch.ensures;
    }

pub write_record-nodes-requires : goal.write_record-nodes-requires
write_record-nodes-requires c = record_asked c.requires.noded

pub sort_by_level-requires : goal.sort_by_level-requires
sort_by_level-requires c =
    sort_asked c.requires.noded c.write_record-nodes.ensures (λ x. (c.shared_slice_known-1.given x).fits)

pub clear_scratch-requires : goal.clear_scratch-requires
clear_scratch-requires c =
    let asked = clear_asked c.requires.noded c.write_record-nodes.ensures c.sort_by_level.ensures in
    record { sized = asked.0; nodes_le_n = asked.1 }

pub overflow_cast-result : goal.overflow_cast-result
overflow_cast-result c =
    omega (arith, nodes_small c.requires.noded c.write_record-nodes.ensures)
