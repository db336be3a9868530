-- `building::build_record` meets its contract: the words of the nodes, and the record of them. Assumes nothing.
use Rattle.building.proofs.build_record.Goals as goal

pub returns : goal.returns
returns c =
    c.write_whole.ensures.whole _ _ _ c.measure_nodes.ensures.noded
