-- `placing::lower_by` meets its contract. Assumes nothing.
use Rattle.placing.proofs.Placing.{lowered_by}
use Rattle.placing.proofs.lower_by.Goals as goal

pub returns : goal.returns
returns c = lowered_by c.measure_nodes.ensures c.lower.ensures
