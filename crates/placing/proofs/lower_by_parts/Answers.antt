-- What the check leaves of `lower_by_parts`.
use Rattle.placing.proofs.Placing.{limited_by}
use Rattle.placing.proofs.lower_by_parts.Goals as goal

pub returns : goal.returns
returns c = limited_by c.lower_by_part.ensures c.lower_by_part-2.ensures c.lower_by_part-3.ensures
