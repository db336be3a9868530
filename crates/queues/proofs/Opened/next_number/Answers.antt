-- `next_number` meets its contract.
use Rattle.queues.proofs.Parts.{named_next}
use Rattle.queues.proofs.Opened.next_number.Goals as goal

pub returns-clause-named : goal.returns-clause-named
returns-clause-named c = λ n N e. named_next N e
