-- What the check leaves of `of`.
use Rattle.falls.specs.Falls.{places_before}
use Rattle.sets.proofs.Tables.{table_read}
use Rattle.places.proofs.Places.of.Goals as goal

pub returns-then-a-lt256 : goal.returns-then-a-lt256
returns-then-a-lt256 c = table_read 0 (λ a. places_before a _) c.args.self.now.found _ c.if-a-lt256.true
