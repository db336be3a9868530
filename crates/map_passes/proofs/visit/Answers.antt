-- `map_passes::visit` meets its contract.
use Rattle.map_passes.proofs.Visiting.{visit_never, visit_settles}
use Rattle.map_passes.proofs.visit.Goals as goal

pub returns-then-count-place : goal.returns-then-count-place
returns-then-count-place c =
    visit_never c.requires c.place_of-place.ensures c.if-count-place.true c.store.ensures

pub returns-else-count-place : goal.returns-else-count-place
returns-else-count-place c =
    visit_settles c.requires c.place_of-place.ensures c.if-count-place.false c.settle.ensures
