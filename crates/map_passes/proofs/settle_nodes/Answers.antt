-- What the check leaves of `settle_nodes`.
use Rattle.map_passes.proofs.Visiting.{visit_asked, visit_more}
use Rattle.map_passes.proofs.settle_nodes.Goals as goal

pub visit-requires : goal.visit-requires
visit-requires c =
    visit_asked c.requires c.loop-i-test.true c.loop-i.auto.i c.loop-i.invariant

pub loop-i-preserved : goal.loop-i-preserved
loop-i-preserved c =
    visit_more c.requires c.loop-i-test.true c.loop-i.auto.i c.loop-i.invariant c.visit.ensures
