-- `building::measure_nodes` meets its contract: each pass asks what the one before leaves. Assumes nothing.
use mathlib.Core.Path.{refl, ◌∙◌}
use Rattle.building.proofs.Assembly.{FloodLeft, OwnLeft, flood_left, own_asked, own_left, pour_asked, measured_nodes, rebuildable}
use Rattle.building.proofs.measure_nodes.Goals as goal
use Rattle.building.proofs.measure_nodes.Goals.{After-own_pixels, After-shared_slice_known-1}

-- what the flood left, and what the pass over the own pixels leaves
flooded : (c : After-shared_slice_known-1)
    → let a = c.args in
    FloodLeft a.grid a.picture.now a.workspace.now a.nodes
flooded c = flood_left c.requires.buildable (λ x. (c.shared_slice_known-1.given x).fits) refl c.requires.numbers

owned : (c : After-own_pixels)
    → let a = c.args in
    OwnLeft a.grid a.attribute a.picture.now c.own_pixels.new.ws a.nodes
owned c = own_left (flooded (goal.at.After-own_pixels c).After-shared_slice_known-1) c.own_pixels.ensures

pub own_pixels-requires : goal.own_pixels-requires
own_pixels-requires c = own_asked (flooded (goal.at.own_pixels-requires c).After-shared_slice_known-1)

pub descendants-requires : goal.descendants-requires
descendants-requires c = pour_asked (owned (goal.at.descendants-requires c).After-own_pixels)

pub returns : goal.returns
returns c =
    measured_nodes
    (owned (goal.at.returns c).After-own_pixels)
    c.descendants.ensures
    c.own_pixels.ensures
    (rebuildable
    c.requires.buildable
    (c.descendants.auto.ws ∙ c.own_pixels.auto.ws))
