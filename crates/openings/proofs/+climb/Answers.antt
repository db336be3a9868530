-- What the check leaves of `climb`.
use mathlib.Core.Logic.{⊎_elim}
use Rattle.openings.specs.Climbing.{kept, root, up}
use Rattle.openings.proofs.Climbing.{parent_falls, kept_within}
use Rattle.openings.proofs.+climb.Goals as goal

pub returns-then-parent-r : goal.returns-then-parent-r
returns-then-parent-r t c = ⊎_elim (λ enough. kept enough) (λ both. root both.1) c.if-parent-r.either

pub returns-else-parent-r : goal.returns-else-parent-r
returns-else-parent-r t c =
    let other = c.if-parent-r.false in
    kept_within _ _ _ _ (up other.0 c.climb.ensures) _ (parent_falls _ _ _ _ c.requires other.1)
