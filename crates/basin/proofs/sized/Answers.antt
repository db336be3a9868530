-- `basin::sized` is safe and ends: a call that is done had sides that fit, and its maps have an entry for each pixel. Assumes nothing.
use Prim.Native.Nat.{ℕ, ◌*◌}
use mathlib.Core.Path.{◌∙◌, sym}
use native.Mathlib.Omega.{arith}
use lib.ListN.{length, take}
use lib.Seq.{length-take-le}
use Rattle.causes.specs.Bounds.{words_a_pixel}
use Rattle.calls.specs.Calls.{MapCall}
use Rattle.calls.specs.declared.Kind.TheVariants.{Thresholds}
use Rattle.calls.proofs.Answers.{verdict_determined}
use Rattle.basin.proofs.Lending.{done_wide}
use Rattle.basin.proofs.sized.Goals as goal

pub listing-requires : goal.listing-requires
listing-requires g c =
    let a = c.args in
    let n : ℕ = length a.picture.now in
    let call : MapCall = record {
      picture = a.picture.now;
      grid = a.job.grid;
      kind = Thresholds a.job.attribute;
      steps = a.steps.now;
      gap = a.job.gap;
      workspace = take (words_a_pixel * n) a.workspace.now;
      residue = take n a.residue.now;
      index = take n a.index.now;
    } in (
      done_wide call (sym (verdict_determined _ _ c.map-mapped.ensures.answer) ∙ c.in-Ok.is),
      c.map-mapped.auto.residue ∙ length-take-le n a.residue.now (omega (arith, c.requires)),
      c.map-mapped.auto.index ∙ length-take-le n a.index.now (omega (arith, c.requires)),
    )
