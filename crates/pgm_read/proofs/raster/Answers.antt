-- The raster stands where the picture was picked.
use Rattle.std.proofs.Common.{◌∙◌, rules}
use Rattle.pgm_read.proofs.Walk.{picked_within, picked_raster}
use Rattle.pgm_read.proofs.raster.Goals as goal

pub overflow_add-located : goal.overflow_add-located
overflow_add-located c =
    let within = picked_within _ _ _ c.in-Ok.ensures.result_value c.in-Ok.ensures.result_value_2 in
    search rules

pub returns-in-Ok : goal.returns-in-Ok
returns-in-Ok c =
    record {
      raster =
          c.raster_after_sign.ensures
          ∙ picked_raster _ _ _ c.in-Ok.ensures.result_value c.in-Ok.ensures.result_value_2;
    }
