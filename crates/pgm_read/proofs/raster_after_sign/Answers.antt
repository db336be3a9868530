-- The raster's span lies within the file, which the reader keeps.
use Rattle.std.proofs.Common.{arith}
use Rattle.pgm_read.proofs.Judging.{span_within}
use Rattle.pgm_read.proofs.raster_after_sign.Goals as goal

pub taken-requires : goal.taken-requires
taken-requires c =
    let w = span_within c.args.file.now c.header.result c.raster_span-span.result c.raster_span-span.ensures in
    rw (c.moved.ensures.reader.1, c.moved.ensures.reader.0, c.new-reader.ensures.reader.0) (omega arith)
