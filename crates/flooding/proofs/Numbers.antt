-- The laws of the numbers of the nodes, by the flood's steps: before the first pixel, a pixel takes a number, a node is closed, the last
-- node is closed.
pub use Rattle.flooding.proofs.Named.{changed_once, named_none, taken_le, taken_fits, pushed_number_fits, close_fits, met_number, open_number, open_root}
pub use Rattle.flooding.proofs.Numbering.{Renamed, named_pushed}
pub use Rattle.flooding.proofs.Shutting.{named_closed, flooded_same, named_ended}
