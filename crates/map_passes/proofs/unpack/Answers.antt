-- What the check leaves of `unpack`.
use native.Mathlib.Omega.{arith}
use Rattle.sets.proofs.Tables.{filled_all}
use Rattle.map_passes.proofs.unpack.Goals as goal

pub returns-clause-residues : goal.returns-clause-residues
returns-clause-residues c = filled_all c.loop-p.invariant.0 (omega arith)

pub returns-clause-indices : goal.returns-clause-indices
returns-clause-indices c = filled_all c.loop-p.invariant.1.filled (omega arith)
