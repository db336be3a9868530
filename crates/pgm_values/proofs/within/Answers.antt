-- `pgm_values::within` meets its contract: no sample is above the maximum exactly if the largest is not. Assumes nothing.
use Prim.Native.Nat.{ℕ}
use mathlib.Core.Path.{◌∙◌, sym, ap}
use lib.Dec.{leb}
use Rattle.pgm_values.proofs.Largest.{all_at_most_largest}
use Rattle.pgm_values.proofs.within.Goals as goal

pub returns : goal.returns
returns c = record { answer = ap (λ (m : ℕ). leb m c.args.maximum) c.most.ensures ∙ sym (all_at_most_largest _ _) }
