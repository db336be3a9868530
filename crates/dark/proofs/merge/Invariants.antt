-- The loop's invariant: the entries below p are merged, and from p on the pairs are the light ones still.
use Prim.Native.Nat.{ℕ}
use lib.IntN.{pos}
use lib.ListN.{get_or}
use Rattle.sets.proofs.Tables.{FilledTo, ChangedTo}
use Rattle.calls.specs.Combined.{contrast_of}
use Rattle.map_passes.specs.Settle.{total_in}
use Rattle.map_passes.specs.Passes.{pair_for}
use Rattle.dark.specs.Merging.{merged}
use Rattle.dark.proofs.merge.Given as goal

abbrev pub invariant-loop-p : goal.invariant-loop-p
invariant-loop-p l = let light = l.initial.pairs in
    ChangedTo 0 l.n (λ (q : ℕ). merged (get_or light q 0) (pair_for l.n l.ws q)) light l.pairs l.p
    × FilledTo (pos 0) l.n (λ (q : ℕ). contrast_of (total_in (get_or light q 0)) (total_in (pair_for l.n l.ws q))) l.contrasts l.p
