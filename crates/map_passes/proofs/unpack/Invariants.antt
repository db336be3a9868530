-- The loop's invariant: the entries below p are those of the pairs that the index map held at entry, and from p on it holds them still.
use Prim.Native.Nat.{ℕ}
use lib.ListN.{length, get_or}
use Rattle.sets.proofs.Tables.{FilledTo, ChangedTo}
use Rattle.map_passes.specs.Settle.{total_in, index_in}
use Rattle.map_passes.proofs.unpack.Given as goal

abbrev pub invariant-loop-p : goal.invariant-loop-p
invariant-loop-p l = let pairs = l.initial.indices in
    FilledTo 0 (length pairs) (λ (q : ℕ). total_in (get_or pairs q 0)) l.residues l.p
    × ChangedTo 0 (length pairs) (λ (q : ℕ). index_in (get_or pairs q 0)) pairs l.indices l.p
