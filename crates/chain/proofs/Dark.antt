-- The claims on a reversed picture are the claims. Assumes nothing.
use Prim.Native.Nat.{ℕ}
use mathlib.Core.List.{List}
use Rattle.grid.specs.declared.Grid.{Grid}
use Rattle.calls.specs.Reversed.{reversed}
use Rattle.chain.specs.Chain.{Call, Chain, Claim}
use Rattle.chain.specs.Mixed.{MixedChain, MixedClaim}
use Rattle.chain.specs.Dark.{DarkClaim, DarkMixedClaim}
use Rattle.chain.proofs.Mixed.{mixed_claim}
use Rattle.chain.proofs.Demand.{chain_claim}

pub dark_chain_claim : (grid : Grid) (a : ℕ) (original : List ℕ) (calls : List Call) → Chain grid a (reversed original) calls
    → DarkClaim grid a original calls
dark_chain_claim grid a original calls chain =
    let claim : Claim grid a (reversed original) calls = chain_claim grid a (reversed original) calls chain in
    record { claim = claim; maps = claim.maps }

pub dark_mixed_claim : (grid : Grid) (original : List ℕ) (calls : List Call) → MixedChain grid (reversed original) calls
    → DarkMixedClaim grid original calls
dark_mixed_claim grid original calls chain =
    let claim : MixedClaim grid (reversed original) calls = mixed_claim grid (reversed original) calls chain in
    record { claim = claim; maps = claim.maps }
