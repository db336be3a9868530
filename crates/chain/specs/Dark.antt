-- The claims about a chain of opening calls on a reversed picture: "Dark maps obey the published definition on the reversed picture, chains included."
-- Dark floc has no opening call of its own: the chain opens the reversed original.
use Rattle.std.specs.Prelude.{ℕ, true, List, ◌≡◌}
use Rattle.grid.specs.declared.Grid.{Grid}
use Rattle.calls.specs.Steps.{words_of}
use Rattle.calls.specs.Judging.{steps_good, triples_good}
use Rattle.calls.specs.Calls.{mapping_of}
use Rattle.calls.specs.Reversed.{reversed, reversed_call}
use Rattle.calls.specs.declared.Kind.TheVariants.{Thresholds, Triples}
use Rattle.chain.specs.Chain.{Call, Claim, accepted_thresholds, MapsWritten}
use Rattle.chain.specs.Mixed.{MixedClaim, accepted_triples}

pub record DarkClaim (grid : Grid) (a : ℕ) (original : List ℕ) (calls : List Call) : Type 0 where
  -- all that is claimed of a chain holds of the reversed original
  pub claim : Claim grid a (reversed original) calls
  -- with the dark map call, on the original, in the place of the map call: "If the accepted thresholds, in order, are a step list", the chain's maps
  -- are what it writes for that list, the chain's grid and attribute and the gap 0
  pub maps : (steps : List ℕ) → accepted_thresholds (reversed original) calls ≡ steps → steps_good steps ≡ true
      → (workspace residue index : List ℕ)
      → MapsWritten (reversed original) calls (reversed_call (mapping_of original grid (Thresholds a) steps 0 workspace residue index))

-- the same of mixed chains
pub record DarkMixedClaim (grid : Grid) (original : List ℕ) (calls : List Call) : Type 0 where
  pub claim : MixedClaim grid (reversed original) calls
  pub maps : (words : List ℕ) → words_of (accepted_triples (reversed original) calls) ≡ words → triples_good words ≡ true
      → (workspace residue index : List ℕ)
      → MapsWritten (reversed original) calls (reversed_call (mapping_of original grid Triples words 0 workspace residue index))
