-- Chains of openings by attribute or by triple in any mixture, and the claim about a whole chain of them.
use Rattle.std.specs.Prelude.{Ok, Err}
use Rattle.std.specs.Prelude.{ℕ, ◌+◌, ◌<◌, Bool, true, false, List, [], ◌∷◌, map, ◌↔◌, ◌⊎◌, ◌≡◌, length}
use Rattle.sets.specs.Sets.{member}
use Rattle.grid.specs.Pixels.{pixels}
use Rattle.grid.specs.Neighbours.{adjacent}
use Rattle.grid.specs.Triples.{meets, zeros, join}
use Rattle.grid.specs.declared.Grid.{Grid}
use Rattle.grid.specs.declared.Triple.{Triple}
use Rattle.opening.specs.Opening.{least_grey}
use Rattle.opening.specs.Node.{node}
use Rattle.opening.specs.Leveling.{Leveling}
use Rattle.opening.specs.Residue.{total}
use Rattle.causes.specs.Causes.{number_of}
use Rattle.causes.specs.Sides.{sides_fit}
use Rattle.causes.specs.declared.Cause.{Cause}
use Rattle.calls.specs.Steps.{step_triple, words_of}
use Rattle.calls.specs.Judging.{triples_good}
use Rattle.calls.specs.Calls.{grey, opening_of, open_verdict, open_output, mapping_of}
use Rattle.calls.specs.declared.Step.{Step}
use Rattle.calls.specs.declared.Kind.TheVariants.{Triples}
use Rattle.chain.specs.Chain.{Call, verdict, accepted, answered, handed_on, chain_picture, accepted_steps, chain_falls, MapsWritten, EachAccepted, OnGrid, Equal, Whole}

-- A chain "not bound to one attribute": its accepted calls open by any steps, and name its width, height and neighbourhood; refused ones may name
-- anything.
pub record MixedChain (grid : Grid) (original : List ℕ) (calls : List Call) : Type 0 where
  pub sides : sides_fit grid.width grid.height ≡ true
  pub size : length original ≡ pixels grid
  pub named : EachAccepted (OnGrid grid) original calls

-- the triples of the accepted calls, in order: "A single threshold opens as a triple with two zeros."
abbrev pub accepted_triples : List ℕ → List Call → List Triple
accepted_triples original calls = map step_triple (accepted_steps original calls)

-- "the largest value in each part [..], three zeros if none"
unfoldable pub largest_of : List Triple → Triple
largest_of [] = zeros
largest_of (t ∷ rest) = join t (largest_of rest)

-- the same "over the chain's accepted calls"
abbrev pub largest_triple : List ℕ → List Call → Triple
largest_triple original calls = largest_of (accepted_triples original calls)

-- "just one of the two": the one and not the other, or the other way round
abbrev pub JustOne : Bool → Bool → Type 0
JustOne one other = ((one ≡ true) × (other ≡ false)) ⊎ ((one ≡ false) × (other ≡ true))

-- "no node but the root meets just one of the two": the other nodes are those of the pixels above the least grey
abbrev pub NoNodeMeetsOne : Grid → List ℕ → Triple → Triple → Type 0
NoNodeMeetsOne grid picture t u =
    (p : ℕ) → p < pixels grid → least_grey (pixels grid) (grey picture) < grey picture p
    → ¬ JustOne
    (meets grid t (member (node (pixels grid) (adjacent grid) (grey picture) p)))
    (meets grid u (member (node (pixels grid) (adjacent grid) (grey picture) p)))

-- The claim about a mixed chain, against every single opening of either kind and every map call by triples, all on the chain's grid.
pub record MixedClaim (grid : Grid) (original : List ℕ) (calls : List Call) : Type 0 where
  -- "A refused call answers the number due and hands on the picture it was given"
  pub refused : (given : List ℕ) (call : Call) → accepted given call ≡ false
      → (cause : Cause) × (verdict given call ≡ Err cause) × (answered given call ≡ number_of cause ∷ []) × (handed_on given call ≡ given)
  -- "The root is the node at the least grey: the whole picture." No other node is.
  pub root : (p : ℕ) → p < pixels grid → grey original p ≡ least_grey (pixels grid) (grey original) ↔ Whole grid original p
  -- "A chain of such openings [..] equals a single one exactly when no node but the root meets just one of the two: the single triple, and the
  -- largest value in each part over the chain's accepted calls, three zeros if none."
  pub equal : (step : Step) (workspace output : List ℕ) → open_verdict (opening_of original grid step workspace output) ≡ Ok tt
      → Equal (pixels grid) (chain_picture original calls) (open_output (opening_of original grid step workspace output))
      ↔ NoNodeMeetsOne grid original (step_triple step) (largest_triple original calls)
  -- "Levelings and chains are judged by the neighbourhood named": the chain's picture is a leveling of the original
  pub chain_leveling : Leveling (pixels grid) (adjacent grid) (grey original) (grey (chain_picture original calls))
  -- and so is the single opening
  pub single_leveling : (step : Step) (workspace output : List ℕ) → open_verdict (opening_of original grid step workspace output) ≡ Ok tt
      → Leveling (pixels grid) (adjacent grid) (grey original) (grey (open_output (opening_of original grid step workspace output)))
  -- the falls of a pixel at the accepted calls and its grey in the chain's picture add up to the grey that it had: no fall hides a rise
  pub falls : (p : ℕ) → p < pixels grid → total (chain_falls original calls p) + grey (chain_picture original calls) p ≡ grey original p
  -- "Maps, a chain's too, and gaps read triples as steps." If the words of the accepted triples are a step list, both maps are what an accepted map
  -- call writes for it; "the maps [..] of chains are those at gap 0".
  pub maps : (words : List ℕ) → words_of (accepted_triples original calls) ≡ words → triples_good words ≡ true
      → (workspace residue index : List ℕ)
      → MapsWritten original calls (mapping_of original grid Triples words 0 workspace residue index)
