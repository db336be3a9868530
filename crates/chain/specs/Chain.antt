-- Chains of opening calls, and the claim about a whole chain of one attribute.
use Rattle.std.specs.Prelude.{Ok, Err}
use Rattle.calls.specs.Judging.{Verdict}
use Rattle.std.specs.Prelude.{ℕ, ◌+◌, ◌-◌, ◌≤◌, ◌<◌, min, max, Bool, true, false, cond, List, [], ◌∷◌, map, ◌↔◌, ◌≡◌, length}
use Rattle.sets.specs.Sets.{table, member}
use Rattle.grid.specs.Pixels.{pixels}
use Rattle.grid.specs.Neighbours.{adjacent}
use Rattle.grid.specs.declared.Grid.{Grid}
use Rattle.opening.specs.Opening.{least_grey}
use Rattle.opening.specs.Node.{node}
use Rattle.opening.specs.Leveling.{Leveling}
use Rattle.opening.specs.Residue.{total, largest, largest_place}
use Rattle.causes.specs.Causes.{number_of}
use Rattle.causes.specs.Sides.{sides_fit}
use Rattle.causes.specs.declared.Cause.{Cause}
use Rattle.calls.specs.Judging.{steps_good, accepted as is_accepted, verdict_numbers}
use Rattle.calls.specs.Calls.{grey, node_attribute, OpenCall, opening_of, open_verdict, open_output, MapCall, mapping_of, map_verdict, map_residue, map_index}
use Rattle.calls.specs.declared.Step.{Step}
use Rattle.calls.specs.declared.Step.TheVariants.{Threshold, Three}
use Rattle.calls.specs.declared.Kind.TheVariants.{Thresholds}

-- an opening call of a chain: what it names and what it is lent. The picture it is given comes from the calls before it.
pub record Call : Type 0 where
  pub grid : Grid
  pub step : Step
  pub workspace : List ℕ
  pub output : List ℕ

-- a call of a chain with the picture that it is given
abbrev pub given_to : List ℕ → Call → OpenCall
given_to given call = opening_of given call.grid call.step call.workspace call.output

-- the verdict on it
abbrev pub verdict : List ℕ → Call → Verdict
verdict given call = open_verdict (given_to given call)

-- "A call is accepted if no cause for refusal applies to it, else refused."
unfoldable pub accepted : List ℕ → Call → Bool
accepted given call = is_accepted (verdict given call)

-- the number that a call answers, 0 where it is accepted; it has no values
unfoldable pub answered : List ℕ → Call → List ℕ
answered given call = verdict_numbers (verdict given call)

-- the picture for the next call: the output of an accepted call; "a refused call [..] hands on the picture it was given"
unfoldable pub handed_on : List ℕ → Call → List ℕ
handed_on given call =
    cond
    (accepted given call)
    (open_output (given_to given call))
    given

-- "The chain's picture is the output of its last accepted call, else the original."
unfoldable pub chain_picture : List ℕ → List Call → List ℕ
chain_picture original [] = original
chain_picture original (call ∷ rest) = chain_picture (handed_on original call) rest

-- the steps of the accepted calls, in order
unfoldable pub accepted_steps : List ℕ → List Call → List Step
accepted_steps given [] = []
accepted_steps given (call ∷ rest) =
    let later : List Step = accepted_steps (handed_on given call) rest in
    cond (accepted given call) (call.step ∷ later) later

-- the threshold of a step. No call of a chain of one attribute is accepted with a triple: 0 stands for it, and any number would do.
abbrev pub step_threshold : Step → ℕ
step_threshold (Threshold a t) = t
step_threshold (Three t) = 0

-- "the accepted thresholds, in order"
abbrev pub accepted_thresholds : List ℕ → List Call → List ℕ
accepted_thresholds original calls = map step_threshold (accepted_steps original calls)

-- "Its largest threshold is taken over accepted calls, 0 if there are none."
abbrev pub largest_threshold : List ℕ → List Call → ℕ
largest_threshold original calls = largest (accepted_thresholds original calls)

-- the falls of a pixel at the accepted calls, in order: "The fall at call k is the picture given to it less its output."
unfoldable pub chain_falls : List ℕ → List Call → ℕ → List ℕ
chain_falls given [] p = []
chain_falls given (call ∷ rest) p =
    let later : List ℕ = chain_falls (handed_on given call) rest p in
    cond (accepted given call) ((grey given p - grey (handed_on given call) p) ∷ later) later

-- "The chain's residue map holds each pixel's largest fall, its index map the largest k with that fall, or 0 where it is 0."
unfoldable pub chain_residues : ℕ → List ℕ → List Call → List ℕ
chain_residues n original calls = table n (λ (p : ℕ). largest (chain_falls original calls p))

unfoldable pub chain_indices : ℕ → List ℕ → List Call → List ℕ
chain_indices n original calls = table n (λ (p : ℕ). largest_place (chain_falls original calls p))

-- both maps of a chain "equal, at every pixel, what an accepted map call [..] writes"
abbrev pub MapsWritten : List ℕ → List Call → MapCall → Type 0
MapsWritten original calls call =
    map_verdict call ≡ Ok tt
    → (chain_residues (pixels call.grid) original calls ≡ map_residue call) × (chain_indices (pixels call.grid) original calls ≡ map_index call)

-- every accepted call of a chain is such a one; "refused ones may name any numbers and be lent any workspace and output"
unfoldable pub EachAccepted : (Call → Type 0) → List ℕ → List Call → Type 0
EachAccepted Such given [] = Unit {0}
EachAccepted Such given (call ∷ rest) = (accepted given call ≡ true → Such call) × EachAccepted Such (handed_on given call) rest

-- a call names the chain's width and height, and its neighbourhood, which is "the same in all accepted calls of a chain"
abbrev pub OnGrid : Grid → Call → Type 0
OnGrid grid call = call.grid ≡ grid

-- "Accepted calls name the chain's width, height and attribute": they open at a threshold of it.
abbrev pub Names : Grid → ℕ → Call → Type 0
Names grid a call = OnGrid grid call × ((t : ℕ) × (call.step ≡ Threshold a t))

abbrev pub Named : Grid → ℕ → List ℕ → List Call → Type 0
Named grid a original calls = EachAccepted (Names grid a) original calls

-- "A chain has an original (any picture within the bounds above), its width and height, one attribute, and a list of opening calls,
-- which may be empty." The grid names the neighbourhood too. That greys are bytes, and that its number is 4 or 8, is
-- not needed.
pub record Chain (grid : Grid) (a : ℕ) (original : List ℕ) (calls : List Call) : Type 0 where
  pub sides : sides_fit grid.width grid.height ≡ true
  pub size : length original ≡ pixels grid
  pub named : Named grid a original calls

-- "Equal means the same byte at every position."
abbrev pub Equal : ℕ → List ℕ → List ℕ → Type 0
Equal n x y = (p : ℕ) → p < n → grey x p ≡ grey y p

-- every pixel is in the node that p is an own pixel of
abbrev pub Whole : Grid → List ℕ → ℕ → Type 0
Whole grid picture p = (q : ℕ) → q < pixels grid → member (node (pixels grid) (adjacent grid) (grey picture) p) q ≡ true

-- no node other than the root has its attribute at or above the smaller and below the larger of s and t. "The root is the node at the
-- least grey": the other nodes are those of the pixels above the least grey.
abbrev pub NoNodeBetween : Grid → ℕ → List ℕ → ℕ → ℕ → Type 0
NoNodeBetween grid a picture s t =
    (p : ℕ) → p < pixels grid → least_grey (pixels grid) (grey picture) < grey picture p
    → ¬ ((min s t ≤ node_attribute grid a picture p) × (node_attribute grid a picture p < max s t))

-- The claim about a chain, against every single opening and every map call. "The single opening is an accepted call on the original
-- with the same width, height and attribute", and the neighbourhood is the same "in the single opening and the map call that it is compared
-- with". "Levelings and chains are judged by the neighbourhood named."
pub record Claim (grid : Grid) (a : ℕ) (original : List ℕ) (calls : List Call) : Type 0 where
  -- "A refused call answers the number due and hands on the picture it was given": due is the number of the cause that judging finds,
  -- the first that applies
  pub refused : (given : List ℕ) (call : Call) → accepted given call ≡ false
      → (cause : Cause) × (verdict given call ≡ Err cause) × (answered given call ≡ number_of cause ∷ []) × (handed_on given call ≡ given)
  -- "The root is the node at the least grey: the whole picture." No other node is.
  pub root : (p : ℕ) → p < pixels grid → grey original p ≡ least_grey (pixels grid) (grey original) ↔ Whole grid original p
  -- the chain's picture and the single opening at t are equal exactly when no node other than the root has its attribute at or above
  -- the smaller and below the larger of t and the chain's largest threshold
  pub equal : (t : ℕ) (workspace output : List ℕ) → open_verdict (opening_of original grid (Threshold a t) workspace output) ≡ Ok tt
      → Equal (pixels grid) (chain_picture original calls) (open_output (opening_of original grid (Threshold a t) workspace output))
      ↔ NoNodeBetween grid a original t (largest_threshold original calls)
  -- the chain's picture is a leveling of the original
  pub chain_leveling : Leveling (pixels grid) (adjacent grid) (grey original) (grey (chain_picture original calls))
  -- and so is the single opening
  pub single_leveling : (t : ℕ) (workspace output : List ℕ) → open_verdict (opening_of original grid (Threshold a t) workspace output) ≡ Ok tt
      → Leveling (pixels grid) (adjacent grid) (grey original) (grey (open_output (opening_of original grid (Threshold a t) workspace output)))
  -- subtraction hides a rise, so it is said that there is none: the falls of a pixel at the accepted calls and its grey in the chain's
  -- picture add up to the grey that it had
  pub falls : (p : ℕ) → p < pixels grid → total (chain_falls original calls p) + grey (chain_picture original calls) p ≡ grey original p
  -- "If the accepted thresholds, in order, are a step list, [..] both [maps] equal, at every pixel, what an accepted map call on the
  -- original writes for that list and the chain's width, height and attribute." The map call names the chain's grid, so its neighbourhood too,
  -- and the gap 0: "the maps of demand 2 and of chains are those at gap 0".
  pub maps : (steps : List ℕ) → accepted_thresholds original calls ≡ steps → steps_good steps ≡ true
      → (workspace residue index : List ℕ)
      → MapsWritten original calls (mapping_of original grid (Thresholds a) steps 0 workspace residue index)
