-- The claim about chains of one attribute, from that about mixed chains: the triples of such a chain have two zeros each, so its largest triple is its
-- largest threshold, and a node meets just one of two exactly if its attribute is at or above the smaller and below the larger.
use Prim.Native.Nat.{ℕ, ◌≤◌, ◌<◌, min, max}
use mathlib.Core.Bool.{true}
use mathlib.Core.List.{List, [], ◌∷◌, map}
use mathlib.Core.Logic.{◌↔◌}
use mathlib.Core.Path.{◌≡◌, refl, sym, ◌∙◌, ap}
use native.Mathlib.Omega.{arith}
use lib.Dec.{leb}
use borrow.Author.Tests.{leb-true, leb-false}
use Rattle.sets.specs.Sets.{Positions}
use Rattle.grid.specs.Pixels.{pixels}
use Rattle.grid.specs.Attributes.{attribute}
use Rattle.grid.specs.Triples.{meets, need, join}
use Rattle.grid.specs.declared.Grid.{Grid}
use Rattle.grid.proofs.Triples.{meets_need}
use Rattle.opening.specs.Residue.{largest}
use Rattle.opening.proofs.Levels.{cond_case}
use Rattle.opening.proofs.Agree.{same_at_least}
use Rattle.calls.specs.Steps.{step_triple, words_of, list_tests}
use Rattle.calls.specs.Judging.{steps_good}
use Rattle.calls.specs.Calls.{mapping_of, residue_map, index_map}
use Rattle.calls.specs.declared.Step.{Step}
use Rattle.calls.specs.declared.Step.TheVariants.{Threshold}
use Rattle.calls.specs.declared.Kind.TheVariants.{Thresholds}
use Rattle.calls.proofs.Steps.{need_none, need_join, list_meets, list_judged}
use Rattle.chain.specs.Chain.{Call, accepted, handed_on, accepted_steps, step_threshold, accepted_thresholds, largest_threshold, chain_residues, chain_indices, EachAccepted, OnGrid, Names, Named, Chain, Claim, NoNodeBetween}
use Rattle.chain.specs.Mixed.{MixedChain, accepted_triples, largest_of, largest_triple, JustOne, NoNodeMeetsOne}
use Rattle.chain.proofs.Mixed.{not_just_one, chain_maps, maps_by, mixed_claim}

-- accepted calls that are all of one sort are of a wider one
each_accepted : (Such Wider : Call → Type 0) → ((call : Call) → Such call → Wider call) → (given : List ℕ) (calls : List Call)
    → EachAccepted Such given calls → EachAccepted Wider given calls
unfolding EachAccepted
each_accepted Such Wider wider given [] all = tt
each_accepted Such Wider wider given (call ∷ rest) (now, later) =
    ((λ ok. wider call (now ok)), each_accepted Such Wider wider (handed_on given call) rest later)

-- the largest of a list is the larger of its first and the largest of the rest
largest_cons : (t : ℕ) (rest : List ℕ) → largest (t ∷ rest) ≡ max t (largest rest)
unfolding largest
largest_cons t rest =
    cond_case
    (λ (x : ℕ). x ≡ max t (largest rest))
    (leb (largest rest) t)
    (λ e. omega (arith, leb-true (largest rest) t e))
    (λ e. omega (arith, leb-false (largest rest) t e))

-- the largest of triples with two zeros each
largest_need : (a : ℕ) (thresholds : List ℕ) → largest_of (map (need a) thresholds) ≡ need a (largest thresholds)
unfolding largest_of largest
largest_need a [] = sym (need_none a)
largest_need a (t ∷ rest) =
    ap (join (need a t)) (largest_need a rest) ∙ need_join a t (largest rest) ∙ ap (need a) (sym (largest_cons t rest))

-- the triple of a step that is a threshold
step_needed : (a : ℕ) (step : Step) → (t : ℕ) × (step ≡ Threshold a t) → step_triple step ≡ need a (step_threshold step)
unfolding step_triple
step_needed a step (t, by) = rw by refl

module _ (grid : Grid) (a : ℕ) where
  -- a chain of one attribute is a mixed one
  mixed : (original : List ℕ) (calls : List Call) → Chain grid a original calls → MixedChain grid original calls
  mixed original calls chain =
      record {
        sides = chain.sides;
        size = chain.size;
        named = each_accepted (Names grid a) (OnGrid grid) (λ call names. names.0) original calls chain.named;
      }

  -- its triples are those of its thresholds
  triples_needed : (given : List ℕ) (calls : List Call) → Named grid a given calls
      → accepted_triples given calls ≡ map (need a) (accepted_thresholds given calls)
  unfolding EachAccepted accepted_steps
  triples_needed given [] named = refl
  triples_needed given (call ∷ rest) (now, later) =
      cond_case
      (λ (steps : List Step). map step_triple steps ≡ map (need a) (map step_threshold steps))
      (accepted given call)
      (λ ok. cc (step_needed a call.step (now ok).1, triples_needed (handed_on given call) rest later))
      (λ refused. triples_needed (handed_on given call) rest later)

  -- a set does not meet just one of the triples of t and u exactly if its attribute is not at or above the smaller and below the larger
  met_between : (t u : ℕ) (s : Positions)
      → (¬ JustOne (meets grid (need a t) s) (meets grid (need a u) s)) ↔ (¬ ((min t u ≤ attribute grid a s) × (attribute grid a s < max t u)))
  met_between t u s =
      let same = same_at_least (attribute grid a s) t u in
      let just = not_just_one (leb t (attribute grid a s)) (leb u (attribute grid a s)) in
      rw (← meets_need grid a t s, ← meets_need grid a u s) ((λ none. same.0 (just.1 none)), (λ free. just.0 (same.1 free)))

  -- so it is with the nodes
  between : (original : List ℕ) (t u : ℕ) → NoNodeMeetsOne grid original (need a t) (need a u) ↔ NoNodeBetween grid a original t u
  between original t u = (
    (λ none p below above. (met_between t u _).0 (none p below above)),
    (λ free p below above. (met_between t u _).1 (free p below above)),
  )

  -- where its thresholds are a step list, the words of their triples are one too, and keep the same
  thresholds_maps : (original : List ℕ) (calls : List Call) → Chain grid a original calls → (steps : List ℕ)
      → accepted_thresholds original calls ≡ steps → steps_good steps ≡ true
      → (chain_residues (pixels grid) original calls ≡ residue_map grid (list_tests grid (Thresholds a) steps) 0 original)
      × (chain_indices (pixels grid) original calls ≡ index_map grid (list_tests grid (Thresholds a) steps) 0 original)
  thresholds_maps original calls chain steps thresholds good =
      rw
      (list_meets grid a steps)
      (chain_maps
      grid
      original
      calls
      (mixed original calls chain).named
      (words_of (map (need a) steps))
      (ap words_of (triples_needed original calls chain.named ∙ ap (map (need a)) thresholds))
      (sym (list_judged a steps) ∙ good))

  -- Demand 3: for every chain, and every single opening and map call that it is compared with.
  pub chain_claim : (original : List ℕ) (calls : List Call) → Chain grid a original calls → Claim grid a original calls
  unfolding step_triple
  chain_claim original calls chain =
      let claim = mixed_claim grid original calls (mixed original calls chain) in
      let same_largest : largest_triple original calls ≡ need a (largest_threshold original calls) =
      ap largest_of (triples_needed original calls chain.named) ∙ largest_need a (accepted_thresholds original calls) in
      record {
        refused = claim.refused;
        root = claim.root;
        equal = λ t workspace output ok.
            let equal = claim.equal (Threshold a t) workspace output ok in
            let free = between original t (largest_threshold original calls) in (
              (λ same. free.0 (rw same_largest at (equal.0 same))),
              (λ none. equal.1 (rw same_largest (free.1 none))),
            );
        chain_leveling = claim.chain_leveling;
        single_leveling = λ t. claim.single_leveling (Threshold a t);
        falls = claim.falls;
        maps = λ steps thresholds good workspace residue index.
            maps_by
            original
            calls
            (mapping_of original grid (Thresholds a) steps 0 workspace residue index)
            (thresholds_maps original calls chain steps thresholds good);
      }
