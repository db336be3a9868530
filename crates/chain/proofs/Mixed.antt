-- The claim about chains of openings by attribute or by triple: a chain's picture against the single opening, both as levelings, and the chain's maps.
use Rattle.std.specs.Prelude.{Ok, Err}
use Rattle.calls.specs.Judging.{Verdict}
use Prim.Native.Nat.{ℕ, ◌≤◌, ◌<◌}
use mathlib.Core.Bool.{Bool, true, false, true≢false, false≢true}
use mathlib.Core.List.{List, [], ◌∷◌}
use mathlib.Core.Logic.{◌↔◌, inl, inr, ⊎_elim}
use mathlib.Core.Path.{◌≡◌, refl, sym, ◌∙◌, ap, subst}
use native.Mathlib.Omega.{arith}
use Rattle.sets.specs.Sets.{member}
use Rattle.sets.proofs.Laws.{table_ext}
use Rattle.grid.specs.Pixels.{pixels}
use Rattle.grid.specs.Neighbours.{adjacent}
use Rattle.grid.specs.Triples.{meets, zeros}
use Rattle.grid.specs.declared.Grid.{Grid}
use Rattle.grid.specs.declared.Triple.{Triple}
use Rattle.grid.proofs.Attributes.{adjacent_symmetric}
use Rattle.grid.proofs.Triples.{meets_up, meets_zeros, join_within}
use Rattle.grid.proofs.Whole.{grid_whole}
use Rattle.opening.specs.Opening.{component_at, least_grey, opened_by}
use Rattle.opening.specs.Leveling.{Leveling}
use Rattle.opening.specs.Residue.{largest, largest_place, residues}
use Rattle.opening.proofs.Levels.{least_grey_le, least_grey_attained}
use Rattle.opening.proofs.Components.{component_grey}
use Rattle.opening.proofs.Opened.{opened_all}
use Rattle.opening.proofs.Joined.{residue_zero, index_zero}
use Rattle.opening.proofs.Leveling.{opened_leveling, leveling_ext}
use Rattle.opening.proofs.Agree.{opened_agree}
use Rattle.causes.specs.Bounds.{most_pixels}
use Rattle.causes.specs.Causes.{number_of}
use Rattle.causes.specs.declared.Cause.{Cause}
use Rattle.calls.specs.Steps.{step_triple, words_of, list_tests}
use Rattle.calls.specs.Judging.{triples_good, accepted as is_accepted, verdict_numbers}
use Rattle.calls.specs.Calls.{grey, opening_of, open_verdict, open_output, MapCall, mapping_of, kept_by, residue_map, index_map}
use Rattle.calls.specs.declared.Step.{Step}
use Rattle.calls.specs.declared.Kind.TheVariants.{Triples}
use Rattle.calls.proofs.Accepted.{bounded, maps_accepted}
use Rattle.calls.proofs.Steps.{words_read, triple_list}
use Rattle.chain.specs.Chain.{Call, verdict, accepted, answered, handed_on, chain_picture, chain_falls, chain_residues, chain_indices, MapsWritten, EachAccepted, OnGrid, Equal, Whole}
use Rattle.chain.specs.Mixed.{MixedChain, MixedClaim, accepted_triples, largest_triple, JustOne, NoNodeMeetsOne}
use Rattle.chain.proofs.Handed.{OpenedAt, opened_picture_at, output_accepted, handed_refused, chain_opened, chain_falls_openings, chain_falls_total}

-- what a refused call answers
refused_number : (judged : Verdict) → is_accepted judged ≡ false
    → (cause : Cause) × (judged ≡ Err cause) × (verdict_numbers judged ≡ number_of cause ∷ [])
refused_number (Ok done) e = let clash : ◌≡◌ {A = ℕ} 0 1 = cc in absurd (omega arith)
refused_number (Err cause) e = (cause, refl, refl)

refused_answer : (given : List ℕ) (call : Call) → accepted given call ≡ false
    → (cause : Cause) × (verdict given call ≡ Err cause) × (answered given call ≡ number_of cause ∷ []) × (handed_on given call ≡ given)
unfolding accepted answered
refused_answer given call refused =
    let (cause, judged, number) = refused_number (verdict given call) refused in
    (cause, judged, number, handed_refused given call refused)

-- the node of a pixel is the whole picture exactly where the pixel has the least grey
root_exactly : (grid : Grid) (picture : List ℕ) → 1 ≤ grid.width → (p : ℕ) → p < pixels grid
    → grey picture p ≡ least_grey (pixels grid) (grey picture) ↔ Whole grid picture p
root_exactly grid picture wide p below = (
  (λ e q q_below.
      subst
      (λ (k : ℕ). member (component_at (pixels grid) (adjacent grid) (grey picture) k p) q ≡ true)
      (sym e)
      (grid_whole grid wide (grey picture) p q below q_below)),
  (λ whole.
      let (q, q_below, least) = least_grey_attained (pixels grid) (grey picture) (omega arith) in
      let over : grey picture p ≤ grey picture q =
      component_grey (pixels grid) (adjacent grid) (grey picture) (grey picture p) p q (whole q q_below) in
      omega (arith, least_grey_le (pixels grid) (grey picture) p below)),
)

-- tests agree exactly if not just one of them holds
pub not_just_one : (one other : Bool) → (one ≡ other) ↔ (¬ JustOne one other)
not_just_one true true = ((λ e. ⊎_elim (λ b. true≢false b.1) (λ b. true≢false b.0)), λ none. refl)
not_just_one true false = ((λ e. absurd (true≢false e)), λ none. absurd (none (inl (refl, refl))))
not_just_one false true = ((λ e. absurd (false≢true e)), λ none. absurd (none (inr (refl, refl))))
not_just_one false false = ((λ e. ⊎_elim (λ b. false≢true b.0) (λ b. false≢true b.1)), λ none. refl)

module _ (grid : Grid) (original : List ℕ) where
  -- the original is its opening by three zeros
  original_opened : OpenedAt grid zeros (grey original) original
  original_opened p below = sym (opened_all (pixels grid) (adjacent grid) (meets grid zeros) (grey original) (meets_zeros grid) p below)

  -- a picture that is an opening is a leveling
  opened_at_leveling : pixels grid ≤ most_pixels → (t : Triple) (picture : List ℕ) → OpenedAt grid t (grey original) picture
      → Leveling (pixels grid) (adjacent grid) (grey original) (grey picture)
  opened_at_leveling few t picture at =
      leveling_ext
      (pixels grid)
      (adjacent grid)
      (grey original)
      (opened_by (pixels grid) (adjacent grid) (meets grid t) (grey original))
      (grey picture)
      (λ p below. sym (at p below))
      (opened_leveling (pixels grid) (adjacent grid) (adjacent_symmetric grid) (meets grid t) (meets_up grid few t) (grey original))

  -- pictures that are openings are equal exactly if no node but the root meets just one of the two triples
  opened_at_equal : pixels grid ≤ most_pixels → (t u : Triple) (first second : List ℕ) → OpenedAt grid t (grey original) first
      → OpenedAt grid u (grey original) second → Equal (pixels grid) first second ↔ NoNodeMeetsOne grid original u t
  opened_at_equal few t u first second at_t at_u =
      let agree =
      opened_agree
      (pixels grid)
      (adjacent grid)
      (grey original)
      (adjacent_symmetric grid)
      (meets grid u)
      (meets grid t)
      (meets_up grid few u)
      (meets_up grid few t) in (
        -- "only when"
        (λ same p below above. (not_just_one _ _).0 (agree.0 (λ q b. sym (at_u q b) ∙ sym (same q b) ∙ at_t q b) p below above)),
        -- "when"
        (λ none p below.
            at_t p below ∙ sym (agree.1 (λ q b above. (not_just_one _ _).1 (none q b above)) p below) ∙ sym (at_u p below)),
      )

  -- the single opening is the opening by the triple of its step
  single_opened : (step : Step) (workspace output : List ℕ) → open_verdict (opening_of original grid step workspace output) ≡ Ok tt
      → OpenedAt grid (step_triple step) (grey original) (open_output (opening_of original grid step workspace output))
  single_opened step workspace output ok =
      subst
      (OpenedAt grid (step_triple step) (grey original))
      (sym (output_accepted (opening_of original grid step workspace output) ok))
      (opened_picture_at grid (meets grid (step_triple step)) original)

  module _ (calls : List Call) (named : EachAccepted (OnGrid grid) original calls) where
    -- the chain's picture is the opening by its largest triple
    chain_is_opened : OpenedAt grid (largest_triple original calls) (grey original) (chain_picture original calls)
    chain_is_opened =
        subst
        (λ (t : Triple). OpenedAt grid t (grey original) (chain_picture original calls))
        (join_within zeros (largest_triple original calls) (record { areas = omega arith; heights = omega arith; widths = omega arith }))
        (chain_opened grid zeros (grey original) original calls named original_opened)

    -- where the triples are a step list, the falls of the chain are the residues of the original
    module _ (words : List ℕ) (same_words : words_of (accepted_triples original calls) ≡ words) (good : triples_good words ≡ true) where
      falls_residues : (p : ℕ) → p < pixels grid
          → chain_falls original calls p ≡ residues (pixels grid) (adjacent grid) (list_tests grid Triples words) (grey original) p
      unfolding residues list_tests
      falls_residues p below =
          rw
          (← same_words, words_read (accepted_triples original calls), original_opened p below)
          (chain_falls_openings
          grid
          zeros
          (grey original)
          original
          calls
          named
          original_opened
          (rw (← words_read (accepted_triples original calls), same_words) (triple_list words good).rises)
          p
          below)

      pub chain_maps : (chain_residues (pixels grid) original calls ≡ residue_map grid (list_tests grid Triples words) 0 original)
          × (chain_indices (pixels grid) original calls ≡ index_map grid (list_tests grid Triples words) 0 original)
      unfolding chain_residues chain_indices residue_map index_map
      chain_maps = (
        table_ext (pixels grid) _ _ (λ p below. ap largest (falls_residues p below) ∙ sym (residue_zero _ _ _ _ p)),
        table_ext (pixels grid) _ _ (λ p below. ap largest_place (falls_residues p below) ∙ sym (index_zero _ _ _ _ p)),
      )

-- maps that are those of the picture for what a map call names are what it writes
pub maps_by : (original : List ℕ) (calls : List Call) (call : MapCall)
    → (chain_residues (pixels call.grid) original calls ≡ residue_map call.grid (kept_by call) call.gap call.picture)
    × (chain_indices (pixels call.grid) original calls ≡ index_map call.grid (kept_by call) call.gap call.picture)
    → MapsWritten original calls call
maps_by original calls call (same_residues, same_indices) ok =
    let (written_residues, written_indices) = maps_accepted call ok in
    (same_residues ∙ sym written_residues, same_indices ∙ sym written_indices)

-- For every mixed chain, and every single opening and map call that it is compared with.
pub mixed_claim : (grid : Grid) (original : List ℕ) (calls : List Call) → MixedChain grid original calls → MixedClaim grid original calls
mixed_claim grid original calls chain =
    let fits = bounded grid.width grid.height chain.sides in
    let opened = chain_is_opened grid original calls chain.named in
    record {
      refused = refused_answer;
      root = root_exactly grid original fits.wide;
      equal = λ step workspace output ok.
          opened_at_equal
          grid
          original
          fits.small
          (largest_triple original calls)
          (step_triple step)
          (chain_picture original calls)
          (open_output (opening_of original grid step workspace output))
          opened
          (single_opened grid original step workspace output ok);
      chain_leveling = opened_at_leveling grid original fits.small (largest_triple original calls) (chain_picture original calls) opened;
      single_leveling = λ step workspace output ok.
          opened_at_leveling
          grid
          original
          fits.small
          (step_triple step)
          (open_output (opening_of original grid step workspace output))
          (single_opened grid original step workspace output ok);
      falls = chain_falls_total grid original calls chain.named;
      maps = λ words same_words good workspace residue index.
          maps_by
          original
          calls
          (mapping_of original grid Triples words 0 workspace residue index)
          (chain_maps grid original calls chain.named words same_words good);
    }
