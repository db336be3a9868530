-- What the calls of a chain hand on: each picture of a chain is the opening of the original by the largest values of the triples accepted so far,
-- and the falls of a pixel are those of its openings.
use Rattle.std.specs.Prelude.{Ok}
use Prim.Native.Nat.{ℕ, ◌+◌, ◌-◌, ◌≤◌, ◌<◌}
use mathlib.Core.Bool.{Bool, true, false, cond}
use mathlib.Core.List.{List, [], ◌∷◌, map}
use mathlib.Core.Path.{◌≡◌, refl, ◌∙◌, ap, subst}
use native.Mathlib.Omega.{arith}
use Rattle.sets.proofs.Laws.{table_at}
use Rattle.sets.proofs.Tests.{and_left, and_right}
use Rattle.grid.specs.Pixels.{pixels}
use Rattle.grid.specs.Neighbours.{adjacent}
use Rattle.grid.specs.Triples.{meets, join}
use Rattle.grid.specs.declared.Grid.{Grid}
use Rattle.grid.specs.declared.Triple.{Triple}
use Rattle.grid.proofs.Attributes.{adjacent_symmetric}
use Rattle.grid.proofs.Triples.{meets_up, meets_join, join_zeros, join_within, join_assoc}
use Rattle.causes.specs.Bounds.{most_pixels}
use Rattle.opening.specs.Opening.{Keeps, opened_by}
use Rattle.opening.specs.Residue.{falls_from, total, openings_by}
use Rattle.opening.proofs.Levels.{cond_case}
use Rattle.opening.proofs.Opened.{opened_le, opened_same}
use Rattle.opening.proofs.Absorb.{keeps_both, opened_after}
use Rattle.calls.specs.Steps.{step_triple}
use Rattle.calls.specs.Judging.{may_follow, rising_triples}
use Rattle.calls.specs.Calls.{grey, opened_picture, OpenCall, open_verdict, open_output}
use Rattle.calls.specs.declared.Step.{Step}
use Rattle.calls.proofs.Accepted.{open_passed, bounded, accepted_verdict}
use Rattle.calls.proofs.Steps.{step_same, follows}
use Rattle.chain.specs.Chain.{Call, given_to, verdict, accepted, handed_on, chain_picture, accepted_steps, chain_falls, EachAccepted, OnGrid}
use Rattle.chain.specs.Mixed.{accepted_triples, largest_of}

-- the output of an accepted opening call is the picture opened by the triple of its step
pub output_accepted : (call : OpenCall) → open_verdict call ≡ Ok tt
    → open_output call ≡ opened_picture call.grid (meets call.grid (step_triple call.step)) call.picture
unfolding open_output
output_accepted call ok = rw (ok, step_same call.grid call.step)

-- an accepted call of a chain hands on its output
handed_output : (given : List ℕ) (call : Call) → accepted given call ≡ true → handed_on given call ≡ open_output (given_to given call)
unfolding handed_on
handed_output given call ok = rw ok

-- a refused one what it was given
pub handed_refused : (given : List ℕ) (call : Call) → accepted given call ≡ false → handed_on given call ≡ given
unfolding handed_on
handed_refused given call refused = rw refused

module _ (grid : Grid) where
  -- the greys of an opened picture
  pub opened_picture_at : (keeps : Keeps) (picture : List ℕ) (p : ℕ) → p < pixels grid
      → grey (opened_picture grid keeps picture) p ≡ opened_by (pixels grid) (adjacent grid) keeps (grey picture) p
  unfolding opened_picture
  opened_picture_at keeps picture p below = table_at (pixels grid) (opened_by (pixels grid) (adjacent grid) keeps (grey picture)) p 0 below

  -- a picture has the greys of the opening of g by the triple t
  abbrev pub OpenedAt : Triple → (ℕ → ℕ) → List ℕ → Type 0
  OpenedAt t g picture = (p : ℕ) → p < pixels grid → grey picture p ≡ opened_by (pixels grid) (adjacent grid) (meets grid t) g p

  module _ (given : List ℕ) (call : Call) (named : accepted given call ≡ true → OnGrid grid call) (ok : accepted given call ≡ true) where
    -- an accepted call that names the grid hands on the opened picture
    handed_accepted : handed_on given call ≡ opened_picture grid (meets grid (step_triple call.step)) given
    unfolding accepted
    handed_accepted =
        handed_output given call ok
        ∙ output_accepted (given_to given call) (accepted_verdict (verdict given call) ok)
        ∙ ap (λ (named_grid : Grid). opened_picture named_grid (meets named_grid (step_triple call.step)) given) (named ok)

    -- it raises no grey
    handed_le : (p : ℕ) → p < pixels grid → grey (handed_on given call) p ≤ grey given p
    handed_le p below =
        rw
        (handed_accepted, opened_picture_at (meets grid (step_triple call.step)) given p below)
        (opened_le (pixels grid) (adjacent grid) (meets grid (step_triple call.step)) (grey given) p below)

    -- its picture has no more pixels than it may have
    handed_few : pixels grid ≤ most_pixels
    unfolding accepted
    handed_few =
        let passed = open_passed (given_to given call) (accepted_verdict (verdict given call) ok) in
        subst
        (λ (g : Grid). pixels g ≤ most_pixels)
        (named ok)
        (bounded call.grid.width call.grid.height passed.common.sides).small

    -- and takes an opening on to the largest value in each part
    handed_opened : (s : Triple) (g : ℕ → ℕ) → OpenedAt s g given → OpenedAt (join s (step_triple call.step)) g (handed_on given call)
    handed_opened s g at p below =
        let t : Triple = step_triple call.step in
        rw
        handed_accepted
        (opened_picture_at (meets grid t) given p below
        ∙ opened_after
        (pixels grid)
        (adjacent grid)
        (adjacent_symmetric grid)
        (meets grid s)
        (meets_up grid handed_few s)
        g
        (grey given)
        at
        (meets grid t)
        (meets_up grid handed_few t)
        p
        below
        ∙ opened_same
        (pixels grid)
        (adjacent grid)
        (keeps_both (meets grid s) (meets grid t))
        (meets grid (join s t))
        g
        (meets_join grid s t)
        p)

  -- a chain of calls opens by the largest values of their triples
  pub chain_opened : (s : Triple) (g : ℕ → ℕ) (given : List ℕ) (calls : List Call) → EachAccepted (OnGrid grid) given calls → OpenedAt s g given
      → OpenedAt (join s (largest_of (accepted_triples given calls))) g (chain_picture given calls)
  unfolding EachAccepted chain_picture accepted_steps largest_of
  chain_opened s g given [] named at = rw (join_zeros s) at
  chain_opened s g given (call ∷ rest) named at =
      cond_case
      (λ (steps : List Step). OpenedAt (join s (largest_of (map step_triple steps))) g (chain_picture (handed_on given call) rest))
      (accepted given call)
      (λ ok.
      subst
      (λ (t : Triple). OpenedAt t g (chain_picture (handed_on given call) rest))
      (join_assoc s (step_triple call.step) (largest_of (accepted_triples (handed_on given call) rest)))
      (chain_opened
      (join s (step_triple call.step))
      g
      (handed_on given call)
      rest
      named.1
      (handed_opened given call named.0 ok s g at)))
      (λ refused.
      chain_opened s g (handed_on given call) rest named.1 (rw (handed_refused given call refused) at))

  -- every fall is a true difference: the falls of a pixel and its grey in the chain's picture add up to the grey it had
  pub chain_falls_total : (given : List ℕ) (calls : List Call) → EachAccepted (OnGrid grid) given calls → (p : ℕ) → p < pixels grid
      → total (chain_falls given calls p) + grey (chain_picture given calls) p ≡ grey given p
  unfolding EachAccepted chain_picture chain_falls total
  chain_falls_total given [] named p below = omega arith
  chain_falls_total given (call ∷ rest) named p below =
      let on : total (chain_falls (handed_on given call) rest p) + grey (chain_picture (handed_on given call) rest) p
      ≡ grey (handed_on given call) p =
      chain_falls_total (handed_on given call) rest named.1 p below in
      cond_case
      (λ (l : List ℕ). total l + grey (chain_picture (handed_on given call) rest) p ≡ grey given p)
      (accepted given call)
      (λ ok. omega (arith, handed_le given call named.0 ok p below))
      (λ refused. omega (arith, ap (λ (l : List ℕ). grey l p) (handed_refused given call refused)))

  -- the falls of p along the openings of g, from the opening by s on
  abbrev pub opening_falls : Triple → List Triple → (ℕ → ℕ) → ℕ → List ℕ
  opening_falls s triples g p =
      falls_from
      (opened_by (pixels grid) (adjacent grid) (meets grid s) g p)
      (openings_by (pixels grid) (adjacent grid) (map (meets grid) triples) g p)

  -- where the triples rise, the falls of a pixel are those of its openings
  pub chain_falls_openings : (s : Triple) (g : ℕ → ℕ) (given : List ℕ) (calls : List Call) → EachAccepted (OnGrid grid) given calls
      → OpenedAt s g given → rising_triples s (accepted_triples given calls) ≡ true → (p : ℕ) → p < pixels grid
      → chain_falls given calls p ≡ opening_falls s (accepted_triples given calls) g p
  unfolding EachAccepted chain_falls accepted_steps falls_from rising_triples
  chain_falls_openings s g given [] named at up p below = refl
  chain_falls_openings s g given (call ∷ rest) named at up p below =
      go
      (accepted given call)
      refl
      up
      (λ k at_k rise. chain_falls_openings k g (handed_on given call) rest named.1 at_k rise p below)
    where
      t : Triple
      t = step_triple call.step

      next : List ℕ
      next = handed_on given call

      later : List Step
      later = accepted_steps next rest

      go : (b : Bool) → accepted given call ≡ b → rising_triples s (map step_triple (cond b (call.step ∷ later) later)) ≡ true
          → ((k : Triple) → OpenedAt k g next → rising_triples k (map step_triple later) ≡ true
          → chain_falls next rest p ≡ opening_falls k (map step_triple later) g p)
          → cond b ((grey given p - grey next p) ∷ chain_falls next rest p) (chain_falls next rest p)
          ≡ opening_falls s (map step_triple (cond b (call.step ∷ later) later)) g p
      go true ok rise go_on =
          let above = follows s t (and_left (may_follow s t) (rising_triples t (map step_triple later)) rise) in
          let at_t : OpenedAt t g next =
          subst (λ (k : Triple). OpenedAt k g next) (join_within s t above.no_fall) (handed_opened given call named.0 ok s g at) in
          cc (at p below, at_t p below, go_on t at_t (and_right (may_follow s t) (rising_triples t (map step_triple later)) rise))
      go false refused rise go_on = go_on s (rw (handed_refused given call refused) at) rise
