-- The pass over the nodes as a whole: every pixel finds the pair of its node, which holds what the definition says of the grid's pictures.
use Prim.Native.Nat.{ℕ, ◌≤◌, ◌<◌}
use mathlib.Core.List.{List}
use mathlib.Core.Path.{◌≡◌, refl, subst, ◌∙◌}
use native.Mathlib.Omega.{arith}
use lib.ListN.{length}
use Rattle.sets.specs.Sets.{member}
use Rattle.opening.specs.Opening.{least_grey, Keeps}
use Rattle.opening.specs.Node.{node}
use Rattle.opening.specs.Residue.{Narrowing}
use Rattle.grid.specs.Pixels.{pixels}
use Rattle.grid.specs.Neighbours.{adjacent}
use Rattle.grid.specs.Greys.{grey}
use Rattle.grid.specs.declared.Grid.{Grid}
use Rattle.grid.proofs.Attributes.{adjacent_symmetric}
use Rattle.grid.proofs.Whole.{grid_whole}
use Rattle.tree.proofs.Together.{Together}
use Rattle.falls.specs.Falls.{outlasted}
use Rattle.levels.specs.Workspace.{lowest_of, up_of}
use Rattle.numbers.specs.Nodes.{NodesOf}
use Rattle.places.specs.Places.{place_at}
use Rattle.map_passes.specs.Settle.{run_at, pair_at}
use Rattle.map_passes.specs.Passes.{Climbable, Given, fall_at, Settled, SettledFrom, pair_for, RightPairs, Holdable, Paired}
use Rattle.map_passes.proofs.Climbing.{nodes_climbable}
use Rattle.map_passes.proofs.Keeping.{kept_number}
use Rattle.map_passes.proofs.Right.{places_right, pair_right}

module _ {n nodes gap count : ℕ} {ws ws' : List ℕ} (prog : SettledFrom n nodes gap count ws ws' 0) where
  -- at the end every node is settled
  settled_all : {level : ℕ → ℕ} → Climbable n nodes level ws → (k : ℕ) → k < nodes
      → Settled count gap (fall_at n count ws) level (up_of n ws) (run_at n ws') (pair_at n ws') k
  settled_all {level} climb k b =
      let (j, l, e) = climb.order.place k b in
      subst
      (Settled count gap (fall_at n count ws) level (up_of n ws) (run_at n ws') (pair_at n ws'))
      e
      (prog.done level climb j (omega arith) l)

  -- the pass over the pixels finds the numbers as they were
  passes_hold : Given n nodes gap count ws → Holdable n ws' n
  passes_hold given = record {
    ws_size = prog.kept.words ∙ given.ws_size;
    pairs_size = refl;
    within = λ q b. rw (kept_number prog.kept q b) (omega (arith, given.climb.within q b, given.climb.few));
    fits = λ q b. rw (kept_number prog.kept q b) (settled_all given.climb _ (given.climb.within q b)).fits;
  }

-- on a grid the pairs are right
module _ (grid : Grid) (a : ℕ) (picture : List ℕ) (wide_grid : 1 ≤ grid.width) {nodes gap count : ℕ} {ws ws' : List ℕ}
    (size : length picture ≡ pixels grid) (given : Given (length picture) nodes gap count ws)
    (prog : SettledFrom (length picture) nodes gap count ws ws' 0) (N : NodesOf grid a picture ws nodes) (bytes : (q : ℕ) → grey picture q < 256) where
  pairs_right : (wide : Keeps) (tests : List Keeps) → Narrowing (pixels grid) wide tests → length tests ≡ count
      → ((k : ℕ) → k < nodes
      → place_at (length picture) ws k ≡ outlasted (member (node (pixels grid) (adjacent grid) (grey picture) (lowest_of (length picture) ws k))) tests)
      → RightPairs grid tests gap picture (pair_for (length picture) ws')
  pairs_right wide tests narrow number outlasts q inside =
      let b : q < length picture = rw size inside in
      let narrow_here : Narrowing (length picture) wide tests = rw size narrow in
      let whole : (p q : ℕ) → p < length picture → q < length picture
      → Together (length picture) (adjacent grid) (grey picture) (least_grey (length picture) (grey picture)) p q =
      rw size (grid_whole grid wide_grid (grey picture)) in
      let places =
      places_right (adjacent_symmetric grid) N whole wide tests narrow_here (place_at (length picture) ws) (λ k l. rw (← size) at (outlasts k l)) in
      let right =
      pair_right
      (adjacent_symmetric grid)
      N
      whole
      wide
      tests
      narrow_here
      number
      given.few
      given.small_gap
      (λ k l. rw (← number) (places k l))
      bytes
      (settled_all prog (nodes_climbable N bytes))
      q
      b in
      rw (kept_number prog.kept q b, ← size) right

-- what the pass over the nodes leaves
pub pairs_settled : {gap nodes count : ℕ} {picture ws ws' : List ℕ} → Given (length picture) nodes gap count ws
    → SettledFrom (length picture) nodes gap count ws ws' 0 → ((q : ℕ) → grey picture q < 256) → Paired picture count gap nodes ws ws'
pairs_settled {picture = picture} given prog bytes = record {
  kept = prog.kept;
  holdable = passes_hold prog given;
  right = λ grid a wide size N. pairs_right grid a picture wide size given prog N bytes;
}
