-- The passes, on the words that they are lent: the words of the nodes, of which there are as many as `nodes` says, and the numbers of
-- the pixels' nodes, which they leave as they are. What the nodes hold stands by number in the third part and the last; until a node is settled
-- the third part has its place word.
use Rattle.std.specs.Prelude.{ℕ, ◌+◌, ◌-◌, ◌*◌, ◌≤◌, ◌<◌, List, ◌≡◌, length, get_or}
use Rattle.sets.specs.Sets.{member}
use Rattle.opening.specs.Opening.{Keeps}
use Rattle.opening.specs.Node.{node}
use Rattle.opening.specs.Residue.{Narrowing, residue_by, index_by}
use Rattle.grid.specs.Pixels.{pixels}
use Rattle.grid.specs.Neighbours.{adjacent}
use Rattle.grid.specs.Greys.{grey}
use Rattle.grid.specs.declared.Grid.{Grid}
use Rattle.falls.specs.Falls.{outlasted}
use Rattle.causes.specs.Bounds.{words_a_pixel, most_steps, most_gap}
use Rattle.levels.specs.Workspace.{number_at, closed_of, drop_of, lowest_of, up_of}
use Rattle.flooding.specs.Numbers.{Drops, ClosingOrder}
use Rattle.numbers.specs.Nodes.{NodesOf}
use Rattle.places.specs.Places.{place_at}
use Rattle.map_passes.specs.Settle.{total_in, index_in, own_in, place_of, run_word, pair_word, run_at, pair_at, stored}

-- numbers that a climb can go by: each pixel's node has one, and each node's parent, which lies below it by the node's drop
pub record Climbing (n nodes : ℕ) (num level up closed drop : ℕ → ℕ) : Type 0 where
  pub few : nodes ≤ n
  pub within : (q : ℕ) → q < n → num q < nodes
  pub ups : (k : ℕ) → k < nodes → up k < nodes
  pub byte : (k : ℕ) → k < nodes → level k < 256
  pub order : ClosingOrder nodes up closed
  pub drops : Drops nodes level up closed drop

-- they stand in a workspace
abbrev pub Climbable : ℕ → ℕ → (ℕ → ℕ) → List ℕ → Type 0
Climbable n nodes level ws = Climbing n nodes (number_at ws) level (up_of n ws) (closed_of n ws) (drop_of n ws)

-- what the pass over the nodes is given, for as many steps as `count` says; the levels of the nodes are not stored
pub record Given (n nodes gap count : ℕ) (ws : List ℕ) : Type 0 where
  pub few : count ≤ most_steps
  pub small_gap : gap ≤ most_gap
  pub ws_size : length ws ≡ words_a_pixel * n
  pub level : ℕ → ℕ
  pub climb : Climbable n nodes level ws

-- the place of the step at which the node of number k falls
abbrev pub fall_at : ℕ → ℕ → List ℕ → ℕ → ℕ
fall_at n count ws k = place_of count k (up_of n ws k) (place_at n ws k)

-- what settling the node closed at place i needs
pub record Visitable (n gap count : ℕ) (ws : List ℕ) (i : ℕ) : Type 0 where
  pub few : count ≤ most_steps
  pub small_gap : gap ≤ most_gap
  pub ws_size : length ws ≡ words_a_pixel * n
  pub place : i < n
  pub number : closed_of n ws i < n
  pub up : up_of n ws (closed_of n ws i) < n
  pub byte :
      fall_at n count ws (closed_of n ws i) < count
      → drop_of n ws i + total_in (own_in (run_at n ws (up_of n ws (closed_of n ws i)))) < 256

-- the words after it is settled
abbrev pub visited_at : ℕ → ℕ → ℕ → List ℕ → ℕ → List ℕ
visited_at n gap count ws i =
    let k = closed_of n ws i in
    let above = up_of n ws k in
    stored
    n
    k
    (run_word count gap (fall_at n count ws k) (drop_of n ws i) (run_at n ws above))
    (pair_word count gap (fall_at n count ws k) (drop_of n ws i) (run_at n ws above) (pair_at n ws above))
    ws

-- the node of number k, which falls at its place among m steps, is settled: it holds what follows from what its parent holds. The total of
-- its run is at most its level, and its pair has 16 bits.
pub record Settled (m gap : ℕ) (place level up run pair : ℕ → ℕ) (k : ℕ) : Type 0 where
  pub runs : run k ≡ run_word m gap (place k) (level k - level (up k)) (run (up k))
  pub pairs : pair k ≡ pair_word m gap (place k) (level k - level (up k)) (run (up k)) (pair (up k))
  pub low : total_in (own_in (run k)) ≤ level k
  pub fits : pair k < 65536

-- the words outside the third part and the last are as they were
pub record Kept (n : ℕ) (ws ws' : List ℕ) : Type 0 where
  pub words : length ws' ≡ length ws
  pub front : (x : ℕ) → x < 2 * n → get_or ws' x 0 ≡ get_or ws x 0
  pub middle : (x : ℕ) → 3 * n ≤ x → x < 6 * n → get_or ws' x 0 ≡ get_or ws x 0

-- the nodes from place i of the order of closing on are settled, whichever levels have these drops, and the words by which the pass goes
-- are as they were, the place words of the nodes before place i too
pub record SettledFrom (n nodes gap count : ℕ) (ws ws' : List ℕ) (i : ℕ) : Type 0 where
  pub kept : Kept n ws ws'
  pub places : (j : ℕ) → j < i → place_at n ws' (closed_of n ws j) ≡ place_at n ws (closed_of n ws j)
  pub done :
      (level : ℕ → ℕ) → Climbable n nodes level ws → (j : ℕ) → i ≤ j → j < nodes
      → Settled count gap (fall_at n count ws) level (up_of n ws) (run_at n ws') (pair_at n ws') (closed_of n ws j)

-- the pair of the node of q
abbrev pub pair_for : ℕ → List ℕ → ℕ → ℕ
pair_for n ws q = pair_at n ws (number_at ws q)

-- pairs by position are right for a picture on a grid, under the openings by these tests: they hold what both maps hold there
abbrev pub RightPairs : Grid → List Keeps → ℕ → List ℕ → (ℕ → ℕ) → Type 0
RightPairs grid tests gap picture pair =
    (q : ℕ) → q < pixels grid
    → (total_in (pair q) ≡ residue_by (pixels grid) (adjacent grid) tests gap (grey picture) q)
    × (index_in (pair q) ≡ index_by (pixels grid) (adjacent grid) tests gap (grey picture) q)

-- what the pass over the pixels needs: each pixel's node has a number, and its pair 16 bits
pub record Holdable (n : ℕ) (ws : List ℕ) (pairs : ℕ) : Type 0 where
  pub ws_size : length ws ≡ words_a_pixel * n
  pub pairs_size : pairs ≡ n
  pub within : (q : ℕ) → q < n → number_at ws q < n
  pub fits : (q : ℕ) → q < n → pair_for n ws q < 65536

-- what the pass over the nodes leaves, where the words are those of the nodes of a picture on any grid under any of the attributes, and
-- each place word is how many of as many tests as `count` says, which get narrower, its node outlasts
pub record Paired (picture : List ℕ) (count gap nodes : ℕ) (ws ws' : List ℕ) : Type 0 where
  pub kept : Kept (length picture) ws ws'
  pub holdable : Holdable (length picture) ws' (length picture)
  pub right :
      (grid : Grid) (a : ℕ) → 1 ≤ grid.width → length picture ≡ pixels grid → NodesOf grid a picture ws nodes
      → (wide : Keeps) (tests : List Keeps) → Narrowing (pixels grid) wide tests → length tests ≡ count
      → ((k : ℕ) → k < nodes
      → place_at (length picture) ws k ≡ outlasted (member (node (pixels grid) (adjacent grid) (grey picture) (lowest_of (length picture) ws k))) tests)
      → RightPairs grid tests gap picture (pair_for (length picture) ws')
