-- What the pass over the frame asks and leaves, on the words that it is lent.
use Rattle.std.specs.Prelude.{ℕ, ◌+◌, ◌*◌, ◌<◌, cond, ◌&&◌, List, ◌≡◌, eqb, get_or, length, set}
use Rattle.sets.specs.Sets.{Positions, some_in}
use Rattle.grid.specs.Pixels.{pixels}
use Rattle.grid.specs.declared.Grid.{Grid}
use Rattle.levels.specs.Workspace.{Sized, number_at, numbered, lowest_of, up_of, held_of}
use Rattle.accumulators.specs.Accumulators.{framed}

-- the words of the nodes once the accumulator of the node k is marked
abbrev pub node_marked : ℕ → ℕ → List ℕ → List ℕ
node_marked a k words = set words (3 * k + 2) (framed a (get_or words (3 * k + 2) 0))

-- the pixels of a run: so many, each a step after the one before
abbrev pub run : ℕ → ℕ → ℕ → Positions
run from step count q = some_in count (λ (i : ℕ). eqb (from + i * step) q)

-- each of n pixels has the number of a node, and the pixels of the run are among them
pub record Markable (n from step count : ℕ) (ws : List ℕ) : Type 0 where
  pub sized : Sized n ws
  pub within : (q : ℕ) → q < n → number_at ws q < n
  pub inside : (i : ℕ) → i < count → from + i * step < n

-- each node with a pixel in s has its accumulator marked, and all other words are as they were
pub record Marked (a n : ℕ) (s : Positions) (ws ws' : List ℕ) : Type 0 where
  pub words : length ws' ≡ length ws
  pub before : (k : ℕ) → k < 3 * n → get_or ws' k 0 ≡ get_or ws k 0
  pub lowests : (k : ℕ) → lowest_of n ws' k ≡ lowest_of n ws k
  pub ups : (k : ℕ) → up_of n ws' k ≡ up_of n ws k
  pub held :
      (k : ℕ) → k < n
      → held_of n ws' k ≡ cond (some_in n (λ (q : ℕ). numbered ws k q && s q)) (framed a (held_of n ws k)) (held_of n ws k)

-- each of the n pixels of the grid has the number of a node
pub record Framable (grid : Grid) (n : ℕ) (ws : List ℕ) : Type 0 where
  pub sized : Sized n ws
  pub whole : n ≡ pixels grid
  pub wide : 0 < grid.width
  pub high : 0 < grid.height
  pub within : (q : ℕ) → q < n → number_at ws q < n
