-- What the pass over the own pixels asks and leaves, on the words that it is lent.
use Rattle.std.specs.Prelude.{ℕ, ◌+◌, ◌*◌, ◌≤◌, ◌<◌, List, ◌≡◌, get_or, length, set}
use Rattle.sets.specs.Gather.{first_in}
use Rattle.grid.specs.Pixels.{pixels}
use Rattle.grid.specs.declared.Grid.{Grid}
use Rattle.causes.specs.Bounds.{most_pixels}
use Rattle.levels.specs.Workspace.{Sized, number_at, numbered, lowest_of, up_of, held_of}
use Rattle.accumulators.specs.Accumulators.{nothing, seen, single, combined, gathered, Small, Capped, Short}

-- each of the n pixels of the grid has the number of one of m nodes, each node has a pixel, and rows and columns are short
pub record Countable (grid : Grid) (a n m : ℕ) (ws : List ℕ) : Type 0 where
  pub sized : Sized n ws
  pub few : m ≤ n
  pub whole : n ≡ pixels grid
  pub wide : 0 < grid.width
  pub high : 0 < grid.height
  pub short : (q : ℕ) → q < n → Short grid a q
  pub within : (q : ℕ) → q < n → number_at ws q < m
  pub some : (k : ℕ) → k < m → (q : ℕ) × (q < n) × (number_at ws q ≡ k)

-- the words of parts 1 to 3 and the parents' numbers are as they were
pub record Kept (n m : ℕ) (ws ws' : List ℕ) : Type 0 where
  pub words : length ws' ≡ length ws
  pub before : (k : ℕ) → k < 3 * n → get_or ws' k 0 ≡ get_or ws k 0
  pub ups : (k : ℕ) → k < m → up_of n ws' k ≡ up_of n ws k

-- among the words of the nodes: the accumulator of no pixel for each of m nodes; the parents' numbers are as they were
pub record Blank (a m : ℕ) (words words' : List ℕ) : Type 0 where
  pub long : length words' ≡ length words
  pub ups : (k : ℕ) → get_or words' (3 * k + 1) 0 ≡ get_or words (3 * k + 1) 0
  pub held : (k : ℕ) → k < m → get_or words' (3 * k + 2) 0 ≡ nothing a

-- the words of the nodes hold those of the node k; its accumulator and that of its own pixel q are small, and as areas together no more than the
-- top threshold
pub record Gatherable (a q k own : ℕ) (words : List ℕ) : Type 0 where
  pub within : 3 * k + 2 < length words
  pub pixel : q < most_pixels
  pub small : Small (get_or words (3 * k + 2) 0)
  pub small_own : Small own
  pub capped : Capped a (get_or words (3 * k + 2) 0 + own)

-- the words of the nodes once the own pixel q, whose accumulator is given, is added to the node k
abbrev pub gathered_at : ℕ → ℕ → ℕ → ℕ → List ℕ → List ℕ
gathered_at a q k own words = set (set words (3 * k) q) (3 * k + 2) (combined a (get_or words (3 * k + 2) 0) own)

-- the lowest own pixel of each of m nodes, and the accumulator of its own pixels, where a pixel's is the value
pub record GatheredBy (value : ℕ → ℕ) (a n m : ℕ) (ws ws' : List ℕ) : Type 0 where
  pub kept : Kept n m ws ws'
  pub lowest : (k : ℕ) → k < m → lowest_of n ws' k ≡ first_in n (numbered ws k)
  pub held : (k : ℕ) → k < m → held_of n ws' k ≡ gathered a n value (numbered ws k)

-- by what is seen of each pixel, before the frame is noted
abbrev pub Seen : Grid → ℕ → ℕ → ℕ → List ℕ → List ℕ → Type 0
Seen grid a n m ws ws' = GatheredBy (seen grid a) a n m ws ws'

-- and after
abbrev pub Owned : Grid → ℕ → ℕ → ℕ → List ℕ → List ℕ → Type 0
Owned grid a n m ws ws' = GatheredBy (single grid a) a n m ws ws'
