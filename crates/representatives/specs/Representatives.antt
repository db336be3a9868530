-- What the pass that writes the record asks and leaves, on the words that it is lent: part 1 receives the parent words, part 2 the attribute
-- words and part 3 the representatives in order of position.
use Rattle.std.specs.Prelude.{ℕ, ◌+◌, ◌*◌, ◌≤◌, ◌<◌, cond, List, ◌≡◌, eqb, get_or, length, set}
use Rattle.sets.specs.Sets.{Positions, count}
use Rattle.tree.specs.Listing.{Listed}
use Rattle.levels.specs.Workspace.{Sized, order_of, number_at, lowest_of, up_of, held_of}

-- each of n pixels has the number of one of the nodes, whose lowest own pixel it is not below, and each of the nodes that of its parent
pub record Representable (n : ℕ) (ws : List ℕ) : Type 0 where
  pub sized : Sized n ws
  pub nodes : ℕ
  pub few : nodes ≤ n
  pub within : (q : ℕ) → q < n → number_at ws q < nodes
  pub low : (q : ℕ) → q < n → lowest_of n ws (number_at ws q) ≤ q
  pub ups : (k : ℕ) → k < nodes → up_of n ws k < nodes

-- q is the lowest own pixel of its node
abbrev pub is_lowest : ℕ → List ℕ → Positions
is_lowest n ws q = eqb (lowest_of n ws (number_at ws q)) q

-- the words of the record in terms of the words of the nodes
abbrev pub new_parent : ℕ → List ℕ → ℕ → ℕ
new_parent n ws q =
    cond (is_lowest n ws q) (lowest_of n ws (up_of n ws (number_at ws q))) (lowest_of n ws (number_at ws q))

abbrev pub new_attribute : ℕ → List ℕ → ℕ → ℕ
new_attribute n ws q = cond (is_lowest n ws q) (held_of n ws (number_at ws q)) 0

-- the number of q and that of its parent are those of nodes, and there is room in part 3
pub record Writable (n q listed : ℕ) (ws : List ℕ) : Type 0 where
  pub sized : Sized n ws
  pub within : q < n
  pub room : listed < n
  pub number : number_at ws q < n
  pub low : lowest_of n ws (number_at ws q) ≤ q
  pub up : up_of n ws (number_at ws q) < n

-- the workspace once the words of q are written, and q is put at the end of the list
abbrev pub written_at : ℕ → ℕ → ℕ → List ℕ → List ℕ
written_at n q listed ws =
    set (set (set ws q (new_parent n ws q)) (n + q) (new_attribute n ws q)) (2 * n + listed) q

-- they stand in parts 1 and 2, and the representatives in part 3, in order of position: to a list of one level
pub record Represented (n : ℕ) (ws ws' : List ℕ) (nodes : ℕ) : Type 0 where
  pub words : length ws' ≡ length ws
  pub parents : (q : ℕ) → q < n → get_or ws' q 0 ≡ new_parent n ws q
  pub attributes : (q : ℕ) → q < n → get_or ws' (n + q) 0 ≡ new_attribute n ws q
  pub order : Listed n nodes (λ (q : ℕ). 0) (is_lowest n ws) (order_of n ws')
  pub number : nodes ≡ count n (is_lowest n ws)
