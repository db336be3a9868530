-- The workspace: the words that a call is lent for its work, in parts of n words each, for a picture of n pixels.
use Rattle.std.specs.Prelude.{ℕ, ◌+◌, ◌*◌, ◌/◌, ◌%◌, ◌≤◌, List, ◌≡◌, eqb, get_or, length}
use Rattle.sets.specs.Sets.{Positions}
use Rattle.causes.specs.Bounds.{most_pixels, words_a_pixel}

-- a workspace with its words for each of n pixels, which are not too many
pub record Sized (n : ℕ) (ws : List ℕ) : Type 0 where
  pub words : length ws ≡ words_a_pixel * n
  pub small : n ≤ most_pixels

-- part 3 holds the queues, for each level a run with the pixels that wait, and then the list of the representatives
abbrev pub order_of : ℕ → List ℕ → ℕ → ℕ
order_of n ws i = get_or ws (2 * n + i) 0

-- while the tree is built, part 1 holds the number of each pixel's node, and part 2 a word for each node in the order of closing: its
-- number × 256 + its drop
abbrev pub number_at : List ℕ → ℕ → ℕ
number_at ws q = get_or ws q 0

-- the own pixels of the node of number k
abbrev pub numbered : List ℕ → ℕ → Positions
numbered ws k q = eqb (number_at ws q) k

abbrev pub closed_of : ℕ → List ℕ → ℕ → ℕ
closed_of n ws i = get_or ws (n + i) 0 / 256

-- the drop of the node closed at place i: how far its level lies above its parent's, 0 for the root
abbrev pub drop_of : ℕ → List ℕ → ℕ → ℕ
drop_of n ws i = get_or ws (n + i) 0 % 256

-- the words of a node stand together in parts 4 to 6, three at 3n + 3 × number: its lowest own pixel, its parent's number, its accumulator
abbrev pub lowest_of : ℕ → List ℕ → ℕ → ℕ
lowest_of n ws k = get_or ws (3 * n + 3 * k) 0

abbrev pub up_of : ℕ → List ℕ → ℕ → ℕ
up_of n ws k = get_or ws (3 * n + 3 * k + 1) 0

abbrev pub held_of : ℕ → List ℕ → ℕ → ℕ
held_of n ws k = get_or ws (3 * n + 3 * k + 2) 0
