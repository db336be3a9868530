-- What the functions of the flood ask and leave, on the lists that they are lent.
use Rattle.std.specs.Prelude.{ℕ, ◌+◌, ◌<◌, true, List, ◌⊎◌, ◌≡◌, Option, Some, None, length}
use Rattle.grid.specs.Pixels.{pixels}
use Rattle.grid.specs.Neighbours.{adjacent}
use Rattle.grid.specs.declared.Grid.{Grid}
use Rattle.levels.specs.Levels.{grey, entry_sum}
use Rattle.levels.specs.Workspace.{Sized, number_at, closed_of, drop_of, up_of}
use Rattle.flooding.specs.Numbers.{Numbered}
use Rattle.queues.specs.Queues.{Lists, taken_of}
use Rattle.visits.specs.Visits.{met_count, Ready, Standing}

-- how many of the n pixels are met, and how far the heads have come
abbrev pub spent : ℕ → Lists → ℕ
spent n s = met_count n s.words + entry_sum s.heads 256

-- the words of a workspace that the flood of a picture leaves, which has m nodes
abbrev pub NumberedBy : Grid → List ℕ → List ℕ → ℕ → Type 0
NumberedBy grid picture ws m =
    let n = length picture in
    Numbered n (adjacent grid) (grey picture) (number_at ws) (up_of n ws) (closed_of n ws) (drop_of n ws) m

-- the flood stands at the pixel p, at the head of level l, and all its neighbours are met
pub record Leavable (grid : Grid) (picture : List ℕ) (s : Lists) (l p : ℕ) : Type 0 where
  pub stands : Standing grid picture s l p
  pub met : (x : ℕ) → x < length picture → adjacent grid p x ≡ true → number_at s.words x < length picture

-- the flood has ended, and r names no level
abbrev pub Ended : Grid → List ℕ → Lists → Option ℕ → Type 0
Ended grid picture s r = (r ≡ None) × NumberedBy grid picture s.words (taken_of s.opened)

-- that pixel is left: the flood goes on at the level that r names, or has ended
pub record Left (grid : Grid) (picture : List ℕ) (s s' : Lists) (r : Option ℕ) : Type 0 where
  pub outcome : ((l : ℕ) × (r ≡ Some l) × Ready grid picture s' l) ⊎ Ended grid picture s' r
  pub more : spent (length picture) s < spent (length picture) s'

-- a picture of the grid's pixels, with a pixel at least, and a workspace for it
pub record Floodable (grid : Grid) (picture ws : List ℕ) : Type 0 where
  pub sized : Sized (length picture) ws
  pub whole : length picture ≡ pixels grid
  pub wide : 0 < grid.width
  pub high : 0 < grid.height
