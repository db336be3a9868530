-- What the visits ask and leave, on the lists that they are lent.
use Rattle.std.specs.Prelude.{ℕ, ◌≤◌, ◌<◌, true, false, ◌&&◌, ◌||◌, List, ◌⊎◌, ◌≡◌, Option, Some, None, eqb, ltb, get_or, length}
use Rattle.sets.specs.Sets.{Positions, count}
use Rattle.grid.specs.Pixels.{pixels}
use Rattle.grid.specs.Neighbours.{next_in_row, next_in_column, next_on_corner, adjacent}
use Rattle.grid.specs.declared.Grid.{Grid}
use Rattle.levels.specs.Levels.{grey}
use Rattle.levels.specs.Workspace.{Sized, number_at, order_of}
use Rattle.flooding.specs.Flooding.{Sound, At}
use Rattle.flooding.specs.Numbers.{Named}
use Rattle.queues.specs.Marks.{Marked}
use Rattle.queues.specs.Queues.{Lists, Whole, numbers_of, state_of}

-- the pixel at the head of level l
abbrev pub head_pixel : ℕ → Lists → ℕ → ℕ
head_pixel n s l = order_of n s.words (get_or s.heads l 0)

-- a pixel of n is met: it has a number
abbrev pub met_test : ℕ → List ℕ → Positions
met_test n ws q = ltb (number_at ws q) n

-- how many are
abbrev pub met_count : ℕ → List ℕ → ℕ
met_count n ws = count n (met_test n ws)

-- the flood of a picture stands at level l: the numbers stand for parents and roots, which are not stored, and those with the queues for a
-- state of the flood
pub record Ready (grid : Grid) (picture : List ℕ) (s : Lists) (l : ℕ) : Type 0 where
  pub bytes : (x : ℕ) → grey picture x < 256
  pub whole : length picture ≡ pixels grid
  pub wide : 0 < grid.width
  pub sized : Sized (length picture) s.words
  pub wide_heads : length s.heads ≡ 256
  pub wide_tails : length s.tails ≡ 256
  pub wide_opened : Whole s.opened
  pub marks : Marked (length picture) s.opened
  pub first : ℕ → ℕ
  pub par : ℕ → ℕ
  pub root : ℕ → ℕ
  pub named : Named (length picture) (grey picture) first par root (numbers_of (length picture) s.words s.opened)
  pub sound : Sound (length picture) (adjacent grid) (grey picture) (state_of (length picture) par root s)
  pub at : At (length picture) (state_of (length picture) par root s) l

-- p is the pixel at the head of level l, at which the flood stands
pub record Standing (grid : Grid) (picture : List ℕ) (s : Lists) (l p : ℕ) : Type 0 where
  pub ready : Ready grid picture s l
  pub here : head_pixel (length picture) s l ≡ p

-- the flood stands at the pixel p: it is at the head of the level of its grey
abbrev pub StandsAt : Grid → List ℕ → Lists → ℕ → Type 0
StandsAt grid picture s p = Standing grid picture s (grey picture p) p

-- q is a neighbour of p, at which the flood stands
pub record Visiting (grid : Grid) (picture : List ℕ) (s : Lists) (l p q : ℕ) : Type 0 where
  pub standing : Standing grid picture s l p
  pub within : q < length picture
  pub next : adjacent grid p q ≡ true

-- the pixel above p, left of it, right of it and below it, where there is one
abbrev pub above : Grid → ℕ → Positions
above grid p q = next_in_column grid.width q p

abbrev pub left_of : Grid → ℕ → Positions
left_of grid p q = next_in_row grid.width q p

abbrev pub right_of : Grid → ℕ → Positions
right_of grid p q = next_in_row grid.width p q

abbrev pub below : Grid → ℕ → Positions
below grid p q = next_in_column grid.width p q

-- a pixel on one of two sides
abbrev pub either_side : (Grid → ℕ → Positions) → (Grid → ℕ → Positions) → Grid → ℕ → Positions
either_side one other grid p q = one grid p q || other grid p q

abbrev pub beside : Grid → ℕ → Positions
beside = either_side left_of right_of

-- the pixels on the corners of p, in the row above and in the one below
abbrev pub corners_above : Grid → ℕ → Positions
corners_above grid p q = next_on_corner grid.width q p

abbrev pub corners_below : Grid → ℕ → Positions
corners_below grid p q = next_on_corner grid.width p q

-- those that are neighbours
abbrev pub corners : Grid → ℕ → Positions
corners grid p q = eqb grid.neighbours 8 && either_side corners_above corners_below grid p q

-- r is the only one of n pixels on a side, none where there is none
pub record Only (n : ℕ) (side : Positions) (r : Option ℕ) : Type 0 where
  pub one : (q : ℕ) → r ≡ Some q → side q ≡ true
  pub only : (x : ℕ) → x < n → side x ≡ true → r ≡ Some x

-- the pixels beside the base, where there is one
abbrev pub beside_at : Grid → Option ℕ → Positions
beside_at grid None x = false
beside_at grid (Some b) x = beside grid b x

-- b is a pixel, and those beside it are neighbours of p
pub record Based (grid : Grid) (picture : List ℕ) (p b : ℕ) : Type 0 where
  pub within : b < length picture
  pub near : (x : ℕ) → beside grid b x ≡ true → adjacent grid p x ≡ true

-- neighbours of the pixel p, at which the flood stood, were visited, and it stands at the pixel q; where that is p, those on the side named are
-- all met
pub record Visited (grid : Grid) (picture : List ℕ) (s s' : Lists) (p q : ℕ) (side : Positions) : Type 0 where
  pub stands : StandsAt grid picture s' q
  pub same_heads : s'.heads ≡ s.heads
  pub kept : (x : ℕ) → x < length picture → number_at s.words x < length picture → number_at s'.words x < length picture
  pub more : met_count (length picture) s.words ≤ met_count (length picture) s'.words
  pub raised : (q ≡ p → ⊥) → met_count (length picture) s.words < met_count (length picture) s'.words
  pub met : q ≡ p → (x : ℕ) → x < length picture → side x ≡ true → number_at s'.words x < length picture

-- the flood has moved from p to q, another pixel, on the side named
pub record Moved (grid : Grid) (picture : List ℕ) (s s' : Lists) (p q : ℕ) (side : Positions) : Type 0 where
  pub there : side q ≡ true
  pub away : q ≡ p → ⊥
  pub visited : Visited grid picture s s' p q side

-- the same by the answer r: none where the flood stays at p, else the pixel to which it has moved
pub record VisitedTo (grid : Grid) (picture : List ℕ) (s s' : Lists) (r : Option ℕ) (p : ℕ) (side : Positions) : Type 0 where
  pub stayed : r ≡ None → Visited grid picture s s' p p side
  pub went : (q : ℕ) → r ≡ Some q → Moved grid picture s s' p q side

-- every neighbour of p is met, but for the one on the side named
abbrev pub MetBut : Grid → List ℕ → Lists → ℕ → Positions → Type 0
MetBut grid picture s p side =
    (x : ℕ) → x < length picture → adjacent grid p x ≡ true → (side x ≡ true) ⊎ (number_at s.words x < length picture)

-- all neighbours of p were visited, until the flood moved
abbrev pub VisitedAround : Grid → List ℕ → Lists → Lists → ℕ → Option ℕ → Type 0
VisitedAround grid picture s s' p r = VisitedTo grid picture s s' r p (adjacent grid p)
