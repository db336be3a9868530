-- The accumulator of an attribute: one word for a set of pixels, from which the attribute is read. For the area it is the number
-- of pixels, for the height (width) the greatest and the least row (column), each below the longest side. Of a set with a pixel on the
-- frame the area is the top threshold, and the greatest row (column) is the longest side.
use Rattle.std.specs.Prelude.{ℕ, ◌+◌, ◌-◌, ◌*◌, ◌/◌, ◌%◌, ◌≤◌, ◌<◌, min, max, true, false, cond, ◌≡◌, eqb, ltb}
use Rattle.sets.specs.Sets.{Positions}
use Rattle.sets.specs.Gather.{gather}
use Rattle.grid.specs.Attributes.{side, on_frame}
use Rattle.grid.specs.declared.Grid.{Grid}
use Rattle.causes.specs.Bounds.{longest_side, top_threshold}

-- the greatest and the least in one word
abbrev pub packed : ℕ → ℕ → ℕ
packed last first = last * longest_side + first

-- of no pixel
unfoldable pub nothing : ℕ → ℕ
nothing a = cond (eqb a 1) 0 (packed 0 (longest_side - 1))

-- of one pixel, by its row (column)
abbrev pub lone : ℕ → ℕ → ℕ
lone a i = cond (eqb a 1) 1 (packed i i)

-- of one pixel, by what is seen of it
unfoldable pub seen : Grid → ℕ → ℕ → ℕ
seen grid a q = lone a (side grid.width a q)

-- x, once the set has a pixel on the frame
unfoldable pub framed : ℕ → ℕ → ℕ
framed a x = cond (eqb a 1) top_threshold (packed longest_side (x % longest_side))

-- of one pixel
unfoldable pub single : Grid → ℕ → ℕ → ℕ
single grid a q = cond (on_frame grid q) (framed a (seen grid a q)) (seen grid a q)

-- of two sets that do not meet; areas stop at the top threshold
unfoldable pub combined : ℕ → ℕ → ℕ → ℕ
combined a x y =
    cond
    (eqb a 1)
    (min (x + y) top_threshold)
    (packed (max (x / longest_side) (y / longest_side)) (min (x % longest_side) (y % longest_side)))

-- the attribute
unfoldable pub measured : ℕ → ℕ → ℕ
measured a x =
    cond (eqb a 1) x (cond (ltb (x / longest_side) longest_side) (x / longest_side - x % longest_side + 1) top_threshold)

-- the accumulator of s, whose pixels have the accumulators v
abbrev pub gathered : ℕ → ℕ → (ℕ → ℕ) → Positions → ℕ
gathered a n v s = gather n (combined a) (nothing a) v s

-- an accumulator is less than this
abbrev pub Small : ℕ → Type 0
Small x = x < longest_side * (longest_side + 1)

-- an area is at most the top threshold
abbrev pub Capped : ℕ → ℕ → Type 0
Capped a x = eqb a 1 ≡ true → x ≤ top_threshold

-- the row (column) of a pixel is below the longest side
abbrev pub Short : Grid → ℕ → ℕ → Type 0
Short grid a q = side grid.width a q < longest_side

-- the least is at most the greatest
abbrev pub InOrder : ℕ → ℕ → Type 0
InOrder a x = eqb a 1 ≡ false → x % longest_side ≤ x / longest_side
