-- The set of the open levels, kept as bits in four words.
use Rattle.std.specs.Prelude.{ℕ, ◌+◌, ◌/◌, ◌%◌, ◌^◌, ◌≤◌, ◌<◌, ◌≡◌, get_or}
use Rattle.queues.specs.declared.Opened.{Opened}

-- bit j of the word w
abbrev pub digit : ℕ → ℕ → ℕ
digit w j = (w / 2 ^ j) % 2

-- the bit of level k
abbrev pub mark : Opened → ℕ → ℕ
mark opened k = digit (get_or opened.levels (k / 64) 0) (k % 64)

-- the bit of a level is 1 where it is open and 0 where it is not
pub record Marked (n : ℕ) (opened : Opened) : Type 0 where
  pub open_set : (k : ℕ) → k < 256 → (get_or opened.numbers k 0 ≡ n → ⊥) → mark opened k ≡ 1
  pub closed_clear : (k : ℕ) → k < 256 → get_or opened.numbers k 0 ≡ n → mark opened k ≡ 0

-- the highest set bit of the word w is bit h
pub record Highest (w h : ℕ) : Type 0 where
  pub place : h < 64
  pub reached : 2 ^ h ≤ w
  pub beyond : w < 2 ^ (h + 1)
