-- Runs of a list of residues as the request has them, and what two maps hold at a pixel that are made of them.
use Rattle.std.specs.Prelude.{ℕ, suc, ◌-◌, ◌≤◌, ◌<◌, List, ◌≡◌, get_or, take, drop}
use Rattle.opening.specs.Residue.{total}

-- "two non-null residues at i and a later j, with only null ones between"
pub record Successive (rs : List ℕ) (i j : ℕ) : Type 0 where
  pub here : 0 < get_or rs i 0
  pub there : 0 < get_or rs j 0
  pub later : i < j
  pub between : (k : ℕ) → i < k → k < j → get_or rs k 0 ≡ 0

-- two of them "belong to one run if j less i is at most the gap"
abbrev pub Near : ℕ → ℕ → ℕ → Type 0
Near gap i j = j - i ≤ gap

-- and else to two
abbrev pub Apart : ℕ → ℕ → ℕ → Type 0
Apart gap i j = gap < j - i

-- a run, from its first residue at a to its last at b: two next to each other are near, and each residue that is not null and stands before a or
-- after b is apart from it
pub record Run (gap : ℕ) (rs : List ℕ) (a b : ℕ) : Type 0 where
  pub first : 0 < get_or rs a 0
  pub last : 0 < get_or rs b 0
  pub order : a ≤ b
  pub together : (i j : ℕ) → a ≤ i → j ≤ b → Successive rs i j → Near gap i j
  pub before : (i : ℕ) → i < a → 0 < get_or rs i 0 → Apart gap i a
  pub after : (j : ℕ) → b < j → 0 < get_or rs j 0 → Apart gap b j

-- its total
abbrev pub run_total : List ℕ → ℕ → ℕ → ℕ
run_total rs a b = total (take (suc b - a) (drop a rs))

-- "The map holds the largest run total; the index is the largest i + 1 of a non-null residue in a run attaining it, the largest among such
-- runs, or 0": the last residue of a run from a to b is that at b
pub record ByRuns (gap : ℕ) (rs : List ℕ) (residue index : ℕ) : Type 0 where
  pub most : (a b : ℕ) → Run gap rs a b → run_total rs a b ≤ residue
  pub attained : 0 < residue → (a : ℕ) × (b : ℕ) × Run gap rs a b × (run_total rs a b ≡ residue) × (index ≡ suc b)
  pub largest : (a b : ℕ) → Run gap rs a b → run_total rs a b ≡ residue → suc b ≤ index
  pub none : residue ≡ 0 → index ≡ 0
