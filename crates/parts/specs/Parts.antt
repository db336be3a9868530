-- A part of a list that is filled with one word.
use Rattle.std.specs.Prelude.{ℕ, ◌-◌, List, ◌++◌, take, drop, replicate}

-- the list with v in the entries from a up to e
abbrev pub filled : ℕ → ℕ → ℕ → List ℕ → List ℕ
filled a e v xs = take a xs ++ (replicate (e - a) v ++ drop e xs)
