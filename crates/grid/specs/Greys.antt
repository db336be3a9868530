-- A picture in memory: the list of its greys by position.
use Rattle.std.specs.Prelude.{ℕ, List, get_or}

-- the grey of a position
abbrev pub grey : List ℕ → ℕ → ℕ
grey picture p = get_or picture p 0
