-- What loading a file promises: no more bytes than there is room for.
use Rattle.std.specs.Prelude.{ℕ, ◌≤◌, Option, Some, None}

abbrev pub loaded_within : Option ℕ → ℕ → Type 0
loaded_within (Some count) room = count ≤ room
loaded_within None room = Unit {0}
