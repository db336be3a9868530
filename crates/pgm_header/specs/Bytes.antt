-- The bytes of a header, sorted by value into the header reader's next moves.
use Rattle.std.specs.Prelude.{ℕ, Bool, true, false, cond, ◌&&◌, ◌||◌, eqb, leb}
use Rattle.pgm_header.specs.declared.Move.{Move}
use Rattle.pgm_header.specs.declared.Move.TheVariants.{White, Digit, Comment, Foreign}

-- "White is 9, 10, 13 or 32."
abbrev pub is_white : ℕ → Bool
is_white b = eqb b 9 || eqb b 10 || eqb b 13 || eqb b 32

-- "0" to "9"
abbrev pub is_digit : ℕ → Bool
is_digit b = leb 48 b && leb b 57

-- "Each header byte is sorted by its value into white, digit, comment sign or foreign." The comment sign is #, 35.
unfoldable pub move_of : ℕ → Move
move_of b = cond (is_white b) White (cond (is_digit b) Digit (cond (eqb b 35) Comment Foreign))

-- what is due at a white byte, at a comment sign and at any other
abbrev pub by_move : {A : Type 0} → Move → A → A → A → A
by_move White white comment other = white
by_move Comment white comment other = comment
by_move Digit white comment other = other
by_move Foreign white comment other = other

abbrev pub white_move : Move → Bool
white_move White = true
white_move Digit = false
white_move Comment = false
white_move Foreign = false

abbrev pub digit_move : Move → Bool
digit_move White = false
digit_move Digit = true
digit_move Comment = false
digit_move Foreign = false

-- "a comment runs from # through the next 10 or 13"
abbrev pub ends_comment : ℕ → Bool
ends_comment b = eqb b 10 || eqb b 13
