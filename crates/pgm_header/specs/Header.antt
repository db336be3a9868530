-- The header of a picture, read from a position on in the order of the Netpbm page. The parts are numbered as they stand in its list: 1. the
-- sign, 2. white, 3. the width, 4. white, 5. the height, 6. white, 7. the maximum, 8. one white byte, and then 9. the raster.
use Rattle.std.specs.Prelude.{ℕ, suc, ◌+◌, ◌*◌, ◌-◌, Bool, true, false, not, cond, ◌&&◌, List, [], ◌∷◌, length, get_or, drop, leb, ltb, eqb, Option, Some, None}
use Rattle.pgm_header.specs.Bytes.{move_of, by_move, white_move, digit_move, ends_comment}
use Rattle.pgm_header.specs.declared.Number.{Number}
use Rattle.pgm_header.specs.declared.Header.{Header}

-- 1. "The file starts with the two bytes "P5"."
abbrev pub sign : List ℕ
sign = 80 ∷ 53 ∷ []

abbrev pub starts_with_sign : List ℕ → Bool
starts_with_sign file = leb (length sign) (length file) && (eqb (get_or file 0 0) (get_or sign 0 0) && eqb (get_or file 1 0) (get_or sign 1 0))

-- "A gap starts with a white byte and goes on over white bytes and comments; a comment runs from # through the next 10 or 13."
-- How many bytes of s belong to a gap that is under way; inside says whether s starts inside a comment
unfoldable pub gap_length : Bool → List ℕ → ℕ
gap_length inside [] = 0
gap_length true (b ∷ s) = suc (gap_length (not (ends_comment b)) s)
gap_length false (b ∷ s) = by_move (move_of b) (suc (gap_length false s)) (suc (gap_length true s)) 0

-- whether a white byte stands at a position
abbrev pub white_at : List ℕ → ℕ → Bool
white_at file at = ltb at (length file) && white_move (move_of (get_or file at 0))

-- how many digits s starts with
unfoldable pub digit_count : List ℕ → ℕ
digit_count [] = 0
digit_count (b ∷ s) = cond (digit_move (move_of b)) (suc (digit_count s)) 0

-- the decimal number of the digits that s starts with, after digits of the value v
unfoldable pub decimal_value : ℕ → List ℕ → ℕ
decimal_value v [] = v
decimal_value v (b ∷ s) = cond (digit_move (move_of b)) (decimal_value (v * 10 + (b - 48)) s) v

-- a number that ends at a position after count digits
abbrev pub finished_number : ℕ → ℕ → ℕ → Option Number
finished_number value count at = cond (eqb count 0) None (Some (record { value = value; end = at }))

-- the most digits of a number
abbrev pub most_digits : ℕ
most_digits = 7

-- 3., 5., 7. "A number has 1 to 7 digits, leading zeros allowed." Its value, and the position after it
unfoldable pub number_at : List ℕ → ℕ → Option Number
number_at file at =
    cond
    (leb (digit_count (drop at file)) most_digits)
    (finished_number (decimal_value 0 (drop at file)) (digit_count (drop at file)) (at + digit_count (drop at file)))
    None

-- 2., 4., 6. a gap, and where it ends
unfoldable pub gap_at : List ℕ → ℕ → Option ℕ
gap_at file at = cond (white_at file at) (Some (at + gap_length false (drop at file))) None

-- A step hands on where its part ends, that of a number also the value; where it does not find its part, the header is broken
abbrev pub gap_then : Option ℕ → (ℕ → Option Header) → Option Header
gap_then (Some end) next = next end
gap_then None next = None

abbrev pub number_then : Option Number → (ℕ → ℕ → Option Header) → Option Header
number_then (Some number) next = next number.value number.end
number_then None next = None

-- 8. "exactly one white byte"
abbrev pub one_white_then : List ℕ → ℕ → (ℕ → Option Header) → Option Header
one_white_then file at next = cond (white_at file at) (next (at + 1)) None

-- "Then a gap, width, gap, height, gap, maximum grey, exactly one white byte": the header of a picture whose sign ends at a position
unfoldable pub header_at : List ℕ → ℕ → Option Header
header_at file at =
    -- 2. "Whitespace"
    gap_then (gap_at file at) (λ width_start.
    -- 3. "A width"
    number_then (number_at file width_start) (λ width width_end.
    -- 4. "Whitespace"
    gap_then (gap_at file width_end) (λ height_start.
    -- 5. "A height"
    number_then (number_at file height_start) (λ height height_end.
    -- 6. "Whitespace"
    gap_then (gap_at file height_end) (λ maximum_start.
    -- 7. "The maximum gray value"
    number_then (number_at file maximum_start) (λ maximum maximum_end.
    -- 8. "A single whitespace character"
    one_white_then file maximum_end (λ start.
    Some (record { width = width; height = height; maximum = maximum; start = start }))))))))
