-- What writing a picture answers, and what the lent buffer then holds.
use Rattle.std.specs.Prelude.{ℕ, zero, suc, ◌+◌, ◌*◌, ◌/◌, ◌%◌, cond, List, [], ◌∷◌, ◌++◌, length, drop, leb, ltb, eqb, Result, Ok, Err}
use Rattle.causes.specs.declared.Cause.{Cause}
use Rattle.causes.specs.declared.Cause.TheVariants.{Sides, PictureLength, Maximum, Sample, Buffer}
use Rattle.causes.specs.Causes.{number_of, must}
use Rattle.causes.specs.Sides.{sides_fit}
use Rattle.pgm_values.specs.Values.{maximum_fits, all_at_most}
use Rattle.pgm_header.specs.Header.{sign, most_digits}

-- the digits of x, "with no leading zeros", for an x of at most k digits
unfoldable pub decimal : ℕ → ℕ → List ℕ
decimal zero x = []
decimal (suc k) x = cond (ltb x 10) ((48 + x) ∷ []) (decimal k (x / 10) ++ ((48 + x % 10) ∷ []))

-- the digits of a number that a header holds
abbrev pub digits_of : ℕ → List ℕ
digits_of x = decimal most_digits x

-- "P5, newline, width, blank, height, newline, maximum, newline, raster"
unfoldable pub pgm_file : List ℕ → ℕ → ℕ → ℕ → List ℕ
pgm_file picture width height maximum =
    sign ++ 10 ∷ digits_of width ++ 32 ∷ digits_of height ++ 10 ∷ digits_of maximum ++ 10 ∷ picture

-- the number of bytes, or the first cause that applies, in the order 1, 2, 10, 12, 7; room is the length of the lent buffer
unfoldable pub write_answer : List ℕ → ℕ → ℕ → ℕ → ℕ → Result ℕ Cause
write_answer picture width height maximum room =
    must Err (sides_fit width height) Sides
    (must Err (eqb (length picture) (width * height)) PictureLength
    (must Err (maximum_fits maximum) Maximum
    (must Err (all_at_most maximum picture) Sample
    (must Err (leb (length (pgm_file picture width height maximum)) room) Buffer
    (Ok (length (pgm_file picture width height maximum)))))))

-- "this paper's number and values": the number of an answer, 0 where nothing is refused, then its value
abbrev pub written_numbers : Result ℕ Cause → List ℕ
written_numbers (Ok total) = 0 ∷ total ∷ []
written_numbers (Err cause) = number_of cause ∷ []

-- the file at the start of the buffer, "bytes after them are untouched"; a refusal leaves the whole buffer as it was
abbrev pub buffer_with : Result ℕ Cause → List ℕ → List ℕ → List ℕ
buffer_with (Ok total) file buffer = file ++ drop total buffer
buffer_with (Err cause) file buffer = buffer

unfoldable pub buffer_after : List ℕ → ℕ → ℕ → ℕ → List ℕ → List ℕ
buffer_after picture width height maximum buffer =
    buffer_with (write_answer picture width height maximum (length buffer)) (pgm_file picture width height maximum) buffer
