-- What reading a file answers for the picture of a number: that picture, or the first cause that applies. Each picture of the file is
-- judged, in the order 8, 9, 10, 1, 11, 12, and then the number, 18.
use Rattle.std.specs.Prelude.{ℕ, zero, suc, ◌+◌, ◌*◌, ◌-◌, cond, ◌&&◌, List, [], ◌∷◌, length, get_or, take, drop, leb, ltb, Option, Some, None, Result, Ok, Err}
use Rattle.std.specs.declared.ops.Range.{Range}
use Rattle.causes.specs.declared.Cause.{Cause}
use Rattle.causes.specs.declared.Cause.TheVariants.{Sides, Sign, Header as BadHeader, Maximum, RasterLength, Sample, PictureNumber}
use Rattle.causes.specs.Causes.{number_of, must}
use Rattle.causes.specs.Sides.{sides_fit}
use Rattle.pgm_values.specs.Values.{maximum_fits, all_at_most}
use Rattle.pgm_header.specs.Header.{sign, starts_with_sign, header_at}
use Rattle.pgm_header.specs.declared.Header.{Header}
use Rattle.pgm_read.specs.declared.Picture.{Picture}
use Rattle.pgm_read.specs.declared.Located.{Located}

-- an answer that is a picture, by its values
abbrev pub found_picture : ℕ → ℕ → ℕ → ℕ → Result Picture Cause
found_picture width height maximum start = Ok (record { width = width; height = height; maximum = maximum; start = start })

-- a whole header and 9., the raster, judged: the maximum, the sides, the number of raster bytes ("a raster cut short stays 11"), the samples
unfoldable pub judged : List ℕ → Option Header → Result Picture Cause
judged file None = Err BadHeader
judged file (Some h) =
    must Err (maximum_fits h.maximum) Maximum
    (must Err (sides_fit h.width h.height) Sides
    (must Err (leb (h.width * h.height) (length file - h.start)) RasterLength
    (must Err (all_at_most h.maximum (take (h.width * h.height) (drop h.start file))) Sample
    (found_picture h.width h.height h.maximum h.start))))

-- the picture that starts at a position: 1. the sign, 2. to 8. the header after it, 9. the raster
unfoldable pub picture_at : List ℕ → ℕ → Result Picture Cause
picture_at file at = must Err (starts_with_sign (drop at file)) Sign (judged file (header_at file (at + length sign)))

-- "bytes after it must be a further picture": what follows a picture. No picture is looked for after a faulty one
abbrev pub after_picture : List ℕ → (ℕ → List (Result Picture Cause)) → Result Picture Cause → List (Result Picture Cause)
after_picture file further (Ok p) =
    cond (ltb (p.start + p.width * p.height) (length file)) (further (p.start + p.width * p.height)) []
after_picture file further (Err cause) = []

-- "several pictures end to end": the pictures from a position on, k of them at most
unfoldable pub pictures_from : ℕ → List ℕ → ℕ → List (Result Picture Cause)
pictures_from zero file at = []
pictures_from (suc k) file at = picture_at file at ∷ after_picture file (pictures_from k file) (picture_at file at)

-- all pictures of a file: since each has some bytes, there are no more of them than bytes, and in an empty file one, which is faulty
abbrev pub pictures : List ℕ → List (Result Picture Cause)
pictures file = pictures_from (suc (length file)) file 0

-- "the first faulty picture gives the number", and an answer stands if none is faulty
unfoldable pub unless_faulty : List (Result Picture Cause) → Result Picture Cause → Result Picture Cause
unless_faulty [] answer = answer
unless_faulty (Err cause ∷ rest) answer = Err cause
unless_faulty (Ok p ∷ rest) answer = unless_faulty rest answer

-- the picture that has a number "from 1 up", else "18, picture number 0 or above the count, after 12 of the last picture"
unfoldable pub read_answer : List ℕ → ℕ → Result Picture Cause
read_answer file number =
    unless_faulty (pictures file)
    (must Err (leb 1 number && leb number (length (pictures file))) PictureNumber
    (get_or (pictures file) (number - 1) (Err PictureNumber)))

-- "this paper's number and values": the number of an answer, 0 where nothing is refused, then its values
abbrev pub found_numbers : Result Picture Cause → List ℕ
found_numbers (Ok p) = 0 ∷ p.width ∷ p.height ∷ p.maximum ∷ p.start ∷ []
found_numbers (Err cause) = number_of cause ∷ []

-- where the raster of a picture lies in the file; no byte where it is refused
abbrev pub raster_span : Result Picture Cause → Range ℕ
raster_span (Ok p) = record { start = p.start; end = p.start + p.width * p.height }
raster_span (Err cause) = record { start = 0; end = 0 }

-- the raster of a picture, "a part of the file"; nothing where it is refused
abbrev pub raster_part : List ℕ → Result Picture Cause → List ℕ
raster_part file (Ok p) = take (p.width * p.height) (drop p.start file)
raster_part file (Err cause) = []

abbrev pub raster_of : List ℕ → ℕ → List ℕ
raster_of file number = raster_part file (read_answer file number)

-- a picture that was found at a position: what it is, and what stands at the position
abbrev pub found_in : Result Located Cause → Result Picture Cause
found_in (Ok located) = Ok located.picture
found_in (Err cause) = Err cause

abbrev pub found_there : List ℕ → Result Located Cause → Result Picture Cause
found_there file (Ok located) = picture_at file located.at
found_there file (Err cause) = Err cause
