-- What the C interface makes of the number and values of an answer: 64 bits, the value where the call is accepted (0 where it has none),
-- else the cause's number times 2^32. No value reaches 2^32 but where the raster starts, which stands in the head.
use Rattle.std.specs.Prelude.{ℕ, ◌*◌, ◌^◌, cond, List, [], ◌∷◌, eqb}
use Rattle.std.proofs.lemmas.List.Edits.{sets}
use Rattle.std.specs.Prelude.{Result}
use Rattle.causes.specs.declared.Cause.{Cause}
use Rattle.pgm_read.specs.declared.Picture.{Picture}
use Rattle.std.specs.Prelude.{Ok, Err}

-- values are below it, causes are counted in it
abbrev pub value_limit : ℕ
value_limit = 2 ^ 32

-- an answer of one value at most, from its numbers
abbrev pub code_of : List ℕ → ℕ
code_of [] = 0
code_of (number ∷ []) = number * 2 ^ 32
code_of (number ∷ value ∷ rest) = cond (eqb number 0) value (number * 2 ^ 32)

-- the reader's answer, whose values stand in the head
abbrev pub number_code : List ℕ → ℕ
number_code [] = 0
number_code (number ∷ values) = number * 2 ^ 32

-- the four words of the head hold width, height, maximum and where the raster starts in the file; a refusal leaves them as they were
abbrev pub head_with : Result Picture Cause → List ℕ → List ℕ
head_with (Ok p) head = sets head 0 (p.width ∷ p.height ∷ p.maximum ∷ p.start ∷ [])
head_with (Err cause) head = head
