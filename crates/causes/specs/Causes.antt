-- The numbers of the causes, as the scope's table "Causes and their numbers" and the requests give them, and tests in order, each with its cause.
use Rattle.std.specs.Prelude.{ℕ, Bool, cond}
use Rattle.causes.specs.declared.Cause.{Cause}
use Rattle.causes.specs.declared.Cause.TheVariants.{Sides, PictureLength, Attribute, Steps, Workspace, Output, Buffer, Sign, Header, Maximum, RasterLength, Sample, StepsFile, TooLarge, NotRead, View, Neighbours, PictureNumber, Gap}

abbrev pub number_of : Cause → ℕ
-- width or height outside 1..4,096, or n above 1,048,576
number_of Sides = 1
-- picture bytes not n
number_of PictureLength = 2
-- attribute not 1, 2 or 3
number_of Attribute = 3
-- threshold out of range, list empty, over 256 or not strictly rising
number_of Steps = 4
-- workspace not 7n words
number_of Workspace = 5
-- an output, or a map that a call only reads, not n entries
number_of Output = 6
-- writer's buffer below the bytes needed
number_of Buffer = 7
-- no P5 where the file, or a further picture of it, starts
number_of Sign = 8
-- header broken or ended early
number_of Header = 9
-- maximum 0 or above 255
number_of Maximum = 10
-- raster bytes fewer than n
number_of RasterLength = 11
-- a sample above the maximum
number_of Sample = 12
-- steps file malformed
number_of StepsFile = 13
-- program: a file above 4,096 bytes, or n above 2,048
number_of TooLarge = 14
-- program: a file not opened or read
number_of NotRead = 15
-- row or side outside its range
number_of View = 16
-- neighbourhood neither 4 nor 8
number_of Neighbours = 17
-- picture number 0 or above the count
number_of PictureNumber = 18
-- gap above 256
number_of Gap = 19

-- the answer where the test holds, else the refusal by the cause
abbrev pub must : {A : Type 0} → (Cause → A) → Bool → Cause → A → A
must refuse good cause answer = cond good answer (refuse cause)
