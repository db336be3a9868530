-- Where the buffer is too short: what each test has shown, put into the definition.
use Prim.Native.Nat.{ℕ, ◌*◌, ◌<◌}
use mathlib.Core.Bool.{true}
use mathlib.Core.List.{List}
use mathlib.Core.Path.{◌≡◌, refl, ◌∙◌}
use native.Mathlib.Omega.{arith}
use lib.ListN.{length}
use borrow.Author.Tests.{eq-eqb, lt-leb}
use Rattle.std.specs.Prelude.{Err}
use Rattle.causes.specs.declared.Cause.TheVariants.{Buffer}
use Rattle.causes.specs.Sides.{sides_fit}
use Rattle.pgm_values.specs.Values.{maximum_fits, all_at_most}
use Rattle.pgm_write.specs.Write.{pgm_file, write_answer}
use Rattle.pgm_write.proofs.writable.Goals as goal

too_short :
    (picture : List ℕ) (width height maximum room : ℕ) {needed : ℕ}
    → true ≡ sides_fit width height → length picture ≡ width * height → true ≡ maximum_fits maximum → true ≡ all_at_most maximum picture
    → needed ≡ length (pgm_file picture width height maximum) → room < needed
    → Err Buffer ≡ write_answer picture width height maximum room
unfolding write_answer
too_short picture width height maximum room sides size most samples total short =
    rw (
      ← sides,
      eq-eqb (length picture) (width * height) size,
      ← most,
      ← samples,
      lt-leb (length (pgm_file picture width height maximum)) room (omega (arith, total, short)),
    )
    refl

pub returns-then-room-needed : goal.returns-then-room-needed
returns-then-room-needed c =
    too_short
    _ _ _ _ _
    c.if-not-fit.ensures.answer
    (c.if-picture-pixels.false ∙ c.pixels.ensures.number)
    c.if-not-allowed.ensures.answer
    c.if-not-within.ensures.answer
    c.file_length-needed.ensures
    c.if-room-needed.true
