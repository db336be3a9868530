-- How the tests of the writer decide its answer, and what an accepted picture gives. Assumes nothing.
use Prim.Native.Nat.{ℕ, ◌*◌, ◌^◌, ◌≤◌, ◌<◌}
use mathlib.Core.Path.{◌≡◌, sym, ◌∙◌, ap}
use mathlib.Core.Bool.{Bool, true}
use mathlib.Core.List.{List, ◌++◌}
use native.Mathlib.Omega.{arith}
use lib.Dec.{leb, eqb}
use lib.ListN.{length, drop}
use lib.Seq.{sets}
use borrow.Author.Tests.{leb-true, eqb-true}
use Rattle.causes.specs.declared.Cause.{Cause}
use Rattle.causes.specs.declared.Cause.TheVariants.{Sides, PictureLength, Buffer, Maximum, Sample}
use Rattle.causes.specs.Causes.{must}
use Rattle.causes.specs.Sides.{sides_fit}
use Rattle.causes.proofs.Refusing.{must_passed}
use Rattle.causes.proofs.Laws.{both_true, bounded}
use Rattle.pgm_values.specs.Values.{largest_maximum, maximum_fits, all_at_most}
use Rattle.pgm_header.specs.Header.{most_digits}
use Rattle.pgm_write.specs.Write.{pgm_file, write_answer, buffer_after, written_numbers}
use Rattle.std.specs.Prelude.{Result, Ok, Err}
use Rattle.pgm_write.proofs.Files.{file_first}

-- three numbers that a header can hold
pub record Fields (width height maximum : ℕ) : Type 0 where
  pub width_short : width < 10 ^ most_digits
  pub height_short : height < 10 ^ most_digits
  pub maximum_short : maximum < 10 ^ most_digits

pub fields_fit : (width height maximum : ℕ) → sides_fit width height ≡ true → maximum_fits maximum ≡ true → Fields width height maximum
fields_fit width height maximum sides most =
    let f = bounded width height sides in
    let m = leb-true maximum largest_maximum (both_true (leb 1 maximum) (leb maximum largest_maximum) most).1 in
    record { width_short = omega arith; height_short = omega arith; maximum_short = omega arith }

-- what an accepted picture gives the writer
pub record Writable (picture : List ℕ) (width height maximum room total : ℕ) : Type 0 where
  pub sides_right : sides_fit width height ≡ true
  pub length_right : length picture ≡ width * height
  pub maximum_right : maximum_fits maximum ≡ true
  pub samples_right : all_at_most maximum picture ≡ true
  pub room_right : length (pgm_file picture width height maximum) ≤ room
  pub total_right : total ≡ length (pgm_file picture width height maximum)

passed : (t : Bool) (cause : Cause) (answer : Result ℕ Cause) (total : ℕ) → must Err t cause answer ≡ Ok total → (t ≡ true) × (answer ≡ Ok total)
passed t cause answer total e =
    must_passed Err t cause answer (Ok total) (λ f. let z : ◌≡◌ {A = ℕ} 0 1 = cc in omega arith) e

pub writable_is : (picture : List ℕ) (width height maximum room total : ℕ) → write_answer picture width height maximum room ≡ Ok total → Writable picture width height maximum room total
unfolding write_answer
writable_is picture width height maximum room total e =
    let file : List ℕ = pgm_file picture width height maximum in
    let a = passed (sides_fit width height) Sides _ total e in
    let b = passed (eqb (length picture) (width * height)) PictureLength _ total a.1 in
    let c = passed (maximum_fits maximum) Maximum _ total b.1 in
    let d = passed (all_at_most maximum picture) Sample _ total c.1 in
    let f = passed (leb (length file) room) Buffer _ total d.1 in
    record {
      sides_right = a.0;
      length_right = eqb-true (length picture) (width * height) b.0;
      maximum_right = c.0;
      samples_right = d.0;
      room_right = leb-true (length file) room f.0;
      total_right = cc f.1;
    }

-- what the buffer holds after a call
module _ (picture : List ℕ) (width height maximum : ℕ) (buffer : List ℕ) where
  pub buffer_written : (total : ℕ) (after : List ℕ) → write_answer picture width height maximum (length buffer) ≡ Ok total → after ≡ sets buffer 0 (pgm_file picture width height maximum) → after ≡ buffer_after picture width height maximum buffer
  unfolding buffer_after
  buffer_written total after e stored =
      let w = writable_is picture width height maximum (length buffer) total e in
      let kept = ap (λ (k : ℕ). pgm_file picture width height maximum ++ drop k buffer) (sym w.total_right) in
      rw e (stored ∙ file_first (pgm_file picture width height maximum) buffer w.room_right ∙ kept)

  pub buffer_kept : (cause : Cause) → write_answer picture width height maximum (length buffer) ≡ Err cause → buffer ≡ buffer_after picture width height maximum buffer
  unfolding buffer_after
  buffer_kept cause e = rw e

  -- what a refused call says, from what it judged: r is the judgement
  module _ (r : Result ℕ Cause) (judged : r ≡ write_answer picture width height maximum (length buffer)) where
    pub call_refused : (cause : Cause) → r ≡ Err cause → (written_numbers (Err cause) ≡ written_numbers (write_answer picture width height maximum (length buffer))) × (buffer ≡ buffer_after picture width height maximum buffer)
    call_refused cause is =
        let e : write_answer picture width height maximum (length buffer) ≡ Err cause = sym judged ∙ is in
        (ap written_numbers (sym e), buffer_kept cause e)
