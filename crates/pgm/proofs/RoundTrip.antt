-- Pictures that are written end to end and read again are the same pictures, greys and maximum, each by its number. A written file is a page. Assumes nothing.
use Rattle.std.specs.Prelude.{Ok, Err}
use Prim.Native.Nat.{ℕ, ◌+◌, ◌*◌, ◌-◌, ◌^◌, ◌≤◌, ◌<◌}
use mathlib.Core.Path.{◌≡◌, refl, sym, ◌∙◌}
use mathlib.Core.Bool.{Bool, true, false}
use mathlib.Core.List.{List, [], ◌∷◌, ◌++◌, append-nil, append_assoc}
use mathlib.Core.Logic.{◌⊎◌}
use native.Mathlib.Nat.{zero-add}
use native.Mathlib.Omega.{arith}
use lib.Dec.{ltb}
use lib.ListN.{length, take, drop}
use lib.Seq.{take_at}
use borrow.Author.Tests.{ltb-true, ltb-false}
use Rattle.pgm_header.specs.Header.{most_digits, digit_count, decimal_value}
use Rattle.pgm_read.specs.Read.{found_picture, read_answer, raster_of}
use Rattle.pgm_write.specs.Write.{digits_of, pgm_file, write_answer, buffer_after}
use Rattle.pgm.specs.Page.{Number, Page}
use Rattle.pgm.specs.Page.Gap.{starts}
use Rattle.pgm.specs.Page.GapRest.{done}
use Rattle.pgm.specs.Burst.{Pages, WrittenInTurn}
use Rattle.pgm.specs.Burst.Pages.{none as no_pages, then as one_page}
use Rattle.pgm.specs.Burst.WrittenInTurn.{none, then}
use Rattle.causes.specs.declared.Cause.TheVariants.{PictureNumber}
use Rattle.pgm_write.proofs.Decimals.{count_decimal, value_decimal, length_decimal, length_short, length_long}
use Rattle.pgm_write.proofs.Files.{file_length}
use Rattle.pgm_write.proofs.Judging.{Writable, writable_is, Fields, fields_fit}
use Rattle.pgm.proofs.Burst.{page_accepted, beyond}

some_digit : (x : ℕ) → x < 10 ^ most_digits → 1 ≤ length (digits_of x)
some_digit x fits = go (ltb x 10) refl
  where
    go : (t : Bool) → ltb x 10 ≡ t → 1 ≤ length (digits_of x)
    go true e = omega (arith, length_short x (ltb-true x 10 e))
    go false e = omega (arith, length_long x (ltb-false x 10 e) fits)

decimal_number : (x : ℕ) → x < 10 ^ most_digits → Number (digits_of x) x
unfolding digit_count decimal_value
decimal_number x fits =
    record {
      some = some_digit x fits;
      few = length_decimal most_digits x;
      all_digits = rw append-nil at (count_decimal most_digits x []) ∙ omega arith;
      value = rw append-nil at (value_decimal most_digits x [] fits);
    }

module _ {picture : List ℕ} {width height maximum room total : ℕ} (w : Writable picture width height maximum room total) where
  file_page : Page (pgm_file picture width height maximum) width height maximum (total - width * height) picture
  file_page =
      let f : Fields width height maximum = fields_fit width height maximum w.sides_right w.maximum_right in
      record {
        gap₁ = 10 ∷ [];
        digits₁ = digits_of width;
        gap₂ = 32 ∷ [];
        digits₂ = digits_of height;
        gap₃ = 10 ∷ [];
        digits₃ = digits_of maximum;
        last = 10;
        layout = unfold pgm_file in simp append_assoc;
        gap₁_right = starts refl done;
        width_right = decimal_number width f.width_short;
        gap₂_right = starts refl done;
        height_right = decimal_number height f.height_short;
        gap₃_right = starts refl done;
        maximum_right = decimal_number maximum f.maximum_short;
        last_white = refl;
        start_right = omega (arith, file_length picture width height maximum, w.total_right, w.length_right);
        sides_within = w.sides_right;
        maximum_within = w.maximum_right;
        raster_length = w.length_right;
        samples_within = w.samples_right;
      }

written_file : (picture : List ℕ) (width height maximum : ℕ) (buffer : List ℕ) (total : ℕ) → write_answer picture width height maximum (length buffer) ≡ Ok total → take total (buffer_after picture width height maximum buffer) ≡ pgm_file picture width height maximum
unfolding buffer_after
written_file picture width height maximum buffer total e =
    rw e (take_at (pgm_file picture width height maximum) (drop total buffer) total (sym (writable_is picture width height maximum (length buffer) total e).total_right))

written_page : (picture : List ℕ) (width height maximum : ℕ) (buffer : List ℕ) (total : ℕ) → write_answer picture width height maximum (length buffer) ≡ Ok total → Page (take total (buffer_after picture width height maximum buffer)) width height maximum (total - width * height) picture
written_page picture width height maximum buffer total e =
    rw (written_file picture width height maximum buffer total e) (file_page (writable_is picture width height maximum (length buffer) total e))

-- what was written in turn is a sequence of pages
pub written_pages : {count : ℕ} {bytes : List ℕ} → WrittenInTurn count bytes → Pages count bytes
written_pages none = no_pages
written_pages (then picture width height maximum buffer total e rest) =
    one_page (written_page picture width height maximum buffer total e) (written_pages rest)

module _ (picture : List ℕ) (width height maximum : ℕ) (buffer : List ℕ) (total : ℕ) (e : write_answer picture width height maximum (length buffer) ≡ Ok total) where
  -- "Round trip covers greys and maximum", and "covers the sequence written"
  pub round_trip : {earlier later : ℕ} {before after : List ℕ} → WrittenInTurn earlier before → WrittenInTurn later after → let file : List ℕ = before ++ take total (buffer_after picture width height maximum buffer) ++ after in (read_answer file (earlier + 1) ≡ found_picture width height maximum (length before + (total - width * height))) × (raster_of file (earlier + 1) ≡ picture)
  round_trip b a =
      page_accepted (record {
        before = _;
        page = _;
        after = _;
        earlier = _;
        later = _;
        own = _;
        layout = refl;
        before_right = written_pages b;
        page_right = written_page picture width height maximum buffer total e;
        after_right = written_pages a;
        number_right = refl;
        start_right = refl;
      })

-- a picture that is written alone
pub round_trip_alone : (picture : List ℕ) (width height maximum : ℕ) (buffer : List ℕ) (total : ℕ) → write_answer picture width height maximum (length buffer) ≡ Ok total → let file : List ℕ = take total (buffer_after picture width height maximum buffer) in (read_answer file 1 ≡ found_picture width height maximum (total - width * height)) × (raster_of file 1 ≡ picture)
round_trip_alone picture width height maximum buffer total e =
    rw (append-nil, zero-add (total - width * height)) at (round_trip picture width height maximum buffer total e none none)

-- the count is theirs: no other number is accepted
pub round_trip_count : {file : List ℕ} {count : ℕ} → WrittenInTurn count file → 1 ≤ count → (number : ℕ) → (number ≡ 0) ⊎ (count < number) → read_answer file number ≡ Err PictureNumber
round_trip_count w = beyond (written_pages w)
