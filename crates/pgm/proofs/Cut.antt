-- A file that is cut. A header is decided by its own bytes (`header_own`), so a front that ends within the first header has none, and
-- `cut_header` and `cut_accepted` give the number; after the header `cut_raster` does. Assumes nothing.
use Rattle.std.specs.Prelude.{Err, None, Ok, Option, Result, Some}
use Rattle.pgm_read.specs.declared.Picture.{Picture}
use Rattle.pgm_header.specs.declared.Header.{Header}
use Prim.Native.Nat.{ℕ, ◌+◌, ◌*◌, ◌-◌, ◌≤◌, ◌<◌}
use mathlib.Core.Path.{◌≡◌, refl, sym, ◌∙◌, ap}
use mathlib.Core.Bool.{Bool, true, false, cond}
use mathlib.Core.List.{List, [], ◌∷◌, ◌++◌, append_assoc}
use mathlib.Core.Logic.{inl}
use native.Mathlib.Omega.{arith}
use lib.Dec.{ltb}
use lib.ListN.{length, get_or, take, drop, length-drop, take-append-drop}
use lib.Seq.{length-take-le, take-append-add, drop-append-le, take-add, drop_at, take-take}
use borrow.Author.Tests.{lt-leb, ltb-true, ltb-false}
use Rattle.causes.specs.declared.Cause.{Cause}
use Rattle.causes.specs.declared.Cause.TheVariants.{Sign, Header as BadHeader, RasterLength}
use Rattle.pgm_header.specs.Header.{sign, starts_with_sign, white_at, header_at}
use Rattle.pgm_header.proofs.Parts.{found_number, found_header, header_parts, part_at}
use Rattle.pgm_header.proofs.Scan.{white_below, whole_header}
use Rattle.pgm_header.proofs.Whole.{part_found, part_after, header_read}
use Rattle.pgm_read.specs.Read.{found_picture, judged, picture_at, read_answer}
use Rattle.pgm_read.proofs.Judging.{Accepted, accepted, goes_on, signed, unsigned, judged_broken, judged_length}
use Rattle.pgm.specs.Burst.Pages.{none}
use Rattle.pgm.specs.Cut.{cut_cause, CutShort}
use Rattle.pgm.proofs.Parts.{part_stands, white_here, white_stands, part_read, white_stops}
use Rattle.pgm.proofs.Shape.{bytes_from, after_sign, sign_first}
use Rattle.pgm.proofs.Burst.{faulty_refused, first_answer}

-- two files that have their first bytes in common, up to the end of a header
module _ (file : List ℕ) (end : ℕ) (within : end ≤ length file) (rest : List ℕ) (other : List ℕ) (is : other ≡ take end file ++ rest) where
  from_front : (at : ℕ) → at ≤ end → drop at other ≡ take (end - at) (drop at file) ++ rest
  from_front at l =
      let split : take end file ≡ take at file ++ take (end - at) (drop at file) = ap (λ (n : ℕ). take n file) (let e : end ≡ at + (end - at) = omega arith in e) ∙ take-add at (end - at) file in
      ap (drop at) is
      ∙ drop-append-le at (take end file) rest (omega (arith, length-take-le end file within))
      ∙ ap (λ (l : List ℕ). l ++ rest) (ap (drop at) split ∙ drop_at (take at file) (take (end - at) (drop at file)) at (length-take-le at file (omega arith)))

  -- bytes between two positions before the end stand in both
  segment : (at after : ℕ) (bytes : List ℕ) → drop at file ≡ bytes ++ drop after file → at ≤ after → after ≤ end → drop at other ≡ bytes ++ drop after other
  segment at after bytes e l m =
      let total = bytes_from file at bytes (drop after file) e in
      let count : end - at ≡ length bytes + (end - after) = omega (arith, total, length-drop after file) in
      let front : take (end - at) (drop at file) ≡ bytes ++ take (end - after) (drop after file) = rw (count, e) (take-append-add bytes (drop after file) (end - after)) in
      from_front at (omega arith)
      ∙ ap (λ (l : List ℕ). l ++ rest) front
      ∙ append_assoc bytes (take (end - after) (drop after file)) rest
      ∙ ap (λ (l : List ℕ). bytes ++ l) (sym (from_front after m))

  -- the white byte at a position before the end
  white_there : (at : ℕ) → white_at file at ≡ true → at < end → drop at other ≡ get_or file at 0 ∷ drop (at + 1) other
  white_there at e l = segment at (at + 1) (get_or file at 0 ∷ []) (white_here file at e).1 (omega arith) (omega arith)

  white_own : (at : ℕ) → white_at file at ≡ true → at < end → white_at other at ≡ true
  white_own at e l = white_stands other at (get_or file at 0) (drop (at + 1) other) (white_there at e l) (white_here file at e).0

  -- a number that a white byte follows
  part_own : (at number after : ℕ) → part_at file at ≡ found_number number after → white_at file after ≡ true → after < end → part_at other at ≡ found_number number after
  part_own at number after e w l =
      let p = part_stands file at number after e in
      let stop = white_stops (get_or file after 0) (drop (after + 1) other) (white_here file after w).0 in
      let layout : drop at other ≡ p.gap ++ (p.digits ++ drop after other) =
      segment at after (p.gap ++ p.digits) (p.layout ∙ sym (append_assoc p.gap p.digits (drop after file))) (part_after file at number after e) (omega arith)
      ∙ append_assoc p.gap p.digits (drop after other) in
      let r = part_read number p.digits (drop after other) p.number_right (rw (white_there after w l) stop) other at p.gap_right layout in
      let below = white_below other after (white_own after w l) in
      let same : r.after ≡ after = omega (arith, below, length-drop r.after other, length-drop after other, ap length r.stands) in
      r.read ∙ ap (λ (end : ℕ). found_number number end) same

  -- and so a whole header
  header_same : (at width height maximum : ℕ) → header_at file at ≡ found_header width height maximum end → header_at other at ≡ found_header width height maximum end
  header_same at width height maximum e =
      let h = header_read width height maximum end file at e in
      let v = part_found file h.height_from height h.maximum_from h.height_read in
      let m = part_found file h.maximum_from maximum h.end h.maximum_read in
      let a = part_after file h.height_from height h.maximum_from h.height_read in
      let b = part_after file h.maximum_from maximum h.end h.maximum_read in
      let last : h.end < end = omega (arith, h.start_read) in
      sym (whole_header other at
      width h.height_from (part_own at width h.height_from h.width_read v.white (omega (arith, a, b, last)))
      height h.maximum_from (part_own h.height_from height h.maximum_from h.height_read m.white (omega (arith, b, last)))
      maximum h.end (part_own h.maximum_from maximum h.end h.maximum_read h.last_read last)
      (white_own h.end h.last_read last))
      ∙ ap (λ (s : ℕ). found_header width height maximum s) (sym h.start_read)

header_within : (file : List ℕ) (at width height maximum start : ℕ) → header_at file at ≡ found_header width height maximum start → start ≤ length file
header_within file at width height maximum start e =
    let h = header_read width height maximum start file at e in
    omega (arith, white_below file h.end h.last_read, h.start_read)

-- a header is decided by its own bytes: another file that starts with the same bytes, up to its end, has the same header
pub header_own : (file other : List ℕ) (at width height maximum start : ℕ) → header_at file at ≡ found_header width height maximum start → take start file ≡ take start other → header_at other at ≡ found_header width height maximum start
header_own file other at width height maximum start e same =
    header_same file start (header_within file at width height maximum start e) (drop start other) other (sym (take-append-drop start other) ∙ ap (λ (l : List ℕ). l ++ drop start other) (sym same)) at width height maximum e

-- so many bytes of a file are left, whose header ends at start
module _ (file : List ℕ) (width height maximum start left : ℕ) (e : header_at file 2 ≡ found_header width height maximum start) where
  cut_broken : left < start → header_at (take left file) 2 ≡ None
  cut_broken l = go (header_at (take left file) 2) refl
    where
      go : (h : Option Header) → header_at (take left file) 2 ≡ h → h ≡ None
      go None f = refl
      go (Some n) f =
          let short : length (take left file) ≡ left = length-take-le left file (omega (arith, header_within file 2 width height maximum start e)) in
          let sooner : n.start ≤ left = omega (arith, header_within (take left file) 2 n.width n.height n.maximum n.start f, short) in
          let same : found_header width height maximum start ≡ Some n = sym e ∙ header_own (take left file) file 2 n.width n.height n.maximum n.start f (take-take n.start left file sooner) in
          let z : start ≡ n.start = (header_parts width height maximum start n.width n.height n.maximum n.start same).3 in
          absurd (omega arith)

  cut_whole : start ≤ left → header_at (take left file) 2 ≡ found_header width height maximum start
  cut_whole l = header_own file (take left file) 2 width height maximum start e (sym (take-take start left file l))

-- the sign is left as long as there are as many bytes
sign_left : (file : List ℕ) (left : ℕ) → starts_with_sign file ≡ true → length sign ≤ left → starts_with_sign (take left file) ≡ true
sign_left file left e l =
    let count : left ≡ 2 + (left - 2) = omega arith in
    let front : take left file ≡ sign ++ take (left - 2) (drop 2 file) =
    ap (take left) (after_sign file e)
    ∙ ap (λ (n : ℕ). take n (sign ++ drop 2 file)) count
    ∙ take-append-add sign (drop 2 file) (left - 2) in
    ap starts_with_sign front ∙ sign_first (take (left - 2) (drop 2 file))

sign_cut : (file : List ℕ) (left : ℕ) → left < length sign → left ≤ length file → starts_with_sign (take left file) ≡ false
sign_cut file left l m = rw (length-take-le left file m, lt-leb 2 left l)

-- a file whose first picture is faulty is refused by its cause, whichever picture is named
first_faulty : (file : List ℕ) (cause : Cause) → picture_at file 0 ≡ Err cause → (number : ℕ) → read_answer file number ≡ Err cause
first_faulty file cause e =
    faulty_refused (record { before = []; rest = file; earlier = 0; layout = refl; before_right = none; more = inl refl; faulty = e })

module _ (file : List ℕ) (width height maximum start : ℕ) (e : picture_at file 0 ≡ found_picture width height maximum start) (left : ℕ) where
  whole : (starts_with_sign file ≡ true) × Accepted file (header_at file 2) width height maximum start
  whole = accepted file 0 width height maximum start e

  -- a cut within the first header
  pub cut_header : left < start → (number : ℕ) → read_answer (take left file) number ≡ Err (cut_cause left)
  cut_header l = first_faulty (take left file) (cut_cause left) (go (ltb left 2) refl)
    where
      go : (t : Bool) → ltb left 2 ≡ t → picture_at (take left file) 0 ≡ Err (cond t Sign BadHeader)
      go true f = sym (unsigned (take left file) 0 (sign_cut file left (ltb-true left 2 f) (omega (arith, header_within file 2 width height maximum start whole.1.header))))
      go false f =
          sym (signed (take left file) 0 (sign_left file left whole.0 (ltb-false left 2 f)))
          ∙ ap (judged (take left file)) (cut_broken file width height maximum start left whole.1.header l)
          ∙ sym (judged_broken (take left file))

  -- a cut after it and within the first raster: "a raster cut short stays 11"
  pub cut_raster : start ≤ left → left < start + width * height → (number : ℕ) → read_answer (take left file) number ≡ Err RasterLength
  cut_raster l m =
      let front : List ℕ = take left file in
      let size : length front ≡ left = length-take-le left file (omega (arith, whole.1.length_right)) in
      first_faulty front RasterLength (
      sym (signed front 0 (sign_left file left whole.0 (omega (arith, (goes_on file 0 width height maximum start e).0, l))))
      ∙ ap (judged front) (cut_whole file width height maximum start left whole.1.header l)
      ∙ sym (judged_length front width height maximum start whole.1.maximum_right whole.1.sides_right (lt-leb (width * height) (length front - start) (omega (arith, size, l, m))))
      )

-- "an accepted file cut anywhere within its first header answers 8 if less than the sign is left, else 9"
pub cut_accepted : (file : List ℕ) (named width height maximum start : ℕ) → read_answer file named ≡ found_picture width height maximum start → CutShort file
cut_accepted file named width height maximum start e = go (picture_at file 0) refl
  where
    go : (found : Result Picture Cause) → picture_at file 0 ≡ found → CutShort file
    go (Err cause) f =
        let g : Err cause ≡ found_picture width height maximum start = sym (first_faulty file cause f named) ∙ e in
        let z : ◌≡◌ {A = ℕ} 0 1 = cc in
        absurd (omega arith)
    go (Ok p) f =
        record {
          width = p.width;
          height = p.height;
          maximum = p.maximum;
          end = p.start;
          first = first_answer file named width height maximum start e ∙ f;
          header_cut = λ left. cut_header file p.width p.height p.maximum p.start f left;
          raster_cut = λ left. cut_raster file p.width p.height p.maximum p.start f left;
        }
