-- "Files with no byte after the first raster, asked for as number 1, answer as before": the answer of a reader that takes a file for one
-- picture, as it stood before a file could hold several, and that it is still the answer. Assumes nothing.
use Rattle.std.specs.Prelude.{Err, None, Ok, Option, Result, Some}
use Rattle.pgm_read.specs.declared.Picture.{Picture}
use Rattle.causes.specs.declared.Cause.{Cause}
use Rattle.pgm_header.specs.declared.Header.{Header}
use Rattle.pgm_header.proofs.Parts.{found_header}
use Prim.Native.Nat.{ℕ, ◌+◌, ◌*◌, ◌-◌, ◌≤◌}
use mathlib.Core.Path.{◌≡◌, refl, ◌∙◌, ap}
use mathlib.Core.Bool.{Bool, true, false, cond}
use mathlib.Core.List.{List}
use native.Mathlib.Omega.{arith}
use lib.Dec.{eqb, leb}
use lib.ListN.{length, take, drop, length-drop}
use lib.Seq.{take_all}
use borrow.Author.Tests.{le-leb, lt-leb, eqb-true, eqb-false, le-ltb}
use Rattle.causes.specs.declared.Cause.TheVariants.{Sides, Sign, Header as BadHeader, Maximum, RasterLength, Sample}
use Rattle.causes.specs.Causes.{must}
use Rattle.causes.specs.Sides.{sides_fit}
use Rattle.pgm_values.specs.Values.{maximum_fits, all_at_most}
use Rattle.pgm_header.specs.Header.{sign, starts_with_sign, header_at}
use Rattle.pgm_read.specs.Read.{found_picture, judged, picture_at, pictures_from, unless_faulty, read_answer, raster_part, raster_of}
use Rattle.pgm_read.proofs.Judging.{accepted}

-- the answer before: all that follows the header is the raster, and has as many bytes as the picture has pixels
unfoldable pub judged_alone : List ℕ → Option Header → Result Picture Cause
judged_alone file None = Err BadHeader
judged_alone file (Some h) =
    must Err (maximum_fits h.maximum) Maximum
    (must Err (sides_fit h.width h.height) Sides
    (must Err (eqb (length file - h.start) (h.width * h.height)) RasterLength
    (must Err (all_at_most h.maximum (drop h.start file)) Sample
    (found_picture h.width h.height h.maximum h.start))))

unfoldable pub answer_alone : List ℕ → Result Picture Cause
answer_alone file = must Err (starts_with_sign file) Sign (judged_alone file (header_at file (length sign)))

-- no byte stands after the first raster, where the file has one: its first header is read, and the maximum and the sides fit
abbrev pub NoMore : List ℕ → Type 0
NoMore file =
    (width height maximum start : ℕ)
    → starts_with_sign file ≡ true
    → header_at file (length sign) ≡ found_header width height maximum start
    → maximum_fits maximum ≡ true
    → sides_fit width height ≡ true
    → length file ≤ start + width * height

-- then the raster is all that follows the header
module _ (file : List ℕ) (w h s : ℕ) (few : length file ≤ s + w * h) where
  raster_all : {A : Type 0} (sample : List ℕ → A) (short : A) → cond (leb (w * h) (length file - s)) (sample (take (w * h) (drop s file))) short ≡ cond (eqb (length file - s) (w * h)) (sample (drop s file)) short
  raster_all sample short = go (eqb (length file - s) (w * h)) refl
    where
      go : (t : Bool) → eqb (length file - s) (w * h) ≡ t → cond (leb (w * h) (length file - s)) (sample (take (w * h) (drop s file))) short ≡ cond t (sample (drop s file)) short
      go true e =
          let all : length file - s ≡ w * h = eqb-true (length file - s) (w * h) e in
          simp (le-leb (w * h) (length file - s) (omega arith), take_all (w * h) (drop s file) (omega (arith, length-drop s file)))
      go false e =
          let some = eqb-false (length file - s) (w * h) e in
          simp (lt-leb (w * h) (length file - s) (omega arith))

judged_same : (file : List ℕ) (header : Option Header) → ((w h m s : ℕ) → header ≡ found_header w h m s → maximum_fits m ≡ true → sides_fit w h ≡ true → length file ≤ s + w * h) → judged file header ≡ judged_alone file header
unfolding judged judged_alone
judged_same file None few = refl
judged_same file (Some n) few = go (maximum_fits n.maximum) (sides_fit n.width n.height) refl refl
  where
    go : (t u : Bool) → maximum_fits n.maximum ≡ t → sides_fit n.width n.height ≡ u → judged file (Some n) ≡ judged_alone file (Some n)
    go false u e f = simp e
    go true false e f = simp (e, f)
    go true true e f =
        simp (e, f) (raster_all file n.width n.height n.start (few n.width n.height n.maximum n.start refl e f) (λ (l : List ℕ). must Err (all_at_most n.maximum l) Sample (found_picture n.width n.height n.maximum n.start)) (Err RasterLength))

-- a file with nothing after its first picture answers as that picture
first_only : (file : List ℕ) → ((w h m s : ℕ) → picture_at file 0 ≡ found_picture w h m s → length file ≤ s + w * h) → read_answer file 1 ≡ picture_at file 0
unfolding read_answer pictures_from unless_faulty
first_only file few = go (picture_at file 0) refl
  where
    go : (found : Result Picture Cause) → picture_at file 0 ≡ found → read_answer file 1 ≡ picture_at file 0
    go (Err cause) e = rw e refl
    go (Ok p) e = rw (e, le-ltb (p.start + p.width * p.height) (length file) (few p.width p.height p.maximum p.start e)) refl

picture_same : (file : List ℕ) → NoMore file → picture_at file 0 ≡ answer_alone file
unfolding picture_at answer_alone
picture_same file few = go (starts_with_sign file) refl
  where
    go : (t : Bool) → starts_with_sign file ≡ t → picture_at file 0 ≡ answer_alone file
    go true e = simp e (judged_same file (header_at file 2) (λ w h m s. few w h m s e))
    go false e = simp e

pub alone : (file : List ℕ) → NoMore file → read_answer file 1 ≡ answer_alone file
alone file few =
    first_only file (λ w h m s e. let a = accepted file 0 w h m s e in few w h m s a.0 a.1.header a.1.maximum_right a.1.sides_right)
    ∙ picture_same file few

-- and so the raster is the one before, all that follows the header
pub alone_raster : (file : List ℕ) → NoMore file → raster_of file 1 ≡ raster_part file (answer_alone file)
alone_raster file few = ap (raster_part file) (alone file few)
