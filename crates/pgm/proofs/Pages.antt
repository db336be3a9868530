-- The pictures that are found in a file, one after the other, are those of its pages. Assumes nothing.
use Rattle.std.specs.Prelude.{Err, None, Ok, Option, Result, Some}
use Rattle.pgm_read.specs.declared.Picture.{Picture}
use Rattle.pgm_header.specs.declared.Header.{Header}
use Prim.Native.Nat.{ℕ, zero, suc, ◌+◌, ◌*◌, ◌-◌, ◌≤◌, ◌<◌}
use mathlib.Core.Path.{◌≡◌, refl, sym, ◌∙◌, ap}
use mathlib.Core.Bool.{Bool, true, false, cond}
use mathlib.Core.List.{List, [], ◌∷◌, ◌++◌, append_assoc}
use mathlib.Core.Logic.{◌⊎◌, inl, inr}
use native.Mathlib.Nat.{add-zero}
use native.Mathlib.Omega.{arith}
use lib.Dec.{leb, ltb}
use lib.ListN.{length, take, drop, length-append, drop_of_length-le}
use borrow.Author.Tests.{lt-ltb, le-ltb, ltb-true, ltb-false}
use Rattle.causes.specs.declared.Cause.{Cause}
use Rattle.causes.specs.declared.Cause.TheVariants.{Sides, Sign, Header as BadHeader, Maximum, RasterLength, Sample}
use Rattle.causes.specs.Causes.{number_of, must}
use Rattle.causes.specs.Sides.{sides_fit}
use Rattle.causes.proofs.Laws.{bounded, some_pixel}
use Rattle.pgm_values.specs.Values.{maximum_fits, all_at_most}
use Rattle.pgm_header.specs.Header.{starts_with_sign, header_at}
use Rattle.pgm_read.specs.Read.{found_picture, judged, picture_at, after_picture, pictures_from, unless_faulty}
use Rattle.pgm_read.proofs.Judging.{goes_on}
use Rattle.pgm.specs.Page.{Page}
use Rattle.pgm.specs.Burst.{Pages}
use Rattle.pgm.specs.Burst.Pages.{none, then}
use Rattle.pgm.proofs.Parts.{drop_past}
use Rattle.pgm.proofs.Shape.{page_stands, page_read, bytes_from}

-- bytes that start at a position of a file are pages, end to end, and these are their pictures
pub data Shown : ℕ → List ℕ → List (Result Picture Cause) → Type 0 where
  nothing : {at : ℕ} → Shown at [] []
  page : {at end width height maximum own : ℕ} {bytes rest raster : List ℕ} {pictures : List (Result Picture Cause)} → Page bytes width height maximum own raster → end ≡ at + length bytes → Shown end rest pictures → Shown at (bytes ++ rest) (found_picture width height maximum (at + own) ∷ pictures)

pub pages_shown : {count : ℕ} {bytes : List ℕ} → Pages count bytes → (at : ℕ) → (pictures : List (Result Picture Cause)) × Shown at bytes pictures × (length pictures ≡ count)
pages_shown none at = ([], nothing, refl)
pages_shown (then {page = b} p rest) at =
    let s = pages_shown rest (at + length b) in
    (_, page p refl s.1, ap suc s.2)

pub shown_pages : {at : ℕ} {bytes : List ℕ} {pictures : List (Result Picture Cause)} → Shown at bytes pictures → Pages (length pictures) bytes
shown_pages nothing = none
shown_pages (page p e s) = then p (shown_pages s)

-- pages, and pages after them
pub joined : {at end : ℕ} {front bytes : List ℕ} {pictures further : List (Result Picture Cause)} → Shown at front pictures → end ≡ at + length front → Shown end bytes further → Shown at (front ++ bytes) (pictures ++ further)
joined {at} {end} nothing e s = let same : at ≡ end = omega arith in rw same s
joined {bytes = bytes} (page {bytes = b} {rest = r} p f q) e s =
    rw (append_assoc b r bytes) (page p f (joined q (omega (arith, f, length-append b r)) s))

pub shown_good : {at : ℕ} {bytes : List ℕ} {pictures : List (Result Picture Cause)} → Shown at bytes pictures → (answer : Result Picture Cause) → unless_faulty pictures answer ≡ answer
unfolding unless_faulty
shown_good nothing answer = refl
shown_good (page p e s) answer = shown_good s answer

-- a page has some bytes
page_some : {bytes raster : List ℕ} {width height maximum own : ℕ} → Page bytes width height maximum own raster → 1 ≤ length bytes
page_some {bytes} {raster} {width} {height} p = let some = some_pixel (bounded width height p.sides_within) in omega (arith, some, p.start_right, p.raster_length)

shown_some : {at : ℕ} {bytes : List ℕ} {p : Result Picture Cause} {rest : List (Result Picture Cause)} → Shown at bytes (p ∷ rest) → 1 ≤ length bytes
shown_some (page {bytes = b} {rest = r} p e s) = omega (arith, page_some p, length-append b r)

shown_none : {at : ℕ} {bytes : List ℕ} → Shown at bytes [] → length bytes ≡ 0
shown_none nothing = refl

-- a file with pages from a position on has their pictures from there on
pub shown_found : (fuel : ℕ) (file : List ℕ) {at : ℕ} {bytes : List ℕ} {p : Result Picture Cause} {rest : List (Result Picture Cause)} → length file < fuel + at → Shown at bytes (p ∷ rest) → drop at file ≡ bytes → pictures_from fuel file at ≡ p ∷ rest
unfolding pictures_from
shown_found zero file {at} enough (page {bytes = b} {rest = r} p e q) here =
    absurd (omega (arith, bytes_from file at b r here, page_some p))
shown_found (suc k) file {at} enough (page {end = end} {width = w} {height = h} {maximum = m} {own = own} {bytes = b} {rest = r} {pictures = further} p e q) here =
    rw (page_read file at p r here).0 (ap (λ (l : List (Result Picture Cause)). found_picture w h m (at + own) ∷ l) (go further q (λ f rest q'. shown_found k file (omega (arith, e, page_some p)) q' there)))
  where
    next : at + own + w * h ≡ end
    next = omega (arith, e, p.start_right, p.raster_length)

    there : drop end file ≡ r
    there = rw e (drop_past file at b r here)

    total : length file - at ≡ length b + length r
    total = bytes_from file at b r here

    go : (further : List (Result Picture Cause)) → Shown end r further → ((f : Result Picture Cause) (rest : List (Result Picture Cause)) → Shown end r (f ∷ rest) → pictures_from k file end ≡ f ∷ rest) → after_picture file (pictures_from k file) (found_picture w h m (at + own)) ≡ further
    go [] q on = rw (next, le-ltb end (length file) (omega (arith, e, total, page_some p, shown_none q)))
    go (f ∷ rest) q on =
        rw (next, lt-ltb end (length file) (omega (arith, e, total, page_some p, shown_some q)))
        (on f rest q)

-- a file with pages from a position on, and then a faulty picture, is refused by its cause
pub shown_faulty : (fuel : ℕ) (file : List ℕ) {at : ℕ} {bytes : List ℕ} {pictures : List (Result Picture Cause)} → length file < fuel + at → at ≤ length file
    → Shown at bytes pictures → (rest : List ℕ) → drop at file ≡ bytes ++ rest → (pictures ≡ []) ⊎ (1 ≤ length rest)
    → (cause : Cause) → picture_at file (at + length bytes) ≡ Err cause → (answer : Result Picture Cause)
    → unless_faulty (pictures_from fuel file at) answer ≡ Err cause
unfolding pictures_from unless_faulty
shown_faulty zero file enough within s rest here more cause there answer = absurd (omega arith)
shown_faulty (suc k) file {at} enough within nothing rest here more cause there answer = rw (rw (add-zero at) at there)
shown_faulty (suc k) file {at} enough within (page {end = end} {width = w} {height = h} {maximum = m} {own = own} {bytes = b} {rest = r} {pictures = further} p e q) rest here more cause there answer =
    let stands : drop at file ≡ b ++ (r ++ rest) = here ∙ append_assoc b r rest in
    let next : at + own + w * h ≡ end = omega (arith, e, p.start_right, p.raster_length) in
    let total = bytes_from file at b (r ++ rest) stands in
    let tail = length-append r rest in
    let some : 1 ≤ length rest = some_rest more in
    let place : at + length (b ++ r) ≡ end + length r = omega (arith, e, length-append b r) in
    rw ((page_read file at p (r ++ rest) stands).0, next, lt-ltb end (length file) (omega (arith, e, total, tail, some)))
    (shown_faulty k file (omega (arith, e, page_some p)) (omega (arith, e, total, tail, some)) q rest (rw e (drop_past file at b (r ++ rest) stands)) (inr some) cause (rw place at there) answer)
  where
    some_rest : (found_picture w h m (at + own) ∷ further ≡ []) ⊎ (1 ≤ length rest) → 1 ≤ length rest
    some_rest (inl z) = absurd (omega (arith, ap length z))
    some_rest (inr l) = l

-- no cause of a picture is that of its number
few : (cause : Cause) (t : Bool) (by : Cause) (answer : Result Picture Cause) → number_of by < 18 → (answer ≡ Err cause → number_of cause < 18) → must Err t by answer ≡ Err cause → number_of cause < 18
few cause true by answer l rest e = rest e
few cause false by answer l rest e = let same : by ≡ cause = cc in rw (← same) l

module _ (file : List ℕ) (cause : Cause) where
  judged_few : (header : Option Header) → judged file header ≡ Err cause → number_of cause < 18
  unfolding judged
  judged_few None e = let same : BadHeader ≡ cause = cc in rw (← same) (omega arith)
  judged_few (Some n) e =
      few cause (maximum_fits n.maximum) Maximum _ (omega arith)
      (few cause (sides_fit n.width n.height) Sides _ (omega arith)
      (few cause (leb (n.width * n.height) (length file - n.start)) RasterLength _ (omega arith)
      (few cause (all_at_most n.maximum (take (n.width * n.height) (drop n.start file))) Sample _ (omega arith) (λ f. let z : ◌≡◌ {A = ℕ} 0 1 = cc in absurd (omega arith))))) e

  pub picture_few : (at : ℕ) → picture_at file at ≡ Err cause → number_of cause < 18
  unfolding picture_at
  picture_few at e = few cause (starts_with_sign (drop at file)) Sign _ (omega arith) (judged_few (header_at file (at + 2))) e

-- pages from a position of a file on, and then a faulty picture
pub record Faulty (file : List ℕ) (at : ℕ) : Type 0 where
  pub cause : Cause
  pub front : List ℕ
  pub rest : List ℕ
  pub count : ℕ
  pub stands : drop at file ≡ front ++ rest
  pub front_right : Pages count front
  pub more : (count ≡ 0) ⊎ (1 ≤ length rest)
  pub there : picture_at file (at + length front) ≡ Err cause

-- a page stands where a picture is accepted, and pages may follow it
module _ (file : List ℕ) (at w h m s : ℕ) (e : picture_at file at ≡ found_picture w h m s) where
  shown_as : (own : ℕ) (bytes : List ℕ) (pictures : List (Result Picture Cause)) → s ≡ at + own → Shown at bytes (found_picture w h m (at + own) ∷ pictures) → Shown at bytes (found_picture w h m s ∷ pictures)
  shown_as own bytes pictures same shown = rw same shown

  shown_then : (pictures : List (Result Picture Cause)) → Shown (s + w * h) (drop (s + w * h) file) pictures → Shown at (drop at file) (found_picture w h m s ∷ pictures)
  shown_then pictures shown =
      let p = page_stands file at w h m s e in
      let end : s + w * h ≡ at + length p.page = omega (arith, p.start_right, p.page_right.start_right, p.page_right.raster_length) in
      shown_as p.own (drop at file) pictures p.start_right (rw p.stands (page p.page_right end shown))

  shown_last : length file ≤ s + w * h → Shown at (drop at file) (found_picture w h m s ∷ [])
  shown_last l = shown_then [] (rw (drop_of_length-le file l) nothing)

pages_none : {bytes : List ℕ} → Pages 0 bytes → bytes ≡ []
pages_none none = refl

module _ (file : List ℕ) (at : ℕ) where
  faulty_here : (cause : Cause) → picture_at file at ≡ Err cause → Faulty file at
  faulty_here cause e =
      record {
        cause = cause;
        front = [];
        rest = drop at file;
        count = 0;
        stands = refl;
        front_right = none;
        more = inl refl;
        there = rw (add-zero at) e;
      }

  -- a page before the others
  faulty_then : (w h m s : ℕ) → picture_at file at ≡ found_picture w h m s → s + w * h < length file → Faulty file (s + w * h) → Faulty file at
  faulty_then w h m s e l f =
      let p = page_stands file at w h m s e in
      let end : at + length (p.page ++ f.front) ≡ s + w * h + length f.front = omega (arith, length-append p.page f.front, p.start_right, p.page_right.start_right, p.page_right.raster_length) in
      record {
        cause = f.cause;
        front = p.page ++ f.front;
        rest = f.rest;
        count = suc f.count;
        stands = p.stands ∙ ap (λ (b : List ℕ). p.page ++ b) f.stands ∙ sym (append_assoc p.page f.front f.rest);
        front_right = then p.page_right f.front_right;
        more = inr (some f.more);
        there = rw end f.there;
      }
    where
      some : (f.count ≡ 0) ⊎ (1 ≤ length f.rest) → 1 ≤ length f.rest
      some (inr l) = l
      some (inl e) =
          let front : f.front ≡ [] = pages_none (rw e at f.front_right) in
          let total = bytes_from file (s + w * h) f.front f.rest f.stands in
          omega (arith, total, ap length front, l)

abbrev PagesOrFault : List ℕ → ℕ → List (Result Picture Cause) → Type 0
PagesOrFault file at pictures = Shown at (drop at file) pictures ⊎ Faulty file at

-- from a position on there is nothing but pages, or some pages and then a faulty picture
pub found_shown : (fuel : ℕ) (file : List ℕ) (at : ℕ) → length file < fuel + at → at ≤ length file → PagesOrFault file at (pictures_from fuel file at)
unfolding pictures_from
found_shown zero file at enough within = absurd (omega arith)
found_shown (suc k) file at enough within = go (picture_at file at) refl (found_shown k file)
  where
    more : (w h m s : ℕ) → picture_at file at ≡ found_picture w h m s → s + w * h < length file → PagesOrFault file (s + w * h) (pictures_from k file (s + w * h)) → PagesOrFault file at (found_picture w h m s ∷ pictures_from k file (s + w * h))
    more w h m s e l (inl shown) = inl (shown_then file at w h m s e (pictures_from k file (s + w * h)) shown)
    more w h m s e l (inr f) = inr (faulty_then file at w h m s e l f)

    last : (w h m s : ℕ) → picture_at file at ≡ found_picture w h m s → ((next : ℕ) → length file < k + next → next ≤ length file → PagesOrFault file next (pictures_from k file next)) → (t : Bool) → ltb (s + w * h) (length file) ≡ t → PagesOrFault file at (found_picture w h m s ∷ cond t (pictures_from k file (s + w * h)) [])
    last w h m s e on true l =
        let b = goes_on file at w h m s e in
        more w h m s e (ltb-true (s + w * h) (length file) l) (on (s + w * h) (omega (arith, b.0)) b.1)
    last w h m s e on false l = inl (shown_last file at w h m s e (ltb-false (s + w * h) (length file) l))

    go : (found : Result Picture Cause) → picture_at file at ≡ found → ((next : ℕ) → length file < k + next → next ≤ length file → PagesOrFault file next (pictures_from k file next)) → PagesOrFault file at (picture_at file at ∷ after_picture file (pictures_from k file) (picture_at file at))
    go (Err cause) e on = rw e (inr (faulty_here file at cause e))
    go (Ok p) e on = rw e (last p.width p.height p.maximum p.start e on (ltb (p.start + p.width * p.height) (length file)) refl)
