-- An accepted file is exactly a sequence of pages: `accepted_page` gives the page of the number, among pages before and after it, and
-- `page_accepted` the answer and the raster where there is such a page; number 1 is that of the first picture (`first_answer`). Of a file of
-- pages the numbers from 1 to their count are accepted (`pages_accepted`), and no others (`beyond`, `not_named`). In any other file a picture
-- after some pages is faulty, and the first such gives the cause (`faulty_refused`, `refused_faulty`). Assumes nothing.
use Rattle.std.specs.Prelude.{Err, Result}
use Rattle.pgm_read.specs.declared.Picture.{Picture}
use Prim.Native.Nat.{ℕ, zero, suc, ◌+◌, ◌-◌, ◌≤◌, ◌<◌}
use mathlib.Core.Path.{◌≡◌, refl, sym, ◌∙◌, ap}
use mathlib.Core.Bool.{Bool, true, false, ◌&&◌}
use mathlib.Core.List.{List, [], ◌∷◌, ◌++◌, append_assoc}
use mathlib.Core.Logic.{◌⊎◌, inl, inr}
use native.Mathlib.Nat.{zero-add}
use native.Mathlib.Omega.{arith}
use lib.Dec.{leb}
use lib.ListN.{length, get_or, drop, length-append}
use lib.Seq.{drop-append_seam}
use borrow.Author.Tests.{le-leb, lt-leb, leb-true, leb-false}
use Rattle.causes.specs.declared.Cause.TheVariants.{PictureNumber}
use Rattle.causes.specs.declared.Cause.{Cause}
use Rattle.causes.specs.Causes.{number_of, must}
use Rattle.causes.proofs.Laws.{both_true}
use Rattle.causes.proofs.Refusing.{must_passed}
use Rattle.pgm_read.specs.Read.{found_picture, picture_at, pictures, pictures_from, read_answer, raster_of}
use Rattle.pgm_read.proofs.Judging.{picture_parts}
use Rattle.pgm.specs.Burst.{Pages, Numbered, FirstFaulty}
use Rattle.pgm.specs.Burst.Pages.{none, then}
use Rattle.pgm.proofs.Shape.{page_read}
use Rattle.pgm.proofs.Pages.{Shown, Faulty, pages_shown, shown_pages, joined, shown_good, shown_found, shown_faulty, picture_few, found_shown}
use Rattle.pgm.proofs.Pages.Shown.{nothing, page}

-- the answer on a file of pages
module _ {file : List ℕ} where
  all_found : (shown : List (Result Picture Cause)) → Shown 0 file shown → 1 ≤ length shown → pictures file ≡ shown
  all_found [] s some = absurd (omega arith)
  all_found (p ∷ rest) s some = shown_found (suc (length file)) file (omega arith) s refl

  module _ {shown : List (Result Picture Cause)} (s : Shown 0 file shown) (number : ℕ) where
    shown_answer : 1 ≤ number → number ≤ length shown → read_answer file number ≡ get_or shown (number - 1) (Err PictureNumber)
    unfolding read_answer
    shown_answer one most =
        rw (all_found shown s (omega arith)) (shown_good s _ ∙ simp (le-leb 1 number one, le-leb number (length shown) most))

    shown_beyond : 1 ≤ length shown → (number ≡ 0) ⊎ (length shown < number) → read_answer file number ≡ Err PictureNumber
    unfolding read_answer
    shown_beyond some (inl e) = rw (all_found shown s some) (shown_good s _ ∙ rw e)
    shown_beyond some (inr l) = rw (all_found shown s some) (shown_good s _ ∙ simp (le-leb 1 number (omega arith), lt-leb number (length shown) l))

some_pictures : (file : List ℕ) → 1 ≤ length (pictures file)
unfolding pictures_from
some_pictures file = omega arith

getD_seam : {A : Type 0} (front : List A) (x : A) (after : List A) (d : A) → get_or (front ++ x ∷ after) (length front) d ≡ x
getD_seam [] x after d = refl
getD_seam (y ∷ front) x after d = getD_seam front x after d

-- a page among pages is answered by its number, and its raster is the one handed back
pub page_accepted : {file : List ℕ} {number width height maximum start : ℕ} {raster : List ℕ} → Numbered file number width height maximum start raster → (read_answer file number ≡ found_picture width height maximum start) × (raster_of file number ≡ raster)
page_accepted {file} {number} {width} {height} {maximum} {start} {raster} n =
    let b = pages_shown n.before_right 0 in
    let a = pages_shown n.after_right (length n.before + length n.page) in
    let found : Result Picture Cause = found_picture width height maximum (length n.before + n.own) in
    let layout : file ≡ n.before ++ (n.page ++ n.after) = n.layout ∙ append_assoc n.before n.page n.after in
    let here : drop (length n.before) file ≡ n.page ++ n.after = ap (drop (length n.before)) layout ∙ drop-append_seam n.before (n.page ++ n.after) in
    let all : Shown 0 file (b.0 ++ found ∷ a.0) = rw layout (joined b.1 (omega arith) (page n.page_right refl a.1)) in
    let place : number - 1 ≡ length b.0 = omega (arith, n.number_right, b.2) in
    let total : length (b.0 ++ found ∷ a.0) ≡ length b.0 + suc (length a.0) = length-append b.0 (found ∷ a.0) in
    let r = page_read file (length n.before) n.page_right n.after here in
    let answer : read_answer file number ≡ found_picture width height maximum start =
    shown_answer all number (omega (arith, n.number_right)) (omega (arith, n.number_right, b.2, total))
    ∙ ap (λ (i : ℕ). get_or (b.0 ++ found ∷ a.0) i (Err PictureNumber)) place
    ∙ getD_seam b.0 found a.0 (Err PictureNumber)
    ∙ ap (λ (s : ℕ). found_picture width height maximum s) (sym n.start_right) in
    (answer, rw (answer, n.start_right) r.1)

no_picture : (w h m s : ℕ) → Err PictureNumber ≡ found_picture w h m s → ⊥
no_picture w h m s e = let z : ◌≡◌ {A = ℕ} 0 1 = cc in omega arith

-- the page of a place among pages that start at a position
pick_page : {at : ℕ} {bytes : List ℕ} {shown : List (Result Picture Cause)} → Shown at bytes shown → (place width height maximum start : ℕ) → get_or shown place (Err PictureNumber) ≡ found_picture width height maximum start
    → (raster : List ℕ) × (there : ℕ) × Numbered bytes (place + 1) width height maximum there raster × (start ≡ at + there)
pick_page nothing place w h m s g = absurd (no_picture w h m s g)
pick_page (page {at} {width = w'} {height = h'} {maximum = m'} {own = own} {bytes = b} {rest = r} {raster = raster} p e q) zero w h m s g =
    let v = picture_parts w' h' m' (at + own) w h m s g in
    let ew = v.0 in
    let eh = v.1 in
    let em = v.2 in
    let es = v.3 in (
      raster,
      own,
      record {
        before = [];
        page = b;
        after = r;
        earlier = 0;
        later = _;
        own = own;
        layout = refl;
        before_right = none;
        page_right = rw (← ew, ← eh, ← em) p;
        after_right = shown_pages q;
        number_right = refl;
        start_right = sym (zero-add own);
      },
      sym es,
    )
pick_page (page {at} {end} {bytes = b} {rest = r} p e q) (suc place) w h m s g =
    let f = pick_page q place w h m s g in
    let n = f.2 in (
      f.0,
      length b + f.1,
      record {
        before = b ++ n.before;
        page = n.page;
        after = n.after;
        earlier = suc n.earlier;
        later = n.later;
        own = n.own;
        layout =
            ap (λ (l : List ℕ). b ++ l) n.layout
            ∙ sym (append_assoc b (n.before ++ n.page) n.after)
            ∙ ap (λ (l : List ℕ). l ++ n.after) (sym (append_assoc b n.before n.page));
        before_right = then p n.before_right;
        page_right = n.page_right;
        after_right = n.after_right;
        number_right = omega (arith, n.number_right);
        start_right = omega (arith, n.start_right, length-append b n.before);
      },
      omega (arith, f.3, e),
    )

-- "the first faulty picture gives the number", whichever picture is named
pub faulty_refused : {file : List ℕ} {cause : Cause} → FirstFaulty file cause → (number : ℕ) → read_answer file number ≡ Err cause
unfolding read_answer
faulty_refused {file} {cause} f number =
    let s = pages_shown f.before_right 0 in
    let there : picture_at file (0 + length f.before) ≡ Err cause = rw (zero-add (length f.before)) f.faulty in
    shown_faulty (suc (length file)) file (omega arith) (omega arith) s.1 f.rest f.layout (more s.0 s.2 f.more) cause there _
  where
    more : (shown : List (Result Picture Cause)) → length shown ≡ f.earlier → (f.earlier ≡ 0) ⊎ (1 ≤ length f.rest) → (shown ≡ []) ⊎ (1 ≤ length f.rest)
    more [] e (inl z) = inl refl
    more (p ∷ rest) e (inl z) = absurd (omega arith)
    more shown e (inr l) = inr l

faulty_first : {file : List ℕ} (f : Faulty file 0) → FirstFaulty file f.cause
faulty_first f =
    record {
      before = f.front;
      rest = f.rest;
      earlier = f.count;
      layout = f.stands;
      before_right = f.front_right;
      more = f.more;
      faulty = rw (zero-add (length f.front)) at f.there;
    }

module _ (file : List ℕ) (number : ℕ) where
  -- either the file has nothing but pages, and the number decides, or the answer is the cause of a faulty picture
  named_picture : Result Picture Cause
  named_picture = get_or (pictures file) (number - 1) (Err PictureNumber)

  Decided : Type 0
  Decided = (Shown 0 file (pictures file) × (read_answer file number ≡ must Err (leb 1 number && leb number (length (pictures file))) PictureNumber named_picture)) ⊎ ((cause : Cause) × (number_of cause < 18) × (read_answer file number ≡ Err cause) × FirstFaulty file cause)

  decided : Decided
  unfolding read_answer Decided named_picture
  decided = go (found_shown (suc (length file)) file 0 (omega arith) (omega arith))
    where
      go : Shown 0 file (pictures file) ⊎ Faulty file 0 → Decided
      go (inl s) = inl (s, shown_good s _)
      go (inr f) =
          let first = faulty_first f in
          inr (f.cause, picture_few file f.cause (length first.before) first.faulty, faulty_refused first number, first)

  module _ (width height maximum start : ℕ) (e : read_answer file number ≡ found_picture width height maximum start) where
    number_found : Shown 0 file (pictures file) × (1 ≤ number) × (get_or (pictures file) (number - 1) (Err PictureNumber) ≡ found_picture width height maximum start)
    unfolding Decided named_picture
    number_found = go decided
      where
        go : Decided → Shown 0 file (pictures file) × (1 ≤ number) × (get_or (pictures file) (number - 1) (Err PictureNumber) ≡ found_picture width height maximum start)
        go (inl (s, a)) =
            let m = must_passed Err (leb 1 number && leb number (length (pictures file))) PictureNumber named_picture (found_picture width height maximum start) (no_picture width height maximum start) (sym a ∙ e) in
            (s, leb-true 1 number (both_true (leb 1 number) (leb number (length (pictures file))) m.0).0, m.1)
        go (inr (cause, l, a, first)) = let f : Err cause ≡ found_picture width height maximum start = sym a ∙ e in let z : ◌≡◌ {A = ℕ} 0 1 = cc in absurd (omega arith)

    -- the page of an accepted number
    pub accepted_page : Numbered file number width height maximum start (raster_of file number)
    accepted_page =
        let f = number_found in
        let p = pick_page f.0 (number - 1) width height maximum start f.2 in
        let named : number - 1 + 1 ≡ number = omega (arith, f.1) in
        let place : p.1 ≡ start = omega (arith, p.3) in
        let n : Numbered file number width height maximum start p.0 = rw (named, place) at p.2 in
        rw (page_accepted n).1 n

    -- and the first picture is answered for it
    pub first_answer : read_answer file 1 ≡ picture_at file 0
    unfolding pictures_from
    first_answer = shown_answer number_found.0 1 (omega arith) (some_pictures file)

shown_picture : {at : ℕ} {bytes : List ℕ} {shown : List (Result Picture Cause)} → Shown at bytes shown → (place : ℕ) → place < length shown
    → (width height maximum start : ℕ) × (get_or shown place (Err PictureNumber) ≡ found_picture width height maximum start)
shown_picture nothing place l = absurd (omega arith)
shown_picture (page p f s) zero l = (_, _, _, _, refl)
shown_picture (page p f s) (suc place) l = shown_picture s place (omega arith)

-- every number from 1 to their count is that of a picture of a file of pages
pub pages_accepted : {file : List ℕ} {count : ℕ} → Pages count file → (number : ℕ) → 1 ≤ number → number ≤ count
    → (width height maximum start : ℕ) × (read_answer file number ≡ found_picture width height maximum start)
pages_accepted p number one most =
    let s = pages_shown p 0 in
    let f = shown_picture s.1 (number - 1) (omega (arith, s.2)) in
    (f.0, f.1, f.2, f.3, shown_answer s.1 number one (omega (arith, s.2)) ∙ f.4)

-- no picture of a file of pages has a number outside 1 to their count
pub beyond : {file : List ℕ} {count : ℕ} → Pages count file → 1 ≤ count → (number : ℕ) → (number ≡ 0) ⊎ (count < number) → read_answer file number ≡ Err PictureNumber
beyond p some number out =
    let s = pages_shown p 0 in
    shown_beyond s.1 number (omega (arith, s.2)) (rw s.2 out)

shown_no_cause : {at : ℕ} {bytes : List ℕ} {shown : List (Result Picture Cause)} → Shown at bytes shown → (place : ℕ) (cause : Cause) → place < length shown
    → get_or shown place (Err PictureNumber) ≡ Err cause → ⊥
shown_no_cause s place cause l e =
    let f = shown_picture s place l in
    let g : Err cause ≡ found_picture f.0 f.1 f.2 f.3 = sym e ∙ f.4 in
    let z : ◌≡◌ {A = ℕ} 0 1 = cc in
    omega arith

-- and only of such a file, for such a number, is that the cause
pub not_named : (file : List ℕ) (number : ℕ) → read_answer file number ≡ Err PictureNumber → (count : ℕ) × Pages count file × (1 ≤ count) × ((number ≡ 0) ⊎ (count < number))
unfolding Decided named_picture
not_named file number e = go (decided file number)
  where
    outside : (t u : Bool) → leb 1 number ≡ t → leb number (length (pictures file)) ≡ u → Shown 0 file (pictures file) → must Err (t && u) PictureNumber (named_picture file number) ≡ Err PictureNumber → (number ≡ 0) ⊎ (length (pictures file) < number)
    outside false u f g s a = inl (omega (arith, leb-false 1 number f))
    outside true false f g s a = inr (leb-false number (length (pictures file)) g)
    outside true true f g s a =
        absurd (shown_no_cause s (number - 1) PictureNumber (omega (arith, leb-true 1 number f, leb-true number (length (pictures file)) g)) a)

    go : Decided file number → (count : ℕ) × Pages count file × (1 ≤ count) × ((number ≡ 0) ⊎ (count < number))
    go (inl (s, a)) = (length (pictures file), shown_pages s, some_pictures file, outside (leb 1 number) (leb number (length (pictures file))) refl refl s (sym a ∙ e))
    go (inr (cause, l, a, first)) =
        let f : Err cause ≡ Err PictureNumber = sym a ∙ e in
        let same : cause ≡ PictureNumber = cc in
        absurd (omega (arith, rw same at l))

-- any other cause is that of the first faulty picture
pub refused_faulty : (file : List ℕ) (number : ℕ) (cause : Cause) → (cause ≡ PictureNumber → ⊥) → read_answer file number ≡ Err cause → FirstFaulty file cause
unfolding Decided named_picture
refused_faulty file number cause other e = go (decided file number)
  where
    by_must : (t u : Bool) → leb 1 number ≡ t → leb number (length (pictures file)) ≡ u → Shown 0 file (pictures file) → must Err (t && u) PictureNumber (named_picture file number) ≡ Err cause → ⊥
    by_must false u f g s a = let same : cause ≡ PictureNumber = cc in other same
    by_must true false f g s a = let same : cause ≡ PictureNumber = cc in other same
    by_must true true f g s a =
        shown_no_cause s (number - 1) cause (omega (arith, leb-true 1 number f, leb-true number (length (pictures file)) g)) a

    go : Decided file number → FirstFaulty file cause
    go (inl (s, a)) = absurd (by_must (leb 1 number) (leb number (length (pictures file))) refl refl s (sym a ∙ e))
    go (inr (by, l, a, first)) =
        let f : Err by ≡ Err cause = sym a ∙ e in
        let same : by ≡ cause = cc in
        rw same at first

-- so the first picture of a file is there, or the file is refused for another cause
pub first_there : (file : List ℕ) → read_answer file 1 ≡ Err PictureNumber → ⊥
first_there file e = go (not_named file 1 e).3
  where
    go : (◌≡◌ {A = ℕ} 1 0) ⊎ ((not_named file 1 e).0 < 1) → ⊥
    go (inl z) = omega arith
    go (inr l) = omega (arith, (not_named file 1 e).2)
