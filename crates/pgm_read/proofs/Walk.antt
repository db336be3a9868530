-- The walk from picture to picture: what is held after some of them, and the number that is left, decide the answer. Assumes nothing.
use Prim.Native.Nat.{ℕ, zero, suc, ◌+◌, ◌*◌, ◌-◌, ◌≤◌, ◌<◌}
use mathlib.Core.Path.{◌≡◌, refl, sym, ◌∙◌, ap}
use mathlib.Core.Bool.{Bool, true, false, cond, ◌&&◌}
use mathlib.Core.List.{List, [], ◌∷◌}
use native.Mathlib.Omega.{arith}
use lib.Dec.{eqb, leb}
use lib.ListN.{length, get_or}
use borrow.Author.Tests.{le-leb, lt-leb, lt-ltb, le-ltb, leb-true, leb-false, ne_eqb}
use Rattle.causes.specs.declared.Cause.{Cause}
use Rattle.causes.specs.declared.Cause.TheVariants.{PictureNumber}
use Rattle.pgm_header.specs.Header.{header_at}
use Rattle.pgm_read.specs.Read.{judged, picture_at, after_picture, pictures_from, unless_faulty, read_answer, found_in, found_there, raster_part}
use Rattle.std.specs.Prelude.{Result, Ok, Err}
use Rattle.pgm_read.specs.declared.Picture.{Picture}
use Rattle.pgm_read.specs.declared.Located.{Located}
use Rattle.pgm_read.proofs.Judging.{accepted, goes_on, signed}

-- the answer on pictures of which the one that has the number left is taken, if there is one, else what is held
pub settled : List (Result Picture Cause) → ℕ → Result Picture Cause → Result Picture Cause
settled [] left held = held
settled (Err cause ∷ rest) left held = Err cause
settled (Ok p ∷ rest) left held = settled rest (left - 1) (cond (eqb left 1) (Ok p) held)

-- one number of several, or what is held
abbrev by_number : List (Result Picture Cause) → ℕ → Result Picture Cause → Result Picture Cause
by_number pictures left held = cond (leb 1 left && leb left (length pictures)) (get_or pictures (left - 1) (Err PictureNumber)) held

by_number_step : (p : Result Picture Cause) (rest : List (Result Picture Cause)) (left : ℕ) (held : Result Picture Cause) → by_number rest (left - 1) (cond (eqb left 1) p held) ≡ by_number (p ∷ rest) left held
by_number_step p rest zero held = refl
by_number_step p rest (suc zero) held = simp (le-leb 1 (suc (length rest)) (omega arith))
by_number_step p rest (suc (suc n)) held = go (leb (suc n) (length rest)) refl
  where
    less : suc (suc n) - 1 ≡ suc n
    less = omega arith

    lesser : suc n - 1 ≡ n
    lesser = omega arith

    go : (t : Bool) → leb (suc n) (length rest) ≡ t → by_number rest (suc (suc n) - 1) (cond (eqb (suc (suc n)) 1) p held) ≡ by_number (p ∷ rest) (suc (suc n)) held
    go true e =
        let l = leb-true (suc n) (length rest) e in
        simp (less, lesser, e, le-leb 1 (suc n) (omega arith), le-leb 1 (suc (suc n)) (omega arith), le-leb (suc (suc n)) (suc (length rest)) (omega arith))
    go false e =
        let l = leb-false (suc n) (length rest) e in
        simp (less, e, ne_eqb (suc (suc n)) 1 (omega arith), le-leb 1 (suc n) (omega arith), le-leb 1 (suc (suc n)) (omega arith), lt-leb (suc (suc n)) (suc (length rest)) (omega arith))

by_number_none : (left : ℕ) (held : Result Picture Cause) → by_number [] left held ≡ held
by_number_none zero held = refl
by_number_none (suc n) held = simp (le-leb 1 (suc n) (omega arith), lt-leb (suc n) 0 (omega arith))

settled_is : (pictures : List (Result Picture Cause)) (left : ℕ) (held : Result Picture Cause) → settled pictures left held ≡ unless_faulty pictures (by_number pictures left held)
unfolding settled unless_faulty
settled_is [] left held = sym (by_number_none left held)
settled_is (Err cause ∷ rest) left held = refl
settled_is (Ok p ∷ rest) left held =
    settled_is rest (left - 1) (cond (eqb left 1) (Ok p) held) ∙ ap (unless_faulty rest) (by_number_step (Ok p) rest left held)

-- the pictures from at on decide the answer: number left names one of them, or what is held was named before
pub record Walking (file : List ℕ) (number at left : ℕ) (held : Result Located Cause) : Type 0 where
  pub fuel : ℕ
  pub enough : length file < fuel + at
  pub within : at ≤ length file
  pub on : settled (pictures_from fuel file at) left (found_in held) ≡ read_answer file number
  pub stands : found_there file held ≡ found_in held

pub walk_start : (file : List ℕ) (number : ℕ) → Walking file number 0 number (Err PictureNumber)
unfolding read_answer
walk_start file number =
    record {
      fuel = suc (length file);
      enough = omega arith;
      within = omega arith;
      on = settled_is (pictures_from (suc (length file)) file 0) number (Err PictureNumber);
      stands = refl;
    }

-- where a picture was found, and what it is
pub record Picked (file : List ℕ) (number : ℕ) (held : Result Located Cause) : Type 0 where
  pub is : found_in held ≡ read_answer file number
  pub stands : found_there file held ≡ read_answer file number

held_is : (t : Bool) (a b : Result Located Cause) → found_in (cond t a b) ≡ cond t (found_in a) (found_in b)
held_is true a b = refl
held_is false a b = refl

held_stands : (file : List ℕ) (t : Bool) (a b : Result Located Cause) → found_there file a ≡ found_in a → found_there file b ≡ found_in b → found_there file (cond t a b) ≡ found_in (cond t a b)
held_stands file true a b e f = e
held_stands file false a b e f = f

module _ {file : List ℕ} {number at left : ℕ} {held : Result Located Cause} (w : Walking file number at left held) where
  -- there is one picture more to look at
  one_more : (found : Result Picture Cause) → picture_at file at ≡ found → (k : ℕ) × (length file < suc k + at) × (settled (found ∷ after_picture file (pictures_from k file) found) left (found_in held) ≡ read_answer file number)
  unfolding pictures_from
  one_more found e = go w.fuel w.enough w.on
    where
      go : (fuel : ℕ) → length file < fuel + at → settled (pictures_from fuel file at) left (found_in held) ≡ read_answer file number → (k : ℕ) × (length file < suc k + at) × (settled (found ∷ after_picture file (pictures_from k file) found) left (found_in held) ≡ read_answer file number)
      go zero enough on = absurd (omega (arith, w.within))
      go (suc k) enough on = (k, enough, rw e at on)

  pub walk_faulty : (cause : Cause) → picture_at file at ≡ Err cause → Picked file number (Err cause)
  unfolding settled
  walk_faulty cause e =
      let on = (one_more (Err cause) e).2 in
      record { is = on; stands = on }

  module _ (p : Picture) (e : picture_at file at ≡ Ok p) (next : Result Located Cause) (is : next ≡ cond (eqb left 1) (Ok (record { at = at; picture = p })) held) where
    next_stands : found_there file next ≡ found_in next
    next_stands = rw is (held_stands file (eqb left 1) (Ok (record { at = at; picture = p })) held e w.stands)

    next_is : found_in next ≡ cond (eqb left 1) (Ok p) (found_in held)
    next_is = ap found_in is ∙ held_is (eqb left 1) (Ok (record { at = at; picture = p })) held

    pub walk_done : (n : ℕ) → n ≡ p.width * p.height → length file ≤ p.start + n → Picked file number next
    unfolding settled
    walk_done n count l =
        let on = (one_more (Ok p) e).2 in
        let done : found_in next ≡ read_answer file number = next_is ∙ rw (le-ltb (p.start + p.width * p.height) (length file) (omega arith)) at on in
        record { is = done; stands = next_stands ∙ done }

    pub walk_on : (n less : ℕ) → n ≡ p.width * p.height → less ≡ left - 1 → p.start + n < length file → Walking file number (p.start + n) less next
    unfolding settled
    walk_on n less count one l =
        let o = one_more (Ok p) e in
        let g = goes_on file at p.width p.height p.maximum p.start e in
        rw (count, one) (record {
          fuel = o.0;
          enough = omega (arith, o.1, g.0);
          within = g.1;
          on = rw next_is (rw (lt-ltb (p.start + p.width * p.height) (length file) (omega arith)) at o.2);
          stands = next_stands;
        })

-- a picture that was found stands where it was found, and the raster there is the answer's
module _ (file : List ℕ) (number : ℕ) (located : Located) (found : Ok located.picture ≡ read_answer file number) (there : picture_at file located.at ≡ read_answer file number) where
  picked : picture_at file located.at ≡ Ok located.picture
  picked = there ∙ sym found

  pub picked_within : located.at + 2 ≤ length file
  picked_within =
      let p = located.picture in
      let g = goes_on file located.at p.width p.height p.maximum p.start picked in
      omega (arith, g.0, g.1)

  pub picked_raster : raster_part file (judged file (header_at file (located.at + 2))) ≡ raster_part file (read_answer file number)
  picked_raster =
      let p = located.picture in
      ap (raster_part file) (signed file located.at (accepted file located.at p.width p.height p.maximum p.start picked).0 ∙ there)
