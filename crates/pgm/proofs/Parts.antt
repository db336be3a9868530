-- One part of the header, a gap and a number. What the reader finds at a position has the page's shape (`part_stands`), and what has that
-- shape is found (`part_read`).
use Prim.Native.Nat.{ℕ, suc, ◌+◌, ◌*◌, ◌-◌, ◌≤◌, ◌<◌}
use mathlib.Core.Path.{◌≡◌, refl, sym, ◌∙◌, ap}
use mathlib.Core.Bool.{Bool, true, false, not, cond}
use mathlib.Core.List.{List, [], ◌∷◌, ◌++◌}
use native.Mathlib.Nat.{zero-add, add-zero}
use native.Mathlib.Omega.{arith}
use lib.Dec.{eqb, ltb}
use lib.ListN.{length, get_or, take, drop, take-append-drop, length-drop}
use lib.Seq.{drop-drop, drop-append_seam, get_or-drop}
use borrow.Author.Tests.{eqb-true, lt-ltb, le-leb, ne_eqb}
use Rattle.causes.proofs.Laws.{both_true}
use Rattle.causes.proofs.Lists.{from_here}
use Rattle.pgm_header.specs.Bytes.{is_white, is_digit, move_of, by_move, white_move, digit_move, ends_comment}
use Rattle.pgm_header.specs.Header.{most_digits, gap_length, digit_count, decimal_value, white_at, number_at}
use Rattle.pgm.specs.Page.{GapRest, Gap, Number}
use Rattle.pgm.specs.Page.Gap.{starts}
use Rattle.pgm.specs.Page.GapRest.{done, white, comment, remark, newline}
use Rattle.pgm_header.specs.declared.Move.{Move}
use Rattle.pgm_header.specs.declared.Move.TheVariants.{White, Digit, Comment, Foreign}
use Rattle.pgm_header.proofs.Moves.{comment_35}
use Rattle.pgm_header.proofs.Parts.{found_number, part_at}
use Rattle.pgm_header.proofs.Scan.{white_below, Stops, stops_at}
use Rattle.pgm_header.proofs.Whole.{part_found}

-- what a move says of the byte
white_sorted : (w d c : Bool) → white_move (cond w White (cond d Digit (cond c Comment Foreign))) ≡ w
white_sorted true d c = refl
white_sorted false true c = refl
white_sorted false false true = refl
white_sorted false false false = refl

white_byte : (b : ℕ) → white_move (move_of b) ≡ is_white b
unfolding move_of
white_byte b = white_sorted (is_white b) (is_digit b) (eqb b 35)

comment_sorted : (w d c : Bool) → by_move (cond w White (cond d Digit (cond c Comment Foreign))) false true false ≡ true → c ≡ true
comment_sorted w d true e = refl
comment_sorted true d false e = e
comment_sorted false true false e = e
comment_sorted false false false e = e

comment_byte : (b : ℕ) → move_of b ≡ Comment → b ≡ 35
unfolding move_of
comment_byte b e =
    eqb-true b 35 (comment_sorted (is_white b) (is_digit b) (eqb b 35) (ap (λ (m : Move). by_move m false true false) e))

white_moves : (b : ℕ) → is_white b ≡ true → move_of b ≡ White
unfolding move_of
white_moves b e = simp e

-- the bytes of a gap are all its own
gap_whole : {inside : Bool} {g : List ℕ} → GapRest inside g → (r : List ℕ) → gap_length inside (g ++ r) ≡ length g + gap_length false r
unfolding gap_length
gap_whole done r = sym (zero-add (gap_length false r))
gap_whole (white {b} {s} w g) r = rw (white_moves b w) (omega (arith, gap_whole g r))
gap_whole (comment g) r = rw (← (comment_35 35 refl)) (omega (arith, gap_whole g r))
gap_whole (remark e g) r = rw e (omega (arith, gap_whole g r))
gap_whole (newline e g) r = rw e (omega (arith, gap_whole g r))

-- no gap goes on at a digit
gap_none : (s : List ℕ) → 1 ≤ digit_count s → gap_length false s ≡ 0
unfolding gap_length digit_count
gap_none [] h = refl
gap_none (b ∷ s) h = go (move_of b) refl
  where
    go : (m : Move) → move_of b ≡ m → by_move (move_of b) (suc (gap_length false s)) (suc (gap_length true s)) 0 ≡ 0
    go White e = absurd (omega (arith, rw e at h))
    go Digit e = rw e
    go Comment e = absurd (omega (arith, rw e at h))
    go Foreign e = rw e

-- what is passed over as a gap, up to a digit, is one
abbrev GapFront : Bool → List ℕ → Type 0
GapFront inside s = 1 ≤ digit_count (drop (gap_length inside s) s) → GapRest inside (take (gap_length inside s) s)

front_inside : (b : ℕ) (s : List ℕ) (t : Bool) → ends_comment b ≡ t → GapFront (not t) s → GapFront true (b ∷ s)
unfolding gap_length
front_inside b s true e rest = rw e (λ h. newline e (rest h))
front_inside b s false e rest = rw e (λ h. remark e (rest h))

front_outside : (b : ℕ) (s : List ℕ) (m : Move) → move_of b ≡ m → GapFront true s → GapFront false s → GapFront false (b ∷ s)
unfolding gap_length
front_outside b s White e on off = rw e (λ h. white (sym (white_byte b) ∙ ap white_move e) (off h))
front_outside b s Comment e on off = rw (e, comment_byte b e) (λ h. comment (on h))
front_outside b s Digit e on off = rw e (λ h. done)
front_outside b s Foreign e on off = rw e (λ h. done)

gap_front : (inside : Bool) (s : List ℕ) → GapFront inside s
unfolding gap_length digit_count
gap_front false [] h = done
gap_front true [] h = absurd (omega arith)
gap_front true (b ∷ s) h = front_inside b s (ends_comment b) refl (gap_front (not (ends_comment b)) s) h
gap_front false (b ∷ s) h = front_outside b s (move_of b) refl (gap_front true s) (gap_front false s) h

-- the digits that s starts with, by themselves
record DigitFront (s front : List ℕ) : Type 0 where
  counted : digit_count front ≡ length front
  whole : length front ≡ digit_count s
  valued : (v : ℕ) → decimal_value v front ≡ decimal_value v s

digit_front : (s : List ℕ) → DigitFront s (take (digit_count s) s)
unfolding digit_count decimal_value
digit_front [] = record { counted = refl; whole = refl; valued = λ v. refl }
digit_front (b ∷ s) = go (digit_move (move_of b)) refl (digit_front s)
  where
    go : (t : Bool) → digit_move (move_of b) ≡ t → DigitFront s (take (digit_count s) s) → DigitFront (b ∷ s) (take (digit_count (b ∷ s)) (b ∷ s))
    go true e f =
        rw e (record {
          counted = rw e (ap suc f.counted);
          whole = rw e (ap suc f.whole);
          valued = λ v. rw e (f.valued (v * 10 + (b - 48)));
        })
    go false e f = rw e (record { counted = refl; whole = rw e; valued = λ v. rw e })

-- digits with anything after them
record DigitsThen (d r : List ℕ) : Type 0 where
  counted : digit_count (d ++ r) ≡ length d + digit_count r
  valued : (v : ℕ) → decimal_value v (d ++ r) ≡ decimal_value (decimal_value v d) r

digits_then : (d r : List ℕ) → digit_count d ≡ length d → DigitsThen d r
unfolding digit_count decimal_value
digits_then [] r all = record { counted = sym (zero-add (digit_count r)); valued = λ v. refl }
digits_then (b ∷ d) r all = go (digit_move (move_of b)) refl (digits_then d r)
  where
    go : (t : Bool) → digit_move (move_of b) ≡ t → (digit_count d ≡ length d → DigitsThen d r) → DigitsThen (b ∷ d) r
    go true e f =
        let on = f (omega (arith, rw e at all)) in
        record {
          counted = rw e (omega (arith, on.counted));
          valued = λ v. rw e (on.valued (v * 10 + (b - 48)));
        }
    go false e f = absurd (omega (arith, rw e at all))

-- a gap and a number stand at a position, up to another
pub record PartAt (file : List ℕ) (at number after : ℕ) : Type 0 where
  pub gap : List ℕ
  pub digits : List ℕ
  pub layout : drop at file ≡ gap ++ (digits ++ drop after file)
  pub gap_right : Gap gap
  pub number_right : Number digits number

gap_found : (s : List ℕ) (b : ℕ) (r : List ℕ) → is_white b ≡ true → s ≡ b ∷ r → 1 ≤ digit_count (drop (gap_length false s) s) → Gap (take (gap_length false s) s)
unfolding gap_length
gap_found s b r w e = rw (e, white_moves b w) (λ h. starts w (gap_front false r h))

module _ (file : List ℕ) (at : ℕ) where
  pub white_here : white_at file at ≡ true → (is_white (get_or file at 0) ≡ true) × (drop at file ≡ get_or file at 0 ∷ drop (at + 1) file)
  white_here e =
      let w = both_true (ltb at (length file)) (white_move (move_of (get_or file at 0))) e in
      (sym (white_byte (get_or file at 0)) ∙ w.1, from_here file at (white_below file at e))

  pub part_stands : (number after : ℕ) → part_at file at ≡ found_number number after → PartAt file at number after
  part_stands number after e =
      let p = part_found file at number after e in
      let s : List ℕ = drop at file in
      let g : ℕ = gap_length false s in
      let t : List ℕ = drop p.from file in
      let k : ℕ = digit_count t in
      let w = white_here p.white in
      let d = digit_front t in
      let past : drop g s ≡ t = drop-drop g at file ∙ ap (λ (i : ℕ). drop i file) (sym p.place) in
      record {
        gap = take g s;
        digits = take k t;
        layout =
            sym (take-append-drop g s)
            ∙ ap (λ (l : List ℕ). take g s ++ l) (past ∙ sym (take-append-drop k t) ∙ rw (drop-drop k p.from file, p.end));
        gap_right = gap_found s (get_or file at 0) (drop (at + 1) file) w.0 w.1 (rw past p.some);
        number_right = record {
          some = omega (arith, d.whole, p.some);
          few = omega (arith, d.whole, p.few);
          all_digits = d.counted;
          value = d.valued 0 ∙ p.value;
        };
      }

-- past the front of what stands at a position
pub drop_past : (file : List ℕ) (at : ℕ) (front rest : List ℕ) → drop at file ≡ front ++ rest → drop (at + length front) file ≡ rest
drop_past file at front rest e =
    sym (drop-drop (length front) at file) ∙ ap (drop (length front)) e ∙ drop-append_seam front rest

pub white_stands : (file : List ℕ) (at b : ℕ) (rest : List ℕ) → drop at file ≡ b ∷ rest → is_white b ≡ true → white_at file at ≡ true
white_stands file at b rest e w =
    let below : at < length file = omega (arith, length-drop at file, ap length e) in
    let here : get_or file at 0 ≡ b = rw (add-zero at) at (sym (get_or-drop at file 0 0) ∙ ap (λ (l : List ℕ). get_or l 0 0) e) in
    simp (lt-ltb at (length file) below, here, white_moves b w)

-- no digit stands where a white byte or a gap does
pub white_stops : (b : ℕ) (r : List ℕ) → is_white b ≡ true → Stops (b ∷ r) 0
white_stops b r w = stops_at (b ∷ r) 0 (omega arith) (rw (white_moves b w))

pub gap_stops : {g : List ℕ} → Gap g → (r : List ℕ) → Stops (g ++ r) 0
gap_stops (starts {b} {s} w g) r = white_stops b (s ++ r) w

-- a number is read at a position, and rest stands after it
pub record PartRead (file : List ℕ) (at number : ℕ) (rest : List ℕ) : Type 0 where
  pub after : ℕ
  pub read : part_at file at ≡ found_number number after
  pub stands : drop after file ≡ rest

module _ (number : ℕ) (digits rest : List ℕ) (n : Number digits number) (stop : Stops rest 0) where
  count_read : digit_count (digits ++ rest) ≡ length digits
  count_read = (digits_then digits rest n.all_digits).counted ∙ omega (arith, stop.none)

  number_read : (file : List ℕ) (at : ℕ) → drop at file ≡ digits ++ rest → number_at file at ≡ found_number number (at + length digits)
  unfolding number_at
  number_read file at e =
      let value : decimal_value 0 (digits ++ rest) ≡ number = (digits_then digits rest n.all_digits).valued 0 ∙ stop.kept (decimal_value 0 digits) ∙ n.value in
      simp (e, count_read, value, le-leb (length digits) most_digits n.few, ne_eqb (length digits) 0 (omega (arith, n.some)))

  gap_read : {inside : Bool} {g : List ℕ} → GapRest inside g → gap_length inside (g ++ (digits ++ rest)) ≡ length g
  gap_read {inside} {g} r =
      let none : gap_length false (digits ++ rest) ≡ 0 = gap_none (digits ++ rest) (omega (arith, count_read, n.some)) in
      omega (arith, gap_whole r (digits ++ rest))

  pub part_read : (file : List ℕ) (at : ℕ) {gap : List ℕ} → Gap gap → drop at file ≡ gap ++ (digits ++ rest) → PartRead file at number rest
  unfolding part_at
  part_read file at (starts {b} {s} w g) e =
      let gap : List ℕ = b ∷ s in
      let passed : gap_length false (drop at file) ≡ length gap = ap (gap_length false) e ∙ gap_read (white w g) in
      let stands : drop (at + length gap) file ≡ digits ++ rest = drop_past file at gap (digits ++ rest) e in
      record {
        after = at + length gap + length digits;
        read = simp (white_stands file at b (s ++ (digits ++ rest)) e w, passed) (number_read file (at + length gap) stands);
        stands = drop_past file (at + length gap) digits rest stands;
      }
