-- The steps of the header reader as laws of the definitions: the sign, one byte more of a gap, one digit more of a number.
use Prim.Native.Nat.{ℕ, suc, ◌+◌, ◌*◌, ◌-◌, ◌^◌, ◌≤◌, ◌<◌}
use mathlib.Core.Path.{◌≡◌, refl, ◌∙◌}
use mathlib.Core.Bool.{Bool, true, false, cond}
use mathlib.Core.List.{List}
use native.Mathlib.Numerals.{add-one}
use native.Mathlib.Nat.{add-zero, pow-suc, pow-le-pow_right}
use native.Mathlib.Omega.{arith}
use lib.Dec.{eqb, leb, ltb}
use lib.ListN.{length, get_or, drop, drop_of_length-le}
use borrow.Author.Tests.{le-leb, lt-leb, leb-true, ltb-true}
use Rattle.causes.proofs.Laws.{both_true}
use Rattle.causes.proofs.Lists.{from_here}
use Rattle.pgm_header.specs.Bytes.{move_of, is_white, is_digit, white_move, digit_move, ends_comment}
use Rattle.pgm_header.specs.Header.{gap_length, digit_count, decimal_value, most_digits, finished_number, number_at, white_at, header_at}
use Rattle.std.specs.Prelude.{None}
use Rattle.pgm_header.proofs.Parts.{found_number, found_header, part_at, last_white_at, maximum_at, height_at, in_parts}
use Rattle.pgm_header.specs.declared.Move.TheVariants.{White, Digit, Comment, Foreign}

module _ (file : List ℕ) (at : ℕ) where
  pub gap_past_end : (inside : Bool) → length file ≤ at → at + gap_length inside (drop at file) ≡ at
  unfolding gap_length
  gap_past_end inside h = rw (drop_of_length-le file h) (add-zero at)

  module _ (h : at < length file) where
    pub gap_white : move_of (get_or file at 0) ≡ White → at + gap_length false (drop at file) ≡ at + 1 + gap_length false (drop (at + 1) file)
    unfolding gap_length
    gap_white e = rw (from_here file at h, e) (omega arith)

    pub gap_comment : move_of (get_or file at 0) ≡ Comment → at + gap_length false (drop at file) ≡ at + 1 + gap_length true (drop (at + 1) file)
    unfolding gap_length
    gap_comment e = rw (from_here file at h, e) (omega arith)

    pub gap_digit : move_of (get_or file at 0) ≡ Digit → at + gap_length false (drop at file) ≡ at
    unfolding gap_length
    gap_digit e = rw (from_here file at h, e) (add-zero at)

    pub gap_foreign : move_of (get_or file at 0) ≡ Foreign → at + gap_length false (drop at file) ≡ at
    unfolding gap_length
    gap_foreign e = rw (from_here file at h, e) (add-zero at)

    pub gap_comment_on : ends_comment (get_or file at 0) ≡ false → at + gap_length true (drop at file) ≡ at + 1 + gap_length true (drop (at + 1) file)
    unfolding gap_length
    gap_comment_on e = rw (from_here file at h, e) (omega arith)

    pub gap_comment_end : ends_comment (get_or file at 0) ≡ true → at + gap_length true (drop at file) ≡ at + 1 + gap_length false (drop (at + 1) file)
    unfolding gap_length
    gap_comment_end e = rw (from_here file at h, e) (omega arith)

digit_of_move : (white digit comment : Bool) → digit_move (cond white White (cond digit Digit (cond comment Comment Foreign))) ≡ true → digit ≡ true
digit_of_move white true comment e = refl
digit_of_move true false comment e = e
digit_of_move false false true e = e
digit_of_move false false false e = e

-- a digit's value
pub digit_range : (b : ℕ) → digit_move (move_of b) ≡ true → (48 ≤ b) × (b ≤ 57)
unfolding move_of
digit_range b e =
    let d = both_true (leb 48 b) (leb b 57) (digit_of_move (is_white b) (is_digit b) (eqb b 35) e) in
    (leb-true 48 b d.0, leb-true b 57 d.1)

-- count digits from a position on have been read up to at, and their value so far is value
pub record Reading (file : List ℕ) (from at value count : ℕ) : Type 0 where
  pub counted : digit_count (drop from file) ≡ count + digit_count (drop at file)
  pub valued : decimal_value 0 (drop from file) ≡ decimal_value value (drop at file)
  pub place : at ≡ from + count
  pub few : count ≤ most_digits
  pub small : value < 10 ^ count

-- there is room for one digit more: a value of fewer digits than the most
pub value_small : {file : List ℕ} {from at value count : ℕ} → Reading file from at value count → (count ≡ most_digits → ⊥) → value * 10 + 9 < 10 ^ most_digits
value_small {count = count} r n =
    let few : count + 1 ≤ most_digits = omega (arith, r.few) in
    let p : 10 ^ (count + 1) ≤ 10 ^ most_digits = pow-le-pow_right (omega arith) few in
    omega (arith, r.small, rw (add-one count, pow-suc 10 count) at p)

-- no digit stands at a position
pub record Stops (file : List ℕ) (at : ℕ) : Type 0 where
  pub none : digit_count (drop at file) ≡ 0
  pub kept : (v : ℕ) → decimal_value v (drop at file) ≡ v

pub stops_past_end : (file : List ℕ) (at : ℕ) → length file ≤ at → Stops file at
unfolding digit_count decimal_value
stops_past_end file at h =
    record { none = rw (drop_of_length-le file h); kept = λ (v : ℕ). rw (drop_of_length-le file h) }

module _ (file : List ℕ) (at : ℕ) (h : at < length file) where
  pub stops_at : digit_move (move_of (get_or file at 0)) ≡ false → Stops file at
  unfolding digit_count decimal_value
  stops_at e = record { none = rw (from_here file at h, e); kept = λ (v : ℕ). rw (from_here file at h, e) }

  module _ (digit : digit_move (move_of (get_or file at 0)) ≡ true) where
    one_digit_more : digit_count (drop at file) ≡ suc (digit_count (drop (at + 1) file))
    unfolding digit_count
    one_digit_more = rw (from_here file at h, digit)

    value_after : (v : ℕ) → decimal_value v (drop at file) ≡ decimal_value (v * 10 + (get_or file at 0 - 48)) (drop (at + 1) file)
    unfolding decimal_value
    value_after v = rw (from_here file at h, digit)

    module _ (from value count : ℕ) (r : Reading file from at value count) where
      pub reading_more : (count ≡ most_digits → ⊥) → Reading file from (at + 1) (value * 10 + (get_or file at 0 - 48)) (count + 1)
      reading_more n =
          record {
            counted = r.counted ∙ omega (arith, one_digit_more);
            valued = r.valued ∙ value_after value;
            place = omega (arith, r.place);
            few = omega (arith, r.few);
            small = rw (add-one count, pow-suc 10 count) (omega (arith, r.small, digit_range (get_or file at 0) digit));
          }

      pub reading_long : count ≡ most_digits → None ≡ number_at file from
      unfolding number_at
      reading_long e = simp (lt-leb (digit_count (drop from file)) most_digits (omega (arith, r.counted, one_digit_more)))

pub reading_done : (file : List ℕ) (from at value count : ℕ) → Reading file from at value count → Stops file at → finished_number value count (from + count) ≡ number_at file from
unfolding number_at
reading_done file from at value count r s =
    let c : digit_count (drop from file) ≡ count = omega (arith, r.counted, s.none) in
    let v : decimal_value 0 (drop from file) ≡ value = r.valued ∙ s.kept value in
    simp (c, v, le-leb count most_digits r.few)

pub white_below : (file : List ℕ) (at : ℕ) → white_at file at ≡ true → at < length file
white_below file at e = ltb-true at (length file) (both_true (ltb at (length file)) (white_move (move_of (get_or file at 0))) e).0

-- the header, from its parts
pub whole_header :
    (file : List ℕ) (at width a : ℕ) → part_at file at ≡ found_number width a
    → (height b : ℕ) → part_at file a ≡ found_number height b
    → (maximum c : ℕ) → part_at file b ≡ found_number maximum c
    → white_at file c ≡ true
    → found_header width height maximum (c + 1) ≡ header_at file at
unfolding height_at maximum_at last_white_at
whole_header file at width a e height b f maximum c g w = simp (in_parts file at, e, f, g, w)
