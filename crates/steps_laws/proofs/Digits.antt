-- A number's digits, as a steps file has them: "1 to 7 digits without a leading zero" are those that the PGM writer gives for their value,
-- and no others.
use Prim.Native.Nat.{ℕ, suc, ◌+◌, ◌*◌, ◌-◌, ◌/◌, ◌%◌, ◌≤◌, ◌<◌}
use mathlib.Core.Path.{◌≡◌, refl, sym, ◌∙◌, ap}
use mathlib.Core.Bool.{Bool, true, false, cond, ◌&&◌, false≢true}
use mathlib.Core.List.{List, [], ◌∷◌, ◌++◌, append-nil, append_assoc}
use mathlib.Core.Logic.{◌⊎◌, inl, inr}
use native.Mathlib.Nat.{zero-add}
use native.Mathlib.Omega.{arith}
use lib.Dec.{eqb, leb}
use lib.ListN.{length, get_or}
use borrow.Author.Tests.{leb-true, le-leb, ne_eqb, eqb-false, not-true}
use Rattle.sets.proofs.Tests.{or_right, le_or_lt}
use Rattle.causes.proofs.Laws.{both_true}
use Rattle.pgm_header.specs.Bytes.{is_white, is_digit, move_of, digit_move}
use Rattle.pgm_header.specs.Header.{digit_count, decimal_value}
use Rattle.pgm_write.specs.Write.{decimal}
use Rattle.pgm_header.specs.declared.Move.TheVariants.{White, Digit, Comment, Foreign}
use Rattle.pgm_write.proofs.Decimals.{decimal_short, decimal_long, count_decimal, value_decimal, length_decimal}
use Rattle.steps.specs.Fields.{all_between, field, no_leading_zero, is_number, value_after}

-- the bytes that a header's reader takes for digits are those from 48 to 57
digit_byte : (b : ℕ) → digit_move (move_of b) ≡ true → is_digit b ≡ true
unfolding move_of
digit_byte b e = go (is_white b) (is_digit b) (eqb b 35) e
  where
    go : (w d c : Bool) → digit_move (cond w White (cond d Digit (cond c Comment Foreign))) ≡ true → d ≡ true
    go true d c e = absurd (false≢true e)
    go false true c e = refl
    go false false true e = absurd (false≢true e)
    go false false false e = absurd (false≢true e)

-- where a header's reader meets digits alone, a steps file's reader does too, and both read the same number
record ReadAlike (l : List ℕ) : Type 0 where
  digits : all_between 48 57 l ≡ true
  value : (v : ℕ) → value_after v l ≡ decimal_value v l

read_alike : (l : List ℕ) → digit_count l ≡ length l → ReadAlike l
unfolding digit_count decimal_value all_between value_after
read_alike [] e = record { digits = refl; value = λ (v : ℕ). refl }
read_alike (b ∷ s) e = go (digit_move (move_of b)) refl (read_alike s)
  where
    go : (t : Bool) → digit_move (move_of b) ≡ t → (digit_count s ≡ length s → ReadAlike s) → ReadAlike (b ∷ s)
    go true d later =
        let counted : suc (digit_count s) ≡ suc (length s) = rw d at e in
        let rest = later (omega arith) in
        record {
          digits = rw (digit_byte b d) rest.digits;
          value = λ (v : ℕ). rw d (rest.value (v * 10 + (b - 48)));
        }
    go false d later =
        let none : 0 ≡ suc (length s) = rw d at e in
        absurd (omega arith)

-- a digit, and those after it
record First (b : ℕ) (s : List ℕ) : Type 0 where
  low : 48 ≤ b
  high : b ≤ 57
  after : all_between 48 57 s ≡ true

first : (b : ℕ) (s : List ℕ) → all_between 48 57 (b ∷ s) ≡ true → First b s
unfolding all_between
first b s e =
    let p = both_true (leb 48 b && leb b 57) (all_between 48 57 s) e in
    let q = both_true (leb 48 b) (leb b 57) p.0 in
    record { low = leb-true 48 b q.0; high = leb-true b 57 q.1; after = p.1 }

value_grows : (v : ℕ) (s : List ℕ) → v ≤ value_after v s
unfolding value_after
value_grows v [] = omega arith
value_grows v (b ∷ s) = omega (arith, value_grows (v * 10 + (b - 48)) s)

-- further digits follow those of the number so far, unless that is 0
digits_follow : (v : ℕ) (s : List ℕ) → 1 ≤ v → all_between 48 57 s ≡ true → value_after v s < 10000000 → decimal 7 (value_after v s) ≡ decimal 7 v ++ s
unfolding value_after
digits_follow v [] some digits small = sym (append-nil (decimal 7 v))
digits_follow v (b ∷ s) some digits small =
    let f = first b s digits in
    let w : ℕ = v * 10 + (b - 48) in
    let w_small : w < 10000000 = omega (arith, value_grows w s) in
    let tenth : w / 10 ≡ v = omega arith in
    let last : 48 + w % 10 ≡ b = omega arith in
    let longer : decimal 7 w ≡ decimal 7 v ++ (b ∷ []) = rw (tenth, last) at (decimal_long w (omega arith) w_small) in
    digits_follow w s (omega arith) f.after small
    ∙ ap (λ (l : List ℕ). l ++ s) longer
    ∙ append_assoc (decimal 7 v) (b ∷ []) s

-- one digit, and digits of which the first is not 0, are what the writer gives for their value
lone_digit : (b : ℕ) → 48 ≤ b → b ≤ 57 → decimal 7 (b - 48) ≡ b ∷ []
lone_digit b low high =
    let same : 48 + (b - 48) ≡ b = omega arith in
    rw same at (decimal_short 6 (b - 48) (omega arith))

digits_written : (b : ℕ) (s : List ℕ) → 48 < b → all_between 48 57 (b ∷ s) ≡ true → value_after 0 (b ∷ s) < 10000000
    → decimal 7 (value_after 0 (b ∷ s)) ≡ b ∷ s
unfolding value_after
digits_written b s some digits small =
    let f = first b s digits in
    rw (zero-add (b - 48))
    (digits_follow (b - 48) s (omega arith) f.after (rw (zero-add (b - 48)) at small)
    ∙ ap (λ (l : List ℕ). l ++ s) (lone_digit b f.low f.high))

number_parts : (l : List ℕ) → is_number l ≡ true → (all_between 48 57 l ≡ true) × (no_leading_zero l ≡ true)
unfolding field
number_parts l e =
    let p = both_true (field 7 48 57 l) (no_leading_zero l) e in
    ((both_true (leb 1 (length l) && leb (length l) 7) (all_between 48 57 l) p.0).1, p.1)

-- a number on a step line is spelled as the writer spells it
pub number_written : (l : List ℕ) → is_number l ≡ true → value_after 0 l < 10000000 → decimal 7 (value_after 0 l) ≡ l
unfolding field value_after
number_written [] e small = absurd (false≢true e)
number_written (b ∷ []) e small =
    let f = first b [] (number_parts (b ∷ []) e).0 in
    rw (zero-add (b - 48)) (lone_digit b f.low f.high)
number_written (b ∷ c ∷ s) e small =
    let p = number_parts (b ∷ c ∷ s) e in
    let f = first b (c ∷ s) p.0 in
    let many : suc (suc (length s)) ≡ 1 → ⊥ = λ (lone : suc (suc (length s)) ≡ 1). omega arith in
    let not_zero = eqb-false b 48 (not-true (eqb b 48) (rw (ne_eqb (suc (suc (length s))) 1 many) at p.1)) in
    digits_written b (c ∷ s) (omega (arith, not_zero)) p.0 small

-- no digits of a number are fewer than those that the writer gives
fewest_digits : (s : List ℕ) → all_between 48 57 s ≡ true → 1 ≤ value_after 0 s → value_after 0 s < 10000000
    → length (decimal 7 (value_after 0 s)) ≤ length s
unfolding value_after
fewest_digits [] digits some small = absurd (omega arith)
fewest_digits (b ∷ s) digits some small = go (le_or_lt b 48) (fewest_digits s f.after)
  where
    f : First b s
    f = first b s digits

    go : (b ≤ 48) ⊎ (48 < b)
        → (1 ≤ value_after 0 s → value_after 0 s < 10000000 → length (decimal 7 (value_after 0 s)) ≤ length s)
        → length (decimal 7 (value_after 0 (b ∷ s))) ≤ suc (length s)
    go (inl zero) later =
        let none : 0 * 10 + (b - 48) ≡ 0 = omega arith in
        rw none (omega (arith, later (rw none at some) (rw none at small)))
    go (inr more) later = omega (arith, ap length (digits_written b s more digits small))

-- what the writer gives for a number: digits of that value
module _ (x : ℕ) (small : x < 10000000) where
  alike : ReadAlike (decimal 7 x)
  unfolding digit_count
  alike = read_alike (decimal 7 x) (rw append-nil at (count_decimal 7 x []) ∙ omega arith)

  pub decimal_digits : all_between 48 57 (decimal 7 x) ≡ true
  decimal_digits = alike.digits

  pub decimal_back : value_after 0 (decimal 7 x) ≡ x
  unfolding decimal_value
  decimal_back = alike.value 0 ∙ rw append-nil at (value_decimal 7 x [] small)

  -- and, where it is not 0, "a number of 1 to 7 digits without a leading zero": after a leading 0 there would be fewer digits of it
  module _ (some : 1 ≤ x) where
    first_not_zero : (l : List ℕ) → l ≡ decimal 7 x → (1 ≤ length l) × (get_or l 0 0 ≡ 48 → ⊥)
    unfolding value_after
    first_not_zero [] is =
        let value : 0 ≡ x = rw (← is) at decimal_back in
        absurd (omega arith)
    first_not_zero (b ∷ s) is = (omega arith, leads)
      where
        leads : b ≡ 48 → ⊥
        leads zero =
            let none : 0 * 10 + (b - 48) ≡ 0 = omega arith in
            let digits : all_between 48 57 (b ∷ s) ≡ true = rw (← is) at decimal_digits in
            let value : value_after 0 s ≡ x = rw none at (rw (← is) at decimal_back) in
            let fewer = fewest_digits s (first b s digits).after (omega arith) (omega arith) in
            omega (arith, (rw value at fewer), ap length is)

    pub decimal_number : is_number (decimal 7 x) ≡ true
    unfolding field
    decimal_number =
        let f = first_not_zero (decimal 7 x) refl in
        rw (
          le-leb 1 (length (decimal 7 x)) f.0,
          le-leb (length (decimal 7 x)) 7 (length_decimal 7 x),
          decimal_digits,
          ne_eqb (get_or (decimal 7 x) 0 0) 48 f.1,
        )
        (or_right (eqb (length (decimal 7 x)) 1) true refl)
