-- Numbers in decimal: how the digits of a number are those of its tenth and one more, and how reading them gives the number back.
use Prim.Native.Nat.{ℕ, zero, suc, ◌+◌, ◌*◌, ◌/◌, ◌%◌, ◌^◌, ◌≤◌, ◌<◌}
use mathlib.Core.Path.{◌≡◌, refl, sym, ◌∙◌, ap}
use mathlib.Core.Bool.{Bool, true, false}
use mathlib.Core.List.{List, [], ◌∷◌, ◌++◌, append_assoc}
use native.Mathlib.Nat.{zero-add, pow-suc, div-lt_iff_lt-mul, add-sub_cancel_left}
use native.Mathlib.Omega.{arith}
use lib.Dec.{ltb}
use lib.ListN.{length, length-append, set}
use lib.Seq.{sets}
use borrow.Author.Tests.{lt-ltb, le-ltb, ltb-true, ltb-false}
use Rattle.pgm_header.specs.Bytes.{move_of, digit_move}
use Rattle.pgm_header.specs.Header.{most_digits, digit_count, decimal_value}
use Rattle.pgm_write.specs.Write.{decimal, digits_of}
use Rattle.pgm_header.proofs.Moves.{digit_48_57}
use Rattle.pgm_write.proofs.Stores.{sets_append}

pub decimal_short : (k x : ℕ) → x < 10 → decimal (suc k) x ≡ (48 + x) ∷ []
unfolding decimal
decimal_short k x h = rw (lt-ltb x 10 h)

decimal_last : (k x : ℕ) → 10 ≤ x → decimal (suc k) x ≡ decimal k (x / 10) ++ ((48 + x % 10) ∷ [])
unfolding decimal
decimal_last k x h = rw (le-ltb x 10 h)

tenth_below : (k x : ℕ) → x < 10 ^ suc k → x / 10 < 10 ^ k
tenth_below k x h = (div-lt_iff_lt-mul {k = 10} {x = x} {y = 10 ^ k} (omega arith)).1 (rw (pow-suc 10 k) at h)

-- room for one digit more changes nothing
decimal_room : (k x : ℕ) → x < 10 ^ suc k → decimal (suc (suc k)) x ≡ decimal (suc k) x
decimal_room zero x h = decimal_short 1 x h ∙ sym (decimal_short 0 x h)
decimal_room (suc k) x h = go (ltb x 10) refl (decimal_room k (x / 10) (tenth_below (suc k) x h))
  where
    go : (t : Bool) → ltb x 10 ≡ t → decimal (suc (suc k)) (x / 10) ≡ decimal (suc k) (x / 10) → decimal (suc (suc (suc k))) x ≡ decimal (suc (suc k)) x
    go true e tenth = decimal_short (suc (suc k)) x (ltb-true x 10 e) ∙ sym (decimal_short (suc k) x (ltb-true x 10 e))
    go false e tenth =
        decimal_last (suc (suc k)) x (ltb-false x 10 e)
        ∙ ap (λ (l : List ℕ). l ++ ((48 + x % 10) ∷ [])) tenth
        ∙ sym (decimal_last (suc k) x (ltb-false x 10 e))

-- the digits of a number above 9 are those of its tenth, and one more
pub decimal_long : (x : ℕ) → 10 ≤ x → x < 10 ^ most_digits → digits_of x ≡ digits_of (x / 10) ++ ((48 + x % 10) ∷ [])
decimal_long x lo hi =
    decimal_last 6 x lo ∙ ap (λ (l : List ℕ). l ++ ((48 + x % 10) ∷ [])) (sym (decimal_room 5 (x / 10) (omega arith)))

digit_byte : (d : ℕ) → d < 10 → digit_move (move_of (48 + d)) ≡ true
digit_byte d h = rw (← (digit_48_57 (48 + d) (omega arith) (omega arith)))

-- what both readings of digits share: how a reader goes over one digit
module _ (s : List ℕ) (d : ℕ) (h : d < 10) where
  count_digit : digit_count ((48 + d) ∷ s) ≡ suc (digit_count s)
  unfolding digit_count
  count_digit = rw (digit_byte d h)

  value_digit : (v : ℕ) → decimal_value v ((48 + d) ∷ s) ≡ decimal_value (v * 10 + d) s
  unfolding decimal_value
  value_digit v = rw (digit_byte d h, add-sub_cancel_left 48 d)

-- what holds of no digit, of one digit, and of a number with one digit more than its tenth, holds of every number's digits
module _
    (P : ℕ → ℕ → List ℕ → Type 0)
    (none : (x : ℕ) → P 0 x [])
    (one : (k x : ℕ) → x < 10 → P (suc k) x ((48 + x) ∷ []))
    (more : (k x : ℕ) (l : List ℕ) → 10 ≤ x → P k (x / 10) l → P (suc k) x (l ++ ((48 + x % 10) ∷ []))) where
  by_digits : (k x : ℕ) → P k x (decimal k x)
  unfolding decimal
  by_digits zero x = none x
  by_digits (suc k) x = go (ltb x 10) refl (by_digits k (x / 10))
    where
      go : (t : Bool) → ltb x 10 ≡ t → P k (x / 10) (decimal k (x / 10)) → P (suc k) x (decimal (suc k) x)
      go true e tenth = rw e (one k x (ltb-true x 10 e))
      go false e tenth = rw e (more k x (decimal k (x / 10)) (ltb-false x 10 e) tenth)

-- the digits of a number, counted and read again before any s
pub count_decimal : (k x : ℕ) (s : List ℕ) → digit_count (decimal k x ++ s) ≡ length (decimal k x) + digit_count s
count_decimal =
    by_digits
    (λ (k x : ℕ) (l : List ℕ). (s : List ℕ) → digit_count (l ++ s) ≡ length l + digit_count s)
    (λ (x : ℕ) (s : List ℕ). sym (zero-add (digit_count s)))
    (λ (k x : ℕ) (h : x < 10) (s : List ℕ). count_digit s x h ∙ omega arith)
    (λ (k x : ℕ) (l : List ℕ) (h : 10 ≤ x) (tenth : (s : List ℕ) → digit_count (l ++ s) ≡ length l + digit_count s) (s : List ℕ).
    rw (append_assoc l ((48 + x % 10) ∷ []) s)
    (tenth ((48 + x % 10) ∷ s)
    ∙ omega (arith, count_digit s (x % 10) (omega arith), length-append l ((48 + x % 10) ∷ []))))

pub value_decimal : (k x : ℕ) (s : List ℕ) → x < 10 ^ k → decimal_value 0 (decimal k x ++ s) ≡ decimal_value x s
value_decimal =
    by_digits
    (λ (k x : ℕ) (l : List ℕ). (s : List ℕ) → x < 10 ^ k → decimal_value 0 (l ++ s) ≡ decimal_value x s)
    (λ (x : ℕ) (s : List ℕ) (h : x < 10 ^ 0). let e : x ≡ 0 = omega arith in rw e)
    (λ (k x : ℕ) (h : x < 10) (s : List ℕ) (fits : x < 10 ^ suc k). value_digit s x h 0 ∙ rw (zero-add x))
    (λ (k x : ℕ) (l : List ℕ) (h : 10 ≤ x) (tenth : (s : List ℕ) → x / 10 < 10 ^ k → decimal_value 0 (l ++ s) ≡ decimal_value (x / 10) s) (s : List ℕ) (fits : x < 10 ^ suc k).
    rw (append_assoc l ((48 + x % 10) ∷ []) s)
    (tenth ((48 + x % 10) ∷ s) (tenth_below k x fits)
    ∙ value_digit s (x % 10) (omega arith) (x / 10)
    ∙ ap (λ (v : ℕ). decimal_value v s) (omega arith)))

pub length_decimal : (k x : ℕ) → length (decimal k x) ≤ k
length_decimal =
    by_digits
    (λ (k x : ℕ) (l : List ℕ). length l ≤ k)
    (λ (x : ℕ). omega arith)
    (λ (k x : ℕ) (h : x < 10). omega arith)
    (λ (k x : ℕ) (l : List ℕ) (h : 10 ≤ x) (tenth : length l ≤ k). omega (arith, length-append l ((48 + x % 10) ∷ [])))

-- one turn of the recursion that counts a number's digits, and of the one that stores them
pub length_short : (x : ℕ) → x < 10 → length (digits_of x) ≡ 1
length_short x h = ap length (decimal_short 6 x h)

pub length_long : (x : ℕ) → 10 ≤ x → x < 10 ^ most_digits → length (digits_of x) ≡ length (digits_of (x / 10)) + 1
length_long x lo hi =
    ap length (decimal_long x lo hi) ∙ length-append (digits_of (x / 10)) ((48 + x % 10) ∷ [])

pub store_short : (l : List ℕ) (at x : ℕ) → x < 10 → set l at (48 + x) ≡ sets l at (digits_of x)
store_short l at x h = rw (decimal_short 6 x h)

pub store_long : (l now : List ℕ) (at last x : ℕ) → 10 ≤ x → x < 10 ^ most_digits → last ≡ at + length (digits_of (x / 10)) → now ≡ sets l at (digits_of (x / 10)) → set now last (48 + x % 10) ≡ sets l at (digits_of x)
store_long l now at last x lo hi e f =
    rw (e, f, decimal_long x lo hi, sets_append (digits_of (x / 10)) ((48 + x % 10) ∷ []) l at)
