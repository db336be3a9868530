-- The bits of a word: what setting or clearing one does to the others, the bits below a place, and the highest. Then the set of the open
-- levels: a level opened, a level closed, and the search below a level. Assumes nothing.
use Prim.Native.Nat.{ℕ, suc, ◌+◌, ◌*◌, ◌-◌, ◌/◌, ◌%◌, ◌^◌, ◌≤◌, ◌<◌}
use mathlib.Core.Path.{◌≡◌, sym, ap, ap₂, ◌∙◌}
use native.Mathlib.Nat.{max-eq_right, lt_of_lt_of_le, lt_of_le_of_lt, lt_of_not-le, not-le_of_lt, add-zero, one-mul, mul_comm, mul_assoc, suc-mul, pow-suc, mod-lt, mod-eq_of_lt, zero-div, div-eq_of_lt, div-eq_of_lt-le, mul-add-div_right, mul-add-mod_self_right}
use native.Mathlib.Omega.{arith}
use lib.Bits.{bit_or, or_block, or_step, or_zero_r}
use lib.ListN.{get_or, set, length-set}
use lib.Pow.{pow_pos, pow_mono, pow-add, split, high, shr-shr, shl_exact}
use lib.Seq.{get_or-set_same, get_or-set_other}
use Rattle.levels.specs.Tables.{Changed}
use Rattle.levels.proofs.Counts.{by_cases, equal_or_not, below_or_not}
use Rattle.levels.proofs.Tables.{stored}
use Rattle.queues.specs.Marks.{digit, mark, Marked, Highest}
use Rattle.queues.specs.declared.Opened.{Opened}
use Rattle.queues.specs.Queues.{Whole, NextOpen}

-- a number split at place j: the bits below j, at j and above
digit_below : (a j r i : ℕ) → i < j → digit (a * 2 ^ j + r) i ≡ digit r i
digit_below a j r i h =
    let d : ℕ = j - suc i in
    let e : 2 ^ j ≡ 2 ^ d * 2 * 2 ^ i =
    ap (λ (x : ℕ). 2 ^ x) (omega arith) ∙ pow-add 2 (suc d) i ∙ ap (λ (x : ℕ). x * 2 ^ i) (pow-suc 2 d)
    in
    let p : a * 2 ^ j ≡ a * 2 ^ d * 2 * 2 ^ i =
    ap (λ (x : ℕ). a * x) e ∙ sym (mul_assoc a (2 ^ d * 2) (2 ^ i)) ∙ ap (λ (x : ℕ). x * 2 ^ i) (sym (mul_assoc a (2 ^ d) 2))
    in
    ap (λ (x : ℕ). (x + r) / 2 ^ i % 2) p
    ∙ ap (λ (x : ℕ). x % 2) (mul-add-div_right (pow_pos i) (a * 2 ^ d * 2) r)
    ∙ mul-add-mod_self_right (a * 2 ^ d) 2 (r / 2 ^ i)

digit_at : (a j r : ℕ) → r < 2 ^ j → digit (a * 2 ^ j + r) j ≡ a % 2
digit_at a j r h = ap (λ (x : ℕ). x % 2) (high a j h)

digit_above : (a j r i : ℕ) → r < 2 ^ j → j < i → digit (a * 2 ^ j + r) i ≡ digit (a / 2) (i - suc j)
digit_above a j r i h lt =
    let d : ℕ = i - suc j in
    ap (λ (x : ℕ). (a * 2 ^ j + r) / 2 ^ x % 2) (omega arith)
    ∙ ap (λ (x : ℕ). x % 2) (sym (shr-shr (a * 2 ^ j + r) j (1 + d)))
    ∙ ap (λ (x : ℕ). x / 2 ^ (1 + d) % 2) (high a j h)
    ∙ ap (λ (x : ℕ). x % 2) (sym (shr-shr a 1 d))

-- numbers that differ at place j only
digit_other :
    (a b j r i : ℕ) → r < 2 ^ j → a / 2 ≡ b / 2 → (i ≡ j → ⊥) → digit (a * 2 ^ j + r) i ≡ digit (b * 2 ^ j + r) i
digit_other a b j r i h e ne =
    by_cases
    (below_or_not i j)
    (λ lt. digit_below a j r i lt ∙ sym (digit_below b j r i lt))
    (λ ge.
    digit_above a j r i h (omega arith)
    ∙ ap (λ (x : ℕ). digit x (i - suc j)) e
    ∙ sym (digit_above b j r i h (omega arith)))

-- a number with bit j set
with_bit : (w j : ℕ) → bit_or w (2 ^ j) ≡ (w / 2 ^ j / 2 * 2 + 1) * 2 ^ j + w % 2 ^ j
with_bit w j =
    let a : ℕ = w / 2 ^ j in
    ap₂ bit_or (sym (split w j)) (sym (add-zero (1 * 2 ^ j) ∙ one-mul (2 ^ j)))
    ∙ or_block j a 1 (w % 2 ^ j) 0 (mod-lt w (pow_pos j)) (pow_pos j)
    ∙ ap₂
    (λ (x y : ℕ). x * 2 ^ j + y)
    (or_step a 1 ∙ ap₂ (λ (x y : ℕ). x * 2 + y) (or_zero_r (a / 2)) (max-eq_right (omega (arith, mod-lt a (pow_pos 1)))))
    (or_zero_r (w % 2 ^ j))

pub set_here : (w j : ℕ) → digit (bit_or w (2 ^ j)) j ≡ 1
set_here w j =
    ap (λ (x : ℕ). digit x j) (with_bit w j)
    ∙ digit_at (w / 2 ^ j / 2 * 2 + 1) j (w % 2 ^ j) (mod-lt w (pow_pos j))
    ∙ mul-add-mod_self_right (w / 2 ^ j / 2) 2 1

pub set_there : (w j i : ℕ) → (i ≡ j → ⊥) → digit (bit_or w (2 ^ j)) i ≡ digit w i
set_there w j i ne =
    ap (λ (x : ℕ). digit x i) (with_bit w j)
    ∙ digit_other (w / 2 ^ j / 2 * 2 + 1) (w / 2 ^ j) j (w % 2 ^ j) i (mod-lt w (pow_pos j)) (omega arith) ne
    ∙ ap (λ (x : ℕ). digit x i) (split w j)

-- a number with bit j cleared
pub bit_fits : (w j : ℕ) → digit w j ≡ 1 → 2 ^ j ≤ w
bit_fits w j one =
    by_cases
    (below_or_not w (2 ^ j))
    (λ lt. let z : w / 2 ^ j ≡ 0 = div-eq_of_lt lt in absurd (omega arith))
    (λ ge. ge)

without_bit : (w j : ℕ) → digit w j ≡ 1 → w - 2 ^ j ≡ (w / 2 ^ j - 1) * 2 ^ j + w % 2 ^ j
without_bit w j one =
    let a : ℕ = w / 2 ^ j in
    let e : a ≡ suc (a - 1) = omega arith in
    let p : a * 2 ^ j ≡ (a - 1) * 2 ^ j + 2 ^ j = ap (λ (x : ℕ). x * 2 ^ j) e ∙ suc-mul (a - 1) (2 ^ j) in
    omega (arith, split w j)

pub clear_here : (w j : ℕ) → digit w j ≡ 1 → digit (w - 2 ^ j) j ≡ 0
clear_here w j one =
    ap (λ (x : ℕ). digit x j) (without_bit w j one)
    ∙ digit_at (w / 2 ^ j - 1) j (w % 2 ^ j) (mod-lt w (pow_pos j))
    ∙ omega arith

pub clear_there : (w j i : ℕ) → digit w j ≡ 1 → (i ≡ j → ⊥) → digit (w - 2 ^ j) i ≡ digit w i
clear_there w j i one ne =
    ap (λ (x : ℕ). digit x i) (without_bit w j one)
    ∙ digit_other (w / 2 ^ j - 1) (w / 2 ^ j) j (w % 2 ^ j) i (mod-lt w (pow_pos j)) (omega arith) ne
    ∙ ap (λ (x : ℕ). digit x i) (split w j)

-- the bits below place b
low_digit : (w b j : ℕ) → j < b → digit w j ≡ digit (w % 2 ^ b) j
low_digit w b j h =
    ap (λ (x : ℕ). digit x j) (sym (split w b)) ∙ digit_below (w / 2 ^ b) b (w % 2 ^ b) j h

-- the highest bit, and those above it
top_digit : {w h : ℕ} → Highest w h → digit w h ≡ 1
top_digit {w} {h} H =
    let lo = H.reached in
    let hi = H.beyond in
    let e : 2 ^ (h + 1) ≡ 2 * 2 ^ h = pow-add 2 h 1 ∙ mul_comm (2 ^ h) 2 in
    let q : w / 2 ^ h ≡ 1 = div-eq_of_lt-le (2 ^ h) (omega arith) (omega arith) in
    ap (λ (x : ℕ). x % 2) q

over_digit : {w h : ℕ} → Highest w h → (i : ℕ) → h < i → digit w i ≡ 0
over_digit H i lt =
    ap (λ (x : ℕ). x % 2) (div-eq_of_lt (lt_of_lt_of_le H.beyond (pow_mono (omega arith))))

-- the bit that `ilog2` names
pub highest : {w h : ℕ} → 2 ^ h ≤ w → w < 2 * 2 ^ h → h < 64 → Highest w h
highest {w} {h} lo hi place =
    let e : 2 ^ (h + 1) ≡ 2 * 2 ^ h = pow-add 2 h 1 ∙ mul_comm (2 ^ h) 2 in
    record { place = place; reached = lo; beyond = rw e hi }

-- the place of a bit of a number is below its length
top_within : {w h : ℕ} → Highest w h → (b : ℕ) → w < 2 ^ b → h < b
top_within H b hi = lt_of_not-le (λ g. not-le_of_lt (lt_of_le_of_lt H.reached hi) (pow_mono g))

-- a shift of one at 64 bits, which the machine cuts to 64 bits, is a power of two
pub one_shifted : (j : ℕ) → j < 64 → (1 * 2 ^ j) % 2 ^ 64 ≡ 2 ^ j
one_shifted j h = shl_exact {a = 1} 1 j 64 (omega arith) (omega arith) ∙ one-mul (2 ^ j)

-- the open nodes with a new number of level l, a new word where its bit is, and new counts
abbrev pub remarked : Opened → ℕ → ℕ → ℕ → ℕ → ℕ → Opened
remarked opened l v x taken closed =
    record { numbers = set opened.numbers l v; levels = set opened.levels (l / 64) x; taken = taken; closed = closed }

module _ (opened : Opened) (l v x taken closed : ℕ) (wide : Whole opened) (lo : l < 256) where
  abbrev after : Opened
  after = remarked opened l v x taken closed

  pub remarked_wide : Whole after
  remarked_wide =
      record {
        numbers = length-set opened.numbers l v ∙ wide.numbers;
        levels = length-set opened.levels (l / 64) x ∙ wide.levels;
      }

  pub number_stored : Changed 256 (λ k. get_or opened.numbers k 0) (λ k. get_or after.numbers k 0) l v
  number_stored = stored 256 opened.numbers l v (omega (arith, wide.numbers))

  word_here : get_or after.levels (l / 64) 0 ≡ x
  word_here = get_or-set_same opened.levels (l / 64) x 0 (omega (arith, wide.levels))

  module _ (others : (i : ℕ) → (i ≡ l % 64 → ⊥) → digit x i ≡ digit (get_or opened.levels (l / 64) 0) i) where
    mark_there : (k : ℕ) → k < 256 → (k ≡ l → ⊥) → mark after k ≡ mark opened k
    mark_there k h ne =
        by_cases
        (equal_or_not (k / 64) (l / 64))
        (λ e.
        ap (λ (i : ℕ). digit (get_or after.levels i 0) (k % 64)) e
        ∙ ap (λ (w : ℕ). digit w (k % 64)) word_here
        ∙ others (k % 64) (λ z. ne (omega arith))
        ∙ ap (λ (i : ℕ). digit (get_or opened.levels i 0) (k % 64)) (sym e))
        (λ far. ap (λ (w : ℕ). digit w (k % 64)) (get_or-set_other opened.levels (l / 64) (k / 64) x 0 far))

    pub mark_opened : {n : ℕ} → Marked n opened → (v ≡ n → ⊥) → digit x (l % 64) ≡ 1 → Marked n after
    mark_opened M not_n one =
        record {
          open_set = λ k h o.
              by_cases
              (equal_or_not k l)
              (λ e. rw (e, word_here) one)
              (λ ne. mark_there k h ne ∙ M.open_set k h (λ z. o (number_stored.there k h ne ∙ z)));
          closed_clear = λ k h c.
              by_cases
              (equal_or_not k l)
              (λ e. absurd (not_n (sym number_stored.here ∙ (rw e at c))))
              (λ ne. mark_there k h ne ∙ M.closed_clear k h (sym (number_stored.there k h ne) ∙ c));
        }

    pub mark_closed : {n : ℕ} → Marked n opened → v ≡ n → digit x (l % 64) ≡ 0 → Marked n after
    mark_closed M is_n none =
        record {
          open_set = λ k h o.
              by_cases
              (equal_or_not k l)
              (λ e. absurd (o (rw e (number_stored.here ∙ is_n))))
              (λ ne. mark_there k h ne ∙ M.open_set k h (λ z. o (number_stored.there k h ne ∙ z)));
          closed_clear = λ k h c.
              by_cases
              (equal_or_not k l)
              (λ e. rw (e, word_here) none)
              (λ ne. mark_there k h ne ∙ M.closed_clear k h (sym (number_stored.there k h ne) ∙ c));
        }

-- the search in the first b bits of word i, where no level from there on and below l is open
module _ {n : ℕ} {opened : Opened} {l : ℕ} (M : Marked n opened) (lo : l < 256) (i b : ℕ) (within : 64 * i + b ≤ l) (short : b ≤ 64)
    (passed : (k : ℕ) → 64 * i + b ≤ k → k < l → get_or opened.numbers k 0 ≡ n)
  where
    closed_of : (k : ℕ) → k < 256 → mark opened k ≡ 0 → get_or opened.numbers k 0 ≡ n
    closed_of k h none =
        by_cases (equal_or_not (get_or opened.numbers k 0) n) (λ e. e) (λ o. absurd (omega (arith, M.open_set k h o)))

    mark_is : (k : ℕ) → 64 * i ≤ k → k < 64 * i + b → mark opened k ≡ digit (get_or opened.levels i 0 % 2 ^ b) (k - 64 * i)
    mark_is k ge lt =
        let word : k / 64 ≡ i = omega arith in
        let place : k % 64 ≡ k - 64 * i = omega arith in
        ap₂ (λ (y z : ℕ). digit (get_or opened.levels y 0) z) word place
        ∙ low_digit (get_or opened.levels i 0) b (k - 64 * i) (omega arith)

    none_within : get_or opened.levels i 0 % 2 ^ b ≡ 0 → (k : ℕ) → 64 * i ≤ k → k < l → get_or opened.numbers k 0 ≡ n
    none_within none k ge lt =
        by_cases
        (below_or_not k (64 * i + b))
        (λ inside.
        closed_of
        k
        (omega arith)
        (mark_is k ge inside
        ∙ ap (λ (w : ℕ). digit w (k - 64 * i)) none
        ∙ ap (λ (w : ℕ). w % 2) (zero-div (2 ^ (k - 64 * i)))))
        (λ past. passed k past lt)

    next_in : {h : ℕ} → Highest (get_or opened.levels i 0 % 2 ^ b) h → NextOpen n opened l (64 * i + h)
    next_in {h} H =
        let w : ℕ = get_or opened.levels i 0 % 2 ^ b in
        let inside : h < b = top_within H b (mod-lt (get_or opened.levels i 0) (pow_pos b)) in
        record {
          lower = omega arith;
          open_here = λ e.
              let place : 64 * i + h - 64 * i ≡ h = omega arith in
              let one : mark opened (64 * i + h) ≡ 1 =
              mark_is (64 * i + h) (omega arith) (omega arith)
              ∙ ap (λ (y : ℕ). digit w y) place
              ∙ top_digit H
              in
              let none = M.closed_clear (64 * i + h) (omega arith) e in
              omega arith;
          next = λ k above below.
              by_cases
              (below_or_not k (64 * i + b))
              (λ inner. closed_of k (omega arith) (mark_is k (omega arith) inner ∙ over_digit H (k - 64 * i) (omega arith)))
              (λ past. passed k past below);
        }

-- the bits below level l in its own word, then the words below, from the next on
module _ {n : ℕ} {opened : Opened} {l : ℕ} (M : Marked n opened) (lo : l < 256) where
  own_is : get_or opened.levels (l / 64) 0 % ((1 * 2 ^ (l % 64)) % 2 ^ 64) ≡ get_or opened.levels (l / 64) 0 % 2 ^ (l % 64)
  own_is = ap (λ (p : ℕ). get_or opened.levels (l / 64) 0 % p) (one_shifted (l % 64) (omega arith))

  pub own_none :
      get_or opened.levels (l / 64) 0 % ((1 * 2 ^ (l % 64)) % 2 ^ 64) ≡ 0 → (k : ℕ) → 64 * (l / 64) ≤ k → k < l → get_or opened.numbers k 0 ≡ n
  own_none none =
      none_within M lo (l / 64) (l % 64) (omega arith) (omega arith) (λ k a b. absurd (omega arith)) (sym own_is ∙ none)

  pub own_next :
      {h : ℕ} → Highest (get_or opened.levels (l / 64) 0 % ((1 * 2 ^ (l % 64)) % 2 ^ 64)) h → NextOpen n opened l (64 * (l / 64) + h)
  own_next H =
      next_in M lo (l / 64) (l % 64) (omega arith) (omega arith) (λ k a b. absurd (omega arith)) (rw own_is at H)

  module _ {i : ℕ} (some : 0 < i) (below : 64 * i ≤ l) (passed : (k : ℕ) → 64 * i ≤ k → k < l → get_or opened.numbers k 0 ≡ n) where
    before : (k : ℕ) → 64 * (i - 1) + 64 ≤ k → k < l → get_or opened.numbers k 0 ≡ n
    before k a b = passed k (omega arith) b

    within : 64 * (i - 1) + 64 ≤ l
    within = omega arith

    pub word_none : get_or opened.levels (i - 1) 0 ≡ 0 → (k : ℕ) → 64 * (i - 1) ≤ k → k < l → get_or opened.numbers k 0 ≡ n
    word_none none =
        none_within M lo (i - 1) 64 within (omega arith) before (ap (λ (w : ℕ). w % 2 ^ 64) none)

    pub word_next : {h : ℕ} → Highest (get_or opened.levels (i - 1) 0) h → NextOpen n opened l (64 * (i - 1) + h)
    word_next H =
        let whole : get_or opened.levels (i - 1) 0 % 2 ^ 64 ≡ get_or opened.levels (i - 1) 0 =
        mod-eq_of_lt (lt_of_lt_of_le H.beyond (pow_mono {j = 64} (omega (arith, H.place))))
        in
        next_in M lo (i - 1) 64 within (omega arith) before (rw whole H)
