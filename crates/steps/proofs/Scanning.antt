-- The steps of a scan over the bytes of a field, as laws of the definitions: one byte more of a class, of a fixed head, of a number.
use Prim.Native.Nat.{ℕ, suc, ◌+◌, ◌*◌, ◌-◌, ◌^◌, ◌≤◌, ◌<◌}
use mathlib.Core.Path.{◌≡◌, refl, sym, ap}
use mathlib.Core.Bool.{Bool, true, false, ◌&&◌, false≢true}
use mathlib.Core.List.{List, [], ◌∷◌}
use native.Mathlib.Numerals.{add-one}
use native.Mathlib.Nat.{pow-suc, pow-le-pow_right}
use native.Mathlib.Omega.{arith}
use lib.Dec.{eqb, leb}
use lib.ListN.{length, get_or, take, drop, drop_of_length-le}
use borrow.Author.Tests.{leb-true, eq-eqb, ne_eqb, eqb-true, eqb-false}
use Rattle.std.specs.List.{list_all}
use Rattle.std.specs.Cmp.Lexicographic.{pointwise}
use Rattle.sets.proofs.Tests.{and_false}
use Rattle.causes.proofs.Laws.{both_true}
use Rattle.causes.proofs.Lists.{from_here}
use Rattle.steps.specs.Fields.{all_between, field, value_after, starts_with, same}

-- the bytes of a field, as `all` tests them
pub all_between_all : (low high : ℕ) (s : List ℕ) → all_between low high s ≡ list_all (λ b. leb low b && leb b high) s
unfolding all_between
all_between_all low high [] = refl
all_between_all low high (b ∷ s) = ap (λ rest. (leb low b && leb b high) && rest) (all_between_all low high s)

-- the head that `strip_prefix` looks for
pub starts_stripped : (head s : List ℕ) → pointwise eqb (take (length head) s) head ≡ starts_with head s
unfolding starts_with
starts_stripped [] s = refl
starts_stripped (a ∷ head) [] = refl
starts_stripped (a ∷ head) (b ∷ s) = ap (λ rest. eqb b a && rest) (starts_stripped head s)

eqb_suc : (m n : ℕ) → eqb (suc m) (suc n) ≡ eqb m n
eqb_suc m n = go (eqb m n) refl
  where
    go : (t : Bool) → eqb m n ≡ t → eqb (suc m) (suc n) ≡ t
    go true e = eq-eqb (suc m) (suc n) (ap (λ (k : ℕ). suc k) (eqb-true m n e))
    go false e = ne_eqb (suc m) (suc n) (λ (f : suc m ≡ suc n). eqb-false m n e (omega arith))

and_swap : (a b c : Bool) → (a && (b && c)) ≡ (b && (a && c))
and_swap true b c = refl
and_swap false true c = refl
and_swap false false c = refl

-- a word, as `==` tests it
pub same_word : (word s : List ℕ) → pointwise eqb s word ≡ same word s
unfolding starts_with
same_word [] [] = refl
same_word [] (b ∷ s) = rw (ne_eqb (suc (length s)) 0 (λ (e : suc (length s) ≡ 0). omega arith))
same_word (a ∷ word) [] = sym (and_false (eqb 0 (suc (length word))))
same_word (a ∷ word) (b ∷ s) = rw (same_word word s, eqb_suc (length s) (length word)) (and_swap (eqb b a) (eqb (length s) (length word)) (starts_with word s))

-- what starts with a head is at least as long
pub starts_long : (head s : List ℕ) → starts_with head s ≡ true → length head ≤ length s
unfolding starts_with
starts_long [] s e = omega arith
starts_long (a ∷ head) [] e = absurd (false≢true e)
starts_long (a ∷ head) (b ∷ s) e = omega (arith, starts_long head s (both_true (eqb b a) (starts_with head s) e).1)

-- the value of the digits before i is v, and digits follow
pub record ValueSoFar (s : List ℕ) (v i : ℕ) : Type 0 where
  pub rest : value_after v (drop i s) ≡ value_after 0 s
  pub digits : all_between 48 57 (drop i s) ≡ true
  pub small : v < 10 ^ i
  pub few : length s ≤ 7

pub value_none : (s : List ℕ) → field 7 48 57 s ≡ true → ValueSoFar s 0 0
unfolding field
value_none s e =
    let f = both_true (leb 1 (length s) && leb (length s) 7) (all_between 48 57 s) e in
    let sized = both_true (leb 1 (length s)) (leb (length s) 7) f.0 in
    record { rest = refl; digits = f.1; small = omega arith; few = leb-true (length s) 7 sized.1 }

module _ {s : List ℕ} {v i : ℕ} (so_far : ValueSoFar s v i) where
  pub value_end : length s ≤ i → v ≡ value_after 0 s
  unfolding value_after
  value_end h = rw (drop_of_length-le s h) at so_far.rest

  module _ (h : i < length s) where
    pub record Digit : Type 0 where
      pub low : 48 ≤ get_or s i 0
      pub high : get_or s i 0 ≤ 57
      pub after : all_between 48 57 (drop (i + 1) s) ≡ true

    pub digit : Digit
    unfolding all_between
    digit =
        let e = rw (from_here s i h) at so_far.digits in
        let f = both_true (leb 48 (get_or s i 0) && leb (get_or s i 0) 57) (all_between 48 57 (drop (i + 1) s)) e in
        let g = both_true (leb 48 (get_or s i 0)) (leb (get_or s i 0) 57) f.0 in
        record { low = leb-true 48 (get_or s i 0) g.0; high = leb-true (get_or s i 0) 57 g.1; after = f.1 }

    -- a value of fewer than 7 digits
    pub value_small : v < 1000000
    value_small =
        let few : i ≤ 6 = omega (arith, so_far.few) in
        let p : 10 ^ i ≤ 10 ^ 6 = pow-le-pow_right (omega arith) few in
        omega (arith, so_far.small)

    pub value_more : ValueSoFar s (v * 10 + (get_or s i 0 - 48)) (i + 1)
    unfolding value_after
    value_more =
        record {
          rest = rw (from_here s i h) at so_far.rest;
          digits = digit.after;
          small = rw (add-one i, pow-suc 10 i) (omega (arith, so_far.small, digit.high));
          few = so_far.few;
        }
