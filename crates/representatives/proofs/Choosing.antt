-- A choice between two words by arithmetic: a test as a number, and a step from one word to the other times it. Assumes nothing.
use Prim.Native.Nat.{ℕ, zero, suc, ◌+◌, ◌-◌, ◌*◌, ◌/◌, ◌%◌, ◌≤◌, ◌<◌}
use mathlib.Core.Bool.{Bool, true, false, cond}
use mathlib.Core.Logic.{⊎_elim}
use mathlib.Core.Path.{◌≡◌, refl, ◌∙◌}
use native.Mathlib.Omega.{arith}
use lib.Bits.{bit_and, and_zero_r, and_mask}
use lib.Dec.{eqb}
use borrow.Author.Tests.{eqb-true, eqb-false}
use Rattle.sets.proofs.Tests.{decided}
use Rattle.causes.specs.Bounds.{most_pixels}
use Rattle.levels.proofs.Counts.{bit}

-- 2 to the power 32 less a smaller number is below it unless that number is 0
pub same_quotient : {low q : ℕ} → low ≤ q → q ≤ most_pixels → (4294967296 - (q - low)) / 4294967296 ≡ bit (eqb low q)
same_quotient {low} {q} l b =
    ⊎_elim
    (λ t. let e : low ≡ q = eqb-true low q t in rw t (omega arith))
    (λ t. let ne : low ≡ q → ⊥ = eqb-false low q t in rw t (omega arith))
    (decided (eqb low q))

-- what holds of 0 and of 1 holds of a number that is at most 1
zero_or_one : (P : ℕ → Type 0) → P 0 → P 1 → (one : ℕ) → one ≤ 1 → P one
zero_or_one P at_0 at_1 zero l = at_0
zero_or_one P at_0 at_1 (suc zero) l = at_1
zero_or_one P at_0 at_1 (suc (suc i)) l = absurd (omega arith)

-- from b a step to a, or none, within 32 bits
pub step_chosen :
    {a b one : ℕ} → a < 4294967296 → b < 4294967296 → one ≤ 1
    → (b + (4294967296 + a - b) * one) % 4294967296 ≡ cond (eqb one 1) a b
step_chosen {a} {b} {one} la lb =
    zero_or_one (λ (i : ℕ). (b + (4294967296 + a - b) * i) % 4294967296 ≡ cond (eqb i 1) a b) (omega arith) (omega arith) one

pub step_below : {a b one : ℕ} → a < 4294967296 → b < 4294967296 → one ≤ 1 → b + (4294967296 + a - b) * one < 8589934592
step_below {a} {b} {one} la lb = zero_or_one (λ (i : ℕ). b + (4294967296 + a - b) * i < 8589934592) (omega arith) (omega arith) one

-- a word under a mask of 32 ones, or of none
pub mask_kept : {a one : ℕ} → a < 4294967296 → one ≤ 1 → bit_and a ((4294967296 - one) % 4294967296) ≡ cond (eqb one 1) a 0
mask_kept {a} {one} la =
    zero_or_one
    (λ (i : ℕ). bit_and a ((4294967296 - i) % 4294967296) ≡ cond (eqb i 1) a 0)
    (and_zero_r a)
    (and_mask a 32 ∙ omega arith)
    one

pub bit_most : (t : Bool) → bit t ≤ 1
bit_most true = omega arith
bit_most false = omega arith

-- a choice by the number of a test is the choice by the test
pub by_test : (t : Bool) {one : ℕ} → one ≡ bit t → eqb one 1 ≡ t
by_test true e = rw e refl
by_test false e = rw e refl
