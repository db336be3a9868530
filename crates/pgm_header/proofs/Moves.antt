-- A header byte's move, from what its value is or is not.
use Prim.Native.Nat.{ℕ, ◌≤◌, ◌<◌}
use mathlib.Core.Path.{◌≡◌, refl, sym}
use mathlib.Core.Bool.{true, false, not}
use borrow.Author.Tests.{ne_eqb, le-leb}
use native.Mathlib.Omega.{arith}
use denote.Enum.Bare.{sameb}
use Rattle.pgm_header.specs.Bytes.{is_white, move_of, digit_move}
use Rattle.pgm_header.specs.contracts.Move.{the_type}
use Rattle.pgm_header.specs.declared.Move.{Move}
use Rattle.pgm_header.specs.declared.Move.TheVariants.{White, Digit, Comment, Foreign}

not_white : (b : ℕ) → (b ≡ 9 → ⊥) → (b ≡ 10 → ⊥) → (b ≡ 13 → ⊥) → (b ≡ 32 → ⊥) → is_white b ≡ false
not_white b n9 n10 n13 n32 = simp (ne_eqb b 9 n9, ne_eqb b 10 n10, ne_eqb b 13 n13, ne_eqb b 32 n32)

pub comment_35 : (b : ℕ) → b ≡ 35 → Comment ≡ move_of b
unfolding move_of
comment_35 b e = rw e

pub digit_48_57 : (b : ℕ) → 48 ≤ b → b < 58 → Digit ≡ move_of b
unfolding move_of
digit_48_57 b lo hi =
    simp (
      not_white b (omega arith) (omega arith) (omega arith) (omega arith),
      le-leb 48 b lo,
      le-leb b 57 (omega arith),
    )

-- a move that is compared with a digit's
pub named_digit : (m : Move) → not (sameb the_type m Digit) ≡ false → digit_move m ≡ true
named_digit White e = sym e
named_digit Digit e = refl
named_digit Comment e = sym e
named_digit Foreign e = sym e

pub named_other : (m : Move) → not (sameb the_type m Digit) ≡ true → digit_move m ≡ false
named_other White e = refl
named_other Digit e = sym e
named_other Comment e = refl
named_other Foreign e = refl
