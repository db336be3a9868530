-- How a text falls into lines: the first line ends at the first byte 10, and the other lines follow it.
use Prim.Native.Nat.{ℕ, suc, ◌+◌, ◌≤◌, ◌<◌}
use mathlib.Core.Path.{◌≡◌, refl, ap}
use mathlib.Core.Bool.{Bool, true, false, cond, false≢true}
use mathlib.Core.List.{List, [], ◌∷◌}
use native.Mathlib.Numerals.{add-one}
use native.Mathlib.Omega.{arith}
use lib.Dec.{eqb, ltb}
use lib.ListN.{length, take, drop}
use borrow.Author.Tests.{ltb-false}
use Rattle.std.specs.Prelude.{Some, None}
use Rattle.std.specs.List.{position, position_or_len}
use Rattle.std.specs.Option.{unwrap_or}
use Rattle.std.proofs.lemmas.List.Recursion.{is_position_or_len}
use Rattle.steps.specs.Lines.{ends_line, longer, lines, line_length}

pub ended_some : (file : List ℕ) → ends_line file ≡ true → 0 < length file
unfolding ends_line
ended_some [] e = absurd (false≢true e)
ended_some (b ∷ file) e = omega arith

pub line_length_le : (s : List ℕ) → line_length s ≤ length s
unfolding line_length
line_length_le [] = omega arith
line_length_le (b ∷ s) = go (eqb b 10) (line_length_le s)
  where
    go : (t : Bool) → line_length s ≤ length s → cond t 0 (suc (line_length s)) ≤ suc (length s)
    go true h = omega arith
    go false h = omega arith

-- the first byte 10, as `position` finds it
line_length_position : (s : List ℕ) → line_length s ≡ position_or_len (λ b. eqb b 10) s
unfolding line_length
line_length_position = is_position_or_len line_length (λ b. eqb b 10) refl more
  where
    more : (b : ℕ) (s : List ℕ) → line_length (b ∷ s) ≡ cond (eqb b 10) 0 (1 + line_length s)
    more b s = go (eqb b 10)
      where
        go : (t : Bool) → cond t 0 (suc (line_length s)) ≡ cond t 0 (1 + line_length s)
        go true = refl
        go false = omega arith

pub line_length_found : (s : List ℕ) → unwrap_or (position (λ b. eqb b 10) s) (length s) ≡ line_length s
line_length_found s = rw (← line_length_position s) (go (ltb (line_length s) (length s)) refl)
  where
    go : (t : Bool) → ltb (line_length s) (length s) ≡ t → unwrap_or (cond t (Some (line_length s)) None) (length s) ≡ line_length s
    go true e = refl
    go false e = omega (arith, line_length_le s, ltb-false (line_length s) (length s) e)

-- the first line, and the lines after it
pub lines_none : (s : List ℕ) → length s ≡ 0 → lines s ≡ []
unfolding lines
lines_none [] e = refl
lines_none (b ∷ s) e = absurd (omega arith)

pub lines_first : (s : List ℕ) → 0 < length s → lines s ≡ take (line_length s) s ∷ lines (drop (suc (line_length s)) s)
unfolding lines line_length
lines_first [] h = absurd (omega arith)
lines_first (b ∷ []) h = go (eqb b 10)
  where
    go : (t : Bool) → cond t ([] ∷ []) (longer b []) ≡ take (cond t 0 1) (b ∷ []) ∷ lines (drop (suc (cond t 0 1)) (b ∷ []))
    go true = refl
    go false = refl
lines_first (b ∷ c ∷ s) h = go (eqb b 10) (lines_first (c ∷ s) (omega arith))
  where
    go : (t : Bool) → lines (c ∷ s) ≡ take (line_length (c ∷ s)) (c ∷ s) ∷ lines (drop (suc (line_length (c ∷ s))) (c ∷ s))
        → cond t ([] ∷ lines (c ∷ s)) (longer b (lines (c ∷ s))) ≡ take (cond t 0 (suc (line_length (c ∷ s)))) (b ∷ c ∷ s) ∷ lines (drop (suc (cond t 0 (suc (line_length (c ∷ s))))) (b ∷ c ∷ s))
    go true later = refl
    go false later = ap (longer b) later

-- a line of n bytes, and the lines after it
pub lines_split : (s : List ℕ) (n : ℕ) → n ≡ line_length s → 0 < length s → lines s ≡ take n s ∷ lines (drop (n + 1) s)
lines_split s n e h = rw (e, add-one) (lines_first s h)
