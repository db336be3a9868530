-- One number for a set: the values at its positions, joined two at a time. The least and the greatest of a set are such.
use Rattle.std.specs.Prelude.{ℕ, zero, suc, min, max, cond}
use Rattle.sets.specs.Sets.{Positions}

-- e, joined by op with the values of f at the positions of s below n
unfoldable pub gather : ℕ → (ℕ → ℕ → ℕ) → ℕ → (ℕ → ℕ) → Positions → ℕ
gather zero op e f s = e
gather (suc n) op e f s = let rest : ℕ = gather n op e f s in cond (s n) (op (f n) rest) rest

-- the least value of f at the positions of s below n, or n if that is less
abbrev pub least : ℕ → (ℕ → ℕ) → Positions → ℕ
least n f s = gather n min n f s

-- the greatest value of f at the positions of s below n, 0 if there are none
abbrev pub greatest : ℕ → (ℕ → ℕ) → Positions → ℕ
greatest n f s = gather n max 0 f s

-- the least position of s below n, n if there is none
abbrev pub first_in : ℕ → Positions → ℕ
first_in n s = least n (λ (q : ℕ). q) s
