-- A table after one store.
use Rattle.std.specs.Prelude.{ℕ, ◌<◌, ◌≡◌}

-- f' is v at a, and f elsewhere below n
pub record Changed (n : ℕ) (f f' : ℕ → ℕ) (a v : ℕ) : Type 0 where
  pub here : f' a ≡ v
  pub there : (x : ℕ) → x < n → (x ≡ a → ⊥) → f' x ≡ f x
