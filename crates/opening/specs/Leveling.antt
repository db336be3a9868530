-- Levelings of a picture of n pixels.
use Rattle.std.specs.Prelude.{ℕ, ◌≤◌, ◌<◌, true, ◌≡◌}
use Rattle.connected.specs.Component.{Adjacency}

-- "for neighbours p, q, if the new grey of p exceeds that of q, then old p is at least new p and new q at least old q"
abbrev pub Leveling : ℕ → Adjacency → (ℕ → ℕ) → (ℕ → ℕ) → Type 0
Leveling n adj old new =
    (p q : ℕ) → p < n → q < n → adj p q ≡ true → new q < new p → (new p ≤ old p) × (old q ≤ new q)
