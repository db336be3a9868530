-- The pixels of a node in terms of the parent words, and those of them that some of its children hold.
use Rattle.std.specs.Prelude.{ℕ, suc, ◌&&◌, ◌||◌, eqb, leb, ltb}
use Rattle.sets.specs.Sets.{Positions}
use Rattle.tree.specs.Forest.{node_root, top}

-- the own pixels of the node whose root is r
abbrev pub owned : (ℕ → ℕ) → (ℕ → ℕ) → ℕ → Positions
owned g par r x = eqb (node_root g par x) r

-- its pixels
unfoldable pub branch : (ℕ → ℕ) → (ℕ → ℕ) → ℕ → Positions
branch g par r x = leb (g r) (g x) && eqb (top g par (g r) x) r

-- its own pixels, with those of its children whose roots are done
unfoldable pub poured : (ℕ → ℕ) → (ℕ → ℕ) → Positions → ℕ → Positions
poured g par done r x =
    eqb (node_root g par x) r
    || (ltb (g r) (g x) && (eqb (par (top g par (suc (g r)) x)) r && done (top g par (suc (g r)) x)))
