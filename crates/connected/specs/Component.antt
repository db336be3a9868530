-- Connected components of a set of positions below n, under an adjacency. A component is found by growing: n rounds from
-- one position, each of which adds the neighbours that are in the set.
use Rattle.std.specs.Prelude.{ℕ, zero, suc, ◌<◌, Bool, true, ◌&&◌, ◌||◌, List, ◌≡◌, eqb}
use Rattle.sets.specs.Sets.{Positions, some_in, table, member}

-- which positions are neighbours
abbrev pub Adjacency : Type 0
Adjacency = ℕ → ℕ → Bool

-- the symmetric adjacency of a one-sided test
abbrev pub both : Adjacency → Adjacency
both f p q = f p q || f q p

abbrev pub Symmetric : Adjacency → Type 0
Symmetric adj = (p q : ℕ) → adj p q ≡ true → adj q p ≡ true

-- p alone, or nothing where p is not in s
unfoldable pub seed : ℕ → Positions → ℕ → List Bool
seed n s p = table n (λ (q : ℕ). eqb p q && s q)

-- l, with the positions of s that have a neighbour in l
unfoldable pub grow : ℕ → Adjacency → Positions → List Bool → List Bool
grow n adj s l =
    table n (λ (q : ℕ). member l q || (s q && some_in n (λ (r : ℕ). member l r && adj r q)))

-- k rounds of growth from p
unfoldable pub grown : ℕ → Adjacency → Positions → ℕ → ℕ → List Bool
grown n adj s p zero = seed n s p
grown n adj s p (suc k) = grow n adj s (grown n adj s p k)

-- the connected component of p in s: the positions that n rounds reach, nothing where p is not in s
unfoldable pub component : ℕ → Adjacency → Positions → ℕ → List Bool
component n adj s p = grown n adj s p n

-- a path inside s, from a position to a neighbour at each step
pub data Walk (n : ℕ) (adj : Adjacency) (s : Positions) (p : ℕ) : ℕ → Type 0 where
  here : p < n → s p ≡ true → Walk n adj s p p
  on : {q r : ℕ} → Walk n adj s p q → adj q r ≡ true → r < n → s r ≡ true → Walk n adj s p r
