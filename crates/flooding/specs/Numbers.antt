-- The numbers of the nodes: the flood gives each node the next number when it opens it, and stores the number alone at the node's own
-- pixels. The parent words of the flood's state are not stored: the first pixel that took a number stands for its node.
use Rattle.std.specs.Prelude.{ℕ, suc, ◌+◌, ◌≤◌, ◌<◌, cond, ◌⊎◌, ◌≡◌, eqb, ltb}
use Rattle.sets.specs.Sets.{count}
use Rattle.connected.specs.Component.{Adjacency}
use Rattle.levels.specs.Tables.{Changed}
use Rattle.flooding.specs.Flooding.{Flooded}

-- f with the value v at a
unfoldable pub changed : (ℕ → ℕ) → ℕ → ℕ → ℕ → ℕ
changed f a v x = cond (eqb x a) v (f x)

-- the number of a pixel's node, n if it is not met; the number of the parent of a closed node; the numbers in the order of closing; how
-- far the level of the node closed at a place lies above its parent's; the number of the open node of a level, n if there is none; how
-- many numbers are taken; how many nodes are closed
pub record Numbers : Type 0 where
  pub num : ℕ → ℕ
  pub up : ℕ → ℕ
  pub closed : ℕ → ℕ
  pub drop : ℕ → ℕ
  pub open_at : ℕ → ℕ
  pub taken : ℕ
  pub done : ℕ

-- at the first m places of the order of closing, drop is how far the level of the node closed there lies above its parent's
abbrev pub Drops : ℕ → (ℕ → ℕ) → (ℕ → ℕ) → (ℕ → ℕ) → (ℕ → ℕ) → Type 0
Drops m level up closed drop = (i : ℕ) → i < m → drop i + level (up (closed i)) ≡ level (closed i)

-- the node of number k, whose first pixel is first k, is open
abbrev pub IsOpen : (ℕ → ℕ) → (ℕ → ℕ) → Numbers → ℕ → Type 0
IsOpen g first w k = w.open_at (g (first k)) ≡ k

-- a met pixel: its number is taken, by a pixel of its grey
pub record Taken (n : ℕ) (g first par : ℕ → ℕ) (w : Numbers) (q : ℕ) : Type 0 where
  pub number : w.num q < w.taken
  pub parent : par q < n
  pub level : g (first (w.num q)) ≡ g q

-- the first pixel that took the number k
pub record First (n : ℕ) (g first : ℕ → ℕ) (w : Numbers) (k : ℕ) : Type 0 where
  pub within : first k < n
  pub byte : g (first k) < 256
  pub own : w.num (first k) ≡ k

-- the open node of level l
pub record OpenNode (first root : ℕ → ℕ) (w : Numbers) (l : ℕ) : Type 0 where
  pub number : w.open_at l < w.taken
  pub root_is : root l ≡ first (w.open_at l)

-- the closed node of number k: its parent's number, and its place in the order of closing
pub record ClosedNode (g first par : ℕ → ℕ) (w : Numbers) (k : ℕ) : Type 0 where
  pub up_within : w.up k < w.taken
  pub parent : par (first k) ≡ first (w.up k)
  pub dark : g (first (w.up k)) < g (first k)
  pub at : ℕ
  pub place : at < w.done
  pub holds : w.closed at ≡ k

-- the numbers stand for the parent words and the roots of the open levels
pub record Named (n : ℕ) (g first par root : ℕ → ℕ) (w : Numbers) : Type 0 where
  pub few : w.taken + count n (λ (q : ℕ). eqb (w.num q) n) ≤ n
  pub balance : w.done + count 256 (λ (l : ℕ). ltb (w.open_at l) n) ≡ w.taken
  pub range : (q : ℕ) → q < n → w.num q ≤ n
  pub met : (q : ℕ) → q < n → w.num q < n → Taken n g first par w q
  pub unmet : (q : ℕ) → q < n → w.num q ≡ n → par q ≡ n
  pub firsts : (k : ℕ) → k < w.taken → First n g first w k
  pub others : (q : ℕ) → q < n → w.num q < n → (first (w.num q) ≡ q → ⊥) → par q ≡ first (w.num q)
  pub opens : (l : ℕ) → l < 256 → w.open_at l ≤ n
  pub open_node : (l : ℕ) → l < 256 → w.open_at l < n → OpenNode first root w l
  pub no_node : (l : ℕ) → l < 256 → w.open_at l ≡ n → root l ≡ n
  pub closed_node : (k : ℕ) → k < w.taken → (IsOpen g first w k → ⊥) → ClosedNode g first par w k
  pub closed_within : (i : ℕ) → i < w.done → w.closed i < w.taken
  pub not_open : (i : ℕ) → i < w.done → IsOpen g first w (w.closed i) → ⊥
  pub once : (i j : ℕ) → i < j → j < w.done → w.closed i ≡ w.closed j → ⊥
  pub later :
      (i : ℕ) → i < w.done
      → IsOpen g first w (w.up (w.closed i)) ⊎ ((j : ℕ) × (i < j) × (j < w.done) × (w.closed j ≡ w.up (w.closed i)))
  pub drops : Drops w.done (λ (k : ℕ). g (first k)) w.up w.closed w.drop

-- q takes the number k: that of the open node of its level l, or the next
pub record Numbering (n l q k : ℕ) (w w' : Numbers) : Type 0 where
  pub which :
      ((w.open_at l < n) × (k ≡ w.open_at l) × (w'.taken ≡ w.taken))
      ⊎ ((w.open_at l ≡ n) × (k ≡ w.taken) × (w'.taken ≡ suc w.taken))
  pub num : Changed n w.num w'.num q k
  pub open_at : Changed 256 w.open_at w'.open_at l k
  pub up : (j : ℕ) → j < n → w'.up j ≡ w.up j
  pub closed : (i : ℕ) → i < n → w'.closed i ≡ w.closed i
  pub drop : (i : ℕ) → i < n → w'.drop i ≡ w.drop i
  pub done : w'.done ≡ w.done

-- the open node of level l, of number k, is closed, its parent's number is p, and its drop d
pub record Shutting (n l k p d : ℕ) (w w' : Numbers) : Type 0 where
  pub up : Changed n w.up w'.up k p
  pub closed : Changed n w.closed w'.closed w.done k
  pub drop : Changed n w.drop w'.drop w.done d
  pub open_at : Changed 256 w.open_at w'.open_at l n
  pub num : (q : ℕ) → q < n → w'.num q ≡ w.num q
  pub taken : w'.taken ≡ w.taken
  pub done : w'.done ≡ suc w.done

-- the parent of q: the first pixel that took its number; of that pixel, the first that took the parent's number
abbrev pub parent_by : (ℕ → ℕ) → (ℕ → ℕ) → (ℕ → ℕ) → ℕ → ℕ
parent_by first num up q = cond (eqb (first (num q)) q) (first (up (num q))) (first (num q))

-- the order of closing has each of m numbers once, before its parent's; the last is its own parent's
pub record ClosingOrder (m : ℕ) (up closed : ℕ → ℕ) : Type 0 where
  pub within : (i : ℕ) → i < m → closed i < m
  pub place : (k : ℕ) → k < m → (i : ℕ) × (i < m) × (closed i ≡ k)
  pub once : (i j : ℕ) → i < j → j < m → closed i ≡ closed j → ⊥
  pub later :
      (i : ℕ) → i < m → (up (closed i) ≡ closed i) ⊎ ((j : ℕ) × (i < j) × (j < m) × (closed j ≡ up (closed i)))

-- what the flood leaves: m nodes have numbers, and the parents that the numbers stand for are those of a flood
pub record Numbered (n : ℕ) (adj : Adjacency) (g num up closed drop : ℕ → ℕ) (m : ℕ) : Type 0 where
  pub few : m ≤ n
  pub within : (q : ℕ) → q < n → num q < m
  pub first : ℕ → ℕ
  pub first_within : (k : ℕ) → k < m → first k < n
  pub first_own : (k : ℕ) → k < m → num (first k) ≡ k
  pub level : (q : ℕ) → q < n → g (first (num q)) ≡ g q
  pub up_within : (k : ℕ) → k < m → up k < m
  pub dim : (k : ℕ) → k < m → (up k ≡ k) ⊎ (g (first (up k)) < g (first k))
  pub flooded : Flooded n adj g (parent_by first num up)
  pub order : ClosingOrder m up closed
  pub drops : Drops m (λ (k : ℕ). g (first k)) up closed drop
