-- What the pass over the descendants asks and leaves, on the words that it is lent.
use Rattle.std.specs.Prelude.{ℕ, ◌+◌, ◌*◌, ◌<◌, true, cond, List, ◌≡◌, eqb, get_or, length, set}
use Rattle.sets.specs.Sets.{Positions}
use Rattle.connected.specs.Component.{Adjacency, Symmetric}
use Rattle.levels.specs.Levels.{grey}
use Rattle.levels.specs.Workspace.{Sized, number_at, closed_of, drop_of, lowest_of, up_of, held_of}
use Rattle.flooding.specs.Numbers.{Numbered, parent_by}
use Rattle.accumulators.specs.Accumulators.{combined, measured, gathered, Small, InOrder}
use Rattle.branches.specs.Branches.{branch}

-- where the accumulator of the node k stands among the words of the nodes, and what it is
abbrev pub held_at : ℕ → ℕ
held_at k = 3 * k + 2

abbrev pub held_in : List ℕ → ℕ → ℕ
held_in words k = get_or words (held_at k) 0

-- the words of the nodes hold those of k and of its parent p, whose accumulators are small; that of k has its two ends in order
pub record Pour (a k p : ℕ) (words : List ℕ) : Type 0 where
  pub within : held_at k < length words
  pub parent : held_at p < length words
  pub small : Small (held_in words k)
  pub small_parent : Small (held_in words p)
  pub ends : InOrder a (held_in words k)

-- the words of the nodes once the accumulator of k is added to that of its parent p and its attribute stands in its place
abbrev pub poured_at : ℕ → ℕ → ℕ → List ℕ → List ℕ
poured_at a k p words =
    cond
    (eqb p k)
    (set words (held_at k) (measured a (held_in words k)))
    (set
    (set words (held_at k) (measured a (held_in words k)))
    (held_at p)
    (combined a (held_in words p) (held_in words k)))

-- m nodes have numbers, and each holds the accumulator of its own pixels, where a pixel's accumulator is the value
pub record Pourable (a : ℕ) (picture ws : List ℕ) (m : ℕ) : Type 0 where
  pub sized : Sized (length picture) ws
  pub adj : Adjacency
  pub symm : Symmetric adj
  pub numbered :
      let n = length picture in
      Numbered n adj (grey picture) (number_at ws) (up_of n ws) (closed_of n ws) (drop_of n ws) m
  pub value : ℕ → ℕ
  pub small : (q : ℕ) → q < length picture → Small (value q)
  pub ends :
      (s : Positions) (q : ℕ) → q < length picture → s q ≡ true → InOrder a (gathered a (length picture) value s)
  pub own :
      (k : ℕ) → k < m
      → held_of (length picture) ws k ≡ gathered a (length picture) value (λ (x : ℕ). eqb (number_at ws x) k)

-- the parents that the numbers stand for
abbrev pub parents_of : {a : ℕ} {picture ws : List ℕ} {m : ℕ} → Pourable a picture ws m → ℕ → ℕ
parents_of {picture = picture} {ws = ws} P = parent_by P.numbered.first (number_at ws) (up_of (length picture) ws)

-- each of m nodes holds its attribute, and the other words are as they were
pub record Poured (a : ℕ) (picture ws ws' : List ℕ) (m : ℕ) : Type 0 where
  pub words : length ws' ≡ length ws
  pub before : (k : ℕ) → k < 3 * length picture → get_or ws' k 0 ≡ get_or ws k 0
  pub lowests : (k : ℕ) → k < m → lowest_of (length picture) ws' k ≡ lowest_of (length picture) ws k
  pub ups : (k : ℕ) → k < m → up_of (length picture) ws' k ≡ up_of (length picture) ws k
  pub measures :
      (P : Pourable a picture ws m) (k : ℕ) → k < m
      → held_of (length picture) ws' k
      ≡ measured a (gathered a (length picture) P.value (branch (grey picture) (parents_of P) (P.numbered.first k)))
