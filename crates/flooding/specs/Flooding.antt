-- What the flood keeps true while it runs, and what it leaves: parents, for which numbers of nodes are stored. A state is five functions: of
-- a position (its parent), of a place in the runs (the pixel there), and of a level (the head and the tail of its queue, the root of its
-- open node). From the head of a level's queue to its tail stand the pixels that wait. The number n stands for "not met" in a parent and
-- for "no node is open" in a root.
use Rattle.std.specs.Prelude.{ℕ, suc, ◌+◌, ◌≤◌, ◌<◌, true, ◌&&◌, ◌⊎◌, ◌≡◌, eqb}
use Rattle.sets.specs.Sets.{count}
use Rattle.connected.specs.Component.{Adjacency}
use Rattle.levels.specs.Levels.{darker}
use Rattle.levels.specs.Tables.{Changed}

-- connected in the graph of a test, whichever way round its edges are
pub data Joined (G : Adjacency) : ℕ → ℕ → Type 0 where
  same : {p : ℕ} → Joined G p p
  edge : {p q : ℕ} → G p q ≡ true → Joined G p q
  back : {p q : ℕ} → Joined G p q → Joined G q p
  then : {p q r : ℕ} → Joined G p q → Joined G q r → Joined G p r

-- the parents, the runs of the pixels that wait, and for each level the head and the tail of its queue and the root of its open node
pub record State : Type 0 where
  pub par : ℕ → ℕ
  pub ord : ℕ → ℕ
  pub head : ℕ → ℕ
  pub tail : ℕ → ℕ
  pub root : ℕ → ℕ

-- how many pixels of grey l are not met
abbrev pub unmet_count : ℕ → (ℕ → ℕ) → (ℕ → ℕ) → ℕ → ℕ
unmet_count n g par l = count n (λ (q : ℕ). eqb (par q) n && eqb (g q) l)

-- G joins all neighbours of the picture at level h
abbrev pub Contains : ℕ → Adjacency → (ℕ → ℕ) → ℕ → Adjacency → Type 0
Contains n adj g h G = (p q : ℕ) → p < n → q < n → adj p q ≡ true → h ≤ g p → h ≤ g q → Joined G p q

-- G joins the links at level h: each met pixel and its parent, and the roots of the open levels
pub record Links (n : ℕ) (g : ℕ → ℕ) (s : State) (h : ℕ) (G : Adjacency) : Type 0 where
  pub up : (q : ℕ) → q < n → s.par q < n → h ≤ g (s.par q) → Joined G q (s.par q)
  pub across : (k m : ℕ) → k < 256 → m < 256 → s.root k < n → s.root m < n → h ≤ k → h ≤ m → Joined G (s.root k) (s.root m)

-- every neighbour of q is met, and the links join q to it at each level that both reach
pub record Finished (n : ℕ) (adj : Adjacency) (g : ℕ → ℕ) (s : State) (q : ℕ) : Type 0 where
  pub met : (r : ℕ) → r < n → adj q r ≡ true → s.par r < n
  pub joined :
      (r : ℕ) → r < n → adj q r ≡ true → (h : ℕ) (G : Adjacency) → Links n g s h G → h ≤ g q → h ≤ g r → Joined G q r

-- a met pixel's parent: a node's root, never brighter than the pixel
pub record Rooted (n : ℕ) (g par : ℕ → ℕ) (q : ℕ) : Type 0 where
  pub within : par (par q) < n
  pub dim : g (par q) ≤ g q
  pub node : (par (par q) ≡ par q) ⊎ (g (par (par q)) < g (par q))

-- an open level's root: a pixel of that level, its own parent
pub record Opened (g : ℕ → ℕ) (s : State) (k : ℕ) : Type 0 where
  pub grey : g (s.root k) ≡ k
  pub own : s.par (s.root k) ≡ s.root k

-- a place in the run of level k at which a pixel waits
pub record Placed (n : ℕ) (g : ℕ → ℕ) (s : State) (k i : ℕ) : Type 0 where
  pub within : s.ord i < n
  pub grey : g (s.ord i) ≡ k
  pub met : s.par (s.ord i) < n

-- q waits in the run of its level, for its neighbours to be met
pub record Waits (g : ℕ → ℕ) (s : State) (q : ℕ) : Type 0 where
  pub at : ℕ
  pub low : s.head (g q) ≤ at
  pub high : at < s.tail (g q)
  pub holds : s.ord at ≡ q

-- what holds between any two operations, whichever level is worked on
pub record Sound (n : ℕ) (adj : Adjacency) (g : ℕ → ℕ) (s : State) : Type 0 where
  pub range : (q : ℕ) → q < n → s.par q ≤ n
  pub roots : (k : ℕ) → k < 256 → s.root k ≤ n
  pub room : (k : ℕ) → k < 256 → s.tail k + unmet_count n g s.par k ≤ darker n g (suc k)
  pub low : (k : ℕ) → k < 256 → darker n g k ≤ s.head k
  pub high : (k : ℕ) → k < 256 → s.head k ≤ s.tail k
  pub placed : (k i : ℕ) → k < 256 → s.head k ≤ i → i < s.tail k → Placed n g s k i
  pub met : (q : ℕ) → q < n → s.par q < n → Waits g s q ⊎ Finished n adj g s q
  pub open_root : (k : ℕ) → k < 256 → s.root k < n → Opened g s k
  pub idle : (k : ℕ) → k < 256 → n ≤ s.root k → s.head k ≡ s.tail k
  pub waiting : (k i : ℕ) → k < 256 → s.head k ≤ i → i < s.tail k → s.par (s.ord i) ≡ s.root k
  pub rooted : (q : ℕ) → q < n → s.par q < n → Rooted n g s.par q
  pub links : (h : ℕ) (G : Adjacency) → Contains n adj g h G → Links n g s h G

-- the flood works at level l: it is the brightest open level, and every open level has a pixel waiting
pub record At (n : ℕ) (s : State) (l : ℕ) : Type 0 where
  pub level : l < 256
  pub open_here : s.root l < n
  pub top : (k : ℕ) → k < 256 → s.root k < n → k ≤ l
  pub busy : (k : ℕ) → k < 256 → s.root k < n → s.head k < s.tail k
  pub first : s.par 0 < n

-- q is met: it stands at the end of the run of level l, and its parent is r, the root of that level
pub record Pushed (n l q r : ℕ) (s s' : State) : Type 0 where
  pub root_is : ((s.root l < n) × (r ≡ s.root l)) ⊎ ((s.root l ≡ n) × (r ≡ q))
  pub par : Changed n s.par s'.par q r
  pub ord : Changed n s.ord s'.ord (s.tail l) q
  pub tail : Changed 256 s.tail s'.tail l (suc (s.tail l))
  pub root : Changed 256 s.root s'.root l r
  pub head : (k : ℕ) → s'.head k ≡ s.head k

-- the node of level l is closed below the open node of level m
pub record Closed (n l m : ℕ) (s s' : State) : Type 0 where
  pub par : Changed n s.par s'.par (s.root l) (s.root m)
  pub root : Changed 256 s.root s'.root l n
  pub ord : (i : ℕ) → i < n → s'.ord i ≡ s.ord i
  pub head : (k : ℕ) → s'.head k ≡ s.head k
  pub tail : (k : ℕ) → s'.tail k ≡ s.tail k

-- what the flood leaves: parents that are node roots and join exactly what the picture's neighbours join, at every level
pub record Flooded (n : ℕ) (adj : Adjacency) (g par : ℕ → ℕ) : Type 0 where
  pub within : (q : ℕ) → q < n → par q < n
  pub rooted : (q : ℕ) → q < n → Rooted n g par q
  pub links :
      (h : ℕ) (G : Adjacency) → Contains n adj g h G → (q : ℕ) → q < n → h ≤ g (par q) → Joined G q (par q)
  pub edges :
      (h : ℕ) (G : Adjacency) → ((q : ℕ) → q < n → h ≤ g (par q) → Joined G q (par q)) → Contains n adj g h G
