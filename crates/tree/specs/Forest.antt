-- Parent words of any choice that stand for the tree of a picture: each word is an own pixel of a node, the one that the words
-- of that node's other own pixels lead to, and at every level the words join what the picture's neighbours join.
use Rattle.std.specs.Prelude.{ℕ, zero, suc, ◌≤◌, ◌<◌, true, cond, ◌⊎◌, ◌≡◌, eqb, leb}
use Rattle.sets.specs.Sets.{member}
use Rattle.sets.specs.Gather.{first_in}
use Rattle.connected.specs.Component.{Adjacency}
use Rattle.opening.specs.Opening.{component_at}

-- q leads to itself or to a darker pixel
abbrev pub NodeRoot : (ℕ → ℕ) → (ℕ → ℕ) → ℕ → Type 0
NodeRoot g par q = (par q ≡ q) ⊎ (g (par q) < g q)

pub record Forest (n : ℕ) (adj : Adjacency) (g par : ℕ → ℕ) : Type 0 where
  pub within : (q : ℕ) → q < n → par q < n
  pub dim : (q : ℕ) → q < n → g (par q) ≤ g q
  pub root : (q : ℕ) → q < n → NodeRoot g par (par q)
  -- a pixel and its parent lie in one component at the parent's grey
  pub sound : (q : ℕ) → q < n → member (component_at n adj g (g (par q)) q) (par q) ≡ true
  -- labels that agree along the words at level h agree along the picture's neighbours at level h
  pub complete :
      (h : ℕ) (label : ℕ → ℕ) → ((q : ℕ) → q < n → h ≤ g (par q) → label q ≡ label (par q))
      → (p q : ℕ) → p < n → q < n → adj p q ≡ true → h ≤ g p → h ≤ g q → label p ≡ label q

-- where the words of the own pixels of a node lead
unfoldable pub node_root : (ℕ → ℕ) → (ℕ → ℕ) → ℕ → ℕ
node_root g par q = cond (eqb (g (par q)) (g q)) (par q) q

-- the lowest position whose node root is r
unfoldable pub lowest : ℕ → (ℕ → ℕ) → (ℕ → ℕ) → ℕ → ℕ
lowest n g par r = first_in n (λ (q : ℕ). eqb (node_root g par q) r)

-- the last of at most k ancestors of q whose grey is h or more
unfoldable pub ancestor : (ℕ → ℕ) → (ℕ → ℕ) → ℕ → ℕ → ℕ → ℕ
ancestor g par h zero q = q
ancestor g par h (suc k) q = cond (leb h (g (par q))) (ancestor g par h k (par q)) q

-- the last ancestor of q whose grey is h or more: from the second step on the greys fall
unfoldable pub top : (ℕ → ℕ) → (ℕ → ℕ) → ℕ → ℕ → ℕ
top g par h q = ancestor g par h (suc (g q)) q
