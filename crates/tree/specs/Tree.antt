-- The tree of a picture g of n pixels and the record that is kept of it, under any adjacency and attribute. A node is given by
-- any of its own pixels: the node of p is the component of p at its own grey.
use Rattle.std.specs.Prelude.{ℕ, zero, suc, ◌-◌, ◌*◌, Bool, cond, ◌&&◌, ◌||◌, List, [], ◌∷◌, ◌++◌, eqb, ltb, leb, replicate}
use Rattle.sets.specs.Sets.{Positions, count, table, member}
use Rattle.sets.specs.Gather.{first_in}
use Rattle.connected.specs.Component.{Adjacency}
use Rattle.opening.specs.Opening.{component_at, Keeps}
use Rattle.opening.specs.Node.{node}

-- "at least one pixel of grey exactly h; h is its level and those pixels are its own"
abbrev pub own : (ℕ → ℕ) → ℕ → List Bool → Positions
own g h component q = member component q && eqb (g q) h

-- the lowest position among the own pixels of the component of p at h; n if it has none, and so is no node at h
unfoldable pub lowest_own : ℕ → Adjacency → (ℕ → ℕ) → ℕ → ℕ → ℕ
lowest_own n adj g h p = first_in n (own g h (component_at n adj g h p))

-- "A node's representative is its own pixel of lowest position."
unfoldable pub representative : ℕ → Adjacency → (ℕ → ℕ) → ℕ → ℕ
representative n adj g p = lowest_own n adj g (g p) p

-- the representative of the first node below level h, going down, that holds p; the representative of p if there is none
unfoldable pub node_below : ℕ → Adjacency → (ℕ → ℕ) → ℕ → ℕ → ℕ
node_below n adj g p zero = representative n adj g p
node_below n adj g p (suc h) =
    let found : ℕ = lowest_own n adj g h p in
    let rest : ℕ = node_below n adj g p h in
    cond (ltb found n) found rest

-- "The parent of a node is the smallest node that strictly contains it." Its representative; the root has itself.
unfoldable pub parent_representative : ℕ → Adjacency → (ℕ → ℕ) → ℕ → ℕ
parent_representative n adj g p = node_below n adj g p (g p)

unfoldable pub is_representative : ℕ → Adjacency → (ℕ → ℕ) → Positions
is_representative n adj g p = eqb (representative n adj g p) p

-- "A representative's parent word is the position of its parent's representative, the root's its own; any other pixel's is its
-- representative."
unfoldable pub parent_word : ℕ → Adjacency → (ℕ → ℕ) → ℕ → ℕ
parent_word n adj g p =
    let parent : ℕ = parent_representative n adj g p in
    cond (is_representative n adj g p) parent (representative n adj g p)

-- "A representative's attribute word is the node's attribute, any other's 0."
unfoldable pub attribute_word : ℕ → Adjacency → (Positions → ℕ) → (ℕ → ℕ) → ℕ → ℕ
attribute_word n adj attr g p = cond (is_representative n adj g p) (attr (member (node n adj g p))) 0

-- "The opened grey of a pixel is found by climbing from its node to the nearest kept ancestor": at most k steps from the node of
-- p, up to a node that is kept or to the root
unfoldable pub climbed : ℕ → Adjacency → Keeps → (ℕ → ℕ) → ℕ → ℕ → ℕ
climbed n adj keeps g zero p = g p
climbed n adj keeps g (suc k) p =
    let higher : ℕ = climbed n adj keeps g k (parent_representative n adj g p) in
    cond
    (keeps (member (node n adj g p)) || eqb (parent_representative n adj g p) (representative n adj g p))
    (g p)
    higher

-- "Levels fall strictly on the way up, so a climb has at most 255 steps."
abbrev pub longest_climb : ℕ
longest_climb = 255

-- "Building answers the number of nodes."
unfoldable pub number_of_nodes : ℕ → Adjacency → (ℕ → ℕ) → ℕ
number_of_nodes n adj g = count n (is_representative n adj g)

-- "Part 1 (n words) holds parents"
unfoldable pub parents : ℕ → Adjacency → (ℕ → ℕ) → List ℕ
parents n adj g = table n (parent_word n adj g)

-- "part 2 attributes"
unfoldable pub attributes : ℕ → Adjacency → (Positions → ℕ) → (ℕ → ℕ) → List ℕ
attributes n adj attr g = table n (attribute_word n adj attr g)

-- p, put into a list before the first position that is as bright or brighter
unfoldable pub put : (ℕ → ℕ) → ℕ → List ℕ → List ℕ
put g p [] = p ∷ []
put g p (q ∷ rest) = cond (leb (g p) (g q)) (p ∷ q ∷ rest) (q ∷ put g p rest)

-- "by rising level, lower position first within a level": those of the k positions from i on that are in s
unfoldable pub by_level : (ℕ → ℕ) → Positions → ℕ → ℕ → List ℕ
by_level g s i zero = []
by_level g s i (suc k) =
    let later : List ℕ = by_level g s (suc i) k in
    cond (s i) (put g i later) later

-- "a part with the representatives by rising level, lower position first within a level, and zeros after the last"
unfoldable pub listing : ℕ → Adjacency → (ℕ → ℕ) → List ℕ
listing n adj g = by_level g (is_representative n adj g) 0 n ++ replicate (n - number_of_nodes n adj g) 0

-- "After parents and attributes comes a part with the representatives [..] Scratch follows, zero on return."
unfoldable pub workspace : ℕ → Adjacency → (Positions → ℕ) → (ℕ → ℕ) → List ℕ
workspace n adj attr g = parents n adj g ++ attributes n adj attr g ++ listing n adj g ++ replicate (4 * n) 0
