-- Climbing in a tree record, by its words alone: what the record must be like, and which grey a climb finds. The words are parents and
-- attributes; a representative is the lowest own pixel, so that its new grey is there before those of the others.
use Rattle.std.specs.Prelude.{ℕ, suc, ◌+◌, ◌≤◌, ◌<◌, List, ◌⊎◌, ◌≡◌, length, get_or}
use Rattle.calls.specs.Calls.{grey}

-- "Part 1 (n words) holds parents"
abbrev pub parent : List ℕ → ℕ → ℕ
parent words p = get_or words p 0

-- "part 2 attributes"
abbrev pub attribute : List ℕ → ℕ → ℕ → ℕ
attribute words n p = get_or words (n + p) 0

-- a representative's attribute word is not 0, any other's is
abbrev pub Representative : List ℕ → ℕ → ℕ → Type 0
Representative words n p = attribute words n p ≡ 0 → ⊥

-- a record in which every climb ends
pub record Climbable (picture words : List ℕ) (n : ℕ) : Type 0 where
  pub greys : length picture ≡ n
  pub room : n + n ≤ length words
  pub within : (p : ℕ) → p < n → parent words p < n
  -- every word leads to a representative
  pub leads : (p : ℕ) → p < n → Representative words n (parent words p)
  -- "Levels fall strictly on the way up"
  pub falls : (p : ℕ) → p < n → Representative words n p → (parent words p ≡ p) ⊎ (grey picture (parent words p) < grey picture p)
  -- a representative has the lowest position of its node's own pixels
  pub lowest : (p : ℕ) → p < n → attribute words n p ≡ 0 → parent words p < p

-- a climb starts at a representative
pub record From (picture words : List ℕ) (n r : ℕ) : Type 0 where
  pub climbable : Climbable picture words n
  pub below : r < n
  pub representative : Representative words n r

-- "climbing from its node to the nearest kept ancestor": from the representative r on, the first node that has attribute t or more, or
-- else the root, has the grey v and is found in at most k steps to a parent
pub data Kept (picture words : List ℕ) (n t : ℕ) : ℕ → ℕ → ℕ → Type 0 where
  kept : {k r : ℕ} → t ≤ attribute words n r → Kept picture words n t k r (grey picture r)
  root : {k r : ℕ} → parent words r ≡ r → Kept picture words n t k r (grey picture r)
  up : {k r v : ℕ} → attribute words n r < t → Kept picture words n t k (parent words r) v → Kept picture words n t (suc k) r v

-- "a climb has at most 255 steps"
abbrev pub longest_climb : ℕ
longest_climb = 255

-- the grey v is found by a climb from the representative r, with no more steps than its level counts
pub record ClimbsTo (picture words : List ℕ) (n t r v : ℕ) : Type 0 where
  pub found : Kept picture words n t (grey picture r) r v
  pub bounded : grey picture r ≤ longest_climb

-- the grey v of a pixel p is found by a climb from its representative
pub record OpenedTo (picture words : List ℕ) (n t p v : ℕ) : Type 0 where
  pub own : attribute words n p ≡ 0 → ClimbsTo picture words n t (parent words p) v
  pub itself : Representative words n p → ClimbsTo picture words n t p v

-- every position before k of the output has the grey that a climb finds
abbrev pub OpenedBefore : List ℕ → List ℕ → ℕ → ℕ → ℕ → List ℕ → Type 0
OpenedBefore picture words n t k output = (p : ℕ) → p < k → OpenedTo picture words n t p (grey output p)

-- every position has it
abbrev pub AllOpened : List ℕ → List ℕ → ℕ → List ℕ → Type 0
AllOpened picture words t output = OpenedBefore picture words (length picture) t (length picture) output

-- the pass over the positions, with a threshold above 0, has come to k
pub record Pass (picture words : List ℕ) (n t k : ℕ) (output : List ℕ) : Type 0 where
  pub climbable : Climbable picture words n
  pub positive : 0 < t
  pub entries : length output ≡ n
  pub reached : k ≤ n
  pub opened : OpenedBefore picture words n t k output
