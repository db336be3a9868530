-- Level sets, nodes and openings of a picture g of n pixels, under any adjacency. An opening is given by what it keeps: a test
-- on sets of pixels. The opening at a threshold of an attribute keeps the sets whose attribute is the threshold or more.
use Rattle.std.specs.Prelude.{ℕ, zero, suc, ◌+◌, ◌-◌, ◌≤◌, min, Bool, true, cond, List, ◌⊎◌, ◌≡◌, leb}
use Rattle.sets.specs.Sets.{Positions, Inside, some_in, member}
use Rattle.connected.specs.Component.{Adjacency, component}

-- "For a grey h, the level set holds the pixels of grey h or more."
abbrev pub level_set : (ℕ → ℕ) → ℕ → Positions
level_set g h q = leb h (g q)

-- the component of p in the level set at h
unfoldable pub component_at : ℕ → Adjacency → (ℕ → ℕ) → ℕ → ℕ → List Bool
component_at n adj g h p = component n adj (level_set g h) p

-- the least grey of a picture of n pixels
unfoldable pub least_grey : ℕ → (ℕ → ℕ) → ℕ
least_grey zero g = 0
least_grey (suc zero) g = g 0
least_grey (suc (suc n)) g = min (g (suc n)) (least_grey (suc n) g)

-- what an opening keeps: a test on sets of pixels
abbrev pub Keeps : Type 0
Keeps = Positions → Bool

-- a test that holds of every set that holds one of which it holds
abbrev pub Upward : ℕ → Keeps → Type 0
Upward n keeps = (s t : Positions) → Inside n s t → keeps s ≡ true → keeps t ≡ true

-- a test that no set without pixels passes
abbrev pub NeedsPixel : ℕ → Keeps → Type 0
NeedsPixel n keeps = (s : Positions) → keeps s ≡ true → some_in n s ≡ true

-- an attribute cannot fall as a set grows
abbrev pub Increasing : ℕ → (Positions → ℕ) → Type 0
Increasing n attr = (s t : Positions) → Inside n s t → attr s ≤ attr t

-- "attribute t or more"
abbrev pub at_least : (Positions → ℕ) → ℕ → Keeps
at_least attr t s = leb t (attr s)

-- the greatest of the k levels above m that passes the test, m if there is none
unfoldable pub highest_above : ℕ → ℕ → (ℕ → Bool) → ℕ
highest_above m zero test = m
highest_above m (suc k) test = cond (test (m + suc k)) (m + suc k) (highest_above m k test)

-- "a pixel's new grey is the greatest h for which its component of the level set at h has attribute t or more; the picture's
-- least grey if there is none"
unfoldable pub opened_by : ℕ → Adjacency → Keeps → (ℕ → ℕ) → ℕ → ℕ
opened_by n adj keeps g p =
    highest_above
    (least_grey n g)
    (g p - least_grey n g)
    (λ (h : ℕ). keeps (member (component_at n adj g h p)))

-- v is "the greatest h" that passes among all levels, or the least grey "if there is none": what the opened grey is proved to be
abbrev pub Greatest : (ℕ → Type 0) → ℕ → ℕ → Type 0
Greatest passes least v =
    (passes v × ((h : ℕ) → passes h → h ≤ v)) ⊎ (((h : ℕ) → ¬ passes h) × (v ≡ least))

-- the opening at the threshold t; "threshold 0 changes nothing"
abbrev pub opened : ℕ → Adjacency → (Positions → ℕ) → ℕ → (ℕ → ℕ) → ℕ → ℕ
opened n adj attr t g p = opened_by n adj (at_least attr t) g p
