-- Residues along a list of openings, each by a test on sets of pixels, the runs that they are joined into, and the two maps that these give
-- at a pixel. A list of thresholds gives its tests by an attribute.
use Rattle.std.specs.Prelude.{ℕ, zero, suc, ◌+◌, ◌-◌, Bool, true, false, cond, ◌&&◌, List, [], ◌∷◌, map, ◌≡◌, leb, ltb, eqb}
use Rattle.sets.specs.Sets.{Positions}
use Rattle.connected.specs.Component.{Adjacency}
use Rattle.opening.specs.Opening.{Keeps, Upward, at_least, opened_by}

-- the falls from each grey to the next, "residue i is opening i less opening i + 1"
unfoldable pub falls_from : ℕ → List ℕ → List ℕ
falls_from grey [] = []
falls_from grey (next ∷ rest) = (grey - next) ∷ falls_from next rest

-- the sum of the falls
unfoldable pub total : List ℕ → ℕ
total [] = 0
total (r ∷ rest) = r + total rest

-- the last of the greys that start with the given one
unfoldable pub last_of : ℕ → List ℕ → ℕ
last_of grey [] = grey
last_of grey (next ∷ rest) = last_of next rest

-- whether one of the first residues, as many as the gap, is not null
unfoldable pub soon : ℕ → List ℕ → Bool
soon zero rs = false
soon (suc gap) [] = false
soon (suc gap) (r ∷ rest) = cond (eqb r 0) (soon gap rest) true

-- "two non-null residues at i and a later j, with only null ones between, belong to one run if j less i is at most the gap": by place the
-- total of the run that ends there, 0 where none does. What is carried is the total so far of a run that goes on.
unfoldable pub joined : ℕ → ℕ → List ℕ → List ℕ
joined gap carried [] = []
joined gap carried (r ∷ rest) =
    cond
    (eqb r 0)
    (0 ∷ joined gap carried rest)
    (cond (soon gap rest) (0 ∷ joined gap (carried + r) rest) ((carried + r) ∷ joined gap 0 rest))

-- "the largest residue"
unfoldable pub largest : List ℕ → ℕ
largest [] = 0
largest (r ∷ rest) = cond (leb (largest rest) r) r (largest rest)

-- "the largest i + 1 attaining it": the last place, counted from 1 + i, at which v stands, 0 if there is none
unfoldable pub last_place : ℕ → ℕ → List ℕ → ℕ
last_place v i [] = 0
last_place v i (r ∷ rest) = cond (eqb (last_place v (suc i) rest) 0) (cond (eqb r v) (suc i) 0) (last_place v (suc i) rest)

-- "or 0 where it is 0"
unfoldable pub largest_place : List ℕ → ℕ
largest_place rs = cond (eqb (largest rs) 0) 0 (last_place (largest rs) 0 rs)

-- thresholds that are "strictly rising", the first above low; "the zeroth is 0 and not listed"
unfoldable pub rising : ℕ → List ℕ → Bool
rising low [] = true
rising low (t ∷ rest) = ltb low t && rising t rest

-- thresholds that do not fall, the first at least low
unfoldable pub not_falling : ℕ → List ℕ → Bool
not_falling low [] = true
not_falling low (t ∷ rest) = leb low t && not_falling t rest

-- the tests of a list of thresholds
abbrev pub threshold_tests : (Positions → ℕ) → List ℕ → List Keeps
threshold_tests attr steps = map (at_least attr) steps

-- tests that get narrower: each passes as a set grows, and what passes a test passes the one before
abbrev pub Narrowing : ℕ → Keeps → List Keeps → Type 0
Narrowing n wide [] = Unit {0}
Narrowing n wide (keeps ∷ rest) =
    Upward n keeps × ((s : Positions) → keeps s ≡ true → wide s ≡ true) × Narrowing n keeps rest

-- the greys of one pixel under the openings by the tests
abbrev pub openings_by : ℕ → Adjacency → List Keeps → (ℕ → ℕ) → ℕ → List ℕ
openings_by n adj tests g p = map (λ (k : Keeps). opened_by n adj k g p) tests

-- its residues, "residue i is opening i less opening i + 1"
unfoldable pub residues : ℕ → Adjacency → List Keeps → (ℕ → ℕ) → ℕ → List ℕ
residues n adj tests g p = falls_from (g p) (openings_by n adj tests g p)

-- "The map holds the largest run total"; at gap 0 "the largest residue"
unfoldable pub residue_by : ℕ → Adjacency → List Keeps → ℕ → (ℕ → ℕ) → ℕ → ℕ
residue_by n adj tests gap g p = largest (joined gap 0 (residues n adj tests g p))

-- "the index is the largest i + 1 of a non-null residue in a run attaining it, the largest among such runs, or 0"; at gap 0 "the largest
-- i + 1 attaining it (16 bits), or 0 where it is 0"
unfoldable pub index_by : ℕ → Adjacency → List Keeps → ℕ → (ℕ → ℕ) → ℕ → ℕ
index_by n adj tests gap g p = largest_place (joined gap 0 (residues n adj tests g p))
