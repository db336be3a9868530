-- Sets of positions below a number n, each as a test on positions, and what is counted of them.
use Rattle.std.specs.Prelude.{ℕ, zero, suc, ◌+◌, ◌<◌, Bool, true, false, cond, ◌||◌, List, [], ◌∷◌, ◌≡◌, get_or}

-- a set: p is in s where s p is true
abbrev pub Positions : Type 0
Positions = ℕ → Bool

-- every position below n that is in s is in t
abbrev pub Inside : ℕ → Positions → Positions → Type 0
Inside n s t = (q : ℕ) → q < n → s q ≡ true → t q ≡ true

-- some position below n is in s
unfoldable pub some_in : ℕ → Positions → Bool
some_in zero s = false
some_in (suc n) s = s n || some_in n s

-- how many positions below n are in s
unfoldable pub count : ℕ → Positions → ℕ
count zero s = 0
count (suc n) s = cond (s n) 1 0 + count n s

-- the values of f at the k positions from i on, as a list
unfoldable pub table_from : {A : Type 0} → ℕ → ℕ → (ℕ → A) → List A
table_from i zero f = []
table_from i (suc k) f = f i ∷ table_from (suc i) k f

-- the values of f at the positions below n, as a list
unfoldable pub table : {A : Type 0} → ℕ → (ℕ → A) → List A
table n f = table_from 0 n f

-- the set that a list of tests stands for; a position past its end is not in it
abbrev pub member : List Bool → Positions
member l q = get_or l q false
