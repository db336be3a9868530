-- Neighbours in a picture of width w, by position.
use Rattle.std.specs.Prelude.{ℕ, ◌+◌, ◌/◌, ◌%◌, ◌≤◌, not, ◌&&◌, ◌||◌, ◌⊎◌, ◌≡◌, eqb}
use Rattle.connected.specs.Component.{Adjacency, both}
use Rattle.grid.specs.declared.Grid.{Grid}

-- q is the next pixel of p's row: the next position, unless a row starts there
abbrev pub next_in_row : ℕ → Adjacency
next_in_row w p q = eqb q (p + 1) && not (eqb (q % w) 0)

-- q is the pixel below p
abbrev pub next_in_column : ℕ → Adjacency
next_in_column w p q = eqb q (p + w)

-- q is left or right of the pixel below p
abbrev pub next_on_corner : ℕ → Adjacency
next_on_corner w p q = next_in_row w q (p + w) || next_in_row w (p + w) q

-- q comes after p, where c neighbours are named: in its row or below it, and with 8 on a corner too. Any number but 8 gives the four; no
-- accepted call names another than 4.
abbrev pub next_of : ℕ → ℕ → Adjacency
next_of c w p q = (next_in_row w p q || next_in_column w p q) || (eqb c 8 && next_on_corner w p q)

-- "A call names 4 or 8 neighbours": with 4 they "share an edge", and with 8 "corner contact counts"
abbrev pub neighbours : ℕ → ℕ → Adjacency
neighbours c w = both (next_of c w)

-- the neighbours of a picture, by the number that its call names
unfoldable pub adjacent : Grid → Adjacency
adjacent grid = neighbours grid.neighbours grid.width

-- 4 by rows (q / w) and columns (q % w): one row and columns that differ by 1, or one column and rows that differ by 1
abbrev pub ShareEdge : ℕ → ℕ → ℕ → Type 0
ShareEdge w p q =
    ((p / w ≡ q / w) × ((q % w ≡ p % w + 1) ⊎ (p % w ≡ q % w + 1)))
    ⊎ ((p % w ≡ q % w) × ((q / w ≡ p / w + 1) ⊎ (p / w ≡ q / w + 1)))

-- two numbers differ by at most 1
abbrev pub WithinOne : ℕ → ℕ → Type 0
WithinOne i k = (i ≤ k + 1) × (k ≤ i + 1)

-- 8 by rows and columns: they differ by at most 1 each, and not both by 0. Pixels that share an edge share its corners.
abbrev pub ShareCorner : ℕ → ℕ → ℕ → Type 0
ShareCorner w p q =
    WithinOne (p / w) (q / w) × WithinOne (p % w) (q % w) × ¬ ((p / w ≡ q / w) × (p % w ≡ q % w))
