-- `header_at` meets its contract: what each step found, put into the definition.
use Prim.Native.Nat.{ℕ, ◌+◌}
use mathlib.Core.Bool.{Bool, cond}
use mathlib.Core.List.{List}
use mathlib.Core.Path.{◌≡◌, refl, sym, ◌∙◌}
use Rattle.std.specs.Prelude.{Some, None}
use Rattle.pgm_header.specs.declared.Number.{Number}
use Rattle.pgm_header.specs.Header.{gap_at, number_at, white_at, header_at}
use Rattle.pgm_header.proofs.header_at.Goals as goal

-- where all three gaps and numbers were found, a white byte decides
found :
    (file : List ℕ) (at : ℕ) {a b c : ℕ} {width height maximum : Number} {white : Bool}
    → Some a ≡ gap_at file at → Some width ≡ number_at file a → Some b ≡ gap_at file width.end → Some height ≡ number_at file b
    → Some c ≡ gap_at file height.end → Some maximum ≡ number_at file c → white ≡ white_at file maximum.end
    → cond white (Some (record { width = width.value; height = height.value; maximum = maximum.value; start = maximum.end + 1 })) None ≡ header_at file at
unfolding header_at
found file at g w g' h g'' m e = rw (← g, ← w, ← g', ← h, ← g'', ← m, ← e) refl

pub returns-then-not-white_at : goal.returns-then-not-white_at
returns-then-not-white_at c =
    found _ _
    c.in_ok-width_start.ensures
    c.in_ok-width.ensures
    c.in_ok-height_start.ensures
    c.in_ok-height.ensures
    c.in_ok-maximum_start.ensures
    c.in_ok-maximum.ensures
    (sym c.if-not-white_at.true ∙ c.white_at.ensures)

pub returns : goal.returns
returns c =
    found _ _
    c.in_ok-width_start.ensures
    c.in_ok-width.ensures
    c.in_ok-height_start.ensures
    c.in_ok-height.ensures
    c.in_ok-maximum_start.ensures
    c.in_ok-maximum.ensures
    (sym c.if-not-white_at.false ∙ c.white_at.ensures)
