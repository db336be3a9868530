-- The parts of a list of triples: what the columns hold, that they do not fall, and that a set outlasts as many triples as the part of which it
-- outlasts fewest. Assumes nothing.
use Prim.Native.Nat.{ℕ, zero, suc, ◌+◌, ◌*◌, ◌/◌, ◌≤◌, ◌<◌, min}
use mathlib.Core.Bool.{Bool, true, false, cond, ◌&&◌}
use mathlib.Core.List.{List, [], ◌∷◌, map}
use mathlib.Core.Path.{◌≡◌, refl, sym, ap, ◌∙◌}
use native.Mathlib.Omega.{arith}
use lib.Dec.{leb}
use lib.ListN.{get_or, length, take, length-map, get_or-map}
use lib.Seq.{length-take-le, get_or-take}
use borrow.Author.Tests.{le-leb}
use Rattle.sets.specs.Sets.{Positions}
use Rattle.sets.proofs.Tests.{and_left, and_right, and_both}
use Rattle.sets.proofs.Tables.{as_table}
use Rattle.opening.specs.Residue.{not_falling}
use Rattle.grid.specs.Attributes.{attribute}
use Rattle.grid.specs.Triples.{triple_of, meets, zeros}
use Rattle.grid.specs.declared.Grid.{Grid}
use Rattle.grid.specs.declared.Triple.{Triple}
use Rattle.falls.specs.Falls.{outlasted, places_before}
use Rattle.calls.specs.Steps.{triples_in, list_tests}
use Rattle.calls.specs.Judging.{may_follow, rising_triples, triples_good}
use Rattle.calls.specs.declared.Kind.TheVariants.{Triples}
use Rattle.calls.proofs.Steps.{Follows, follows, TripleList, triple_list, length_triples}
use Rattle.placing.specs.Placing.{part_in, Column}

-- the parts of a triple
abbrev pub area_in : Triple → ℕ
area_in t = t.area

abbrev pub height_in : Triple → ℕ
height_in t = t.height

abbrev pub width_in : Triple → ℕ
width_in t = t.width

-- triple i has the words from 3i on
triple_at : (words : List ℕ) (i j : ℕ) → j ≡ 3 * i → i < length words / 3
    → get_or (triples_in words) i zeros ≡ triple_of (get_or words j 0) (get_or words (suc j) 0) (get_or words (suc (suc j)) 0)
unfolding triples_in
triple_at [] i j is b = absurd (omega arith)
triple_at (a ∷ []) i j is b = absurd (omega arith)
triple_at (a ∷ h ∷ []) i j is b = absurd (omega arith)
triple_at (a ∷ h ∷ w ∷ rest) zero zero is b = refl
triple_at (a ∷ h ∷ w ∷ rest) zero (suc j) is b = absurd (omega arith)
triple_at (a ∷ h ∷ w ∷ rest) (suc i) zero is b = absurd (omega arith)
triple_at (a ∷ h ∷ w ∷ rest) (suc i) (suc zero) is b = absurd (omega arith)
triple_at (a ∷ h ∷ w ∷ rest) (suc i) (suc (suc zero)) is b = absurd (omega arith)
triple_at (a ∷ h ∷ w ∷ rest) (suc i) (suc (suc (suc j))) is b = triple_at rest i j (omega arith) (omega arith)

module _ (words entries : List ℕ) (long : length entries ≡ 256) (few : length words ≤ 3 * 256) where
  module _ (part : ℕ) (of : Triple → ℕ) (none : of zeros ≡ 0)
      (reads : (i : ℕ) → i < length words / 3 → of (get_or (triples_in words) i zeros) ≡ get_or words (3 * i + part) 0) where
    -- the first entries of a column are that part of the triples
    column_is : Column part words entries → take (length words / 3) entries ≡ map of (triples_in words)
    column_is column =
        as_table 0 (λ (i : ℕ). get_or words (3 * i + part) 0)
        (length-take-le (length words / 3) entries (omega (arith, long, few)))
        (λ i b. get_or-take (length words / 3) entries i 0 b ∙ column i b)
        ∙ sym
        (as_table 0 (λ (i : ℕ). get_or words (3 * i + part) 0)
        (length-map (triples_in words) of ∙ length_triples words)
        (λ i b. sym (ap (λ (d : ℕ). get_or (map of (triples_in words)) i d) none) ∙ get_or-map of (triples_in words) i zeros ∙ reads i b))

  same_word : (j k : ℕ) → j ≡ k → get_or words j 0 ≡ get_or words k 0
  same_word j k e = ap (λ (x : ℕ). get_or words x 0) e

  pub areas_are : Column 0 words entries → take (length words / 3) entries ≡ map area_in (triples_in words)
  areas_are = column_is 0 area_in refl (λ i b. ap area_in (triple_at words i (3 * i) refl b) ∙ same_word (3 * i) (3 * i + 0) (omega arith))

  pub heights_are : Column 1 words entries → take (length words / 3) entries ≡ map height_in (triples_in words)
  heights_are = column_is 1 height_in refl (λ i b. ap height_in (triple_at words i (3 * i) refl b) ∙ same_word (suc (3 * i)) (3 * i + 1) (omega arith))

  pub widths_are : Column 2 words entries → take (length words / 3) entries ≡ map width_in (triples_in words)
  widths_are = column_is 2 width_in refl (λ i b. ap width_in (triple_at words i (3 * i) refl b) ∙ same_word (suc (suc (3 * i))) (3 * i + 2) (omega arith))

  pub part_is : (part : ℕ) → part < 3 → Column part words entries → take (length words / 3) entries ≡ map (part_in part) (triples_in words)
  part_is zero b = areas_are
  part_is (suc zero) b = heights_are
  part_is (suc (suc zero)) b = widths_are
  part_is (suc (suc (suc part))) b = absurd (omega arith)

-- no part falls
module _ (of : Triple → ℕ) (within : (low t : Triple) → Follows low t → of low ≤ of t) where
  part_rises : (low : Triple) (ts : List Triple) → rising_triples low ts ≡ true → not_falling (of low) (map of ts) ≡ true
  unfolding rising_triples not_falling
  part_rises low [] e = refl
  part_rises low (t ∷ rest) e =
      let here : Follows low t = follows low t (and_left (may_follow low t) (rising_triples t rest) e) in
      and_both
      (leb (of low) (of t))
      (not_falling (of t) (map of rest))
      (le-leb (of low) (of t) (within low t here))
      (part_rises t rest (and_right (may_follow low t) (rising_triples t rest) e))

module _ (words : List ℕ) (good : triples_good words ≡ true) where
  list : TripleList words
  list = triple_list words good

  pub part_rise : (part : ℕ) → not_falling 0 (map (part_in part) (triples_in words)) ≡ true
  part_rise zero = part_rises area_in (λ low t f. f.no_fall.areas) zeros (triples_in words) list.rises
  part_rise (suc zero) = part_rises height_in (λ low t f. f.no_fall.heights) zeros (triples_in words) list.rises
  part_rise (suc (suc part)) = part_rises width_in (λ low t f. f.no_fall.widths) zeros (triples_in words) list.rises

-- a triple is outlasted if each of its parts is
least_of_three : (a h w : Bool) (x y z r : ℕ) → r ≡ min (min y z) x
    → cond (a && (h && w)) (suc r) 0 ≡ min (min (cond h (suc y) 0) (cond w (suc z) 0)) (cond a (suc x) 0)
least_of_three true true true x y z r is = omega arith
least_of_three true true false x y z r is = omega arith
least_of_three true false true x y z r is = omega arith
least_of_three true false false x y z r is = omega arith
least_of_three false h w x y z r is = omega arith

outlasted_parts : (grid : Grid) (s : Positions) (ts : List Triple)
    → outlasted s (map (meets grid) ts)
    ≡ min
    (min (places_before (attribute grid 2 s) (map height_in ts)) (places_before (attribute grid 3 s) (map width_in ts)))
    (places_before (attribute grid 1 s) (map area_in ts))
unfolding outlasted places_before meets
outlasted_parts grid s [] = refl
outlasted_parts grid s (t ∷ rest) =
    least_of_three
    (leb t.area (attribute grid 1 s))
    (leb t.height (attribute grid 2 s))
    (leb t.width (attribute grid 3 s))
    _
    _
    _
    _
    (outlasted_parts grid s rest)

pub outlasted_triples : (grid : Grid) (words : List ℕ) (s : Positions)
    → outlasted s (list_tests grid Triples words)
    ≡ min
    (min (places_before (attribute grid 2 s) (map height_in (triples_in words))) (places_before (attribute grid 3 s) (map width_in (triples_in words))))
    (places_before (attribute grid 1 s) (map area_in (triples_in words)))
unfolding list_tests
outlasted_triples grid words s = outlasted_parts grid s (triples_in words)
