-- The largest of a run of samples, one sample after the other, and the test by it.
use Prim.Native.Nat.{ℕ, ◌+◌, ◌≤◌, ◌<◌, max}
use mathlib.Core.Path.{◌≡◌, refl, sym, ◌∙◌, ap}
use mathlib.Core.Bool.{Bool, true, false, ◌&&◌}
use mathlib.Core.List.{List, [], ◌∷◌}
use native.Mathlib.Omega.{arith}
use lib.Dec.{leb}
use lib.ListN.{length, get_or, drop, drop_of_length-le}
use borrow.Author.Tests.{le-leb, lt-leb, leb-true, leb-false}
use Rattle.std.specs.Ordering.{ord_max, nat_cmp}
use Rattle.causes.proofs.Lists.{from_here}
use Rattle.pgm_values.specs.Values.{largest, all_at_most}

largest_step : (s : List ℕ) (i best : ℕ) → i < length s → max best (largest (drop i s)) ≡ max (max best (get_or s i 0)) (largest (drop (i + 1) s))
unfolding largest
largest_step s i best h = rw (from_here s i h) (omega arith)

-- the larger of two, as the code takes it
larger : (a b : ℕ) → ord_max nat_cmp a b ≡ max a b
larger a b = grind arith

-- best is the largest of the first i samples
abbrev pub LargestSoFar : List ℕ → ℕ → ℕ → Type 0
LargestSoFar s i best = max best (largest (drop i s)) ≡ largest s

module _ (s : List ℕ) (i best : ℕ) (so_far : LargestSoFar s i best) where
  pub largest_more : (next : ℕ) → i < length s → next ≡ ord_max nat_cmp best (get_or s i 0) → LargestSoFar s (i + 1) next
  largest_more next h e =
      let step : max best (largest (drop i s)) ≡ max (max best (get_or s i 0)) (largest (drop (i + 1) s)) = largest_step s i best h in
      let taken : next ≡ max best (get_or s i 0) = e ∙ larger best (get_or s i 0) in
      omega arith

  pub largest_all : length s ≤ i → best ≡ largest s
  unfolding largest
  largest_all h = let e : max best 0 ≡ largest s = rw (drop_of_length-le s h) at so_far in omega arith

-- no sample is above the maximum exactly if the largest is not
pub all_at_most_largest : (maximum : ℕ) (s : List ℕ) → all_at_most maximum s ≡ leb (largest s) maximum
unfolding all_at_most largest
all_at_most_largest maximum [] = sym (le-leb 0 maximum (omega arith))
all_at_most_largest maximum (b ∷ s) = ap (λ (t : Bool). leb b maximum && t) (all_at_most_largest maximum s) ∙ go (leb b maximum) (leb (largest s) maximum) refl refl
  where
    go : (t u : Bool) → leb b maximum ≡ t → leb (largest s) maximum ≡ u → t && u ≡ leb (max b (largest s)) maximum
    go true true e f = sym (le-leb (max b (largest s)) maximum (omega (arith, leb-true b maximum e, leb-true (largest s) maximum f)))
    go true false e f = sym (lt-leb (max b (largest s)) maximum (omega (arith, leb-false (largest s) maximum f)))
    go false u e f = sym (lt-leb (max b (largest s)) maximum (omega (arith, leb-false b maximum e)))
