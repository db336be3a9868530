-- Along one list of tests: the residues of a pixel whose node falls are those of its parent, raised at the step of the fall.
use Prim.Native.Nat.{ℕ, zero, suc, ◌+◌, ◌-◌, ◌≤◌, ◌<◌}
use mathlib.Core.Bool.{true, false}
use mathlib.Core.List.{List, [], ◌∷◌, map}
use mathlib.Core.Logic.{⊎_elim}
use mathlib.Core.Path.{◌≡◌, refl, ap, ap₂}
use native.Mathlib.Omega.{arith}
use lib.ListN.{length, get_or, set}
use Rattle.sets.specs.Sets.{Positions}
use Rattle.sets.proofs.Tests.{clash, decided, is_false}
use Rattle.opening.specs.Opening.{Keeps, Upward}
use Rattle.opening.specs.Residue.{falls_from, Narrowing}
use Rattle.opening.proofs.Residue.{Falling}
use Rattle.falls.specs.Falls.{outlasted}

-- as long as a pixel keeps its grey its residues are 0; d stands for what is beyond the last test
pub falls_kept : (x : Keeps → ℕ) (u : ℕ) (tests : List Keeps) (d : Keeps) (k : ℕ) → ((i : ℕ) → i < k → x (get_or tests i d) ≡ u)
    → (i : ℕ) → i < k → get_or (falls_from u (map x tests)) i 0 ≡ 0
unfolding falls_from
falls_kept x u [] d k kept i b = refl
falls_kept x u (keeps ∷ rest) d k kept zero b = omega (arith, kept 0 b)
falls_kept x u (keeps ∷ rest) d k kept (suc i) b =
    rw
    (kept 0 (omega arith))
    (falls_kept x u rest d (k - 1) (λ j l. kept (suc j) (omega arith)) i (omega arith))

pub length_falls : (x : Keeps → ℕ) (u : ℕ) (tests : List Keeps) → length (falls_from u (map x tests)) ≡ length tests
unfolding falls_from
length_falls x u [] = refl
length_falls x u (keeps ∷ rest) = ap suc (length_falls x (x keeps) rest)

-- x and y are the greys of a pixel and of its parent under an opening, u and v their own, s the node of the pixel
module _ (n : ℕ) (x y : Keeps → ℕ) (u v : ℕ) (s : Positions)
    (kept : (keeps : Keeps) → Upward n keeps → keeps s ≡ true → (x keeps ≡ u) × (y keeps ≡ v))
    (gone : (keeps : Keeps) → Upward n keeps → keeps s ≡ false → x keeps ≡ y keeps) (higher : v ≤ u) where
  -- behind a test that s fails the two have the same greys
  map_gone : (wide : Keeps) (tests : List Keeps) → wide s ≡ false → Narrowing n wide tests → map x tests ≡ map y tests
  map_gone wide [] fails narrow = refl
  map_gone wide (keeps ∷ rest) fails (up, inside, narrow) =
      let fails_on : keeps s ≡ false = is_false (keeps s) (λ e. clash (wide s) (inside s e) fails) in
      rw (gone keeps up fails_on, map_gone keeps rest fails_on narrow)

  pub falls_raised : (wide : Keeps) (tests : List Keeps) → Narrowing n wide tests → Falling v (map y tests)
      → falls_from u (map x tests) ≡ set (falls_from v (map y tests)) (outlasted s tests) (u - v + get_or (falls_from v (map y tests)) (outlasted s tests) 0)
  unfolding outlasted falls_from
  falls_raised wide [] narrow fall = refl
  falls_raised wide (keeps ∷ rest) (up, inside, narrow) fall =
      ⊎_elim
      (λ (e : keeps s ≡ true).
      let later : Falling v (map y rest) = rw (kept keeps up e).1 at fall.1 in
      rw (e, (kept keeps up e).0, (kept keeps up e).1) (ap₂ (λ (r : ℕ) (rs : List ℕ). r ∷ rs) (omega arith) (falls_raised keeps rest narrow later)))
      (λ (e : keeps s ≡ false).
      rw (e, gone keeps up e, map_gone keeps rest e narrow) (ap (λ (r : ℕ). r ∷ falls_from (y keeps) (map y rest)) (omega (arith, fall.0))))
      (decided (keeps s))
