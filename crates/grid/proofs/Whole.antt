-- The whole picture is connected at its least grey: every pixel is joined to the first through its left or its upper neighbour.
-- Assumes only that rows are not empty.
use Prim.Native.Nat.{ℕ, zero, suc, ◌≤◌, ◌<◌}
use mathlib.Core.Bool.{true}
use mathlib.Core.Logic.{⊎_elim}
use mathlib.Core.Path.{◌≡◌}
use native.Mathlib.Omega.{arith}
use borrow.Author.Tests.{le-leb}
use Rattle.sets.specs.Sets.{member}
use Rattle.sets.proofs.Tests.{le_or_lt}
use Rattle.connected.specs.Component.{component}
use Rattle.connected.proofs.Laws.{component_self, component_step, component_sym, component_trans}
use Rattle.opening.specs.Opening.{level_set, component_at, least_grey}
use Rattle.opening.proofs.Levels.{least_grey_le}
use Rattle.grid.specs.Pixels.{pixels}
use Rattle.grid.specs.Neighbours.{adjacent}
use Rattle.grid.specs.declared.Grid.{Grid}
use Rattle.grid.proofs.Attributes.{adjacent_symmetric}
use Rattle.grid.proofs.Sides.{adjacent_before}

module _ (grid : Grid) (wide : 0 < grid.width) (g : ℕ → ℕ) where
  bright : (q : ℕ) → q < pixels grid → level_set g (least_grey (pixels grid) g) q ≡ true
  bright q b = le-leb (least_grey (pixels grid) g) (g q) (least_grey_le (pixels grid) g q b)

  step : (p q : ℕ) → q < pixels grid → adjacent grid p q ≡ true → member (component (pixels grid) (adjacent grid) (level_set g (least_grey (pixels grid) g)) 0) p ≡ true → member (component (pixels grid) (adjacent grid) (level_set g (least_grey (pixels grid) g)) 0) q ≡ true
  step p q b e t = component_step (pixels grid) (adjacent grid) (level_set g (least_grey (pixels grid) g)) 0 p q t e b (bright q b)

  first_self : (q : ℕ) → q ≤ 0 → q < pixels grid → member (component (pixels grid) (adjacent grid) (level_set g (least_grey (pixels grid) g)) 0) q ≡ true
  first_self q l b =
      let e : q ≡ 0 = omega arith in
      rw e (component_self (pixels grid) (adjacent grid) (level_set g (least_grey (pixels grid) g)) 0 (omega arith) (bright 0 (omega arith)))

  from_first : (k q : ℕ) → q ≤ k → q < pixels grid → member (component (pixels grid) (adjacent grid) (level_set g (least_grey (pixels grid) g)) 0) q ≡ true
  from_first zero q l b = first_self q l b
  from_first (suc k) q l b =
      ⊎_elim
      (λ (start : q ≤ 0). first_self q start b)
      (λ (later : 0 < q).
      let r = adjacent_before grid wide q later in
      step r.0 q b r.2 (from_first k r.0 (omega (arith, r.1)) (omega (arith, r.1))))
      (le_or_lt q 0)

  -- "The root is the node at the least grey: the whole picture."
  pub grid_whole : (p q : ℕ) → p < pixels grid → q < pixels grid → member (component_at (pixels grid) (adjacent grid) g (least_grey (pixels grid) g) p) q ≡ true
  unfolding component_at
  grid_whole p q b c =
      component_trans
      (pixels grid)
      (adjacent grid)
      (level_set g (least_grey (pixels grid) g))
      p
      0
      q
      (component_sym (pixels grid) (adjacent grid) (level_set g (least_grey (pixels grid) g)) 0 p (adjacent_symmetric grid) (from_first p p (omega arith) b))
      (from_first q q (omega arith) c)
