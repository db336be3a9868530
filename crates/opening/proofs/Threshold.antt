-- Openings at a threshold of an increasing attribute: the laws of openings by what they keep, as they read for thresholds.
use Prim.Native.Nat.{ℕ, ◌≤◌, ◌<◌, max}
use mathlib.Core.Bool.{true, ◌&&◌}
use mathlib.Core.Path.{◌≡◌, ◌∙◌}
use native.Mathlib.Omega.{arith}
use lib.Dec.{leb}
use borrow.Author.Tests.{leb-true, le-leb}
use Rattle.sets.specs.Sets.{Positions}
use Rattle.sets.proofs.Tests.{and_left, and_right, and_both, same_truth}
use Rattle.connected.specs.Component.{Adjacency, Symmetric}
use Rattle.opening.specs.Opening.{Upward, Increasing, at_least, opened}
use Rattle.opening.proofs.Opened.{opened_mono, opened_same}
use Rattle.opening.proofs.Absorb.{opened_absorb, keeps_both}

-- "t or more" holds of more as a set grows
pub at_least_up : (n : ℕ) (attr : Positions → ℕ) → Increasing n attr → (t : ℕ) → Upward n (at_least attr t)
at_least_up n attr rise t s u inside e = le-leb t (attr u) (omega (arith, leb-true t (attr s) e, rise s u inside))

-- what is at a threshold or more is at a smaller one or more
pub at_least_less : (attr : Positions → ℕ) (t u : ℕ) → t ≤ u → (s : Positions) → at_least attr u s ≡ true → at_least attr t s ≡ true
at_least_less attr t u less s e = le-leb t (attr s) (omega (arith, leb-true u (attr s) e))

-- at two thresholds or more is at the larger or more
both_at_least : (a s t : ℕ) → (leb s a && leb t a) ≡ leb (max s t) a
both_at_least a s t =
    same_truth
    (leb s a && leb t a)
    (leb (max s t) a)
    (λ e. le-leb (max s t) a (omega (arith, leb-true s a (and_left (leb s a) (leb t a) e), leb-true t a (and_right (leb s a) (leb t a) e))))
    (λ e. let l : max s t ≤ a = leb-true (max s t) a e in and_both (leb s a) (leb t a) (le-leb s a (omega arith)) (le-leb t a (omega arith)))

module _ (n : ℕ) (adj : Adjacency) (attr : Positions → ℕ) (rise : Increasing n attr) where
  -- the opening at a larger threshold is at most that at a smaller one
  pub opened_falls : (t u : ℕ) (g : ℕ → ℕ) → t ≤ u → (p : ℕ) → p < n → opened n adj attr u g p ≤ opened n adj attr t g p
  opened_falls t u g larger p below =
      opened_mono
      n
      adj
      (at_least attr u)
      (at_least attr t)
      g
      g
      (at_least_up n attr rise u)
      (at_least_up n attr rise t)
      (at_least_less attr t u larger)
      (λ q b. omega arith)
      p
      below

  -- the opening at s of the opening at t is the opening at the larger of the two
  pub opened_max : Symmetric adj → (s t : ℕ) (g : ℕ → ℕ) (p : ℕ) → p < n
      → opened n adj attr s (λ (q : ℕ). opened n adj attr t g q) p ≡ opened n adj attr (max t s) g p
  opened_max symm s t g p below =
      opened_absorb
      n
      adj
      symm
      (at_least attr t)
      (at_least_up n attr rise t)
      g
      (at_least attr s)
      (at_least_up n attr rise s)
      p
      below
      ∙ opened_same
      n
      adj
      (keeps_both (at_least attr t) (at_least attr s))
      (at_least attr (max t s))
      g
      (λ x. both_at_least (attr x) t s)
      p
