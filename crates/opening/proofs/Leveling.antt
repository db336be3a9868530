-- An opening is a leveling, and keeps the flat zones of a picture. Levelings compose.
use Prim.Native.Nat.{ℕ, suc, ◌≤◌, ◌<◌}
use mathlib.Core.Bool.{true}
use mathlib.Core.Logic.{⊎_elim}
use mathlib.Core.Path.{◌≡◌}
use native.Mathlib.Omega.{arith}
use Rattle.sets.proofs.Tests.{le_or_lt}
use Rattle.connected.specs.Component.{Adjacency, Symmetric}
use Rattle.opening.specs.Opening.{least_grey, Keeps, Upward, opened_by}
use Rattle.opening.specs.Leveling.{Leveling}
use Rattle.opening.proofs.Levels.{eq_by_levels}
use Rattle.opening.proofs.Components.{level_neighbour}
use Rattle.opening.proofs.Opened.{opened_ge, opened_le, opened_above, opened_kept}

module _ (n : ℕ) (adj : Adjacency) where
  -- a picture is a leveling of itself
  pub leveling_self : (g : ℕ → ℕ) → Leveling n adj g g
  leveling_self g p q below_p below_q near falls = (omega arith, omega arith)

  -- only the new greys of the n pixels count
  pub leveling_ext : (old f g : ℕ → ℕ) → ((p : ℕ) → p < n → f p ≡ g p) → Leveling n adj old f → Leveling n adj old g
  leveling_ext old f g same leveling p q below_p below_q near falls =
      let same_p : f p ≡ g p = same p below_p in
      let same_q : f q ≡ g q = same q below_q in
      let (low, high) = leveling p q below_p below_q near (omega arith) in
      (omega arith, omega arith)

  -- a leveling of a leveling is a leveling
  pub leveling_trans : (f g h : ℕ → ℕ) → Leveling n adj f g → Leveling n adj g h → Leveling n adj f h
  leveling_trans f g h first second p q below_p below_q near falls =
      let (low, high) = second p q below_p below_q near falls in
      let (low₁, high₁) = first p q below_p below_q near (omega arith) in
      (omega arith, omega arith)

  module _ (symm : Symmetric adj) (keeps : Keeps) (up : Upward n keeps) (g : ℕ → ℕ) where
    -- a level that the opened grey of a pixel reaches, and the grey of a neighbour, is reached by the neighbour's opened grey
    pub opened_step : (p q h : ℕ) → p < n → q < n → adj p q ≡ true → least_grey n g < h
        → h ≤ opened_by n adj keeps g p → h ≤ g q → h ≤ opened_by n adj keeps g q
    opened_step p q h below_p below_q near above high high_q =
        opened_above
        n
        adj
        keeps
        g
        q
        h
        above
        high_q
        (rw
        (level_neighbour n adj symm g h p q below_p below_q near (omega (arith, opened_le n adj keeps g p below_p)) high_q)
        at
        (opened_kept n adj keeps up g p h above high))

    -- neighbours of one grey have one opened grey
    pub opened_flat : (p q : ℕ) → p < n → q < n → adj p q ≡ true → g p ≡ g q → opened_by n adj keeps g p ≡ opened_by n adj keeps g q
    opened_flat p q below_p below_q near flat =
        eq_by_levels
        (least_grey n g)
        (opened_by n adj keeps g p)
        (opened_by n adj keeps g q)
        (opened_ge n adj keeps g p)
        (opened_ge n adj keeps g q)
        (λ h above. (
          (λ high. opened_step p q h below_p below_q near above high (omega (arith, opened_le n adj keeps g p below_p))),
          (λ high. opened_step q p h below_q below_p (symm p q near) above high (omega (arith, opened_le n adj keeps g q below_q))),
        ))

    -- "an opening is a leveling": where the opened grey falls to a neighbour, the neighbour kept its grey
    pub opened_leveling : Leveling n adj g (opened_by n adj keeps g)
    opened_leveling p q below_p below_q near falls = (
      opened_le n adj keeps g p below_p,
      ⊎_elim
          (λ (l : g q ≤ opened_by n adj keeps g q). l)
          (λ (l : opened_by n adj keeps g q < g q).
          omega (
            arith,
            opened_step
                p
                q
                (suc (opened_by n adj keeps g q))
                below_p
                below_q
                near
                (omega (arith, opened_ge n adj keeps g q))
                falls
                l,
          ))
          (le_or_lt (g q) (opened_by n adj keeps g q)),
    )
