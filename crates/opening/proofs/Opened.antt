-- The laws of openings by what they keep. All go by the level-set law: a level above the least grey is at most the opened grey of a
-- pixel exactly if it is at most its grey and the component of the pixel at that level is kept.
use Prim.Native.Nat.{ℕ, ◌≤◌, ◌<◌}
use mathlib.Core.Bool.{true}
use mathlib.Core.Logic.{◌↔◌}
use mathlib.Core.Path.{◌≡◌, ap, fun_ext}
use native.Mathlib.Nat.{le_antisymm, le_trans}
use native.Mathlib.Omega.{arith}
use Rattle.sets.specs.Sets.{Positions, member}
use Rattle.connected.specs.Component.{Adjacency}
use Rattle.opening.specs.Opening.{component_at, least_grey, Keeps, Upward, opened_by}
use Rattle.opening.proofs.Levels.{le_by_levels, least_grey_le, least_grey_greatest, least_grey_mono, highest_ge, highest_le, highest_passes, highest_greatest}
use Rattle.opening.proofs.Components.{level_mono}

module _ (n : ℕ) (adj : Adjacency) where
  -- the opened grey is at least the least grey
  pub opened_ge : (keeps : Keeps) (g : ℕ → ℕ) (p : ℕ) → least_grey n g ≤ opened_by n adj keeps g p
  unfolding opened_by
  opened_ge keeps g p = highest_ge (least_grey n g) _ _

  -- and at most the grey: an opening is anti-extensive
  pub opened_le : (keeps : Keeps) (g : ℕ → ℕ) (p : ℕ) → p < n → opened_by n adj keeps g p ≤ g p
  unfolding opened_by
  opened_le keeps g p below = le_trans (highest_le (least_grey n g) _ _) (omega (arith, least_grey_le n g p below))

  -- the level-set law, from the kept component to the opened grey
  pub opened_above : (keeps : Keeps) (g : ℕ → ℕ) (p h : ℕ) → least_grey n g < h → h ≤ g p
      → keeps (member (component_at n adj g h p)) ≡ true → h ≤ opened_by n adj keeps g p
  unfolding opened_by
  opened_above keeps g p h above high kept =
      highest_greatest (least_grey n g) _ _ h above (omega arith) kept

  module _ (keeps : Keeps) (up : Upward n keeps) where
    -- the level-set law, from the opened grey to the kept component
    pub opened_kept : (g : ℕ → ℕ) (p h : ℕ) → least_grey n g < h → h ≤ opened_by n adj keeps g p
        → keeps (member (component_at n adj g h p)) ≡ true
    unfolding opened_by
    opened_kept g p h above high =
        up
        (member (component_at n adj g (opened_by n adj keeps g p) p))
        (member (component_at n adj g h p))
        (level_mono n adj g g (opened_by n adj keeps g p) h p (λ q b k. omega arith))
        (highest_passes (least_grey n g) (λ (k : ℕ). keeps (member (component_at n adj g k p))) _ (omega arith))

    -- the level-set law
    pub opened_level : (g : ℕ → ℕ) (p h : ℕ) → p < n → least_grey n g < h
        → h ≤ opened_by n adj keeps g p ↔ ((h ≤ g p) × (keeps (member (component_at n adj g h p)) ≡ true))
    opened_level g p h below above = (
      (λ high. (omega (arith, opened_le keeps g p below), opened_kept g p h above high)),
      (λ both. opened_above keeps g p h above both.0 both.1),
    )

  -- an opening rises with the picture and with what it keeps
  pub opened_mono : (keeps more : Keeps) (f g : ℕ → ℕ) → Upward n keeps → Upward n more
      → ((s : Positions) → keeps s ≡ true → more s ≡ true) → ((q : ℕ) → q < n → f q ≤ g q)
      → (p : ℕ) → p < n → opened_by n adj keeps f p ≤ opened_by n adj more g p
  opened_mono keeps more f g up up_more weaker rise p below =
      le_by_levels
      (least_grey n g)
      (opened_by n adj keeps f p)
      (opened_by n adj more g p)
      (opened_ge more g p)
      (λ h above high.
      opened_above
      more
      g
      p
      h
      above
      (omega (arith, opened_le keeps f p below, rise p below))
      (up_more
      (member (component_at n adj f h p))
      (member (component_at n adj g h p))
      (level_mono n adj f g h h p (λ q b k. omega (arith, rise q b)))
      (weaker _ (opened_kept keeps up f p h (omega (arith, least_grey_mono n f g rise (omega arith))) high))))

  -- an opening depends on the greys of the n pixels only
  pub opened_ext : (keeps : Keeps) (f g : ℕ → ℕ) → Upward n keeps → ((q : ℕ) → q < n → f q ≡ g q)
      → (p : ℕ) → p < n → opened_by n adj keeps f p ≡ opened_by n adj keeps g p
  opened_ext keeps f g up same p below =
      le_antisymm
      (opened_mono keeps keeps f g up up (λ s k. k) (λ q b. omega (arith, same q b)) p below)
      (opened_mono keeps keeps g f up up (λ s k. k) (λ q b. omega (arith, same q b)) p below)

  -- the least grey stays
  pub opened_least : (keeps : Keeps) (g : ℕ → ℕ) → 0 < n → least_grey n (opened_by n adj keeps g) ≡ least_grey n g
  opened_least keeps g pos =
      le_antisymm
      (least_grey_mono n (opened_by n adj keeps g) g (λ q b. opened_le keeps g q b) pos)
      (least_grey_greatest n (opened_by n adj keeps g) (least_grey n g) pos (λ q b. opened_ge keeps g q))

  -- an opening that keeps every set changes nothing
  pub opened_all : (keeps : Keeps) (g : ℕ → ℕ) → ((s : Positions) → keeps s ≡ true) → (p : ℕ) → p < n
      → opened_by n adj keeps g p ≡ g p
  opened_all keeps g all p below =
      le_antisymm
      (opened_le keeps g p below)
      (le_by_levels
      (least_grey n g)
      (g p)
      (opened_by n adj keeps g p)
      (opened_ge keeps g p)
      (λ h above high. opened_above keeps g p h above high (all _)))

  -- tests that agree on every set give one opening
  pub opened_same : (keeps other : Keeps) (g : ℕ → ℕ) → ((s : Positions) → keeps s ≡ other s) → (p : ℕ)
      → opened_by n adj keeps g p ≡ opened_by n adj other g p
  opened_same keeps other g same p = ap (λ (k : Keeps). opened_by n adj k g p) (fun_ext same)
