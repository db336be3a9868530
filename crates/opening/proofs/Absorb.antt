-- Openings of openings: an opening of an opening keeps what both keep, so openings are idempotent, and those of one attribute absorb
-- each other.
use Prim.Native.Nat.{ℕ, ◌≤◌, ◌<◌}
use mathlib.Core.Bool.{true, ◌&&◌, and_self}
use mathlib.Core.Path.{◌≡◌, ◌∙◌}
use native.Mathlib.Omega.{arith}
use Rattle.sets.specs.Sets.{Inside, member}
use Rattle.sets.proofs.Tests.{and_left, and_right, and_both}
use Rattle.connected.specs.Component.{Adjacency, Symmetric}
use Rattle.opening.specs.Opening.{component_at, least_grey, Keeps, Upward, opened_by}
use Rattle.opening.proofs.Levels.{eq_by_levels}
use Rattle.opening.proofs.Components.{level_mono, level_within, level_same, component_grey}
use Rattle.opening.proofs.Opened.{opened_ge, opened_le, opened_above, opened_kept, opened_ext, opened_least, opened_same}

-- what two tests both keep
abbrev pub keeps_both : Keeps → Keeps → Keeps
keeps_both keeps other s = keeps s && other s

pub keeps_both_up : (n : ℕ) (keeps other : Keeps) → Upward n keeps → Upward n other → Upward n (keeps_both keeps other)
keeps_both_up n keeps other up up_other s t inside e =
    and_both
    (keeps t)
    (other t)
    (up s t inside (and_left (keeps s) (other s) e))
    (up_other s t inside (and_right (keeps s) (other s) e))

module _ (n : ℕ) (adj : Adjacency) (symm : Symmetric adj) (keeps : Keeps) (up : Upward n keeps) (g : ℕ → ℕ) where
  -- a component that the opened picture reaches is the same in the picture and in the opened picture
  pub opened_component_in : (p h : ℕ)
      → Inside n (member (component_at n adj (opened_by n adj keeps g) h p)) (member (component_at n adj g h p))
  opened_component_in p h =
      level_mono n adj (opened_by n adj keeps g) g h h p (λ q b k. omega (arith, opened_le n adj keeps g q b))

  pub opened_component : (p h : ℕ) → least_grey n g < h → h ≤ opened_by n adj keeps g p
      → Inside n (member (component_at n adj g h p)) (member (component_at n adj (opened_by n adj keeps g) h p))
  opened_component p h above high =
      level_within
      n
      adj
      g
      (opened_by n adj keeps g)
      h
      h
      p
      (λ q b e.
      opened_above
      n
      adj
      keeps
      g
      q
      h
      above
      (component_grey n adj g h p q e)
      (rw (level_same n adj symm g h p q e) at (opened_kept n adj keeps up g p h above high)))

  -- an opening of the opening by another test is the opening by both
  pub opened_absorb : (other : Keeps) → Upward n other → (p : ℕ) → p < n
      → opened_by n adj other (opened_by n adj keeps g) p ≡ opened_by n adj (keeps_both keeps other) g p
  opened_absorb other up_other p below =
      eq_by_levels
      (least_grey n g)
      (opened_by n adj other first p)
      (opened_by n adj (keeps_both keeps other) g p)
      (omega (arith, least, opened_ge n adj other first p))
      (opened_ge n adj (keeps_both keeps other) g p)
      (λ h above. (λ high. once h above high, λ high. twice h above high))
    where
      first : ℕ → ℕ
      first = opened_by n adj keeps g

      least : least_grey n first ≡ least_grey n g
      least = opened_least n adj keeps g (omega arith)

      once : (h : ℕ) → least_grey n g < h → h ≤ opened_by n adj other first p → h ≤ opened_by n adj (keeps_both keeps other) g p
      once h above high =
          let reached : h ≤ first p = omega (arith, opened_le n adj other first p below) in
          opened_above
          n
          adj
          (keeps_both keeps other)
          g
          p
          h
          above
          (omega (arith, opened_le n adj keeps g p below))
          (and_both
          (keeps _)
          (other _)
          (opened_kept n adj keeps up g p h above reached)
          (up_other _ _ (opened_component_in p h) (opened_kept n adj other up_other first p h (omega (arith, least)) high)))

      twice : (h : ℕ) → least_grey n g < h → h ≤ opened_by n adj (keeps_both keeps other) g p → h ≤ opened_by n adj other first p
      twice h above high =
          let kept : keeps_both keeps other (member (component_at n adj g h p)) ≡ true =
          opened_kept n adj (keeps_both keeps other) (keeps_both_up n keeps other up up_other) g p h above high in
          let reached : h ≤ first p =
          opened_above
          n
          adj
          keeps
          g
          p
          h
          above
          (omega (arith, opened_le n adj (keeps_both keeps other) g p below))
          (and_left (keeps _) (other _) kept) in
          opened_above
          n
          adj
          other
          first
          p
          h
          (omega (arith, least))
          reached
          (up_other _ _ (opened_component p h above reached) (and_right (keeps _) (other _) kept))

  -- the same of a picture f that is the opening of g
  pub opened_after : (f : ℕ → ℕ) → ((q : ℕ) → q < n → f q ≡ opened_by n adj keeps g q) → (other : Keeps) → Upward n other → (p : ℕ) → p < n
      → opened_by n adj other f p ≡ opened_by n adj (keeps_both keeps other) g p
  opened_after f at other up_other p below =
      opened_ext n adj other f (opened_by n adj keeps g) up_other at p below ∙ opened_absorb other up_other p below

  -- an opening of its own opening changes nothing
  pub opened_idempotent : (p : ℕ) → p < n → opened_by n adj keeps (opened_by n adj keeps g) p ≡ opened_by n adj keeps g p
  opened_idempotent p below =
      opened_absorb keeps up p below ∙ opened_same n adj (keeps_both keeps keeps) keeps g (λ s. and_self (keeps s)) p
