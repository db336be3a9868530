-- Pixels that lie in one component of a level set, and nodes: every component is the node of its darkest pixel.
-- Assumes that neighbours are mutual.
use Prim.Native.Nat.{ℕ, ◌≤◌, ◌<◌}
use mathlib.Core.Bool.{true}
use mathlib.Core.Path.{◌≡◌, ◌∙◌}
use native.Mathlib.Omega.{arith}
use Rattle.sets.specs.Sets.{member}
use Rattle.sets.proofs.Tests.{same_truth}
use Rattle.sets.proofs.Laws.{list_ext}
use Rattle.connected.specs.Component.{Adjacency, Symmetric}
use Rattle.connected.proofs.Laws.{component_sym, component_trans, component_below, length_component}
use Rattle.opening.specs.Opening.{level_set, component_at}
use Rattle.opening.specs.Node.{node}
use Rattle.opening.proofs.Components.{level_mono, level_within, level_self, level_same, component_grey, darkest}

-- q is in the component of p at h
abbrev pub Together : ℕ → Adjacency → (ℕ → ℕ) → ℕ → ℕ → ℕ → Type 0
Together n adj g h p q = member (component_at n adj g h p) q ≡ true

module _ (n : ℕ) (adj : Adjacency) (symm : Symmetric adj) (g : ℕ → ℕ) where
  pub together_sym : (h p q : ℕ) → Together n adj g h p q → Together n adj g h q p
  unfolding component_at
  together_sym h p q t = component_sym n adj (level_set g h) p q symm t

  pub together_trans : (h p q r : ℕ) → Together n adj g h p q → Together n adj g h q r → Together n adj g h p r
  unfolding component_at
  together_trans h p q r t u = component_trans n adj (level_set g h) p q r t u

  pub together_below : (h p q : ℕ) → Together n adj g h p q → q < n
  unfolding component_at
  together_below h p q t = component_below n adj (level_set g h) p q t

  -- at a lower level too
  pub together_down : (h k p q : ℕ) → k ≤ h → Together n adj g h p q → Together n adj g k p q
  together_down h k p q l t = level_mono n adj g g h k p (λ r b i. omega arith) q (together_below h p q t) t

  -- two components that hold the same pixels are equal
  pub component_eq : (h k p q : ℕ) → ((r : ℕ) → Together n adj g h p r → Together n adj g k q r) → ((r : ℕ) → Together n adj g k q r → Together n adj g h p r) → component_at n adj g h p ≡ component_at n adj g k q
  unfolding component_at
  component_eq h k p q there back =
      list_ext
      n
      (component_at n adj g h p)
      (component_at n adj g k q)
      (length_component n adj (level_set g h) p)
      (length_component n adj (level_set g k) q)
      (λ r b. same_truth (member (component_at n adj g h p) r) (member (component_at n adj g k q) r) (there r) (back r))

  -- a component is the node of its darkest pixel
  pub component_node : (h p : ℕ) → p < n → h ≤ g p → (q : ℕ) × (Together n adj g h p q) × ((r : ℕ) → Together n adj g h p r → g q ≤ g r) × (component_at n adj g h p ≡ node n adj g q)
  component_node h p b l =
      let (q, c, t, least) = darkest n (member (component_at n adj g h p)) g p b (level_self n adj g h p b l) in
      let same : component_at n adj g h p ≡ component_at n adj g h q = level_same n adj symm g h p q t in (
        q,
        t,
        (λ r u. least r (together_below h p r u) u),
        same
            ∙ component_eq
            h
            (g q)
            q
            q
            (λ r u. level_within n adj g g h (g q) q (λ x d e. least x d (rw same e)) r (together_below h q r u) u)
            (λ r u. together_down (g q) h q r (component_grey n adj g h p q t) u),
      )
