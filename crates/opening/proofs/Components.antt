-- Components of level sets: how they grow as the level falls or the picture rises, and when two of them are the same. These are
-- the only laws of this crate that rest on the laws of connectedness.
use Prim.Native.Nat.{ℕ, ◌≤◌, ◌<◌}
use mathlib.Core.Bool.{true, false, cond}
use mathlib.Core.Logic.{⊎_elim}
use mathlib.Core.Path.{◌≡◌, sym, ◌∙◌}
use native.Mathlib.Omega.{arith}
use borrow.Author.Tests.{leb-true, le-leb}
use Rattle.sets.specs.Sets.{Positions, Inside, member}
use Rattle.sets.proofs.Tests.{decided}
use Rattle.connected.specs.Component.{Adjacency, Symmetric, component, Walk, here, on}
use Rattle.connected.proofs.Laws.{walk_component, component_walk, component_self, component_inside, component_below, component_mono, component_list, component_step, walk_within}
use Rattle.opening.specs.Opening.{level_set, component_at, least_grey}
use Rattle.opening.proofs.Levels.{least_grey_le, least_grey_attained}

module _ (n : ℕ) (adj : Adjacency) where
  -- what lies in the level set at h of one picture and in that at k of another: the components nest
  pub level_mono : (f g : ℕ → ℕ) (h k p : ℕ) → ((q : ℕ) → q < n → h ≤ f q → k ≤ g q)
      → Inside n (member (component_at n adj f h p)) (member (component_at n adj g k p))
  unfolding component_at
  level_mono f g h k p rise q below e =
      component_mono
      n
      adj
      (level_set f h)
      (level_set g k)
      p
      q
      (λ r b i. le-leb k (g r) (rise r b (leb-true h (f r) i)))
      e

  -- the grey of each pixel of a component at h is h or more
  pub component_grey : (g : ℕ → ℕ) (h p q : ℕ) → member (component_at n adj g h p) q ≡ true → h ≤ g q
  unfolding component_at
  component_grey g h p q e = leb-true h (g q) (component_inside n adj (level_set g h) p q e)

  -- and so is that of the pixel whose component it is, if it holds any pixel
  pub component_start : (g : ℕ → ℕ) (h p q : ℕ) → member (component_at n adj g h p) q ≡ true → h ≤ g p
  unfolding component_at
  component_start g h p q e = leb-true h (g p) (start q (component_walk n adj (level_set g h) p q e))
    where
      start : (r : ℕ) → Walk n adj (level_set g h) p r → level_set g h p ≡ true
      start r (here below in_set) = in_set
      start r (on walk near below in_set) = start _ walk

  -- a component all of whose pixels are at least k in another picture lies in the component there
  pub level_within : (f g : ℕ → ℕ) (h k p : ℕ) → ((q : ℕ) → q < n → member (component_at n adj f h p) q ≡ true → k ≤ g q)
      → Inside n (member (component_at n adj f h p)) (member (component_at n adj g k p))
  unfolding component_at
  level_within f g h k p high q below e =
      walk_component
      n
      adj
      (level_set g k)
      p
      q
      (walk_within
      n
      adj
      (level_set f h)
      (level_set g k)
      p
      q
      (component_walk n adj (level_set f h) p q e)
      (λ r w. le-leb k (g r) (high r (component_below n adj (level_set f h) p r (met r w)) (met r w))))
    where
      met : (r : ℕ) → Walk n adj (level_set f h) p r → member (component n adj (level_set f h) p) r ≡ true
      met r w = walk_component n adj (level_set f h) p r w

  -- a pixel of the level set lies in its own component
  pub level_self : (g : ℕ → ℕ) (h p : ℕ) → p < n → h ≤ g p → member (component_at n adj g h p) p ≡ true
  unfolding component_at
  level_self g h p below high = component_self n adj (level_set g h) p below (le-leb h (g p) high)

  module _ (symm : Symmetric adj) where
    -- every pixel of a component has that component
    pub level_same : (g : ℕ → ℕ) (h p q : ℕ) → member (component_at n adj g h p) q ≡ true
        → component_at n adj g h p ≡ component_at n adj g h q
    unfolding component_at
    level_same g h p q e = component_list n adj (level_set g h) p q symm e

    -- neighbours that both lie in the level set have the same component
    pub level_neighbour : (g : ℕ → ℕ) (h p q : ℕ) → p < n → q < n → adj p q ≡ true → h ≤ g p → h ≤ g q
        → component_at n adj g h p ≡ component_at n adj g h q
    unfolding component_at
    level_neighbour g h p q below_p below_q near high_p high_q =
        level_same
        g
        h
        p
        q
        (component_step n adj (level_set g h) p p q (level_self g h p below_p high_p) near below_q (le-leb h (g q) high_q))

-- a set that holds p, as a picture in which every other pixel has the grey of p
masked : Positions → (ℕ → ℕ) → ℕ → ℕ → ℕ
masked s g p r = cond (s r) (g r) (g p)

masked_in : (s : Positions) (g : ℕ → ℕ) (p r : ℕ) → s r ≡ true → masked s g p r ≡ g r
unfolding masked
masked_in s g p r e = rw e

masked_out : (s : Positions) (g : ℕ → ℕ) (p r : ℕ) → s r ≡ false → masked s g p r ≡ g p
unfolding masked
masked_out s g p r e = rw e

-- a set that holds a pixel has a darkest one
pub darkest : (n : ℕ) (s : Positions) (g : ℕ → ℕ) (p : ℕ) → p < n → s p ≡ true
    → (q : ℕ) × (q < n) × (s q ≡ true) × ((r : ℕ) → r < n → s r ≡ true → g q ≤ g r)
darkest n s g p below e =
    let (q, b, least) = least_grey_attained n (masked s g p) (omega arith) in
    ⊎_elim
    (λ (i : s q ≡ true). (q, b, i, bound q (sym (masked_in s g p q i) ∙ least)))
    (λ (i : s q ≡ false). (p, below, e, bound p (sym (masked_out s g p q i) ∙ least)))
    (decided (s q))
  where
    bound : (q : ℕ) → g q ≡ least_grey n (masked s g p) → (r : ℕ) → r < n → s r ≡ true → g q ≤ g r
    bound q least r b i = omega (arith, least_grey_le n (masked s g p) r b, masked_in s g p r i)
