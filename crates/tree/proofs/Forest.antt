-- Two pixels lie in one component at a level exactly if their last ancestors there are the same, and the own pixels of a node
-- are those with one node root. Assumes that neighbours are mutual.
use Prim.Native.Nat.{ℕ, zero, suc, ◌≤◌, ◌<◌}
use mathlib.Core.Bool.{cond}
use mathlib.Core.Logic.{inl, inr, ⊎_elim}
use mathlib.Core.Path.{◌≡◌, refl, sym, ap, ◌∙◌}
use native.Mathlib.Nat.{le_refl}
use native.Mathlib.Omega.{arith}
use lib.Dec.{eqb, leb}
use borrow.Author.Tests.{leb-true, le-leb, lt-leb, eqb-true, eqb-false, ne_eqb}
use Rattle.connected.specs.Component.{Adjacency, Symmetric, Walk, here, on}
use Rattle.connected.proofs.Laws.{component_walk, walk_inside}
use Rattle.opening.specs.Opening.{level_set, component_at}
use Rattle.opening.proofs.Levels.{cond_case}
use Rattle.opening.proofs.Components.{level_self}
use Rattle.tree.specs.Forest.{Forest, NodeRoot, node_root, ancestor, top}
use Rattle.tree.proofs.Together.{Together, together_sym, together_trans, together_below, together_down}

module _ (g par : ℕ → ℕ) where
  ancestor_own : (h k q : ℕ) → par q ≡ q → ancestor g par h k q ≡ q
  unfolding ancestor
  ancestor_own h zero q e = refl
  ancestor_own h (suc k) q e =
      cond_case
      (λ (x : ℕ). x ≡ q)
      (leb h (g (par q)))
      (λ l. ap (ancestor g par h k) e ∙ ancestor_own h k q e)
      (λ l. refl)

  pub top_own : (h q : ℕ) → par q ≡ q → top g par h q ≡ q
  unfolding top
  top_own h q e = ancestor_own h (suc (g q)) q e

  pub top_stop : (h q : ℕ) → g (par q) < h → top g par h q ≡ q
  unfolding top ancestor
  top_stop h q l = rw (lt-leb h (g (par q)) l)

  pub top_at : (h r : ℕ) → NodeRoot g par r → g r ≤ h → top g par h r ≡ r
  top_at h r (inl e) l = top_own h r e
  top_at h r (inr d) l = top_stop h r (omega arith)

  pub node_root_self : (q : ℕ) → NodeRoot g par q → node_root g par q ≡ q
  unfolding node_root
  node_root_self q (inl e) = cond_case (λ (x : ℕ). x ≡ q) (eqb (g (par q)) (g q)) (λ t. e) (λ f. refl)
  node_root_self q (inr l) = rw (ne_eqb (g (par q)) (g q) (λ e. absurd (omega arith)))

module _ (n : ℕ) (adj : Adjacency) (symm : Symmetric adj) (g par : ℕ → ℕ) (forest : Forest n adj g par) where
  -- more steps than the grey change nothing
  ancestor_enough : (h k l q : ℕ) → q < n → NodeRoot g par q → g q ≤ k → g q ≤ l → ancestor g par h k q ≡ ancestor g par h l q
  unfolding ancestor
  ancestor_enough h zero l q b r i j = ⊎_elim (λ e. sym (ancestor_own g par h l q e)) (λ d. absurd (omega arith)) r
  ancestor_enough h (suc k) zero q b r i j = ⊎_elim (λ e. ancestor_own g par h (suc k) q e) (λ d. absurd (omega arith)) r
  ancestor_enough h (suc k) (suc l) q b r i j =
      ⊎_elim
      (λ e. ancestor_own g par h (suc k) q e ∙ sym (ancestor_own g par h (suc l) q e))
      (λ d.
      ap
      (λ (x : ℕ). cond (leb h (g (par q))) x q)
      (ancestor_enough h k l (par q) (forest.within q b) (forest.root q b) (omega arith) (omega arith)))
      r

  -- a pixel and its parent have the same last ancestor at each level that the parent reaches
  pub top_link : (h q : ℕ) → q < n → h ≤ g (par q) → top g par h q ≡ top g par h (par q)
  unfolding top ancestor
  top_link h q b l =
      rw
      (le-leb h (g (par q)) l)
      (ancestor_enough h (g q) (suc (g (par q))) (par q) (forest.within q b) (forest.root q b) (forest.dim q b) (omega arith))

  ancestor_in : (h k q : ℕ) → q < n → h ≤ g q → Together n adj g h q (ancestor g par h k q)
  unfolding ancestor
  ancestor_in h zero q b l = level_self n adj g h q b l
  ancestor_in h (suc k) q b l =
      cond_case
      (λ (x : ℕ). Together n adj g h q x)
      (leb h (g (par q)))
      (λ e.
      let up : h ≤ g (par q) = leb-true h (g (par q)) e in
      together_trans
      n
      adj
      symm
      g
      h
      q
      (par q)
      (ancestor g par h k (par q))
      (together_down n adj symm g (g (par q)) h q (par q) up (forest.sound q b))
      (ancestor_in h k (par q) (forest.within q b) up))
      (λ e. level_self n adj g h q b l)

  -- the last ancestor is in the component
  pub top_in : (h q : ℕ) → q < n → h ≤ g q → Together n adj g h q (top g par h q)
  unfolding top
  top_in h q b l = ancestor_in h (suc (g q)) q b l

  walk_top : (h p q : ℕ) → Walk n adj (level_set g h) p q → top g par h p ≡ top g par h q
  walk_top h p q (here b i) = refl
  walk_top h p q (on {q = m} w e b i) =
      let (c, j) = walk_inside n adj (level_set g h) p m w in
      walk_top h p m w
      ∙ forest.complete h (top g par h) (top_link h) m q c b e (leb-true h (g m) j) (leb-true h (g q) i)

  -- two pixels of one component have the same last ancestor
  pub together_top : (h p q : ℕ) → Together n adj g h p q → top g par h p ≡ top g par h q
  unfolding component_at
  together_top h p q t = walk_top h p q (component_walk n adj (level_set g h) p q t)

  -- and pixels with the same last ancestor lie in one component
  pub top_together : (h p q : ℕ) → p < n → q < n → h ≤ g p → h ≤ g q → top g par h p ≡ top g par h q → Together n adj g h p q
  top_together h p q b c l m e =
      together_trans
      n
      adj
      symm
      g
      h
      p
      (top g par h p)
      q
      (top_in h p b l)
      (rw e (together_sym n adj symm g h q (top g par h q) (top_in h q c m)))

  -- the node root of a pixel is an own pixel of its node
  pub node_root_is : (q : ℕ) → q < n → (node_root g par q < n) × (g (node_root g par q) ≡ g q) × (NodeRoot g par (node_root g par q))
  unfolding node_root
  node_root_is q b =
      cond_case
      (λ (x : ℕ). (x < n) × (g x ≡ g q) × (NodeRoot g par x))
      (eqb (g (par q)) (g q))
      (λ e. (forest.within q b, eqb-true (g (par q)) (g q) e, forest.root q b))
      (λ e. (b, refl, inr (omega (arith, forest.dim q b, eqb-false (g (par q)) (g q) e))))

  -- a pixel and its node root have the same last ancestors
  pub top_root : (h q : ℕ) → q < n → h ≤ g q → top g par h q ≡ top g par h (node_root g par q)
  unfolding node_root
  top_root h q b l =
      cond_case
      (λ (x : ℕ). top g par h q ≡ top g par h x)
      (eqb (g (par q)) (g q))
      (λ e. top_link h q b (omega (arith, eqb-true (g (par q)) (g q) e)))
      (λ e. refl)

  -- at its own grey that is the node root itself
  pub top_node_root : (q : ℕ) → q < n → top g par (g q) q ≡ node_root g par q
  top_node_root q b =
      let (c, e, r) = node_root_is q b in
      top_root (g q) q b (le_refl (g q)) ∙ top_at g par (g q) (node_root g par q) r (omega arith)

  -- own pixels of one node have one node root
  pub together_root : (p q : ℕ) → p < n → Together n adj g (g p) p q → g q ≡ g p → node_root g par q ≡ node_root g par p
  together_root p q b t e =
      sym (top_node_root q (together_below n adj symm g (g p) p q t))
      ∙ ap (λ (h : ℕ). top g par h q) e
      ∙ sym (together_top (g p) p q t)
      ∙ top_node_root p b

  -- and pixels with one node root are own pixels of one node
  pub root_together : (p q : ℕ) → p < n → q < n → node_root g par q ≡ node_root g par p → (Together n adj g (g p) p q) × (g q ≡ g p)
  root_together p q b c e =
      let same : g q ≡ g p = sym (node_root_is q c).1 ∙ ap g e ∙ (node_root_is p b).1 in (
        top_together
            (g p)
            p
            q
            b
            c
            (le_refl (g p))
            (omega arith)
            (top_node_root p b ∙ sym e ∙ sym (top_node_root q c) ∙ ap (λ (h : ℕ). top g par h q) same),
        same,
      )
