-- A node's pixels are its own and those of its children: how the part of them that the children done so far hold grows with one
-- child more. Assumes that neighbours are mutual and that the parent words are a forest.
use Prim.Native.Nat.{ℕ, zero, suc, ◌≤◌, ◌<◌}
use mathlib.Core.Bool.{true, false, ◌&&◌, ◌||◌}
use mathlib.Core.Logic.{◌⊎◌, inl, inr, ⊎_elim}
use mathlib.Core.Path.{◌≡◌, refl, sym, ap, subst, ◌∙◌}
use native.Mathlib.Nat.{le_refl}
use native.Mathlib.Omega.{arith}
use lib.Dec.{eqb, leb, ltb}
use borrow.Author.Tests.{eqb-true, eq-eqb, leb-true, le-leb, ltb-true, lt-ltb}
use Rattle.sets.specs.Sets.{Positions, member}
use Rattle.sets.proofs.Tests.{clash, is_false, same_truth, and_left, and_right, and_both, or_cases, or_left, or_right, le_or_lt}
use Rattle.connected.specs.Component.{Adjacency, Symmetric}
use Rattle.opening.specs.Opening.{component_at}
use Rattle.opening.specs.Node.{node}
use Rattle.opening.proofs.Components.{component_grey}
use Rattle.tree.specs.Forest.{Forest, NodeRoot, node_root, top}
use Rattle.tree.proofs.Together.{Together, together_below, together_down}
use Rattle.tree.proofs.Forest.{top_own, top_stop, top_at, node_root_self, top_link, top_in, together_top, top_together, node_root_is, top_node_root, root_together}
use Rattle.tree.proofs.Parents.{Parent}
use Rattle.tree.proofs.Climb.{component_between}
use Rattle.tree.proofs.Record.{root_parent, node_top}
use Rattle.branches.specs.Branches.{owned, branch, poured}

-- x is in a child of r that is done
pub record Child (g par : ℕ → ℕ) (done : Positions) (r x : ℕ) : Type 0 where
  pub deep : g r < g x
  pub up : par (top g par (suc (g r)) x) ≡ r
  pub in_done : done (top g par (suc (g r)) x) ≡ true

module _ (g par : ℕ → ℕ) where
  poured_cases : (done : Positions) (r x : ℕ) → poured g par done r x ≡ true → (node_root g par x ≡ r) ⊎ Child g par done r x
  unfolding poured
  poured_cases done r x e =
      let c : ℕ = top g par (suc (g r)) x in
      ⊎_elim
      (λ i. inl (eqb-true (node_root g par x) r i))
      (λ i.
      let j = and_right (ltb (g r) (g x)) (eqb (par c) r && done c) i in
      inr
      (record {
        deep = ltb-true (g r) (g x) (and_left (ltb (g r) (g x)) (eqb (par c) r && done c) i);
        up = eqb-true (par c) r (and_left (eqb (par c) r) (done c) j);
        in_done = and_right (eqb (par c) r) (done c) j;
      }))
      (or_cases (eqb (node_root g par x) r) (ltb (g r) (g x) && (eqb (par c) r && done c)) e)

  pub poured_own : (done : Positions) (r x : ℕ) → node_root g par x ≡ r → poured g par done r x ≡ true
  unfolding poured
  poured_own done r x e = or_left (eqb (node_root g par x) r) _ (eq-eqb (node_root g par x) r e)

  poured_child : (done : Positions) (r x : ℕ) → Child g par done r x → poured g par done r x ≡ true
  unfolding poured
  poured_child done r x w =
      let c : ℕ = top g par (suc (g r)) x in
      or_right
      (eqb (node_root g par x) r)
      (ltb (g r) (g x) && (eqb (par c) r && done c))
      (and_both
      (ltb (g r) (g x))
      (eqb (par c) r && done c)
      (lt-ltb (g r) (g x) w.deep)
      (and_both (eqb (par c) r) (done c) (eq-eqb (par c) r w.up) w.in_done))

  branch_holds : (r x : ℕ) → branch g par r x ≡ true → (g r ≤ g x) × (top g par (g r) x ≡ r)
  unfolding branch
  branch_holds r x e = (
    leb-true (g r) (g x) (and_left (leb (g r) (g x)) (eqb (top g par (g r) x) r) e),
    eqb-true (top g par (g r) x) r (and_right (leb (g r) (g x)) (eqb (top g par (g r) x) r) e),
  )

  branch_in : (r x : ℕ) → g r ≤ g x → top g par (g r) x ≡ r → branch g par r x ≡ true
  unfolding branch
  branch_in r x l e =
      and_both (leb (g r) (g x)) (eqb (top g par (g r) x) r) (le-leb (g r) (g x) l) (eq-eqb (top g par (g r) x) r e)

module _ (n : ℕ) (adj : Adjacency) (symm : Symmetric adj) (g par : ℕ → ℕ) (forest : Forest n adj g par) where
  -- the last ancestor at h or more has no parent there
  own_stops : (h q : ℕ) → par q ≡ q → par (top g par h q) ≡ top g par h q
  own_stops h q e = subst (λ (x : ℕ). par x ≡ x) (sym (top_own g par h q e)) e

  link_stops : (h q : ℕ) → q < n → (h ≤ g (par q) → (par (top g par h (par q)) ≡ top g par h (par q)) ⊎ (g (par (top g par h (par q))) < h)) → (par (top g par h q) ≡ top g par h q) ⊎ (g (par (top g par h q)) < h)
  link_stops h q b on =
      ⊎_elim
      (λ l. subst (λ (x : ℕ). (par x ≡ x) ⊎ (g (par x) < h)) (sym (top_link n adj symm g par forest h q b l)) (on l))
      (λ l. inr (subst (λ (x : ℕ). g (par x) < h) (sym (top_stop g par h q l)) l))
      (le_or_lt h (g (par q)))

  root_stops : (h k q : ℕ) → q < n → NodeRoot g par q → g q ≤ k → (par (top g par h q) ≡ top g par h q) ⊎ (g (par (top g par h q)) < h)
  root_stops h zero q b r m = ⊎_elim (λ e. inl (own_stops h q e)) (λ d. absurd (omega arith)) r
  root_stops h (suc k) q b r m =
      ⊎_elim
      (λ e. inl (own_stops h q e))
      (λ d. link_stops h q b (λ l. root_stops h k (par q) (forest.within q b) (forest.root q b) (omega arith)))
      r

  top_stops : (h q : ℕ) → q < n → (par (top g par h q) ≡ top g par h q) ⊎ (g (par (top g par h q)) < h)
  top_stops h q b =
      link_stops h q b (λ l. root_stops h (g (par q)) (par q) (forest.within q b) (forest.root q b) (le_refl (g (par q))))

  top_below : (h q : ℕ) → q < n → h ≤ g q → top g par h q < n
  top_below h q b l = together_below n adj symm g h q (top g par h q) (top_in n adj symm g par forest h q b l)

  top_grey : (h q : ℕ) → q < n → h ≤ g q → h ≤ g (top g par h q)
  top_grey h q b l = component_grey n adj g h q (top g par h q) (top_in n adj symm g par forest h q b l)

  -- it is a node root
  top_last : (h q : ℕ) → q < n → h ≤ g q → NodeRoot g par (top g par h q)
  top_last h q b l =
      ⊎_elim (λ e. inl e) (λ low. inr (omega (arith, top_grey h q b l))) (top_stops h q b)

  -- the last ancestor at a lower level is that of the last ancestor
  top_top : (h k q : ℕ) → q < n → h ≤ k → k ≤ g q → top g par h (top g par k q) ≡ top g par h q
  top_top h k q b l m =
      sym
      (together_top
      n
      adj
      symm
      g
      par
      forest
      h
      q
      (top g par k q)
      (together_down n adj symm g k h q (top g par k q) l (top_in n adj symm g par forest k q b m)))

  -- the last ancestor above the level of a root, in a pixel of its node, is a child
  child_up : (r x : ℕ) → x < n → g r < g x → top g par (g r) x ≡ r → par (top g par (suc (g r)) x) ≡ r
  child_up r x b l e =
      let c : ℕ = top g par (suc (g r)) x in
      let d : c < n = top_below (suc (g r)) x b l in
      let high : suc (g r) ≤ g c = top_grey (suc (g r)) x b l in
      let f : top g par (g r) c ≡ r = top_top (g r) (suc (g r)) x b (omega arith) l ∙ e in
      let stuck : top g par (g r) c ≡ c → par c ≡ r = λ z. absurd (omega (arith, ap g (sym f ∙ z))) in
      ⊎_elim
      (λ own. stuck (top_own g par (g r) c own))
      (λ low.
      ⊎_elim
      (λ m. sym (top_at g par (g r) (par c) (forest.root c d) (omega arith)) ∙ sym (top_link n adj symm g par forest (g r) c d m) ∙ f)
      (λ m. stuck (top_stop g par (g r) c m))
      (le_or_lt (g r) (g (par c))))
      (top_stops (suc (g r)) x b)

  -- what is poured into a root is of its node
  poured_branch : (done : Positions) (r x : ℕ) → r < n → x < n → NodeRoot g par r → poured g par done r x ≡ true → branch g par r x ≡ true
  poured_branch done r x b c root e =
      let at : top g par (g r) r ≡ r = top_at g par (g r) r root (le_refl (g r)) in
      ⊎_elim
      (λ i.
      let (t, same) = root_together n adj symm g par forest r x b c (i ∙ sym (node_root_self g par r root)) in
      branch_in g par r x (omega arith) (sym (together_top n adj symm g par forest (g r) r x t) ∙ at))
      (λ w.
      let m : ℕ = top g par (suc (g r)) x in
      let d : m < n = top_below (suc (g r)) x c w.deep in
      branch_in
      g
      par
      r
      x
      (omega (arith, w.deep))
      (sym (top_top (g r) (suc (g r)) x c (omega arith) w.deep)
      ∙ top_link n adj symm g par forest (g r) m d (omega (arith, ap g w.up))
      ∙ ap (top g par (g r)) w.up
      ∙ at))
      (poured_cases g par done r x e)

  -- with all the children it is the whole node
  pub poured_all : (done : Positions) (r x : ℕ) → r < n → x < n → NodeRoot g par r → ((c : ℕ) → c < n → g r < g c → NodeRoot g par c → par c ≡ r → done c ≡ true) → poured g par done r x ≡ branch g par r x
  poured_all done r x b c root full =
      same_truth
      (poured g par done r x)
      (branch g par r x)
      (poured_branch done r x b c root)
      (λ e.
      let (l, t) = branch_holds g par r x e in
      ⊎_elim
      (λ m.
      let same : g x ≡ g r = omega arith in
      poured_own g par done r x (sym (top_node_root n adj symm g par forest x c) ∙ ap (λ (h : ℕ). top g par h x) same ∙ t))
      (λ m.
      poured_child
      g
      par
      done
      r
      x
      (record {
        deep = m;
        up = child_up r x c m t;
        in_done =
            full (top g par (suc (g r)) x) (top_below (suc (g r)) x c m) (top_grey (suc (g r)) x c m) (top_last (suc (g r)) x c m) (child_up r x c m t);
      }))
      (le_or_lt (g x) (g r)))

  -- with none of them it is the own pixels
  pub poured_none : (done : Positions) (r x : ℕ) → x < n → ((c : ℕ) → c < n → done c ≡ false) → poured g par done r x ≡ owned g par r x
  poured_none done r x c empty =
      same_truth
      (poured g par done r x)
      (owned g par r x)
      (λ e.
      ⊎_elim
      (λ i. eq-eqb (node_root g par x) r i)
      (λ w. clash (done (top g par (suc (g r)) x)) w.in_done (empty (top g par (suc (g r)) x) (top_below (suc (g r)) x c w.deep)))
      (poured_cases g par done r x e))
      (λ e. poured_own g par done r x (eqb-true (node_root g par x) r e))

  -- the pixels of a node, by its node root
  pub node_branch : (p x : ℕ) → p < n → x < n → member (node n adj g p) x ≡ branch g par (node_root g par p) x
  unfolding branch
  node_branch p x b c =
      node_top n adj symm g par forest p x b c
      ∙ ap
      (λ (h : ℕ). leb h (g x) && eqb (top g par h x) (node_root g par p))
      (sym (node_root_is n adj symm g par forest p b).1)

  -- one child more, q, whose parent word is darker
  module _ (done more : Positions) (q : ℕ) (b : q < n) (grown : (c : ℕ) → more c ≡ (done c || eqb q c)) where
    more_done : (c : ℕ) → done c ≡ true → more c ≡ true
    more_done c i = grown c ∙ or_left (done c) (eqb q c) i

    more_cases : (c : ℕ) → more c ≡ true → (done c ≡ true) ⊎ (q ≡ c)
    more_cases c i = ⊎_elim (λ d. inl d) (λ e. inr (eqb-true q c e)) (or_cases (done c) (eqb q c) (sym (grown c) ∙ i))

    poured_mono : (r x : ℕ) → poured g par done r x ≡ true → poured g par more r x ≡ true
    poured_mono r x e =
        ⊎_elim
        (poured_own g par more r x)
        (λ w.
        poured_child
        g
        par
        more
        r
        x
        (record { deep = w.deep; up = w.up; in_done = more_done (top g par (suc (g r)) x) w.in_done }))
        (poured_cases g par done r x e)

    poured_new : (r x : ℕ) → poured g par more r x ≡ true → (poured g par done r x ≡ true) ⊎ ((g r < g x) × (par q ≡ r) × (top g par (suc (g r)) x ≡ q))
    poured_new r x e =
        ⊎_elim
        (λ i. inl (poured_own g par done r x i))
        (λ w.
        ⊎_elim
        (λ i. inl (poured_child g par done r x (record { deep = w.deep; up = w.up; in_done = i })))
        (λ i. inr (w.deep, ap par i ∙ w.up, sym i))
        (more_cases (top g par (suc (g r)) x) w.in_done))
        (poured_cases g par more r x e)

    -- changes nothing at another root
    pub poured_other : (r x : ℕ) → x < n → (par q ≡ r → g r < g q → ⊥) → poured g par more r x ≡ poured g par done r x
    poured_other r x c other =
        same_truth
        (poured g par more r x)
        (poured g par done r x)
        (λ e.
        ⊎_elim
        (λ i. i)
        (λ w. absurd (other w.1 (subst (λ (k : ℕ). g r < g k) w.2 (top_grey (suc (g r)) x c w.0))))
        (poured_new r x e))
        (poured_mono r x)

    module _ (dark : g (par q) < g q) where
      node_is_q : (x : ℕ) → x < n → member (node n adj g q) x ≡ branch g par q x
      node_is_q x c = node_branch q x b c ∙ ap (λ (r : ℕ). branch g par r x) (node_root_self g par q (inr dark))

      between : component_at n adj g (suc (g (par q))) q ≡ node n adj g q
      between =
          component_between
          n
          adj
          symm
          g
          q
          (par q)
          (suc (g (par q)))
          b
          (subst
          (λ (r : ℕ). g (par r) < g q → Parent n adj g q (par r))
          (node_root_self g par q (inr dark))
          (root_parent n adj symm g par forest q b)
          dark)
          (omega arith)
          dark

      top_q : top g par (suc (g (par q))) q ≡ q
      top_q = top_stop g par (suc (g (par q))) q (omega arith)

      branch_child : (x : ℕ) → x < n → branch g par q x ≡ true → (g (par q) < g x) × (top g par (suc (g (par q))) x ≡ q)
      branch_child x c e =
          let t : Together n adj g (suc (g (par q))) q x = rw between (node_is_q x c ∙ e) in (
            component_grey n adj g (suc (g (par q))) q x t,
            sym (together_top n adj symm g par forest (suc (g (par q))) q x t) ∙ top_q,
          )

      child_branch : (x : ℕ) → x < n → g (par q) < g x → top g par (suc (g (par q))) x ≡ q → branch g par q x ≡ true
      child_branch x c l e =
          sym (node_is_q x c)
          ∙ (rw between at (top_together n adj symm g par forest (suc (g (par q))) q x b c dark l (top_q ∙ sym e)))

      -- at its parent its node is new
      pub poured_apart : done q ≡ false → (x : ℕ) → x < n → poured g par done (par q) x ≡ true → branch g par q x ≡ false
      poured_apart out x c e =
          is_false
          (branch g par q x)
          (λ i.
          let (l, t) = branch_child x c i in
          ⊎_elim
          (λ z. omega (arith, (node_root_is n adj symm g par forest x c).1, ap g z))
          (λ w. clash (done q) (subst (λ (k : ℕ). done k ≡ true) t w.in_done) out)
          (poured_cases g par done (par q) x e))

      pub poured_more : (x : ℕ) → x < n → poured g par more (par q) x ≡ (poured g par done (par q) x || branch g par q x)
      poured_more x c =
          same_truth
          (poured g par more (par q) x)
          (poured g par done (par q) x || branch g par q x)
          (λ e.
          ⊎_elim
          (or_left (poured g par done (par q) x) (branch g par q x))
          (λ w. or_right (poured g par done (par q) x) (branch g par q x) (child_branch x c w.0 w.2))
          (poured_new (par q) x e))
          (λ e.
          ⊎_elim
          (poured_mono (par q) x)
          (λ i.
          let (l, t) = branch_child x c i in
          poured_child
          g
          par
          more
          (par q)
          x
          (record {
            deep = l;
            up = ap par t;
            in_done = subst (λ (k : ℕ). more k ≡ true) (sym t) (grown q ∙ or_right (done q) (eqb q q) (eq-eqb q q refl));
          }))
          (or_cases (poured g par done (par q) x) (branch g par q x) e))
