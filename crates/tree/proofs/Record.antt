-- The record of the tree read off parent words that stand for it: a representative is the lowest position with the same node
-- root, and the parent's representative that of the root's parent word. Assumes that neighbours are mutual.
use Prim.Native.Nat.{ℕ, ◌<◌, min}
use mathlib.Core.Bool.{true, ◌&&◌}
use mathlib.Core.Logic.{⊎_elim}
use mathlib.Core.Path.{◌≡◌, sym, ap, ◌∙◌}
use native.Mathlib.Nat.{le_refl}
use native.Mathlib.Omega.{arith}
use lib.Dec.{eqb, leb}
use borrow.Author.Tests.{leb-true, le-leb, eqb-true, eq-eqb}
use Rattle.sets.specs.Sets.{member}
use Rattle.sets.proofs.Tests.{and_left, and_right, and_both, same_truth, le_or_lt}
use Rattle.sets.proofs.Gather.{gather_ext}
use Rattle.connected.specs.Component.{Adjacency, Symmetric}
use Rattle.opening.specs.Opening.{component_at}
use Rattle.opening.specs.Node.{node}
use Rattle.opening.proofs.Components.{component_grey}
use Rattle.tree.specs.Tree.{own, lowest_own, representative, parent_representative}
use Rattle.tree.specs.Forest.{Forest, node_root, lowest, top}
use Rattle.tree.proofs.Together.{together_trans, together_below, together_down}
use Rattle.tree.proofs.Parents.{Over, Parent, Root, parent_representative_eq, root_representative}
use Rattle.tree.proofs.Forest.{top_own, top_stop, top_root, top_node_root, together_top, top_together, node_root_self, node_root_is, together_root, root_together}

module _ (n : ℕ) (adj : Adjacency) (symm : Symmetric adj) (g par : ℕ → ℕ) (forest : Forest n adj g par) where
  -- "A node's representative is its own pixel of lowest position."
  pub representative_lowest : (p : ℕ) → p < n → representative n adj g p ≡ lowest n g par (node_root g par p)
  unfolding representative lowest_own lowest
  representative_lowest p b =
      gather_ext
      n
      min
      n
      (λ (q : ℕ). q)
      (own g (g p) (component_at n adj g (g p) p))
      (λ (q : ℕ). eqb (node_root g par q) (node_root g par p))
      (λ q c. same_truth (own g (g p) (component_at n adj g (g p) p) q) (eqb (node_root g par q) (node_root g par p)) (there q) (back q c))
    where
      there : (q : ℕ) → own g (g p) (component_at n adj g (g p) p) q ≡ true → eqb (node_root g par q) (node_root g par p) ≡ true
      there q t =
          eq-eqb
          (node_root g par q)
          (node_root g par p)
          (together_root
          n
          adj
          symm
          g
          par
          forest
          p
          q
          b
          (and_left (member (component_at n adj g (g p) p) q) (eqb (g q) (g p)) t)
          (eqb-true (g q) (g p) (and_right (member (component_at n adj g (g p) p) q) (eqb (g q) (g p)) t)))

      back : (q : ℕ) → q < n → eqb (node_root g par q) (node_root g par p) ≡ true → own g (g p) (component_at n adj g (g p) p) q ≡ true
      back q c t =
          let (u, e) = root_together n adj symm g par forest p q b c (eqb-true (node_root g par q) (node_root g par p) t) in
          and_both (member (component_at n adj g (g p) p) q) (eqb (g q) (g p)) u (eq-eqb (g q) (g p) e)

  -- the node root of p is no last ancestor of p below its own grey, where a node that holds p lies
  over_root : (p x : ℕ) → p < n → Over n adj g x p → g x < g p → top g par (g x) (node_root g par p) ≡ node_root g par p → ⊥
  over_root p x b o l e =
      let c : x < n = together_below n adj symm g (g x) p x o in
      let same : node_root g par p ≡ node_root g par x =
      sym e
      ∙ sym (top_root n adj symm g par forest (g x) p b (omega arith))
      ∙ together_top n adj symm g par forest (g x) p x o
      ∙ top_node_root n adj symm g par forest x c in
      omega (arith, ap g same, (node_root_is n adj symm g par forest p b).1, (node_root_is n adj symm g par forest x c).1)

  -- a darker parent word of the node root is an own pixel of the parent
  pub root_parent : (p : ℕ) → p < n → g (par (node_root g par p)) < g p → Parent n adj g p (par (node_root g par p))
  root_parent p b l =
      let r : ℕ = node_root g par p in
      let (c, e, last) = node_root_is n adj symm g par forest p b in
      let (t, f) = root_together n adj symm g par forest p r b c (node_root_self g par r last) in
      record {
        darker = l;
        over =
            together_trans n adj symm g (g (par r)) p r (par r) (together_down n adj symm g (g p) (g (par r)) p r (omega arith) t) (forest.sound r c);
        nearest = λ x o d. ⊎_elim (λ m. m) (λ m. absurd (over_root p x b o d (top_stop g par (g x) r m))) (le_or_lt (g x) (g (par r)));
      }

  -- a node root that is its own parent word belongs to the root
  pub root_root : (p : ℕ) → p < n → par (node_root g par p) ≡ node_root g par p → Root n adj g p
  root_root p b e x o =
      ⊎_elim
      (λ m. m)
      (λ m. absurd (over_root p x b o m (top_own g par (g x) (node_root g par p) e)))
      (le_or_lt (g p) (g x))

  -- the parent's representative is found from the parent word of the node root
  pub parent_lowest : (p : ℕ) → p < n → parent_representative n adj g p ≡ lowest n g par (par (node_root g par p))
  parent_lowest p b =
      let r : ℕ = node_root g par p in
      let (c, e, last) = node_root_is n adj symm g par forest p b in
      ⊎_elim
      (λ own.
      root_representative n adj symm g p (root_root p b own)
      ∙ representative_lowest p b
      ∙ ap (lowest n g par) (sym own))
      (λ l.
      parent_representative_eq n adj symm g p (par r) (root_parent p b (omega arith))
      ∙ representative_lowest (par r) (forest.within r c)
      ∙ ap (lowest n g par) (node_root_self g par (par r) (forest.root r c)))
      last

  -- the pixels of a node are those whose last ancestor at its level is its node root
  pub node_top : (p q : ℕ) → p < n → q < n → member (node n adj g p) q ≡ (leb (g p) (g q) && eqb (top g par (g p) q) (node_root g par p))
  node_top p q b c =
      same_truth
      (member (node n adj g p) q)
      (leb (g p) (g q) && eqb (top g par (g p) q) (node_root g par p))
      (λ t.
      and_both
      (leb (g p) (g q))
      (eqb (top g par (g p) q) (node_root g par p))
      (le-leb (g p) (g q) (component_grey n adj g (g p) p q t))
      (eq-eqb
      (top g par (g p) q)
      (node_root g par p)
      (sym (together_top n adj symm g par forest (g p) p q t) ∙ top_node_root n adj symm g par forest p b)))
      (λ t.
      top_together
      n
      adj
      symm
      g
      par
      forest
      (g p)
      p
      q
      b
      c
      (le_refl (g p))
      (leb-true (g p) (g q) (and_left (leb (g p) (g q)) (eqb (top g par (g p) q) (node_root g par p)) t))
      (top_node_root n adj symm g par forest p b
      ∙ sym (eqb-true (top g par (g p) q) (node_root g par p) (and_right (leb (g p) (g q)) (eqb (top g par (g p) q) (node_root g par p)) t))))
