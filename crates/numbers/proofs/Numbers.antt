-- The first pixel that took a number is the root of its node, and the own pixels of that node are those of its number. The forest assumes that neighbours are mutual.
use Prim.Native.Nat.{ℕ, ◌<◌, min}
use mathlib.Core.Logic.{inl, inr, ⊎_elim}
use mathlib.Core.Path.{◌≡◌, refl, sym, ap, subst, ◌∙◌}
use lib.Dec.{eqb}
use borrow.Author.Tests.{eqb-true, eq-eqb}
use Rattle.sets.specs.Gather.{first_in}
use Rattle.sets.proofs.Tests.{decided, same_truth}
use Rattle.sets.proofs.Gather.{gather_ext}
use Rattle.connected.specs.Component.{Adjacency, Symmetric}
use Rattle.tree.specs.Forest.{Forest, NodeRoot, node_root, lowest}
use Rattle.tree.proofs.Forest.{node_root_self}
use Rattle.flooding.specs.Numbers.{Numbered, parent_by}
use Rattle.numbers.proofs.Forest.{flooded_forest}

-- a pixel whose parent has its grey leads there
node_root_level : (g par : ℕ → ℕ) (q : ℕ) → g (par q) ≡ g q → node_root g par q ≡ par q
unfolding node_root
node_root_level g par q e = rw (eq-eqb (g (par q)) (g q) e) refl

module _ {n : ℕ} {adj : Adjacency} {g num up closed drop : ℕ → ℕ} {m : ℕ} (N : Numbered n adj g num up closed drop m) where
  abbrev par : ℕ → ℕ
  par = parent_by N.first num up

  pub number_forest : Symmetric adj → Forest n adj g par
  number_forest symm = flooded_forest n adj symm g par N.flooded

  -- the parent of a root is that of its number
  pub parent_first : (k : ℕ) → k < m → par (N.first k) ≡ N.first (up k)
  parent_first k b = rw (N.first_own k b, eq-eqb (N.first k) (N.first k) refl) refl

  pub root_first : (k : ℕ) → k < m → NodeRoot g par (N.first k)
  root_first k b =
      rw (parent_first k b) (⊎_elim (λ e. inl (ap N.first e)) (λ dark. inr dark) (N.dim k b))

  -- every pixel leads to the root of its number
  pub number_root : (q : ℕ) → q < n → node_root g par q ≡ N.first (num q)
  number_root q b =
      ⊎_elim
      (λ t.
      let e : N.first (num q) ≡ q = eqb-true (N.first (num q)) q t in
      node_root_self g par q (subst (NodeRoot g par) e (root_first (num q) (N.within q b))) ∙ sym e)
      (λ f.
      let e : par q ≡ N.first (num q) = rw f refl in
      node_root_level g par q (ap g e ∙ N.level q b) ∙ e)
      (decided (eqb (N.first (num q)) q))

  -- there is no other root
  pub root_is_first : (c : ℕ) → c < n → NodeRoot g par c → N.first (num c) ≡ c
  root_is_first c b root = sym (number_root c b) ∙ node_root_self g par c root

  pub first_apart : (j k : ℕ) → j < m → k < m → N.first j ≡ N.first k → j ≡ k
  first_apart j k b c e = sym (N.first_own j b) ∙ ap num e ∙ N.first_own k c

  -- the own pixels of a node are those of its number
  pub number_owned : (k x : ℕ) → k < m → x < n → eqb (node_root g par x) (N.first k) ≡ eqb (num x) k
  number_owned k x b c =
      same_truth
      (eqb (node_root g par x) (N.first k))
      (eqb (num x) k)
      (λ e.
      eq-eqb
      (num x)
      k
      (first_apart (num x) k (N.within x c) b (sym (number_root x c) ∙ eqb-true (node_root g par x) (N.first k) e)))
      (λ e. eq-eqb (node_root g par x) (N.first k) (number_root x c ∙ ap N.first (eqb-true (num x) k e)))

  pub number_lowest : (k : ℕ) → k < m → lowest n g par (N.first k) ≡ first_in n (λ (x : ℕ). eqb (num x) k)
  unfolding lowest
  number_lowest k b =
      gather_ext
      n
      min
      n
      (λ (x : ℕ). x)
      (λ (x : ℕ). eqb (node_root g par x) (N.first k))
      (λ (x : ℕ). eqb (num x) k)
      (λ x c. number_owned k x b c)
