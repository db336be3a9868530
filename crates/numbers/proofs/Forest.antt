-- What the flood leaves stands for the tree: its parents are a forest. Assumes that neighbours are mutual.
use Prim.Native.Nat.{ℕ, ◌≤◌, ◌<◌}
use mathlib.Core.Bool.{Bool}
use mathlib.Core.List.{List}
use mathlib.Core.Path.{◌≡◌, refl, sym, ap, ◌∙◌}
use native.Mathlib.Nat.{le_refl}
use native.Mathlib.Omega.{arith}
use lib.Dec.{eqb}
use borrow.Author.Tests.{eqb-true, eq-eqb}
use Rattle.sets.specs.Sets.{member}
use Rattle.sets.specs.Gather.{first_in}
use Rattle.sets.proofs.Gather.{first_in_le, first_in_holds}
use Rattle.connected.specs.Component.{Adjacency, Symmetric}
use Rattle.opening.specs.Opening.{component_at}
use Rattle.opening.proofs.Components.{level_self, level_neighbour}
use Rattle.tree.specs.Forest.{Forest}
use Rattle.tree.proofs.Together.{Together, together_sym, together_trans}
use Rattle.flooding.specs.Flooding.{Joined, same, edge, back, then, Contains, Flooded}

-- a join of pixels with one label is along that label
joined_label : (label : ℕ → ℕ) (p q : ℕ) → Joined (λ (x y : ℕ). eqb (label x) (label y)) p q → label p ≡ label q
joined_label label p q same = refl
joined_label label p q (edge e) = eqb-true (label p) (label q) e
joined_label label p q (back j) = sym (joined_label label q p j)
joined_label label p q (then {q = m} i j) = joined_label label p m i ∙ joined_label label m q j

module _ (n : ℕ) (adj : Adjacency) (symm : Symmetric adj) (g par : ℕ → ℕ) (flooded : Flooded n adj g par) where
  -- the label of a component: its lowest position
  abbrev label_of : ℕ → ℕ → ℕ
  label_of h p = first_in n (member (component_at n adj g h p))

  lowest_in : (h p : ℕ) → p < n → h ≤ g p → Together n adj g h p (label_of h p)
  lowest_in h p b l =
      first_in_holds
      n
      (member (component_at n adj g h p))
      (omega (arith, first_in_le n (member (component_at n adj g h p)) p b (level_self n adj g h p b l)))

  components_contain : (h : ℕ) → Contains n adj g h (λ (x y : ℕ). eqb (label_of h x) (label_of h y))
  components_contain h p q b c near l m =
      edge
      (eq-eqb
      (label_of h p)
      (label_of h q)
      (ap (λ (s : List Bool). first_in n (member s)) (level_neighbour n adj symm g h p q b c near l m)))

  linked : (q : ℕ) → q < n → Together n adj g (g (par q)) q (par q)
  linked q b =
      let h : ℕ = g (par q) in
      let e : label_of h q ≡ label_of h (par q) =
      joined_label (label_of h) q (par q) (flooded.links h (λ (x y : ℕ). eqb (label_of h x) (label_of h y)) (components_contain h) q b (le_refl h)) in
      together_trans
      n
      adj
      symm
      g
      h
      q
      (label_of h q)
      (par q)
      (lowest_in h q b (flooded.rooted q b).dim)
      (rw e (together_sym n adj symm g h (par q) (label_of h (par q)) (lowest_in h (par q) (flooded.within q b) (le_refl h))))

  pub flooded_forest : Forest n adj g par
  flooded_forest =
      record {
        within = flooded.within;
        dim = λ q b. (flooded.rooted q b).dim;
        root = λ q b. (flooded.rooted q b).node;
        sound = linked;
        complete =
            λ h label agree p q b c near l m.
            joined_label label p q
            (flooded.edges h (λ (x y : ℕ). eqb (label x) (label y)) (λ x d k. edge (eq-eqb (label x) (label (par x)) (agree x d k))) p q b c near l m);
      }
