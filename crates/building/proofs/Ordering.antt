-- The end of the passes: the record is written from the words of the nodes, its representatives are sorted, and what follows them is zeroed.
-- Assumes nothing.
use Prim.Native.Nat.{ℕ, ◌+◌, ◌-◌, ◌*◌, ◌≤◌, ◌<◌}
use mathlib.Core.Bool.{Bool, true, false, cond}
use mathlib.Core.List.{List, ◌++◌, append_assoc}
use mathlib.Core.Path.{◌≡◌, refl, sym, ap, subst, ◌∙◌}
use native.Mathlib.Nat.{le_refl}
use native.Mathlib.Omega.{arith}
use lib.Dec.{eqb}
use lib.ListN.{get_or, length, take, drop, replicate, length-drop, replicate-append-replicate}
use lib.Seq.{length-take-le, take-add, get_or-take, get_or-drop}
use borrow.Author.Tests.{eqb-true}
use Rattle.sets.specs.Sets.{member, table}
use Rattle.sets.proofs.Laws.{count_le, count_ext}
use Rattle.sets.proofs.Tables.{as_table}
use Rattle.connected.specs.Component.{Adjacency}
use Rattle.opening.specs.Node.{node}
use Rattle.opening.proofs.Components.{level_self}
use Rattle.grid.specs.Neighbours.{adjacent}
use Rattle.grid.specs.Attributes.{attribute}
use Rattle.grid.specs.declared.Grid.{Grid}
use Rattle.grid.proofs.Attributes.{adjacent_symmetric}
use Rattle.tree.specs.Tree.{representative, parents, attributes, parent_representative, parent_word, attribute_word, is_representative, number_of_nodes, by_level, listing, workspace}
use Rattle.tree.specs.Listing.{Listed}
use Rattle.tree.proofs.Representatives.{representative_le}
use Rattle.tree.proofs.Listing.{listed_same, by_level_only}
use Rattle.causes.specs.Bounds.{most_pixels, words_a_pixel}
use Rattle.levels.specs.Levels.{grey}
use Rattle.levels.specs.Workspace.{Sized, order_of, number_at, lowest_of, up_of, held_of}
use Rattle.numbers.specs.Nodes.{NodesOf}
use Rattle.representatives.specs.Representatives.{Representable, is_lowest, new_parent, new_attribute, Represented}
use Rattle.sorting.specs.Sorting.{Sortable, Sorted}
use Rattle.building.specs.Building.{Noded, Whole}
use Rattle.building.proofs.Assembly.{sized}

-- a list that holds two tables, one after the other
two_tables : (n : ℕ) (f g : ℕ → ℕ) (xs : List ℕ) → 2 * n ≤ length xs → ((q : ℕ) → q < n → get_or xs q 0 ≡ f q) → ((q : ℕ) → q < n → get_or xs (n + q) 0 ≡ g q) → take (2 * n) xs ≡ table n f ++ table n g
two_tables n f g xs size first second =
    let both : 2 * n ≡ n + n = omega arith in
    let half : n ≤ length (drop n xs) = rw (length-drop n xs) (omega arith) in
    let one : take n xs ≡ table n f =
    as_table 0 f (length-take-le n xs (omega arith)) (λ q b. get_or-take n xs q 0 b ∙ first q b) in
    let two : take n (drop n xs) ≡ table n g =
    as_table 0 g (length-take-le n (drop n xs) half) (λ q b. get_or-take n (drop n xs) q 0 b ∙ get_or-drop n xs q 0 ∙ second q b) in
    rw (both, take-add n n xs, one, two) refl

-- the same choice, where what is chosen is the same
chosen : (t : Bool) (x y x' y' : ℕ) → (t ≡ true → x ≡ x') → y ≡ y' → cond t x y ≡ cond t x' y'
chosen true x y x' y' e f = e refl
chosen false x y x' y' e f = f

-- the words of the nodes
module _ {grid : Grid} {a : ℕ} {picture ws : List ℕ} {m : ℕ} (D : Noded grid a picture ws m) where
  abbrev n : ℕ
  n = length picture

  abbrev adj : Adjacency
  adj = adjacent grid

  abbrev g : ℕ → ℕ
  g = grey picture

  abbrev N : NodesOf grid a picture ws m
  N = D.nodes

  fitting : Sized n ws
  fitting = sized D.buildable refl

  represents : (q : ℕ) → q < n → is_representative n adj g q ≡ is_lowest n ws q
  unfolding is_representative
  represents q b = ap (λ (k : ℕ). eqb k q) (sym (N.representatives q b))

  self : (q : ℕ) → is_lowest n ws q ≡ true → lowest_of n ws (number_at ws q) ≡ q
  self q t = eqb-true (lowest_of n ws (number_at ws q)) q t

  parent_is : (q : ℕ) → q < n → new_parent n ws q ≡ parent_word n adj g q
  unfolding parent_word
  parent_is q b =
      chosen
      (is_lowest n ws q)
      (lowest_of n ws (up_of n ws (number_at ws q)))
      (lowest_of n ws (number_at ws q))
      (parent_representative n adj g q)
      (representative n adj g q)
      (λ t. N.parents (number_at ws q) (N.within q b) ∙ ap (parent_representative n adj g) (self q t))
      (N.representatives q b)
      ∙ ap
      (λ (t : Bool). cond t (parent_representative n adj g q) (representative n adj g q))
      (sym (represents q b))

  attribute_is : (q : ℕ) → q < n → new_attribute n ws q ≡ attribute_word n adj (attribute grid a) g q
  unfolding attribute_word
  attribute_is q b =
      chosen
      (is_lowest n ws q)
      (held_of n ws (number_at ws q))
      0
      (attribute grid a (member (node n adj g q)))
      0
      (λ t. N.attributes (number_at ws q) (N.within q b) ∙ ap (λ (p : ℕ). attribute grid a (member (node n adj g p))) (self q t))
      refl
      ∙ ap (λ (t : Bool). cond t (attribute grid a (member (node n adj g q))) 0) (sym (represents q b))

  own_le : (q : ℕ) → q < n → representative n adj g q ≤ q
  own_le q b =
      representative_le n adj (adjacent_symmetric grid) g q q (level_self n adj g (g q) q b (le_refl (g q))) refl

  pub record_asked : Representable n ws
  record_asked =
      record {
        sized = fitting;
        nodes = m;
        few = N.few;
        within = N.within;
        low = λ q b. rw (N.representatives q b) (own_le q b);
        ups = N.ups;
      }

  -- after the record is written
  module _ {ws₁ : List ℕ} {nodes : ℕ} (R : Represented n ws ws₁ nodes) where
    few : nodes ≤ n
    few = omega (arith, R.number, count_le n (is_lowest n ws))

    pub nodes_small : nodes ≤ most_pixels
    nodes_small = omega (arith, few, fitting.small)

    pub sort_asked : ((x : ℕ) → grey picture x < 256) → Sortable picture ws₁ nodes
    sort_asked bytes =
        record {
          sized = sized D.buildable R.words;
          bytes = bytes;
          few = few;
          pixels = is_lowest n ws;
          order = R.order;
        }

    -- after its representatives are sorted
    module _ {ws₂ : List ℕ} (S : Sorted picture ws₁ ws₂ nodes) where
      words_left : length ws₂ ≡ words_a_pixel * n
      words_left = S.words ∙ R.words ∙ fitting.words

      tree_left : take (2 * n) ws₂ ≡ parents n adj g ++ attributes n adj (attribute grid a) g
      unfolding parents attributes
      tree_left =
          two_tables
          n
          (parent_word n adj g)
          (attribute_word n adj (attribute grid a) g)
          ws₂
          (omega (arith, words_left))
          (λ q b. S.before q (omega arith) ∙ R.parents q b ∙ parent_is q b)
          (λ q b. S.before (n + q) (omega arith) ∙ R.attributes q b ∙ attribute_is q b)

      order_left : Listed n nodes g (is_representative n adj g) (order_of n ws₂)
      order_left =
          listed_same
          n
          nodes
          g
          (is_lowest n ws)
          (is_representative n adj g)
          (order_of n ws₂)
          (order_of n ws₂)
          represents
          (λ i b. refl)
          (S.order (is_lowest n ws) R.order)

      number_left : nodes ≡ number_of_nodes n adj g
      unfolding number_of_nodes
      number_left =
          R.number ∙ count_ext n (is_lowest n ws) (is_representative n adj g) (λ q b. sym (represents q b))

      pub clear_asked : (Sized n ws₂) × (nodes ≤ n)
      clear_asked = (record { words = words_left; small = fitting.small }, few)

      -- the list is the one that the definition has
      list_left : take nodes (drop (2 * n) ws₂) ≡ by_level g (is_representative n adj g) 0 n
      unfolding number_of_nodes
      list_left =
          let room : nodes ≤ length (drop (2 * n) ws₂) = rw (length-drop (2 * n) ws₂) (omega (arith, words_left, few)) in
          let listed : Listed n nodes g (is_representative n adj g) (λ (i : ℕ). get_or (take nodes (drop (2 * n) ws₂)) i 0) =
          listed_same
          n
          nodes
          g
          (is_representative n adj g)
          (is_representative n adj g)
          (order_of n ws₂)
          (λ (i : ℕ). get_or (take nodes (drop (2 * n) ws₂)) i 0)
          (λ q b. refl)
          (λ i b. get_or-take nodes (drop (2 * n) ws₂) i 0 b ∙ get_or-drop (2 * n) ws₂ i 0)
          order_left in
          by_level_only
          (length-take-le nodes (drop (2 * n) ws₂) room ∙ number_left)
          (subst
          (λ (k : ℕ). Listed n k g (is_representative n adj g) (λ (i : ℕ). get_or (take nodes (drop (2 * n) ws₂)) i 0))
          number_left
          listed)

      -- and what follows it is zero
      record_left : {left : List ℕ} → left ≡ take (2 * n + nodes) ws₂ ++ replicate (5 * n - nodes) 0 → left ≡ workspace n adj (attribute grid a) g
      unfolding workspace listing
      record_left cleared =
          let before : List ℕ = parents n adj g ++ attributes n adj (attribute grid a) g in
          let list : List ℕ = by_level g (is_representative n adj g) 0 n in
          let rest : List ℕ = replicate (n - nodes) 0 in
          let zeros : n - nodes + 4 * n ≡ 5 * n - nodes = omega (arith, few) in
          cleared
          ∙ rw
          (take-add (2 * n) nodes ws₂, tree_left, list_left, sym zeros, sym (replicate-append-replicate {A = ℕ} (n - nodes) (4 * n) 0))
          (sym (append_assoc (before ++ list) rest (replicate (4 * n) 0))
          ∙ ap (λ (l : List ℕ). l ++ replicate (4 * n) 0) (append_assoc before list rest))
          ∙ ap (λ (k : ℕ). before ++ (list ++ replicate (n - k) 0) ++ replicate (4 * n) 0) number_left

      -- the bytes of the picture are the pixels of the grid
      pub whole : {left : List ℕ} → left ≡ take (2 * n + nodes) ws₂ ++ replicate (5 * n - nodes) 0 → Whole grid a picture left nodes
      whole {left} cleared =
          let (record_is, number) =
          subst
          (λ (k : ℕ). (left ≡ workspace k adj (attribute grid a) g) × (nodes ≡ number_of_nodes k adj g))
          D.buildable.bytes
          (record_left cleared, number_left) in
          record { left = record_is; number = number }
