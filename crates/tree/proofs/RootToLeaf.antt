-- The list of the nodes: it has the representatives, by level, and zeros after the last. The root comes first and every parent before
-- its children. Assumes that neighbours are mutual and, where the root is the only one, that the picture is one component.
use Prim.Native.Nat.{ℕ, ◌+◌, ◌-◌, ◌≤◌, ◌<◌}
use mathlib.Core.List.{List, ◌++◌}
use mathlib.Core.Logic.{◌⊎◌, inl, inr, ⊎_elim}
use mathlib.Core.Path.{◌≡◌, refl, sym, ap, ◌∙◌}
use native.Mathlib.Omega.{arith}
use lib.ListN.{length, get_or, replicate, length-append, length-replicate, get_or-replicate, get_or-append}
use lib.Seq.{get_or-append-add}
use borrow.Author.Tests.{eqb-true, eq-eqb}
use Rattle.sets.proofs.Laws.{count_le}
use Rattle.connected.specs.Component.{Adjacency, Symmetric}
use Rattle.opening.specs.Opening.{least_grey}
use Rattle.tree.specs.Tree.{representative, parent_representative, is_representative, number_of_nodes, by_level, listing}
use Rattle.tree.specs.Listing.{Listed}
use Rattle.tree.proofs.Together.{Together, together_below}
use Rattle.tree.proofs.Representatives.{representative_below, representative_same, representative_again}
use Rattle.tree.proofs.Parents.{Root, parent_found, root_least}
use Rattle.tree.proofs.Listing.{by_level_count, by_level_listed, listed_same, listed_once, there_or_later}

module _ (n : ℕ) (adj : Adjacency) (g : ℕ → ℕ) where
  abbrev nodes : ℕ
  nodes = number_of_nodes n adj g

  abbrev listed_nodes : List ℕ
  listed_nodes = by_level g (is_representative n adj g) 0 n

  pub nodes_few : number_of_nodes n adj g ≤ n
  unfolding number_of_nodes
  nodes_few = count_le n (is_representative n adj g)

  length_nodes : length listed_nodes ≡ nodes
  unfolding number_of_nodes
  length_nodes = by_level_count g (is_representative n adj g) n

  pub length_listing : length (listing n adj g) ≡ n
  unfolding listing
  length_listing =
      length-append listed_nodes (replicate (n - nodes) 0)
      ∙ omega (arith, length_nodes, length-replicate {A = ℕ} (n - nodes) 0, nodes_few)

  -- the entries before the zeros are as many as the nodes
  entry_at : (i : ℕ) → i < nodes → get_or (listing n adj g) i 0 ≡ get_or listed_nodes i 0
  unfolding listing
  entry_at i b = get_or-append listed_nodes (replicate (n - nodes) 0) 0 i (omega (arith, length_nodes))

  -- "and zeros after the last"
  pub zeros_after : (i : ℕ) → nodes ≤ i → i < n → get_or (listing n adj g) i 0 ≡ 0
  unfolding listing
  zeros_after i b c =
      let past : i ≡ length listed_nodes + (i - nodes) = omega (arith, length_nodes) in
      ap (λ (k : ℕ). get_or (listed_nodes ++ replicate (n - nodes) 0) k 0) past
      ∙ get_or-append-add listed_nodes (replicate (n - nodes) 0) (i - nodes) 0
      ∙ get_or-replicate (n - nodes) (i - nodes) 0 0 (omega arith)

  -- "the representatives by rising level, lower position first within a level"
  pub listing_listed : Listed n (number_of_nodes n adj g) g (is_representative n adj g) (λ (i : ℕ). get_or (listing n adj g) i 0)
  unfolding number_of_nodes
  listing_listed =
      listed_same
      n
      nodes
      g
      (is_representative n adj g)
      (is_representative n adj g)
      (λ (i : ℕ). get_or listed_nodes i 0)
      (λ (i : ℕ). get_or (listing n adj g) i 0)
      (λ q b. refl)
      entry_at
      (by_level_listed g (is_representative n adj g) n)

  module _ (symm : Symmetric adj) where
    abbrev entry : ℕ → ℕ
    entry i = get_or (listing n adj g) i 0

    -- "every parent before its children"
    pub parent_before : (i : ℕ) → i < number_of_nodes n adj g
        → Root n adj g (entry i) ⊎ ((j : ℕ) × (j < i) × (entry j ≡ parent_representative n adj g (entry i)))
    unfolding is_representative
    parent_before i b =
        let p : ℕ = entry i in
        let q : ℕ = parent_representative n adj g p in
        ⊎_elim
        (λ (next, self).
        let (j, c, e) =
        listing_listed.place q (together_below n adj symm g (g q) p q next.over) (eq-eqb (representative n adj g q) q self) in
        let darker : g (entry j) < g p = rw e next.darker in
        there_or_later
        i
        j
        (λ d. inr (j, d, e))
        (λ same. absurd (omega (arith, ap (λ (k : ℕ). g (entry k)) same)))
        (λ d. absurd (⊎_elim (λ l. omega arith) (λ l. omega (arith, l.0)) (listing_listed.rising i j d c))))
        (λ (none, self). inl none)
        (parent_found n adj symm g p)

    -- there is a node
    pub some_node : 0 < n → 0 < number_of_nodes n adj g
    unfolding is_representative
    some_node b =
        let r : ℕ = representative n adj g 0 in
        let (i, c, e) =
        listing_listed.place r (representative_below n adj symm g 0 b) (eq-eqb (representative n adj g r) r (representative_again n adj symm g 0 b)) in
        omega arith

    -- "The root always comes first"
    pub first_root : 0 < n → Root n adj g (entry 0)
    first_root b = ⊎_elim (λ root. root) (λ (j, c, e). absurd (omega arith)) (parent_before 0 (some_node b))

    -- and is the only one
    pub only_root : ((p q : ℕ) → p < n → q < n → Together n adj g (least_grey n g) p q)
        → (i : ℕ) → 0 < i → i < number_of_nodes n adj g → Root n adj g (entry i) → ⊥
    unfolding is_representative
    only_root whole i late b root =
        let first : ℕ = entry 0 in
        let p : ℕ = entry i in
        let c : 0 < n = omega (arith, nodes_few) in
        let below : first < n = listing_listed.within 0 (omega arith) in
        let below_p : p < n = listing_listed.within i b in
        let least : g first ≡ least_grey n g = root_least n adj symm g whole first below (first_root c) in
        let same : g p ≡ g first = root_least n adj symm g whole p below_p root ∙ sym least in
        let one : representative n adj g first ≡ representative n adj g p =
        representative_same n adj symm g first p (rw least (whole first p below below_p)) same in
        listed_once
        listing_listed
        0
        i
        late
        b
        (sym (eqb-true (representative n adj g first) first (listing_listed.inside 0 (omega arith)))
        ∙ one
        ∙ eqb-true (representative n adj g p) p (listing_listed.inside i b))
