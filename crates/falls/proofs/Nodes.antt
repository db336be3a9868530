-- The residues of a node from those of its parent, and so its runs. A node falls at the first test that it fails, the root never; a node
-- that falls at most the gap before its parent shares the parent's run, and on a tie the parent's stays, since it ends later.
-- Assumes that neighbours are mutual, that the tests get narrower, and for the places that the whole picture is connected.
use Prim.Native.Nat.{ℕ, suc, ◌+◌, ◌-◌, ◌≤◌, ◌<◌}
use mathlib.Core.Bool.{Bool, cond}
use mathlib.Core.List.{List, [], ◌∷◌}
use mathlib.Core.Logic.{⊎_elim}
use mathlib.Core.Path.{◌≡◌, refl, sym, ap, ap₂, ◌∙◌}
use native.Mathlib.Nat.{le_refl}
use native.Mathlib.Omega.{arith}
use lib.Dec.{eqb, ltb}
use lib.ListN.{length, get_or, set}
use lib.Seq.{get_or-set_same, get_or-set_other}
use borrow.Author.Tests.{eq-eqb, ne_eqb, eqb-true}
use Rattle.sets.specs.Sets.{Positions, member}
use Rattle.connected.specs.Component.{Adjacency, Symmetric}
use Rattle.opening.specs.Opening.{least_grey, Keeps, opened_by}
use Rattle.opening.specs.Node.{node}
use Rattle.opening.specs.Residue.{falls_from, joined, largest, largest_place, Narrowing, openings_by, residues, residue_by, index_by}
use Rattle.opening.proofs.Joined.{length_joined, joined_null}
use Rattle.opening.proofs.Levels.{cond_case, least_grey_le}
use Rattle.opening.proofs.Residue.{residues_fall}
use Rattle.tree.proofs.Together.{Together}
use Rattle.tree.proofs.Parents.{Over, Parent, Root, root_least, least_root, parent_within, parent_contains, parent_found}
use Rattle.tree.proofs.Climb.{opened_own, opened_parent, opened_node, opened_root}
use Rattle.falls.specs.Falls.{outlasted, fall_place, joins, run_end, run_sum}
use Rattle.falls.proofs.Largest.{largest_none, largest_raised, place_raised}
use Rattle.falls.proofs.Joined.{first_is, runs_raised, lands_inside, lands_first, lands_more}
use Rattle.falls.proofs.Outlasted.{outlasted_le, outlasted_mono, outlasted_passes, narrowing_up}
use Rattle.falls.proofs.Raised.{falls_kept, length_falls, falls_raised}

module _ (n : ℕ) (adj : Adjacency) (symm : Symmetric adj) (g : ℕ → ℕ) where
  -- the own pixels of a node have the same greys under every opening
  openings_own : (wide : Keeps) (tests : List Keeps) → Narrowing n wide tests → (p q : ℕ) → p < n → Over n adj g q p → g q ≡ g p
      → openings_by n adj tests g p ≡ openings_by n adj tests g q
  openings_own wide [] narrow p q b o e = refl
  openings_own wide (keeps ∷ rest) (up, inside, narrow) p q b o e =
      rw (opened_own n adj symm g keeps up p q b o e, openings_own keeps rest narrow p q b o e) refl

  module _ (wide : Keeps) (tests : List Keeps) (narrow : Narrowing n wide tests) where
    residues_own : (p q : ℕ) → p < n → Over n adj g q p → g q ≡ g p → residues n adj tests g p ≡ residues n adj tests g q
    unfolding residues
    residues_own p q b o e = ap₂ falls_from (sym e) (openings_own wide tests narrow p q b o e)

    -- the own pixels of a node have one largest total, at one place
    pub residue_own : (gap p q : ℕ) → p < n → Over n adj g q p → g q ≡ g p → residue_by n adj tests gap g p ≡ residue_by n adj tests gap g q
    unfolding residue_by
    residue_own gap p q b o e = ap (λ (rs : List ℕ). largest (joined gap 0 rs)) (residues_own p q b o e)

    pub index_own : (gap p q : ℕ) → p < n → Over n adj g q p → g q ≡ g p → index_by n adj tests gap g p ≡ index_by n adj tests gap g q
    unfolding index_by
    index_own gap p q b o e = ap (λ (rs : List ℕ). largest_place (joined gap 0 rs)) (residues_own p q b o e)

    module _ (whole : (p q : ℕ) → p < n → q < n → Together n adj g (least_grey n g) p q) where
      pub place_le : (p : ℕ) → fall_place n adj tests g p ≤ length tests
      unfolding fall_place
      place_le p =
          cond_case (λ (k : ℕ). k ≤ length tests) (eqb (g p) (least_grey n g)) (λ e. le_refl (length tests)) (λ e. outlasted_le _ tests)

      -- the root never falls
      pub place_root : (p : ℕ) → p < n → Root n adj g p → fall_place n adj tests g p ≡ length tests
      unfolding fall_place
      place_root p b root = rw (eq-eqb (g p) (least_grey n g) (root_least n adj symm g whole p b root))

      -- another node falls at the first test that it fails
      pub place_node : (p q : ℕ) → Parent n adj g p q → fall_place n adj tests g p ≡ outlasted (member (node n adj g p)) tests
      unfolding fall_place
      place_node p q w =
          rw (ne_eqb (g p) (least_grey n g) (λ e. omega (arith, w.darker, least_grey_le n g q (parent_within n adj symm g p q w))))

      -- until then it keeps its grey
      kept_before : (p : ℕ) → p < n → (i : ℕ) → i < fall_place n adj tests g p → opened_by n adj (get_or tests i wide) g p ≡ g p
      unfolding fall_place
      kept_before p b i =
          cond_case
          (λ (k : ℕ). i < k → opened_by n adj (get_or tests i wide) g p ≡ g p)
          (eqb (g p) (least_grey n g))
          (λ e l.
          let up = narrowing_up n wide tests narrow wide i l in
          opened_root n adj symm g (get_or tests i wide) up whole p b (least_root n adj symm g p (eqb-true (g p) (least_grey n g) e)))
          (λ e l.
          let s : Positions = member (node n adj g p) in
          let up = narrowing_up n wide tests narrow wide i (omega (arith, outlasted_le s tests)) in
          opened_node n adj symm g (get_or tests i wide) up p b (outlasted_passes s tests wide i l))

      pub residues_before : (p : ℕ) → p < n → (i : ℕ) → i < fall_place n adj tests g p → get_or (residues n adj tests g p) i 0 ≡ 0
      unfolding residues
      residues_before p b i l =
          falls_kept (λ (k : Keeps). opened_by n adj k g p) (g p) tests wide (fall_place n adj tests g p) (kept_before p b) i l

      length_residues : (p : ℕ) → length (residues n adj tests g p) ≡ length tests
      unfolding residues
      length_residues p = length_falls (λ (k : Keeps). opened_by n adj k g p) (g p) tests

      -- a node that never falls has no residue
      pub never_falls : (gap p : ℕ) → p < n → fall_place n adj tests g p ≡ length tests
          → (residue_by n adj tests gap g p ≡ 0) × (index_by n adj tests gap g p ≡ 0)
      unfolding residue_by index_by
      never_falls gap p b e =
          let rs : List ℕ = residues n adj tests g p in
          largest_none
          (joined gap 0 rs)
          (λ i l. joined_null gap 0 rs i (residues_before p b i (omega (arith, length_residues p, length_joined gap 0 rs))))

      -- a node falls no later than its parent
      place_mono : (p q : ℕ) → Parent n adj g p q → fall_place n adj tests g p ≤ fall_place n adj tests g q
      unfolding fall_place
      place_mono p q w =
          rw
          (place_node p q w)
          (cond_case
          (λ (k : ℕ). outlasted (member (node n adj g p)) tests ≤ k)
          (eqb (g q) (least_grey n g))
          (λ e. outlasted_le (member (node n adj g p)) tests)
          (λ e. outlasted_mono n wide tests narrow (member (node n adj g p)) (member (node n adj g q)) (parent_contains n adj symm g p q w)))

      residues_raised : (p q : ℕ) → p < n → Parent n adj g p q
          → residues n adj tests g p ≡ set (residues n adj tests g q) (fall_place n adj tests g p) (g p - g q + get_or (residues n adj tests g q) (fall_place n adj tests g p) 0)
      unfolding residues
      residues_raised p q b w =
          let c : q < n = parent_within n adj symm g p q w in
          rw
          (place_node p q w)
          (falls_raised
          n
          (λ (k : Keeps). opened_by n adj k g p)
          (λ (k : Keeps). opened_by n adj k g q)
          (g p)
          (g q)
          (member (node n adj g p))
          (λ k up e. (opened_node n adj symm g k up p b e, opened_node n adj symm g k up q c (up _ _ (parent_contains n adj symm g p q w) e)))
          (λ k up e. opened_parent n adj symm g k up p q b e w)
          (omega (arith, w.darker))
          wide
          tests
          narrow
          (residues_fall n adj g q c wide tests narrow))

      -- a node that falls has a residue at its step
      falls_some : (p q : ℕ) → p < n → Parent n adj g p q → fall_place n adj tests g p < length tests
          → 0 < get_or (residues n adj tests g p) (fall_place n adj tests g p) 0
      falls_some p q b w falls =
          let k : ℕ = fall_place n adj tests g p in
          let is : get_or (residues n adj tests g p) k 0 ≡ g p - g q + get_or (residues n adj tests g q) k 0 =
          ap (λ (rs : List ℕ). get_or rs k 0) (residues_raised p q b w)
          ∙ get_or-set_same (residues n adj tests g q) k _ 0 (omega (arith, length_residues q)) in
          omega (arith, w.darker)

      pub place_some : (q : ℕ) → q < n → fall_place n adj tests g q < length tests
          → 0 < get_or (residues n adj tests g q) (fall_place n adj tests g q) 0
      place_some q c falls =
          ⊎_elim
          (λ found. falls_some q _ c found.0 falls)
          (λ root. absurd (omega (arith, place_root q c root.0)))
          (parent_found n adj symm g q)

      -- a node that falls, at most or more than the gap before its parent
      module _ (gap p q : ℕ) (b : p < n) (w : Parent n adj g p q) (falls : fall_place n adj tests g p < length tests) where
        abbrev k : ℕ
        k = fall_place n adj tests g p

        abbrev m : ℕ
        m = fall_place n adj tests g q

        abbrev rs : List ℕ
        rs = residues n adj tests g q

        abbrev share : Bool
        share = joins (length tests) gap k m

        abbrev lands : ℕ
        lands = cond share (run_end n adj tests gap g q) k

        abbrev total_p : ℕ
        total_p = g p - g q + cond share (run_sum n adj tests gap g q) 0

        parent_inside : q < n
        parent_inside = parent_within n adj symm g p q w

        inside : k < length rs
        inside = omega (arith, length_residues q)

        some : m < length rs → 0 < get_or rs m 0
        some l = place_some q parent_inside (omega (arith, length_residues q))

        more : 0 < g p - g q
        more = omega (arith, w.darker)

        zeros : (i : ℕ) → i < m → get_or rs i 0 ≡ 0
        zeros i l = residues_before q parent_inside i l

        runs_set : joined gap 0 (residues n adj tests g p) ≡ set (joined gap 0 rs) lands total_p
        unfolding run_end run_sum
        runs_set =
            ap (joined gap 0) (residues_raised p q b w)
            ∙ rw (← length_residues q) (runs_raised gap (g p - g q) rs k m inside (place_mono p q w) zeros some more)

        set_inside : lands < length (joined gap 0 rs)
        unfolding run_end
        set_inside = rw (← length_residues q) (lands_inside gap (g p - g q) rs k m inside (place_mono p q w) zeros some more)

        set_first : (i : ℕ) → i < lands → get_or (joined gap 0 rs) i 0 ≡ 0
        unfolding run_end
        set_first = rw (← length_residues q) (lands_first gap (g p - g q) rs k m inside (place_mono p q w) zeros some more)

        set_more : get_or (joined gap 0 rs) lands 0 < total_p
        unfolding run_end run_sum
        set_more = rw (← length_residues q) (lands_more gap (g p - g q) rs k m inside (place_mono p q w) zeros some more)

        set_here : get_or (joined gap 0 (residues n adj tests g p)) lands 0 ≡ total_p
        set_here =
            ap (λ (l : List ℕ). get_or l lands 0) runs_set ∙ get_or-set_same (joined gap 0 rs) lands total_p 0 set_inside

        -- its run ends where the parent's does, if they share it, else with its own fall
        pub run_end_parent : run_end n adj tests gap g p ≡ cond share (run_end n adj tests gap g q) k
        unfolding run_end
        run_end_parent =
            first_is
            (joined gap 0 (residues n adj tests g p))
            lands
            (omega (arith, set_here, set_more))
            (λ i l.
            ap (λ (l : List ℕ). get_or l i 0) runs_set
            ∙ get_or-set_other (joined gap 0 rs) lands i total_p 0 (λ e. omega arith)
            ∙ set_first i l)

        -- it adds the fall from its parent to the parent's total, if they share it
        pub run_sum_parent : run_sum n adj tests gap g p ≡ g p - g q + cond share (run_sum n adj tests gap g q) 0
        unfolding run_sum
        run_sum_parent = rw run_end_parent set_here

        -- if that is more than the parent's largest total it is the largest, else the parent's stays
        pub residue_parent : residue_by n adj tests gap g p ≡ cond (ltb (residue_by n adj tests gap g q) (run_sum n adj tests gap g p)) (run_sum n adj tests gap g p) (residue_by n adj tests gap g q)
        unfolding residue_by
        residue_parent =
            rw run_sum_parent (ap largest runs_set ∙ largest_raised (joined gap 0 rs) lands total_p set_inside set_first set_more)

        pub index_parent : index_by n adj tests gap g p ≡ cond (ltb (residue_by n adj tests gap g q) (run_sum n adj tests gap g p)) (suc (run_end n adj tests gap g p)) (index_by n adj tests gap g q)
        unfolding residue_by index_by
        index_parent =
            rw (run_sum_parent, run_end_parent)
            (ap largest_place runs_set ∙ place_raised (joined gap 0 rs) lands total_p set_inside set_first set_more)
