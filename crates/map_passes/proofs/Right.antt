-- What the nodes hold at the end is the residue and the index of the definition. By the greys from dark to bright: a settled node whose
-- parent holds the right values holds the right values. Any tests that get narrower will do, if the places are those at which nodes fall.
use Prim.Native.Nat.{ℕ, zero, suc, ◌+◌, ◌-◌, ◌≤◌, ◌<◌}
use mathlib.Core.Bool.{Bool, true, cond}
use mathlib.Core.List.{List}
use mathlib.Core.Logic.{⊎_elim}
use mathlib.Core.Path.{◌≡◌, refl, sym, ap, ◌∙◌}
use native.Mathlib.Nat.{le_refl}
use native.Mathlib.Numerals.{add-one}
use native.Mathlib.Omega.{arith}
use lib.ListN.{length}
use borrow.Author.Tests.{eq-eqb, ne_eqb, le-leb, lt-leb}
use Rattle.sets.specs.Sets.{Positions, member}
use Rattle.sets.proofs.Tests.{le_or_lt}
use Rattle.connected.specs.Component.{Adjacency, Symmetric}
use Rattle.opening.specs.Opening.{least_grey, Keeps}
use Rattle.opening.specs.Node.{node}
use Rattle.opening.specs.Residue.{Narrowing, residue_by, index_by}
use Rattle.tree.specs.Tree.{representative}
use Rattle.tree.proofs.Together.{Together}
use Rattle.tree.proofs.Representatives.{representative_in, representative_grey}
use Rattle.tree.proofs.Parents.{Over, Parent}
use Rattle.numbers.specs.Nodes.{Nodes}
use Rattle.falls.specs.Falls.{outlasted, fall_place, joins, run_end, run_sum}
use Rattle.falls.proofs.Joined.{joins_yes, joins_never, joins_far, joins_true}
use Rattle.falls.proofs.Nodes.{place_le, place_root, place_node, never_falls, run_end_parent, run_sum_parent, residue_parent, index_parent, residue_own, index_own}
use Rattle.causes.specs.Bounds.{most_steps, most_gap}
use Rattle.map_passes.specs.Settle.{end_in, total_in, index_in, place_in, own_in, never, place_of, near, own_of, run_of, pair_of}
use Rattle.map_passes.specs.Passes.{Settled}
use Rattle.map_passes.proofs.Settling.{read_chosen, run_never, run_falls, pair_never, pair_falls, own_end, own_total, run_place_in, run_own_in, pair_residue, pair_index}
use Rattle.map_passes.proofs.Climbing.{nodes_up}

-- the words are right for the node of q, which falls at one of the tests or never
record Right (n : ℕ) (adj : Adjacency) (tests : List Keeps) (gap : ℕ) (g : ℕ → ℕ) (run pair q : ℕ) : Type 0 where
  pub never : length tests ≤ fall_place n adj tests g q → place_in run ≡ place_in never
  pub place : fall_place n adj tests g q < length tests → place_in run ≡ fall_place n adj tests g q
  pub ends : fall_place n adj tests g q < length tests → end_in (own_in run) ≡ run_end n adj tests gap g q
  pub total : fall_place n adj tests g q < length tests → total_in (own_in run) ≡ run_sum n adj tests gap g q
  pub residue : total_in pair ≡ residue_by n adj tests gap g q
  pub index : index_in pair ≡ index_by n adj tests gap g q

-- what is found near is what is joined: a node at step k of m and its parent, which falls at the place that its run says, or never
near_is : (gap k m place run : ℕ) → k < most_steps → m ≤ most_steps → gap ≤ most_gap → (m ≤ place → place_in run ≡ place_in never)
    → (place < m → place_in run ≡ place) → near gap k run ≡ joins m gap k place
unfolding near
near_is gap k m place run early few small_gap past_all at =
    ⊎_elim
    (λ (past : m ≤ place).
    rw (past_all past) (lt-leb (place_in never) (k + gap) (omega arith) ∙ sym (joins_never m gap k place past)))
    (λ (falls : place < m).
    rw
    (at falls)
    (⊎_elim
    (λ (close : place ≤ k + gap). le-leb place (k + gap) close ∙ sym (joins_yes m gap k place falls close))
    (λ (far : k + gap < place). lt-leb place (k + gap) far ∙ sym (joins_far m gap k place far))
    (le_or_lt place (k + gap))))
    (le_or_lt m place)

module _ {n nodes : ℕ} {adj : Adjacency} {attr : Positions → ℕ} {g num low up held closed drop : ℕ → ℕ} (symm : Symmetric adj)
    (N : Nodes n adj attr g num low up held closed drop nodes)
    (whole : (p q : ℕ) → p < n → q < n → Together n adj g (least_grey n g) p q) where
  -- if each place word is how many tests the node outlasts, the place that the words give is the one at which the node falls
  pub places_right : (wide : Keeps) (tests : List Keeps) → Narrowing n wide tests → (word : ℕ → ℕ)
      → ((k : ℕ) → k < nodes → word k ≡ outlasted (member (node n adj g (low k))) tests) → (k : ℕ) → k < nodes
      → place_of (length tests) k (up k) (word k) ≡ fall_place n adj tests g (low k)
  unfolding place_of
  places_right wide tests narrow word outlasts k b =
      let q : ℕ = low k in
      ⊎_elim
      (λ (w : Parent n adj g q (low (up k))).
      rw
      (ne_eqb (up k) k (λ e. omega (arith, w.darker, ap g (ap low e))), outlasts k b)
      (sym (place_node n adj symm g wide tests narrow whole q (low (up k)) w)))
      (λ root.
      rw
      (eq-eqb (up k) k (sym (N.low_own (up k) (N.ups k b)) ∙ ap num root.1 ∙ N.low_own k b))
      (sym (place_root n adj symm g wide tests narrow whole q (N.low_within k b) root.0)))
      (nodes_up symm N k b)

  module _ {m gap : ℕ} {place run pair : ℕ → ℕ} (wide : Keeps) (tests : List Keeps) (narrow : Narrowing n wide tests)
      (number : length tests ≡ m) (few : m ≤ most_steps) (small_gap : gap ≤ most_gap)
      (place_right : (k : ℕ) → k < nodes → place k ≡ fall_place n adj tests g (low k)) (bytes : (q : ℕ) → g q < 256)
      (settled : (k : ℕ) → k < nodes → Settled m gap place (λ (j : ℕ). g (low j)) up run pair k) where
    abbrev RightAt : ℕ → Type 0
    RightAt k = Right n adj tests gap g (run k) (pair k) (low k)

    right_never : (k : ℕ) → k < nodes → length tests ≤ fall_place n adj tests g (low k) → RightAt k
    right_never k b l =
        let s = settled k b in
        let e = place_right k b in
        let last : fall_place n adj tests g (low k) ≡ length tests = omega (arith, place_le n adj symm g wide tests narrow whole (low k)) in
        let none = never_falls n adj symm g wide tests narrow whole gap (low k) (N.low_within k b) last in
        let is_run : run k ≡ never = s.runs ∙ rw (e, ← number) (run_never _ _ _ _ _ l) in
        let is_pair : pair k ≡ 0 = s.pairs ∙ rw (e, ← number) (pair_never _ _ _ _ _ _ l) in
        record {
          never = λ past. rw is_run refl;
          place = λ falls. absurd (omega arith);
          ends = λ falls. absurd (omega arith);
          total = λ falls. absurd (omega arith);
          residue = rw is_pair (sym none.0);
          index = rw is_pair (sym none.1);
        }

    -- a node below its parent
    module _ (k : ℕ) (b : k < nodes) (l : fall_place n adj tests g (low k) < length tests) (w : Parent n adj g (low k) (low (up k)))
        (above : RightAt (up k)) where
      abbrev q : ℕ
      q = low k

      abbrev x : ℕ
      x = low (up k)

      abbrev place_q : ℕ
      place_q = fall_place n adj tests g q

      abbrev fall : ℕ
      fall = g q - g x

      early : place_q < most_steps
      early = omega (arith, l, number, few)

      near_right : near gap place_q (run (up k)) ≡ joins (length tests) gap place_q (fall_place n adj tests g x)
      near_right = near_is gap place_q (length tests) _ _ early (omega arith) small_gap above.never above.place

      abbrev share : Bool
      share = joins (length tests) gap place_q (fall_place n adj tests g x)

      -- where both share a run the parent falls
      up_falls : share ≡ true → fall_place n adj tests g x < length tests
      up_falls e = (joins_true (length tests) gap place_q (fall_place n adj tests g x) e).0

      byte : fall + total_in (own_in (run (up k))) < 256
      byte = omega (arith, (settled (up k) (N.ups k b)).low, w.darker, bytes q)

      total_right : total_in (own_of gap place_q fall (run (up k))) ≡ run_sum n adj tests gap g q
      total_right =
          let same : cond share (total_in (own_in (run (up k)))) 0 ≡ cond share (run_sum n adj tests gap g x) 0 =
          read_chosen (λ (v : ℕ). v) share _ _ _ _ (λ e. above.total (up_falls e)) (λ e. refl) in
          own_total gap place_q fall (run (up k)) early byte
          ∙ rw near_right (ap (λ (v : ℕ). fall + v) same)
          ∙ sym (run_sum_parent n adj symm g wide tests narrow whole gap q x (N.low_within k b) w l)

      end_right : end_in (own_of gap place_q fall (run (up k))) ≡ run_end n adj tests gap g q
      end_right =
          let same : cond share (end_in (own_in (run (up k)))) place_q ≡ cond share (run_end n adj tests gap g x) place_q =
          read_chosen (λ (v : ℕ). v) share _ _ _ _ (λ e. above.ends (up_falls e)) (λ e. refl) in
          own_end gap place_q fall (run (up k)) early byte
          ∙ rw near_right same
          ∙ sym (run_end_parent n adj symm g wide tests narrow whole gap q x (N.low_within k b) w l)

      right_falls : RightAt k
      right_falls =
          let inside : q < n = N.low_within k b in
          let s = settled k b in
          let e = place_right k b in
          let above_run : ℕ = run (up k) in
          let is_run : run k ≡ run_of gap place_q fall above_run = s.runs ∙ rw (e, ← number) (run_falls _ _ _ _ _ l) in
          let is_pair : pair k ≡ pair_of gap place_q fall above_run (pair (up k)) = s.pairs ∙ rw (e, ← number) (pair_falls _ _ _ _ _ _ l) in
          let is_own : own_in (run k) ≡ own_of gap place_q fall above_run = ap own_in is_run ∙ run_own_in gap place_q fall above_run early byte in
          record {
            never = λ past. absurd (omega arith);
            place = λ falls. rw is_run (run_place_in gap place_q fall above_run early byte);
            ends = λ falls. rw is_own end_right;
            total = λ falls. rw is_own total_right;
            residue =
                ap total_in is_pair
                ∙ pair_residue gap place_q fall above_run early byte (pair (up k))
                ∙ rw (total_right, above.residue) (sym (residue_parent n adj symm g wide tests narrow whole gap q x inside w l));
            index =
                ap index_in is_pair
                ∙ pair_index gap place_q fall above_run early byte (pair (up k))
                ∙ rw (total_right, end_right, above.residue, above.index, add-one) (sym (index_parent n adj symm g wide tests narrow whole gap q x inside w l));
          }

    -- every node does, by its grey
    right_all : (h k : ℕ) → k < nodes → g (low k) < h → RightAt k
    right_all zero k b l = absurd (omega arith)
    right_all (suc h) k b l =
        ⊎_elim
        (λ never. right_never k b never)
        (λ falls.
        ⊎_elim
        (λ (w : Parent n adj g (low k) (low (up k))). right_falls k b falls w (right_all h (up k) (N.ups k b) (omega (arith, w.darker))))
        (λ root. absurd (omega (arith, place_root n adj symm g wide tests narrow whole (low k) (N.low_within k b) root.0)))
        (nodes_up symm N k b))
        (le_or_lt (length tests) (fall_place n adj tests g (low k)))

    -- the pair of a pixel's number holds what is right for the pixel
    pub pair_right : (q : ℕ) → q < n
        → (total_in (pair (num q)) ≡ residue_by n adj tests gap g q) × (index_in (pair (num q)) ≡ index_by n adj tests gap g q)
    pair_right q b =
        let r : ℕ = low (num q) in
        let is : r ≡ representative n adj g q = N.representatives q b in
        let same : g r ≡ g q = ap g is ∙ representative_grey n adj symm g q b in
        let over : Over n adj g r q = rw (same, is) (representative_in n adj symm g q b) in
        let right = right_all (suc (g r)) (num q) (N.within q b) (le_refl (suc (g r))) in (
          right.residue ∙ sym (residue_own n adj symm g wide tests narrow gap q r b over same),
          right.index ∙ sym (index_own n adj symm g wide tests narrow gap q r b over same),
        )
