-- Steps 1, 2, 3 and on: a node below the last of them falls at the place of its attribute, so that the runs of falls are the sums of equation 6.
-- Over any symmetric adjacency, attribute that cannot fall as a set grows, and picture that is connected.
use Prim.Native.Nat.{ℕ, zero, suc, ◌+◌, ◌-◌, ◌≤◌, ◌<◌, max}
use mathlib.Core.Bool.{Bool, true, false, cond}
use mathlib.Core.List.{List}
use mathlib.Core.Logic.{◌⊎◌, inl, inr, ⊎_elim}
use mathlib.Core.Path.{◌≡◌, refl, sym, ap, ◌∙◌}
use native.Mathlib.Omega.{arith}
use lib.Dec.{leb, ltb}
use lib.ListN.{length, get_or, length-map}
use borrow.Author.Tests.{le-leb, lt-leb, leb-true, leb-false, lt-ltb, ltb-true, ltb-false}
use Rattle.sets.specs.Sets.{Positions, member}
use Rattle.sets.proofs.Tests.{le_or_lt}
use Rattle.connected.specs.Component.{Adjacency, Symmetric}
use Rattle.opening.specs.Opening.{least_grey, Keeps, Increasing, at_least}
use Rattle.opening.specs.Node.{node}
use Rattle.opening.specs.Residue.{rising, joined, threshold_tests, Narrowing, residues, residue_by}
use Rattle.opening.specs.Runs.{Run, run_total}
use Rattle.opening.proofs.Levels.{cond_case, least_grey_le}
use Rattle.opening.proofs.Residue.{rising_not_falling, threshold_tests_narrow, largest_bound}
use Rattle.opening.proofs.Runs.{in_a_run, run_once}
use Rattle.opening.proofs.RunLaws.{joined_run, run_ends, run_joined}
use Rattle.tree.specs.Tree.{parent_representative}
use Rattle.tree.proofs.Together.{Together}
use Rattle.tree.proofs.Parents.{Parent, least_root, root_least, parent_found, parent_within}
use Rattle.falls.specs.Falls.{places_before, fall_place, joins, first_place, run_end, run_sum}
use Rattle.falls.proofs.Joined.{first_is}
use Rattle.falls.proofs.Places.{places_outlasted}
use Rattle.falls.proofs.Nodes.{place_node, place_root, residues_before, place_some, never_falls, run_sum_parent, residue_parent}
use Rattle.runs.specs.Equation.{counting, Equation6}

length_counting : (from m : ℕ) → length (counting from m) ≡ m
unfolding counting
length_counting from zero = refl
length_counting from (suc m) = ap suc (length_counting (suc from) m)

rising_counting : (low from m : ℕ) → low < from → rising low (counting from m) ≡ true
unfolding counting rising
rising_counting low from zero l = refl
rising_counting low from (suc m) l = rw (lt-ltb low from l) (rising_counting from (suc from) m (omega arith))

-- as many stand before the first one above a as there are from the first to a
places_counting : (a from m : ℕ) → from ≤ suc a → suc a ≤ from + m → places_before a (counting from m) ≡ suc a - from
unfolding counting places_before
places_counting a from zero low high = omega arith
places_counting a from (suc m) low high =
    cond_case
    (λ (x : ℕ). x ≡ suc a - from)
    (leb from a)
    (λ e. omega (arith, leb-true from a e, places_counting a (suc from) m (omega (arith, leb-true from a e)) (omega arith)))
    (λ e. omega (arith, leb-false from a e))

-- with a parent that falls, the attributes alone decide
joins_inside : (m gap k up : ℕ) → up < m → joins m gap k up ≡ leb up (k + gap)
unfolding joins
joins_inside m gap k up l = rw (lt-ltb up m l)

-- nothing is nothing either way
either : (t : Bool) → cond {A = ℕ} t 0 0 ≡ 0
either true = refl
either false = refl

-- the same test, by the difference
leb_difference : (a b c : ℕ) → leb (a - b) c ≡ leb a (b + c)
leb_difference a b c =
    ⊎_elim
    (λ (l : a ≤ b + c). le-leb (a - b) c (omega arith) ∙ sym (le-leb a (b + c) l))
    (λ (l : b + c < a). lt-leb (a - b) c (omega arith) ∙ sym (lt-leb a (b + c) l))
    (le_or_lt a (b + c))

-- a picture that is connected at its least grey
module _ (n : ℕ) (adj : Adjacency) (symm : Symmetric adj) (g : ℕ → ℕ)
    (whole : (p q : ℕ) → p < n → q < n → Together n adj g (least_grey n g) p q) where
  -- a node is the root, or above the least grey
  root_or_above : (p : ℕ) → p < n → (g p ≡ least_grey n g) ⊎ (least_grey n g < g p)
  root_or_above p b =
      ⊎_elim
      (λ (l : g p ≤ least_grey n g). inl (omega (arith, least_grey_le n g p b)))
      (λ (l : least_grey n g < g p). inr l)
      (le_or_lt (g p) (least_grey n g))

  -- which then has a parent
  module _ (p : ℕ) (b : p < n) (above : least_grey n g < g p) where
    parent : Parent n adj g p (parent_representative n adj g p)
    parent =
        ⊎_elim
        (λ (w, again). w)
        (λ (none, e). absurd (omega (arith, root_least n adj symm g whole p b none)))
        (parent_found n adj symm g p)

    pub parent_inside : parent_representative n adj g p < n
    parent_inside = parent_within n adj symm g p _ parent

  -- what is by equation 6 is determined
  module _ {k r R r' R' : ℕ → ℕ} {gap : ℕ} (E : Equation6 n adj k gap g r R) (E' : Equation6 n adj k gap g r' R') where
    same_to : (h p : ℕ) → p < n → g p < h → (r p ≡ r' p) × (R p ≡ R' p)
    same_to zero p b l = absurd (omega arith)
    same_to (suc h) p b l =
        ⊎_elim
        (λ (root : g p ≡ least_grey n g). ((E.root p b root).0 ∙ sym (E'.root p b root).0, (E.root p b root).1 ∙ sym (E'.root p b root).1))
        (λ (above : least_grey n g < g p).
        let (sum, most) = same_to h (parent_representative n adj g p) (parent_inside p b above) (omega (arith, (parent p b above).darker)) in
        let own : r p ≡ r' p = E.sum p b above ∙ rw sum (sym (E'.sum p b above)) in
        (own, E.most p b above ∙ rw (own, most) (sym (E'.most p b above))))
        (root_or_above p b)

    pub equation_only : (p : ℕ) → p < n → (r p ≡ r' p) × (R p ≡ R' p)
    equation_only p b = same_to (suc (g p)) p b (omega arith)

module _ (n : ℕ) (adj : Adjacency) (symm : Symmetric adj) (attr : Positions → ℕ) (rise : Increasing n attr) (g : ℕ → ℕ)
    (whole : (p q : ℕ) → p < n → q < n → Together n adj g (least_grey n g) p q) (m gap : ℕ) where
  -- the attribute of the node of p
  abbrev kappa : ℕ → ℕ
  kappa p = attr (member (node n adj g p))

  -- "every node but the root has an attribute below the last step"
  module _ (below_last : (p : ℕ) → p < n → least_grey n g < g p → kappa p < m) where
    abbrev tests : List Keeps
    tests = threshold_tests attr (counting 1 m)

    narrow : Narrowing n (at_least attr 0) tests
    narrow = threshold_tests_narrow n attr rise 0 (counting 1 m) (rising_not_falling 0 (counting 1 m) (rising_counting 0 1 m (omega arith)))

    number : length tests ≡ m
    number = length-map (counting 1 m) (at_least attr) ∙ length_counting 1 m

    abbrev place : ℕ → ℕ
    place p = fall_place n adj tests g p

    abbrev sum : ℕ → ℕ
    sum p = run_sum n adj tests gap g p

    -- the root never falls
    root_place : (p : ℕ) → p < n → g p ≡ least_grey n g → place p ≡ length tests
    root_place p b e = place_root n adj symm g (at_least attr 0) tests narrow whole p b (least_root n adj symm g p e)

    -- and has no residue
    root_none : (p : ℕ) → p < n → g p ≡ least_grey n g → (sum p ≡ 0) × (residue_by n adj tests gap g p ≡ 0)
    unfolding run_sum residue_by
    root_none p b e =
        let none = (never_falls n adj symm g (at_least attr 0) tests narrow whole gap p b (root_place p b e)).0 in
        (omega (arith, largest_bound (joined gap 0 (residues n adj tests g p)) (run_end n adj tests gap g p)), none)

    -- another node falls at the place of its attribute
    place_is : (p : ℕ) → p < n → least_grey n g < g p → place p ≡ kappa p
    place_is p b above =
        place_node n adj symm g (at_least attr 0) tests narrow whole p _ (parent n adj symm g whole p b above)
        ∙ places_outlasted attr (member (node n adj g p)) (counting 1 m)
        ∙ places_counting (kappa p) 1 m (omega arith) (omega (arith, below_last p b above))
        ∙ omega arith

    module _ (p : ℕ) (b : p < n) (above : least_grey n g < g p) where
      abbrev q : ℕ
      q = parent_representative n adj g p

      q_inside : q < n
      q_inside = parent_inside n adj symm g whole p b above

      falls : place p < length tests
      falls = omega (arith, place_is p b above, below_last p b above, number)

      -- its run goes on into the parent's exactly where the attributes differ by at most the gap; the root has none
      shared_sum : cond (joins (length tests) gap (place p) (place q)) (sum q) 0 ≡ cond (leb (kappa q - kappa p) gap) (sum q) 0
      shared_sum =
          ⊎_elim
          (λ (root : g q ≡ least_grey n g).
          let none = (root_none q q_inside root).0 in
          rw none (either (joins (length tests) gap (place p) (place q)) ∙ sym (either (leb (kappa q - kappa p) gap))))
          (λ (on : least_grey n g < g q).
          rw (leb_difference (kappa q) (kappa p) gap, place_is p b above, place_is q q_inside on)
          (ap
          (λ (t : Bool). cond t (sum q) 0)
          (joins_inside (length tests) gap (kappa p) (kappa q) (omega (arith, below_last q q_inside on, number)))))
          (root_or_above n adj symm g whole q q_inside)

      sum_is : sum p ≡ g p - g q + cond (leb (kappa q - kappa p) gap) (sum q) 0
      sum_is =
          run_sum_parent n adj symm g (at_least attr 0) tests narrow whole gap p q b (parent n adj symm g whole p b above) falls
          ∙ ap (λ (x : ℕ). g p - g q + x) shared_sum

      most_is : residue_by n adj tests gap g p ≡ max (sum p) (residue_by n adj tests gap g q)
      most_is =
          residue_parent n adj symm g (at_least attr 0) tests narrow whole gap p q b (parent n adj symm g whole p b above) falls
          ∙ cond_case
          (λ (x : ℕ). x ≡ max (sum p) (residue_by n adj tests gap g q))
          (ltb (residue_by n adj tests gap g q) (sum p))
          (λ e. omega (arith, ltb-true (residue_by n adj tests gap g q) (sum p) e))
          (λ e. omega (arith, ltb-false (residue_by n adj tests gap g q) (sum p) e))

      -- it is the total of the run that starts with the node's own fall
      abbrev rs : List ℕ
      rs = residues n adj tests g p

      -- its first residue
      null_before : (i : ℕ) → i < place p → get_or rs i 0 ≡ 0
      null_before = residues_before n adj symm g (at_least attr 0) tests narrow whole p b

      first_starts : (a : ℕ) → 0 < get_or rs a 0 → place p ≤ a
      first_starts a some =
          ⊎_elim (λ (l : place p ≤ a). l) (λ (l : a < place p). absurd (omega (arith, null_before a l))) (le_or_lt (place p) a)

      -- no run ends before the one that starts there
      none_ends : (a c : ℕ) → Run gap rs a c → a ≤ place p → place p ≤ c → (i : ℕ) → i < c → get_or (joined gap 0 rs) i 0 ≡ 0
      none_ends a c run low high i l =
          ⊎_elim
          (λ (z : get_or (joined gap 0 rs) i 0 ≤ 0). omega arith)
          (λ (some : 0 < get_or (joined gap 0 rs) i 0).
          let (d, other, e) = joined_run gap rs i some in
          let same = run_once gap rs d i a c i other run other.order (omega arith) (omega (arith, first_starts i other.last)) (omega arith) in
          absurd (omega (arith, same.1)))
          (le_or_lt (get_or (joined gap 0 rs) i 0) 0)

      pub run_is : (c : ℕ) × Run gap rs (kappa p) c × (sum p ≡ run_total rs (kappa p) c)
      unfolding run_sum run_end
      run_is =
          let some = place_some n adj symm g (at_least attr 0) tests narrow whole p b falls in
          let (a, c, low, high, run) = in_a_run gap rs (place p) some in
          let starts : a ≡ kappa p = omega (arith, first_starts a run.first, place_is p b above) in
          let ends : first_place (joined gap 0 rs) ≡ c =
          first_is (joined gap 0 rs) c (run_ends gap 0 rs a c run) (none_ends a c run low high) in
          (c, rw (← starts) run, rw (ends, ← starts) (run_joined gap rs a c run))

    pub sums_by_equation : Equation6 n adj kappa gap g sum (λ (p : ℕ). residue_by n adj tests gap g p)
    sums_by_equation = record { root = root_none; sum = sum_is; most = most_is }
