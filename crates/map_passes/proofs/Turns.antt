-- One turn of the pass over the nodes: the parent of the node at hand is settled, since it stands after it in the order of closing, and
-- what is settled stays so, since nothing settled hangs on what is stored now. How the places are found does not matter, but that the
-- root never falls.
use Prim.Native.Nat.{ℕ, ◌+◌, ◌-◌, ◌≤◌, ◌<◌}
use mathlib.Core.Logic.{⊎_elim}
use mathlib.Core.Path.{◌≡◌, refl, sym, subst, ◌∙◌}
use native.Mathlib.Omega.{arith}
use Rattle.sets.proofs.Tests.{le_or_lt, last_or_below}
use Rattle.causes.specs.Bounds.{most_steps}
use Rattle.levels.specs.Tables.{Changed}
use Rattle.levels.proofs.Counts.{equal_or_not}
use Rattle.map_passes.specs.Settle.{total_in, own_in, run_word, pair_word}
use Rattle.map_passes.specs.Passes.{Climbing, Settled}
use Rattle.map_passes.proofs.Settling.{run_never, run_falls, pair_never, pair_falls, own_le, run_own_in, pair_fits}

module _ {n nodes m gap : ℕ} {place num level up closed drop run pair : ℕ → ℕ} {i : ℕ} (climb : Climbing n nodes num level up closed drop)
    (few : m ≤ most_steps) (root : (k : ℕ) → up k ≡ k → m ≤ place k) (b : i < nodes)
    (done : (j : ℕ) → i < j → j < nodes → Settled m gap place level up run pair (closed j)) where
  abbrev node : ℕ
  node = closed i

  abbrev fall : ℕ
  fall = level node - level (up node)

  pub turn_drop : drop i ≡ fall
  turn_drop = omega (arith, climb.drops i b)

  -- the parent of the node at hand, unless that is the root
  parent_settled : (up node ≡ node → ⊥) → Settled m gap place level up run pair (up node)
  parent_settled apart =
      ⊎_elim
      (λ own. absurd (apart own))
      (λ (j, late, l, e). subst (Settled m gap place level up run pair) e (done j late l))
      (climb.order.later i b)

  parent_falls : place node < m → Settled m gap place level up run pair (up node)
  parent_falls falls = parent_settled (λ e. omega (arith, root node e))

  -- the total of a run is at most the level
  turn_low : place node < m → fall + total_in (own_in (run (up node))) ≤ level node
  turn_low falls = omega (arith, (parent_falls falls).low, climb.drops i b)

  level_byte : level node < 256
  level_byte = climb.byte node (climb.order.within i b)

  pub turn_byte : place node < m → fall + total_in (own_in (run (up node))) < 256
  turn_byte falls = omega (arith, turn_low falls, level_byte)

  -- no settled node and no parent of one is the node at hand
  apart_now : (j : ℕ) → i < j → j < nodes → (closed j ≡ node → ⊥) × (up (closed j) ≡ node → ⊥)
  apart_now j late l =
      let off : (x : ℕ) → i < x → x < nodes → closed x ≡ node → ⊥ = λ x after c e. climb.order.once i x after c (sym e) in (
        off j late l,
        λ e.
            ⊎_elim
            (λ own. off j late l (sym own ∙ e))
            (λ (x, after, c, is). off x (omega arith) c (is ∙ e))
            (climb.order.later j l),
      )

  -- the words of the node
  abbrev now_run : ℕ
  now_run = run_word m gap (place node) fall (run (up node))

  abbrev now_pair : ℕ
  now_pair = pair_word m gap (place node) fall (run (up node)) (pair (up node))

  -- they are small, whether it falls or not
  record Small : Type 0 where
    pub low : total_in (own_in now_run) ≤ level node
    pub fits : now_pair < 65536

  small_never : m ≤ place node → Small
  small_never l =
      let is_run = run_never m gap (place node) fall (run (up node)) l in
      let is_pair = pair_never m gap (place node) fall (run (up node)) (pair (up node)) l in
      record { low = rw is_run (omega arith); fits = rw is_pair (omega arith) }

  small_falls : place node < m → Small
  small_falls l =
      let k : ℕ = place node in
      let above : ℕ = run (up node) in
      let early : k < most_steps = omega arith in
      let is_run = run_falls m gap k fall above l in
      let is_pair = pair_falls m gap k fall above (pair (up node)) l in
      let own = run_own_in gap k fall above early (turn_byte l) in
      record {
        low = rw (is_run, own) (omega (arith, own_le gap k fall above early (turn_byte l), turn_low l));
        fits = rw is_pair (pair_fits gap k fall above early (turn_byte l) (pair (up node)) (parent_falls l).fits);
      }

  small : Small
  small = ⊎_elim small_never small_falls (le_or_lt m (place node))

  -- the node is settled
  module _ {run' pair' : ℕ → ℕ} (new_run : Changed n run run' node now_run) (new_pair : Changed n pair pair' node now_pair) where
    within : (k : ℕ) → k < nodes → k < n
    within k l = omega (arith, climb.few)

    -- the root's words are those of a node that never falls; any other parent's are as they were
    same : (now_run ≡ run_word m gap (place node) fall (run' (up node)))
        × (now_pair ≡ pair_word m gap (place node) fall (run' (up node)) (pair' (up node)))
    same =
        ⊎_elim
        (λ own.
        let never : m ≤ place node = root node own in (
          run_never _ _ _ _ _ never ∙ sym (run_never _ _ _ _ _ never),
          pair_never _ _ _ _ _ _ never ∙ sym (pair_never _ _ _ _ _ _ never),
        ))
        (λ apart.
        let inside : up node < n = within _ (climb.ups node (climb.order.within i b)) in
        rw (new_run.there (up node) inside apart, new_pair.there (up node) inside apart) (refl, refl))
        (equal_or_not (up node) node)

    settled_now : Settled m gap place level up run' pair' node
    settled_now = record {
      runs = new_run.here ∙ same.0;
      pairs = new_pair.here ∙ same.1;
      low = rw new_run.here small.low;
      fits = rw new_pair.here small.fits;
    }

    settled_still : (j : ℕ) → i < j → j < nodes → Settled m gap place level up run' pair' (closed j)
    settled_still j late l =
        let (off, apart) = apart_now j late l in
        let k : ℕ = closed j in
        let inside : k < nodes = climb.order.within j l in
        let old = done j late l in
        let own_run : run' k ≡ run k = new_run.there k (within k inside) off in
        let own_pair : pair' k ≡ pair k = new_pair.there k (within k inside) off in
        let up_run : run' (up k) ≡ run (up k) = new_run.there (up k) (within (up k) (climb.ups k inside)) apart in
        let up_pair : pair' (up k) ≡ pair (up k) = new_pair.there (up k) (within (up k) (climb.ups k inside)) apart in
        record {
          runs = rw (own_run, up_run) old.runs;
          pairs = rw (own_pair, up_run, up_pair) old.pairs;
          low = rw own_run old.low;
          fits = rw own_pair old.fits;
        }

    pub turn_settles : (j : ℕ) → i ≤ j → j < nodes → Settled m gap place level up run' pair' (closed j)
    turn_settles j late l =
        ⊎_elim
        (λ (e : i ≡ j). subst (λ (x : ℕ). Settled m gap place level up run' pair' (closed x)) e settled_now)
        (λ after. settled_still j after l)
        (last_or_below i j (omega arith))
