-- A step of the flood on the lists: a neighbour moves it up or along, else the head moves on, and an empty level is closed.
use Prim.Native.Nat.{ℕ, suc, ◌+◌, ◌*◌, ◌-◌, ◌≤◌, ◌<◌}
use mathlib.Core.Bool.{true}
use mathlib.Core.List.{List}
use mathlib.Core.Logic.{inl, inr}
use mathlib.Core.Path.{◌≡◌, refl, ap, subst, ◌∙◌}
use Rattle.std.specs.Prelude.{Option, Some, None}
use native.Mathlib.Numerals.{add-one}
use native.Mathlib.Omega.{arith}
use lib.Dec.{ltb}
use lib.ListN.{get_or, length, set, length-set}
use Rattle.sets.proofs.Laws.{count_ext, count_le}
use Rattle.grid.specs.Neighbours.{adjacent}
use Rattle.grid.specs.declared.Grid.{Grid}
use Rattle.grid.proofs.Attributes.{adjacent_symmetric}
use Rattle.grid.proofs.Sides.{adjacent_before}
use Rattle.levels.specs.Levels.{grey}
use Rattle.levels.specs.Tables.{Changed}
use Rattle.levels.specs.Workspace.{number_at}
use Rattle.levels.proofs.Counts.{by_cases, below_or_not}
use Rattle.levels.proofs.Tables.{stored, sum_raised, sum_le}
use Rattle.flooding.specs.Flooding.{Sound, Closed}
use Rattle.flooding.specs.Numbers.{changed}
use Rattle.flooding.proofs.Closing.{closed_sound, closed_at}
use Rattle.flooding.proofs.Ending.{ends}
use Rattle.flooding.proofs.Finishing.{Empty, finished_sound, finished_at, finished_empty}
use Rattle.flooding.proofs.Meeting.{tail_le}
use Rattle.flooding.proofs.Numbers.{changed_once, close_fits, open_number, open_root, named_closed, named_ended}
use Rattle.queues.specs.declared.Opened.{Opened}
use Rattle.queues.specs.Queues.{Lists, lists, taken_of, state_of, NoneOpen, NextOpen, Closable, Shut, ClosedTo}
use Rattle.visits.specs.Visits.{Ready, Standing, Visited, Moved}
use Rattle.visits.proofs.Visits.{still, root_greys}
use Rattle.flood.specs.Calls.{spent, NumberedBy, Leavable, Left}

-- the heads with that of level l moved on
abbrev pub advanced : List ℕ → ℕ → List ℕ
advanced heads l = set heads l (get_or heads l 0 + 1)

abbrev pub moved_on : Lists → ℕ → Lists
moved_on s l = lists s.words (advanced s.heads l) s.tails s.opened

-- the pixel p at the head of level l is left
module _ {grid : Grid} {picture : List ℕ} {s : Lists} {l p : ℕ} where
  module _ (M : Leavable grid picture s l p) where
    R : Ready grid picture s l
    R = M.stands.ready

    advance : Changed 256 (λ k. get_or s.heads k 0) (λ k. get_or (advanced s.heads l) k 0) l (suc (get_or s.heads l 0))
    advance =
        rw
        (← add-one (get_or s.heads l 0))
        (stored 256 s.heads l (get_or s.heads l 0 + 1) (omega (arith, R.at.level, R.wide_heads)))

    -- where the same pixels are met
    spent_more :
        (ws' : List ℕ) (opened' : Opened) → ((x : ℕ) → x < length picture → number_at ws' x ≡ number_at s.words x)
        → spent (length picture) s < spent (length picture) (lists ws' (advanced s.heads l) s.tails opened')
    spent_more ws' opened' same =
        omega (
          arith,
          count_ext (length picture) (λ (x : ℕ). ltb (number_at ws' x) (length picture)) (λ (x : ℕ). ltb (number_at s.words x) (length picture))
              (λ x h. ap (λ (k : ℕ). ltb k (length picture)) (same x h)),
          sum_raised
              256
              (λ (k : ℕ). get_or s.heads k 0)
              (λ (k : ℕ). get_or (advanced s.heads l) k 0)
              l
              R.at.level
              advance.here
              advance.there,
        )

    bytes : (x : ℕ) → x < length picture → grey picture x < 256
    bytes x h = R.bytes x

    neighbours_met :
        (q : ℕ) → q < length picture → adjacent grid p q ≡ true → R.par q < length picture
    neighbours_met q h a = (R.named.met q h (M.met q h a)).parent

    sound' : Sound (length picture) (adjacent grid) (grey picture) (state_of (length picture) R.par R.root (moved_on s l))
    sound' = finished_sound R.sound bytes (adjacent_symmetric grid) R.at M.stands.here neighbours_met advance

    -- the level has more pixels waiting
    module _ (more_left : get_or (advanced s.heads l) l 0 ≡ get_or s.tails l 0 → ⊥) where
      stays_ready : Ready grid picture (moved_on s l) l
      stays_ready =
          record {
            bytes = R.bytes;
            whole = R.whole;
            wide = R.wide;
            sized = R.sized;
            wide_heads = length-set s.heads l _ ∙ R.wide_heads;
            wide_tails = R.wide_tails;
            wide_opened = R.wide_opened;
            marks = R.marks;
            first = R.first;
            par = R.par;
            root = R.root;
            named = R.named;
            sound = sound';
            at = finished_at R.sound bytes (adjacent_symmetric grid) R.at M.stands.here neighbours_met advance more_left;
          }

      pub goes_on : Left grid picture s (moved_on s l) (Some l)
      goes_on = record { outcome = inl (l, refl, stays_ready); more = spent_more s.words s.opened (λ x h. refl) }

    open_here : get_or s.opened.numbers l 0 < length picture
    open_here = open_number R.named l R.at.level R.at.open_here

    pub closable : Closable (length picture) s.words s.opened l
    closable =
        record {
          sized = R.sized;
          wide = R.wide_opened;
          marks = R.marks;
          level = R.at.level;
          open_here = open_here;
          within = R.named.opens;
          left = close_fits R.named R.at.level open_here;
        }

    -- the level is empty: its node is closed, and the flood goes on below or ends
    module _ (none_left : get_or (advanced s.heads l) l 0 ≡ get_or s.tails l 0) where
      emptied : Empty (length picture) (state_of (length picture) R.par R.root (moved_on s l)) l
      emptied =
          finished_empty R.sound bytes (adjacent_symmetric grid) R.at M.stands.here neighbours_met advance none_left

      goes_below :
          {ws'' : List ℕ} {opened'' : Opened} {m : ℕ} → length ws'' ≡ length s.words → NextOpen (length picture) s.opened l m
          → Shut (length picture) s.words s.opened ws'' opened'' l (get_or s.opened.numbers m 0) (l - m)
          → Ready grid picture (lists ws'' (advanced s.heads l) s.tails opened'') m
      goes_below {ws''} {opened''} {m} same_length N S =
          let n = length picture in
          let in_m : m < 256 = omega (arith, N.lower, R.at.level) in
          let open_m : get_or s.opened.numbers m 0 < length picture = omega (arith, N.open_here, R.named.opens m in_m) in
          let root_m = open_root R.named m in_m open_m in
          let next : (k : ℕ) → m < k → k < l → length picture ≤ R.root k =
          λ k a b. omega (arith, R.named.no_node k (omega (arith, R.at.level)) (N.next k a b))
          in
          let step :
          Closed (length picture) l m (state_of (length picture) R.par R.root (moved_on s l))
          (state_of (length picture) (changed R.par (R.root l) (R.root m)) (changed R.root l (length picture))
          (lists ws'' (advanced s.heads l) s.tails opened'')) =
          record {
            par = changed_once n R.par (R.root l) (R.root m);
            root = changed_once 256 R.root l n;
            ord = S.ord;
            head = λ k. refl;
            tail = λ k. refl;
          }
          in
          record {
            bytes = R.bytes;
            whole = R.whole;
            wide = R.wide;
            sized = record { words = same_length ∙ R.sized.words; small = R.sized.small };
            wide_heads = length-set s.heads l _ ∙ R.wide_heads;
            wide_tails = R.wide_tails;
            wide_opened = S.wide;
            marks = S.marks;
            first = R.first;
            par = changed R.par (R.root l) (R.root m);
            root = changed R.root l n;
            named =
                named_closed R.named S.shutting R.at.level refl open_here (root_greys R) N.lower refl open_m
                (omega (arith, N.lower));
            sound = closed_sound sound' bytes emptied N.lower root_m next step;
            at = closed_at sound' bytes emptied N.lower root_m next step;
          }

      -- no level below is open: the last node is closed
      module _ (none_open : NoneOpen (length picture) s.opened l) where
        none_below : (k : ℕ) → k < l → length picture ≤ R.root k
        none_below k h = omega (arith, R.named.no_node k (omega (arith, R.at.level)) (none_open k h))

        only : (k : ℕ) → k < 256 → get_or s.opened.numbers k 0 < length picture → k ≡ l
        only k h o =
            by_cases
            (below_or_not k l)
            (λ lower. absurd (omega (arith, none_open k lower)))
            (λ ge. omega (arith, R.at.top k h (open_root R.named k h o)))

        ends_here :
            {ws'' : List ℕ} {opened'' : Opened}
            → Shut (length picture) s.words s.opened ws'' opened'' l (get_or s.opened.numbers l 0) 0
            → NumberedBy grid picture ws'' (taken_of opened'')
        ends_here S =
            named_ended
            R.named
            S.shutting
            R.at.level
            refl
            open_here
            (root_greys R)
            only
            refl
            refl
            (sound'.open_root l R.at.level R.at.open_here).own
            (ends sound' bytes emptied none_below (λ q a b. adjacent_before grid R.wide q a))

      pub empties :
          {ws'' : List ℕ} {opened'' : Opened} (m : Option ℕ) → length ws'' ≡ length s.words
          → ClosedTo (length picture) s.words s.opened ws'' opened'' l m
          → Left grid picture s (lists ws'' (advanced s.heads l) s.tails opened'') m
      empties {ws''} {opened''} None same_length C =
          record { outcome = inr (refl, ends_here C.0 C.1); more = spent_more ws'' opened'' C.1.shutting.num }
      empties {ws''} {opened''} (Some m) same_length C =
          record { outcome = inl (m, refl, goes_below same_length C.0 C.1); more = spent_more ws'' opened'' C.1.shutting.num }

-- one turn: the flood moves up or along, or leaves its pixel
module _ {grid : Grid} {picture : List ℕ} {s s' : Lists} {p : ℕ} where
  pub moves : {q : ℕ} → Moved grid picture s s' p q (adjacent grid p) → spent (length picture) s < spent (length picture) s'
  moves M = rw M.visited.same_heads (omega (arith, M.visited.raised M.away))

  module _ (U : Visited grid picture s s' p p (adjacent grid p)) where
    pub leavable : {l : ℕ} → Standing grid picture s l p → Leavable grid picture s' l p
    leavable S = record { stands = still U S refl; met = U.met refl }

    pub leaves :
        {s'' : Lists} {r : Option ℕ} → Left grid picture s' s'' r → spent (length picture) s < spent (length picture) s''
    leaves L =
        let both : spent (length picture) s ≤ spent (length picture) s' = rw U.same_heads (omega (arith, U.more)) in
        omega (arith, L.more)

-- there are n pixels to meet, and the heads stay within part 3, so there is an end to the turns
module _ {grid : Grid} {picture : List ℕ} {s : Lists} {l p : ℕ} where
  spent_le : Standing grid picture s l p → spent (length picture) s ≤ 257 * length picture
  spent_le S =
      let n = length picture in
      let R = S.ready in
      omega (
        arith,
        count_le n (λ (q : ℕ). ltb (number_at s.words q) n),
        sum_le 256 n (λ (k : ℕ). get_or s.heads k 0) (λ k hk. omega (arith, R.sound.high k hk, tail_le R.sound k hk)),
      )

  pub spent_falls :
      (s' : Lists) → Standing grid picture s l p → spent (length picture) s < spent (length picture) s'
      → 257 * length picture + 1 - spent (length picture) s' < 257 * length picture + 1 - spent (length picture) s
  spent_falls s' S more = omega (arith, spent_le S)

-- what follows
module _ {grid : Grid} {picture : List ℕ} {s s' : Lists} {r : Option ℕ} (L : Left grid picture s s' r) where
  pub next_ready : {l : ℕ} → r ≡ Some l → Ready grid picture s' l
  next_ready {l} e =
      by_cases
      L.outcome
      (λ w. let same : w.0 ≡ l = let a = w.1 in cc in subst (λ (k : ℕ). Ready grid picture s' k) same w.2)
      (λ D. absurd (let a = D.0 in cc))

  pub ended : r ≡ None → NumberedBy grid picture s'.words (taken_of s'.opened)
  ended e = by_cases L.outcome (λ w. absurd (let a = w.1 in cc)) (λ D. D.1)
