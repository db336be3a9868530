-- The open node of a level is closed: below another open node the numbers still stand for the parent words and the roots, and after the
-- last node is closed, its own parent, they are those of a flood.
use Prim.Native.Nat.{ℕ, suc, ◌+◌, ◌≤◌, ◌<◌}
use mathlib.Core.Logic.{◌⊎◌, inl, inr}
use mathlib.Core.Path.{◌≡◌, sym, ap, ◌∙◌}
use native.Mathlib.Omega.{arith}
use lib.Dec.{eqb, ltb}
use borrow.Author.Tests.{eq-eqb, ne_eqb, lt-ltb, le-ltb}
use Rattle.sets.specs.Sets.{count}
use Rattle.sets.proofs.Laws.{count_ext, count_none}
use Rattle.connected.specs.Component.{Adjacency}
use Rattle.levels.specs.Tables.{Changed}
use Rattle.levels.proofs.Counts.{by_cases, equal_or_not, below_or_not}
use Rattle.flooding.specs.Flooding.{Flooded}
use Rattle.flooding.specs.Numbers.{changed, Numbers, IsOpen, Taken, OpenNode, ClosedNode, Drops, Named, Shutting, parent_by, ClosingOrder, Numbered}
use Rattle.flooding.proofs.Named.{changed_once, count_stored, taken_le, close_fits, met_number, open_root}

-- parents that are the same at every position
pub flooded_same :
    {n : ℕ} {adj : Adjacency} {g par par' : ℕ → ℕ} → ((q : ℕ) → q < n → par' q ≡ par q) → Flooded n adj g par
    → Flooded n adj g par'
flooded_same {n} {adj} {g} {par} {par'} same F =
    record {
      within = λ q h. rw (same q h) (F.within q h);
      rooted = λ q h.
          let R = F.rooted q h in
          let z = same q h in
          let zz = same (par q) (F.within q h) in
          record { within = rw (z, zz) R.within; dim = rw z R.dim; node = rw (z, zz) R.node };
      links = λ h G K q hq d. rw (same q hq) (F.links h G K q hq (rw (same q hq) at d));
      edges = λ h G up. F.edges h G (λ q hq d. rw (same q hq) at (up q hq (rw (same q hq) d)));
    }

-- the open node of level l, of number k, is closed, whatever its parent
module _ {n : ℕ} {g first par root : ℕ → ℕ} {w w' : Numbers} (N : Named n g first par root w) {l k p d : ℕ} (C : Shutting n l k p d w w')
    (lo : l < 256) (k_is : k ≡ w.open_at l) (open_l : w.open_at l < n)
    (greys : (j : ℕ) → j < 256 → root j < n → g (root j) ≡ j)
  where
    k_number : k < w.taken
    k_number = omega (arith, (N.open_node l lo open_l).number)

    root_l : root l ≡ first k
    root_l = rw k_is (N.open_node l lo open_l).root_is

    grey_k : g (first k) ≡ l
    grey_k = rw root_l at (greys l lo (open_root N l lo open_l))

    k_open : IsOpen g first w k
    k_open = rw grey_k (sym k_is)

    one_less : count 256 (λ (j : ℕ). ltb (w.open_at j) n) ≡ suc (count 256 (λ (j : ℕ). ltb (w'.open_at j) n))
    one_less = count_stored 256 (λ y. ltb y n) C.open_at lo (lt-ltb (w.open_at l) n open_l) (le-ltb n n (omega arith))

    shut_balance : w'.done + count 256 (λ (j : ℕ). ltb (w'.open_at j) n) ≡ w'.taken
    shut_balance = omega (arith, N.balance, one_less, C.done, C.taken)

    closed_stays : (i : ℕ) → i < w.done → w'.closed i ≡ w.closed i
    closed_stays i h = C.closed.there i (omega (arith, close_fits N lo open_l)) (λ e. omega arith)

    drop_stays : (i : ℕ) → i < w.done → w'.drop i ≡ w.drop i
    drop_stays i h = C.drop.there i (omega (arith, close_fits N lo open_l)) (λ e. omega arith)

    up_stays : (j : ℕ) → j < w.taken → (j ≡ k → ⊥) → w'.up j ≡ w.up j
    up_stays j h ne = C.up.there j (omega (arith, taken_le N)) ne

    closed_apart : (i : ℕ) → i < w.done → w.closed i ≡ k → ⊥
    closed_apart i h e = N.not_open i h (rw e k_open)

    before_or_last : (i : ℕ) → i < w'.done → (i < w.done) ⊎ (i ≡ w.done)
    before_or_last i h = by_cases (below_or_not i w.done) inl (λ ge. inr (omega (arith, C.done)))

    shut_within : (i : ℕ) → i < w'.done → w'.closed i < w'.taken
    shut_within i h =
        rw
        C.taken
        (by_cases
        (before_or_last i h)
        (λ b. rw (closed_stays i b) (N.closed_within i b))
        (λ e. rw (e, C.closed.here) k_number))

    shut_once : (i j : ℕ) → i < j → j < w'.done → w'.closed i ≡ w'.closed j → ⊥
    shut_once i j h hj e =
        by_cases
        (before_or_last j hj)
        (λ b. N.once i j h b (sym (closed_stays i (omega arith)) ∙ e ∙ closed_stays j b))
        (λ z.
        let b : i < w.done = omega arith in
        let last : w'.closed j ≡ k = rw z C.closed.here in
        closed_apart i b (sym (closed_stays i b) ∙ e ∙ last))

    -- the place of the node, and of one closed before
    k_place : (i : ℕ) × (i < w'.done) × (w'.closed i ≡ k)
    k_place = (w.done, omega (arith, C.done), C.closed.here)

    old_place : (j : ℕ) → ClosedNode g first par w j → (i : ℕ) × (i < w'.done) × (w'.closed i ≡ j)
    old_place j O = (O.at, omega (arith, O.place, C.done), closed_stays O.at O.place ∙ O.holds)

    -- the parent of a node closed before: it stays open, or is closed later
    shut_later :
        (i : ℕ) → i < w.done
        → (IsOpen g first w (w'.up (w'.closed i)) × (w'.up (w'.closed i) ≡ k → ⊥))
        ⊎ ((j : ℕ) × (i < j) × (j < w'.done) × (w'.closed j ≡ w'.up (w'.closed i)))
    shut_later i h =
        rw
        (closed_stays i h, up_stays (w.closed i) (N.closed_within i h) (closed_apart i h))
        (by_cases
        (N.later i h)
        (λ o.
        by_cases
        (equal_or_not (w.up (w.closed i)) k)
        (λ e. inr (w.done, h, omega (arith, C.done), C.closed.here ∙ sym e))
        (λ ne. inl (o, ne)))
        (λ z. inr (z.0, z.1, omega (arith, C.done), closed_stays z.0 z.2 ∙ z.3)))

    up_number : (i : ℕ) → i < w.done → w'.up (w'.closed i) < w.taken
    up_number i b =
        rw
        (closed_stays i b, up_stays (w.closed i) (N.closed_within i b) (closed_apart i b))
        (N.closed_node (w.closed i) (N.closed_within i b) (N.not_open i b)).up_within

    shut_drops : d + g (first p) ≡ g (first k) → Drops w'.done (λ j. g (first j)) w'.up w'.closed w'.drop
    shut_drops here i h =
        by_cases
        (before_or_last i h)
        (λ b.
        rw
        (drop_stays i b, closed_stays i b, up_stays (w.closed i) (N.closed_within i b) (closed_apart i b))
        (N.drops i b))
        (λ e. rw (e, C.drop.here, C.closed.here, C.up.here) here)

    -- below the open node of level m
    module _ {m : ℕ} (lower : m < l) (p_is : p ≡ w.open_at m) (open_m : w.open_at m < n) (down : d + m ≡ l) where
      in_m : m < 256
      in_m = omega arith

      root_m : root m ≡ first p
      root_m = rw p_is (N.open_node m in_m open_m).root_is

      m_in : root m < n
      m_in = open_root N m in_m open_m

      grey_p : g (first p) ≡ m
      grey_p = rw root_m at (greys m in_m m_in)

      p_number : p < w'.taken
      p_number = omega (arith, (N.open_node m in_m open_m).number, C.taken)

      par_set : Changed n par (changed par (root l) (root m)) (root l) (root m)
      par_set = changed_once n par (root l) (root m)

      root_set : Changed 256 root (changed root l n) l n
      root_set = changed_once 256 root l n

      -- a node but that of number k is open as it was
      stays_open : (j : ℕ) → j < w.taken → (j ≡ k → ⊥) → IsOpen g first w j → IsOpen g first w' j
      stays_open j h ne o =
          C.open_at.there (g (first j)) (N.firsts j h).byte (λ e. ne (sym o ∙ ap w.open_at e ∙ sym k_is)) ∙ o

      opened_before : (j : ℕ) → j < w.taken → IsOpen g first w' j → IsOpen g first w j
      opened_before j h o =
          sym
          (C.open_at.there (g (first j)) (N.firsts j h).byte
          (λ e. let z : w'.open_at (g (first j)) ≡ n = rw e C.open_at.here in omega (arith, taken_le N)))
          ∙ o

      k_shut : IsOpen g first w' k → ⊥
      k_shut o = let z : w'.open_at (g (first k)) ≡ n = rw grey_k C.open_at.here in omega arith

      -- the first pixel of another number is not the closed root
      first_apart : (j : ℕ) → j < w.taken → (j ≡ k → ⊥) → first j ≡ root l → ⊥
      first_apart j h ne e =
          ne (sym (N.firsts j h).own ∙ ap w.num (e ∙ root_l) ∙ (N.firsts k k_number).own)

      num_root : w.num (root l) ≡ k
      num_root = rw root_l (N.firsts k k_number).own

      shut_met : (x : ℕ) → x < n → w'.num x < n → Taken n g first (changed par (root l) (root m)) w' x
      shut_met x hx h =
          let z = C.num x hx in
          let old = N.met x hx (rw z at h) in
          record {
            number = rw (z, C.taken) old.number;
            parent =
                by_cases
                (equal_or_not x (root l))
                (λ e. rw (e, par_set.here) m_in)
                (λ ne. rw (par_set.there x hx ne) old.parent);
            level = rw z old.level;
          }

      shut_others :
          (x : ℕ) → x < n → w'.num x < n → (first (w'.num x) ≡ x → ⊥)
          → changed par (root l) (root m) x ≡ first (w'.num x)
      shut_others x hx h far =
          let z = C.num x hx in
          let far' : first (w.num x) ≡ x → ⊥ = rw z at far in
          let ne : x ≡ root l → ⊥ = λ e. far' (ap first (ap w.num e ∙ num_root) ∙ sym root_l ∙ sym e) in
          rw z (par_set.there x hx ne ∙ N.others x hx (rw z at h) far')

      still_open : (j : ℕ) → w'.open_at j < n → j ≡ l → ⊥
      still_open j o e = let z : w'.open_at j ≡ n = rw e C.open_at.here in omega arith

      shut_open : (j : ℕ) → j < 256 → w'.open_at j < n → OpenNode first (changed root l n) w' j
      shut_open j hj o =
          let ne = still_open j o in
          let z = C.open_at.there j hj ne in
          let old = N.open_node j hj (rw z at o) in
          record { number = rw (z, C.taken) old.number; root_is = rw (z, root_set.there j hj ne) old.root_is }

      shut_closed :
          (j : ℕ) → j < w.taken → (IsOpen g first w' j → ⊥) → ClosedNode g first (changed par (root l) (root m)) w' j
      shut_closed j h shut =
          by_cases
          (equal_or_not j k)
          (λ e.
          rw
          e
          (record {
            up_within = rw C.up.here p_number;
            parent = rw (C.up.here, ← root_l, ← root_m) par_set.here;
            dark = rw (C.up.here, grey_k, grey_p) lower;
            at = w.done;
            place = omega (arith, C.done);
            holds = C.closed.here;
          }))
          (λ ne.
          let O = N.closed_node j h (λ o. shut (stays_open j h ne o)) in
          let z = up_stays j h ne in
          let at = old_place j O in
          record {
            up_within = omega (arith, z, O.up_within, C.taken);
            parent = rw z (par_set.there (first j) (N.firsts j h).within (first_apart j h ne) ∙ O.parent);
            dark = rw z O.dark;
            at = at.0;
            place = at.1;
            holds = at.2;
          })

      shut_not_open : (i : ℕ) → i < w'.done → IsOpen g first w' (w'.closed i) → ⊥
      shut_not_open i h o =
          by_cases
          (before_or_last i h)
          (λ b. N.not_open i b (opened_before (w.closed i) (N.closed_within i b) (rw (closed_stays i b) at o)))
          (λ e. k_shut (rw (e, C.closed.here) at o))

      shut_parents :
          (i : ℕ) → i < w'.done
          → IsOpen g first w' (w'.up (w'.closed i))
          ⊎ ((j : ℕ) × (i < j) × (j < w'.done) × (w'.closed j ≡ w'.up (w'.closed i)))
      shut_parents i h =
          by_cases
          (before_or_last i h)
          (λ b.
          by_cases
          (shut_later i b)
          (λ o. inl (stays_open (w'.up (w'.closed i)) (up_number i b) o.1 o.0))
          inr)
          (λ e. inl (rw (e, C.closed.here, C.up.here, grey_p, p_is) (C.open_at.there m in_m (λ x. omega arith))))

      pub named_closed : Named n g first (changed par (root l) (root m)) (changed root l n) w'
      named_closed =
          record {
            few =
                let same : count n (λ (x : ℕ). eqb (w'.num x) n) ≡ count n (λ (x : ℕ). eqb (w.num x) n) =
                count_ext n _ _ (λ x hx. ap (λ (y : ℕ). eqb y n) (C.num x hx))
                in
                omega (arith, N.few, C.taken);
            balance = shut_balance;
            range = λ x hx. rw (C.num x hx) (N.range x hx);
            met = shut_met;
            unmet = λ x hx u.
                let z : w.num x ≡ n = sym (C.num x hx) ∙ u in
                par_set.there x hx (λ e. let y : w.num x ≡ k = rw e num_root in omega arith) ∙ N.unmet x hx z;
            firsts = λ j h.
                let F = N.firsts j (rw C.taken at h) in
                record { within = F.within; byte = F.byte; own = C.num (first j) F.within ∙ F.own };
            others = shut_others;
            opens = λ j hj.
                by_cases
                (equal_or_not j l)
                (λ e. rw (e, C.open_at.here) (omega arith))
                (λ ne. rw (C.open_at.there j hj ne) (N.opens j hj));
            open_node = shut_open;
            no_node = λ j hj u.
                by_cases
                (equal_or_not j l)
                (λ e. rw e root_set.here)
                (λ ne. root_set.there j hj ne ∙ N.no_node j hj (sym (C.open_at.there j hj ne) ∙ u));
            closed_node = λ j h. shut_closed j (rw C.taken at h);
            closed_within = shut_within;
            not_open = shut_not_open;
            once = shut_once;
            later = shut_parents;
            drops = shut_drops (rw (grey_p, grey_k) down);
          }

    -- the last open node, its own parent
    module _ {adj : Adjacency} (only : (j : ℕ) → j < 256 → w.open_at j < n → j ≡ l) (itself : p ≡ k) (flat : d ≡ 0) (own : par (root l) ≡ root l)
        (F : Flooded n adj g par)
      where
        only_open : (j : ℕ) → j < w.taken → IsOpen g first w j → j ≡ k
        only_open j h o =
            let e = only (g (first j)) (N.firsts j h).byte (omega (arith, taken_le N)) in
            sym o ∙ ap w.open_at e ∙ sym k_is

        closed_but : (j : ℕ) → j < w.taken → (j ≡ k → ⊥) → ClosedNode g first par w j
        closed_but j h ne = N.closed_node j h (λ o. ne (only_open j h o))

        all_done : w'.done ≡ w'.taken
        all_done =
            omega (
              arith,
              shut_balance,
              count_none 256 (λ (j : ℕ). ltb (w'.open_at j) n) (λ j hj. le-ltb (w'.open_at j) n (none j hj)),
            )
          where
            none : (j : ℕ) → j < 256 → n ≤ w'.open_at j
            none j hj =
                by_cases
                (equal_or_not j l)
                (λ e. rw (e, C.open_at.here) (omega arith))
                (λ ne.
                by_cases
                (below_or_not (w.open_at j) n)
                (λ o. absurd (ne (only j hj o)))
                (λ shut. rw (C.open_at.there j hj ne) shut))

        numbered : (q : ℕ) → q < n → w.num q < w.taken
        numbered q h = met_number N q h (F.within q h)

        up_k : (j : ℕ) → j ≡ k → w'.up j ≡ j
        up_k j e = rw e (C.up.here ∙ itself)

        -- the parent of the first pixel of a number
        first_parent : (j : ℕ) → j < w.taken → first (w'.up j) ≡ par (first j)
        first_parent j h =
            by_cases
            (equal_or_not j k)
            (λ e.
            let at_root : first j ≡ root l = rw e (sym root_l) in
            rw (up_k j e, at_root) (sym own))
            (λ ne. rw (up_stays j h ne) (sym (closed_but j h ne).parent))

        parents : (q : ℕ) → q < n → parent_by first w'.num w'.up q ≡ par q
        parents q h =
            let m : w.num q < n = omega (arith, numbered q h, taken_le N) in
            rw
            (C.num q h)
            (by_cases
            (equal_or_not (first (w.num q)) q)
            (λ e. rw (eq-eqb (first (w.num q)) q e) (first_parent (w.num q) (numbered q h) ∙ ap par e))
            (λ ne. rw (ne_eqb (first (w.num q)) q ne) (sym (N.others q h m ne))))

        pub named_ended : Numbered n adj g w'.num w'.up w'.closed w'.drop w'.taken
        named_ended =
            record {
              few = omega (arith, C.taken, taken_le N);
              within = λ q h. rw (C.num q h, C.taken) (numbered q h);
              first = first;
              first_within = λ j h. (N.firsts j (rw C.taken at h)).within;
              first_own = λ j h.
                  let F = N.firsts j (rw C.taken at h) in
                  C.num (first j) F.within ∙ F.own;
              level = λ q h.
                  rw (C.num q h) (N.met q h (omega (arith, numbered q h, taken_le N))).level;
              up_within = λ j h.
                  by_cases
                  (equal_or_not j k)
                  (λ e. rw (up_k j e) h)
                  (λ ne.
                  let b : j < w.taken = rw C.taken at h in
                  rw (up_stays j b ne, C.taken) (closed_but j b ne).up_within);
              dim = λ j h.
                  by_cases
                  (equal_or_not j k)
                  (λ e. inl (up_k j e))
                  (λ ne.
                  let b : j < w.taken = rw C.taken at h in
                  inr (rw (up_stays j b ne) (closed_but j b ne).dark));
              flooded = flooded_same parents F;
              order = rw all_done at order;
              drops = rw all_done at (shut_drops (rw (flat, itself) (omega arith)));
            }
          where
            order : ClosingOrder w'.done w'.up w'.closed
            order =
                record {
                  within = λ i h. rw all_done (shut_within i h);
                  place = λ j h.
                      let b : j < w.taken = omega (arith, all_done, C.taken) in
                      by_cases
                      (equal_or_not j k)
                      (λ e. rw e k_place)
                      (λ ne. old_place j (closed_but j b ne));
                  once = shut_once;
                  later = λ i h.
                      by_cases
                      (before_or_last i h)
                      (λ b.
                      by_cases
                      (shut_later i b)
                      (λ o. absurd (o.1 (only_open (w'.up (w'.closed i)) (up_number i b) o.0)))
                      inr)
                      (λ e. inl (rw (e, C.closed.here) (C.up.here ∙ itself)));
                }
