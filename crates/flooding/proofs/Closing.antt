-- The node of the current level is closed: its root's parent becomes the root of the next darker open level, and the flood goes on
-- there.
use Prim.Native.Nat.{ℕ, suc, ◌+◌, ◌≤◌, ◌<◌}
use mathlib.Core.Bool.{Bool, ◌&&◌}
use mathlib.Core.Logic.{◌⊎◌, inl, inr}
use mathlib.Core.Path.{◌≡◌, sym, ap, ◌∙◌}
use native.Mathlib.Omega.{arith}
use lib.Dec.{eqb}
use borrow.Author.Tests.{ne_eqb}
use Rattle.sets.proofs.Laws.{count_ext}
use Rattle.connected.specs.Component.{Adjacency}
use Rattle.levels.specs.Levels.{darker}
use Rattle.levels.proofs.Counts.{by_cases, equal_or_not, below_or_not}
use Rattle.flooding.specs.Flooding.{Joined, same, back, then, State, unmet_count, Contains, Links, Rooted, Opened, Finished, Placed, Waits, Sound, At, Closed}
use Rattle.flooding.proofs.Finishing.{Empty}
use Rattle.flooding.proofs.Meeting.{tail_le, finished_kept}

module _ {n : ℕ} {adj : Adjacency} {g : ℕ → ℕ} {s s' : State} (S : Sound n adj g s) (byte : (x : ℕ) → x < n → g x < 256) {l m : ℕ}
    (E : Empty n s l) (lower : m < l) (open_m : s.root m < n) (next : (k : ℕ) → m < k → k < l → n ≤ s.root k)
    (C : Closed n l m s s')
  where
    lo : l < 256
    lo = E.level

    in_m : m < 256
    in_m = omega (arith, lo)

    open_l : s.root l < n
    open_l = E.open_here

    root_grey : (k : ℕ) → k < 256 → s.root k < n → g (s.root k) ≡ k
    root_grey k hk o = (S.open_root k hk o).grey

    root_own : (k : ℕ) → k < 256 → s.root k < n → s.par (s.root k) ≡ s.root k
    root_own k hk o = (S.open_root k hk o).own

    -- a pixel of another grey is not the closed root
    other_grey : (x k : ℕ) → g x ≡ k → (k ≡ l → ⊥) → x ≡ s.root l → ⊥
    other_grey x k gx ne e = ne (sym gx ∙ ap g e ∙ root_grey l lo open_l)

    keep_met : (x : ℕ) → x < n → s.par x < n → s'.par x < n
    keep_met x hx h =
        by_cases
        (equal_or_not x (s.root l))
        (λ e. rw (e, C.par.here) open_m)
        (λ ne. rw (C.par.there x hx ne) h)

    was_met : (x : ℕ) → x < n → s'.par x < n → s.par x < n
    was_met x hx h =
        by_cases
        (equal_or_not x (s.root l))
        (λ e. rw (e, root_own l lo open_l) open_l)
        (λ ne. rw (C.par.there x hx ne) at h)

    not_closed : (k : ℕ) → k < 256 → s'.root k < n → k ≡ l → ⊥
    not_closed k hk o e = let z : s'.root k ≡ n = rw e C.root.here in omega arith

    was_open : (k : ℕ) → k < 256 → s'.root k < n → s.root k < n
    was_open k hk o = rw (C.root.there k hk (not_closed k hk o)) at o

    keep_ord : (k i : ℕ) → k < 256 → i < s.tail k → s'.ord i ≡ s.ord i
    keep_ord k i hk h = C.ord i (omega (arith, tail_le S k hk))

    root_m : s'.root m ≡ s.root m
    root_m = C.root.there m in_m (λ e. omega arith)

    root_apart : (k : ℕ) → k < 256 → s.root k < n → (k ≡ l → ⊥) → s.root k ≡ s.root l → ⊥
    root_apart k hk o ne = other_grey (s.root k) k (root_grey k hk o) ne

    own_m : s'.par (s.root m) ≡ s.root m
    own_m =
        C.par.there (s.root m) open_m (root_apart m in_m open_m (λ e. omega arith)) ∙ root_own m in_m open_m

    weaker : (h : ℕ) (G : Adjacency) → Links n g s' h G → Links n g s h G
    weaker h G L = record { up = up; across = across }
      where
        up : (x : ℕ) → x < n → s.par x < n → h ≤ g (s.par x) → Joined G x (s.par x)
        up x hx hm d =
            by_cases
            (equal_or_not x (s.root l))
            (λ e. rw (e, root_own l lo open_l) same)
            (λ ne.
            let z = C.par.there x hx ne in
            rw z at (L.up x hx (rw z hm) (rw z d)))

        anchor : h ≤ m → (k : ℕ) → k < 256 → s.root k < n → h ≤ k → Joined G (s.root m) (s.root k)
        anchor hm k hk o lk =
            by_cases
            (equal_or_not k l)
            (λ e.
            rw
            e
            (back
            (rw
            C.par.here
            at
            (L.up (s.root l) open_l (rw C.par.here open_m) (rw (C.par.here, root_grey m in_m open_m) hm)))))
            (λ ne.
            let z = C.root.there k hk ne in
            rw (root_m, z) at (L.across m k in_m hk (rw root_m open_m) (rw z o) hm lk))

        only : m < h → (k : ℕ) → k < 256 → s.root k < n → h ≤ k → k ≡ l
        only dark k hk o lk =
            by_cases
            (below_or_not k l)
            (λ kl. absurd (omega (arith, next k (omega arith) kl)))
            (λ ge. omega (arith, E.top k hk o))

        across :
            (k j : ℕ) → k < 256 → j < 256 → s.root k < n → s.root j < n → h ≤ k → h ≤ j → Joined G (s.root k) (s.root j)
        across k j hk hj ok oj lk lj =
            by_cases
            (below_or_not m h)
            (λ dark. rw (only dark k hk ok lk, only dark j hj oj lj) same)
            (λ hm. then (back (anchor hm k hk ok lk)) (anchor hm j hj oj lj))

    new_room : (k : ℕ) → k < 256 → s'.tail k + unmet_count n g s'.par k ≤ darker n g (suc k)
    new_room k hk =
        rw
        (C.tail k, count_ext n _ _ (λ x hx. ap (λ (b : Bool). b && eqb (g x) k) (test x hx)))
        (S.room k hk)
      where
        test : (x : ℕ) → x < n → eqb (s'.par x) n ≡ eqb (s.par x) n
        test x hx =
            by_cases
            (equal_or_not x (s.root l))
            (λ e.
            ne_eqb (s'.par x) n (λ z. let w : s'.par x ≡ s.root m = rw e C.par.here in omega arith)
            ∙ sym (ne_eqb (s.par x) n (λ z. let w : s.par x ≡ s.root l = rw e (root_own l lo open_l) in omega (arith, open_l))))
            (λ ne. ap (λ (y : ℕ). eqb y n) (C.par.there x hx ne))

    new_rooted : (x : ℕ) → x < n → s'.par x < n → Rooted n g s'.par x
    new_rooted x hx h = by_cases (equal_or_not x (s.root l)) here there
      where
        here : x ≡ s.root l → Rooted n g s'.par x
        here e =
            let o : s'.par x ≡ s.root m = rw e C.par.here in
            record {
              within = rw (o, own_m) open_m;
              dim = rw (o, e, root_grey m in_m open_m, root_grey l lo open_l) (omega arith);
              node = inl (rw o own_m);
            }

        there : (x ≡ s.root l → ⊥) → Rooted n g s'.par x
        there ne =
            let o = C.par.there x hx ne in
            let y_in : s.par x < n = rw o at h in
            let old = S.rooted x hx y_in in
            by_cases
            (equal_or_not (s.par x) (s.root l))
            (λ e.
            let oo : s'.par (s.par x) ≡ s.root m = rw e C.par.here in
            record {
              within = rw (o, oo) open_m;
              dim = rw o old.dim;
              node = inr (rw (o, oo, e, root_grey m in_m open_m, root_grey l lo open_l) lower);
            })
            (λ far.
            let oo = C.par.there (s.par x) y_in far in
            record { within = rw (o, oo) old.within; dim = rw o old.dim; node = rw (o, oo) old.node })

    new_links : (h : ℕ) (G : Adjacency) → Contains n adj g h G → Links n g s' h G
    new_links h G K = record { up = up; across = across }
      where
        old : Links n g s h G
        old = S.links h G K

        up : (x : ℕ) → x < n → s'.par x < n → h ≤ g (s'.par x) → Joined G x (s'.par x)
        up x hx hm d =
            by_cases
            (equal_or_not x (s.root l))
            (λ e.
            let o : s'.par x ≡ s.root m = rw e C.par.here in
            let dm : h ≤ m = rw (o, root_grey m in_m open_m) at d in
            rw (o, e) (old.across l m lo in_m open_l open_m (omega arith) dm))
            (λ ne.
            let z = C.par.there x hx ne in
            rw z (old.up x hx (rw z at hm) (rw z at d)))

        across :
            (k j : ℕ) → k < 256 → j < 256 → s'.root k < n → s'.root j < n → h ≤ k → h ≤ j
            → Joined G (s'.root k) (s'.root j)
        across k j hk hj ok oj lk lj =
            rw
            (C.root.there k hk (not_closed k hk ok), C.root.there j hj (not_closed j hj oj))
            (old.across k j hk hj (was_open k hk ok) (was_open j hj oj) lk lj)

    new_placed : (k i : ℕ) → k < 256 → s'.head k ≤ i → i < s'.tail k → Placed n g s' k i
    new_placed k i hk low hi =
        let h : i < s.tail k = rw (C.tail k) at hi in
        let old = S.placed k i hk (rw (C.head k) at low) h in
        let o = keep_ord k i hk h in
        record { within = rw o old.within; grey = rw o old.grey; met = rw o (keep_met (s.ord i) old.within old.met) }

    new_met : (x : ℕ) → x < n → s'.par x < n → Waits g s' x ⊎ Finished n adj g s' x
    new_met x hx hm =
        by_cases
        (S.met x hx (was_met x hx hm))
        (λ old.
        inl (record {
          at = old.at;
          low = rw (C.head (g x)) old.low;
          high = rw (C.tail (g x)) old.high;
          holds = keep_ord (g x) old.at (byte x hx) old.high ∙ old.holds;
        }))
        (λ old. inr (finished_kept keep_met weaker x old))

    new_open : (k : ℕ) → k < 256 → s'.root k < n → Opened g s' k
    new_open k hk o =
        let ne = not_closed k hk o in
        let z = C.root.there k hk ne in
        let w = was_open k hk o in
        record {
          grey = rw z (root_grey k hk w);
          own = rw z (C.par.there (s.root k) w (root_apart k hk w ne) ∙ root_own k hk w);
        }

    new_waiting : (k i : ℕ) → k < 256 → s'.head k ≤ i → i < s'.tail k → s'.par (s'.ord i) ≡ s'.root k
    new_waiting k i hk li hi =
        let a : s.head k ≤ i = rw (C.head k) at li in
        let b : i < s.tail k = rw (C.tail k) at hi in
        let old = S.placed k i hk a b in
        let ne : k ≡ l → ⊥ = λ e.
        let x : s.head k ≡ s.head l = ap s.head e in
        let y : s.tail k ≡ s.tail l = ap s.tail e in
        omega (arith, E.drained)
        in
        rw
        (keep_ord k i hk b)
        (C.par.there (s.ord i) old.within (other_grey (s.ord i) k old.grey ne)
        ∙ S.waiting k i hk a b
        ∙ sym (C.root.there k hk ne))

    pub closed_sound : Sound n adj g s'
    closed_sound =
        record {
          range = λ x hx.
              by_cases
              (equal_or_not x (s.root l))
              (λ e. rw (e, C.par.here) (omega (arith, open_m)))
              (λ ne. rw (C.par.there x hx ne) (S.range x hx));
          roots = λ k hk.
              by_cases
              (equal_or_not k l)
              (λ e. rw (e, C.root.here) (omega arith))
              (λ ne. rw (C.root.there k hk ne) (S.roots k hk));
          room = new_room;
          low = λ k hk. rw (C.head k) (S.low k hk);
          high = λ k hk. rw (C.head k, C.tail k) (S.high k hk);
          placed = new_placed;
          met = new_met;
          open_root = new_open;
          idle = λ k hk o.
              rw
              (C.head k, C.tail k)
              (by_cases
              (equal_or_not k l)
              (λ e. rw e E.drained)
              (λ ne. S.idle k hk (rw (C.root.there k hk ne) at o)));
          waiting = new_waiting;
          rooted = new_rooted;
          links = new_links;
        }

    pub closed_at : At n s' m
    closed_at =
        record {
          level = in_m;
          open_here = rw root_m open_m;
          top = λ k hk o.
              by_cases
              (below_or_not m k)
              (λ above.
              let ne = not_closed k hk o in
              absurd
              (omega (arith, was_open k hk o, next k above (omega (arith, ne, E.top k hk (was_open k hk o))))))
              (λ le. le);
          busy = λ k hk o. rw (C.head k, C.tail k) (E.busy k hk (was_open k hk o) (not_closed k hk o));
          first = keep_met 0 (omega arith) E.first;
        }
