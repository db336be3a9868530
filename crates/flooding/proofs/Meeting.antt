-- A pixel that is met: what the flood keeps true holds after it is put at the end of its level's run. The graph's part is one fact,
-- that the picture's neighbours join the pixel to the root of every open level that both reach.
use Prim.Native.Nat.{ℕ, suc, ◌+◌, ◌≤◌, ◌<◌}
use mathlib.Core.Bool.{Bool, true, false, ◌&&◌}
use mathlib.Core.Logic.{◌⊎◌, inl, inr, ⊎_elim}
use mathlib.Core.Path.{◌≡◌, refl, sym, ap, ap₂, ◌∙◌}
use native.Mathlib.Omega.{arith}
use lib.Dec.{eqb, ltb}
use borrow.Author.Tests.{eq-eqb, ne_eqb}
use Rattle.sets.proofs.Tests.{and_false}
use Rattle.sets.proofs.Laws.{count_ext, count_le, count_some}
use Rattle.connected.specs.Component.{Adjacency}
use Rattle.levels.specs.Levels.{darker}
use Rattle.levels.proofs.Counts.{by_cases, equal_or_not, below_or_not, count_without, darker_mono}
use Rattle.flooding.specs.Flooding.{Joined, same, back, then, State, unmet_count, Contains, Links, Finished, Rooted, Opened, Placed, Waits, Sound, At, Pushed}

false_and : (a b : Bool) → a ≡ false → a && b ≡ false
false_and a b e = rw e refl

-- a run ends within the pixels
pub tail_le : {n : ℕ} {adj : Adjacency} {g : ℕ → ℕ} {s : State} → Sound n adj g s → (k : ℕ) → k < 256 → s.tail k ≤ n
tail_le {n} {g = g} S k h = omega (arith, S.room k h, count_le n (λ (q : ℕ). ltb (g q) (suc k)))

-- the picture's neighbours join q to every open root that it and q reach
abbrev pub Reaches : ℕ → Adjacency → (ℕ → ℕ) → State → ℕ → ℕ → Type 0
Reaches n adj g s l q =
    (h : ℕ) (G : Adjacency) → Contains n adj g h G → h ≤ l → (k : ℕ) → k < 256 → s.root k < n → h ≤ k → Joined G q (s.root k)

-- a finished pixel stays so, where what was met stays met and no link is lost
pub finished_kept :
    {n : ℕ} {adj : Adjacency} {g : ℕ → ℕ} {s s' : State} → ((x : ℕ) → x < n → s.par x < n → s'.par x < n)
    → ((h : ℕ) (G : Adjacency) → Links n g s' h G → Links n g s h G) → (x : ℕ) → Finished n adj g s x → Finished n adj g s' x
finished_kept met weaker x F =
    record {
      met = λ y hy a. met y hy (F.met y hy a);
      joined = λ y hy a h G L. F.joined y hy a h G (weaker h G L);
    }

-- there is room for a pixel that is not met
pub tail_lt :
    {n : ℕ} {adj : Adjacency} {g : ℕ → ℕ} {s : State} → Sound n adj g s → {q : ℕ} → g q < 256 → q < n → s.par q ≡ n
    → s.tail (g q) < n
tail_lt {n} {adj} {g} {s} S {q} byte hq new =
    omega (
      arith,
      S.room (g q) byte,
      count_le n (λ (x : ℕ). ltb (g x) (suc (g q))),
      count_some n (λ (x : ℕ). eqb (s.par x) n && eqb (g x) (g q)) q hq
          (ap₂ ◌&&◌ (eq-eqb (s.par q) n new) (eq-eqb (g q) (g q) refl)),
    )

module _ {n : ℕ} {adj : Adjacency} {g : ℕ → ℕ} {s s' : State} (S : Sound n adj g s) {l q r : ℕ} (lo : l < 256) (in_q : q < n)
    (grey_q : g q ≡ l) (new : s.par q ≡ n) (P : Pushed n l q r s s')
  where
    -- the pixels that were met before
    not_q : (x : ℕ) → s.par x < n → x ≡ q → ⊥
    not_q x h e = let z : s.par x ≡ n = rw e new in omega arith

    keep : (x : ℕ) → x < n → s.par x < n → s'.par x ≡ s.par x
    keep x hx h = P.par.there x hx (not_q x h)

    pub keep_met : (x : ℕ) → x < n → s.par x < n → s'.par x < n
    keep_met x hx h = rw (keep x hx h) h

    was_met : (x : ℕ) → x < n → s'.par x < n → (x ≡ q) ⊎ (s.par x < n)
    was_met x hx h = ⊎_elim inl (λ ne. inr (rw (P.par.there x hx ne) at h)) (equal_or_not x q)

    -- the root of the level
    root_in : r < n
    root_in = ⊎_elim (λ w. rw w.1 w.0) (λ w. rw w.1 in_q) P.root_is

    root_grey : g r ≡ l
    root_grey = ⊎_elim (λ w. rw w.1 (S.open_root l lo w.0).grey) (λ w. rw w.1 grey_q) P.root_is

    root_own : s'.par r ≡ r
    root_own = ⊎_elim old fresh P.root_is
      where
        old : (s.root l < n) × (r ≡ s.root l) → s'.par r ≡ r
        old w =
            let o = (S.open_root l lo w.0).own in
            rw w.1 (keep (s.root l) w.0 (rw o w.0) ∙ o)

        fresh : (s.root l ≡ n) × (r ≡ q) → s'.par r ≡ r
        fresh w = rw w.1 (P.par.here ∙ w.1)

    keep_root : (k : ℕ) → k < 256 → s.root k < n → s'.root k ≡ s.root k
    keep_root k hk h = ⊎_elim here (P.root.there k hk) (equal_or_not k l)
      where
        here : k ≡ l → s'.root k ≡ s.root k
        here e =
            rw
            e
            (⊎_elim
            (λ w. P.root.here ∙ w.1)
            (λ w. let z : s.root k ≡ n = rw e w.0 in absurd (omega arith))
            P.root_is)

    was_open : (k : ℕ) → k < 256 → s'.root k < n → (k ≡ l) ⊎ (s.root k < n)
    was_open k hk h = ⊎_elim inl (λ ne. inr (rw (P.root.there k hk ne) at h)) (equal_or_not k l)

    -- the room in the run
    room_here : s.tail l + suc (unmet_count n g s'.par l) ≤ darker n g (suc l)
    room_here =
        rw (sym less) at (S.room l lo)
      where
        less : suc (unmet_count n g s'.par l) ≡ unmet_count n g s.par l
        less = sym
            (count_without
            n
            (λ (x : ℕ). eqb (s.par x) n && eqb (g x) l)
            (λ (x : ℕ). eqb (s'.par x) n && eqb (g x) l)
            q
            in_q
            (ap₂ ◌&&◌ (eq-eqb (s.par q) n new) (eq-eqb (g q) l grey_q))
            (false_and _ _ (ne_eqb (s'.par q) n (λ e. omega (arith, root_in, P.par.here))))
            (λ x hx ne. ap (λ (y : ℕ). eqb y n && eqb (g x) l) (P.par.there x hx ne)))

    room_there : (k : ℕ) → k < 256 → (k ≡ l → ⊥) → unmet_count n g s'.par k ≡ unmet_count n g s.par k
    room_there k hk ne = count_ext n _ _ (λ x hx. ⊎_elim (here x) (there x hx) (equal_or_not x q))
      where
        here : (x : ℕ) → x ≡ q → eqb (s'.par x) n && eqb (g x) k ≡ eqb (s.par x) n && eqb (g x) k
        here x e =
            let dark : eqb (g x) k ≡ false = ne_eqb (g x) k (λ z. ne (sym z ∙ ap g e ∙ grey_q)) in
            rw dark (and_false (eqb (s'.par x) n) ∙ sym (and_false (eqb (s.par x) n)))

        there : (x : ℕ) → x < n → (x ≡ q → ⊥) → eqb (s'.par x) n && eqb (g x) k ≡ eqb (s.par x) n && eqb (g x) k
        there x hx nx = ap (λ (y : ℕ). eqb y n && eqb (g x) k) (P.par.there x hx nx)

    -- the places of the runs
    not_end : (k i : ℕ) → k < 256 → s.head k ≤ i → i < s.tail k → i ≡ s.tail l → ⊥
    not_end k i hk lo_i hi_i e =
        ⊎_elim
        (λ h. omega (arith, S.room k hk, S.low l lo, S.high l lo, darker_mono n g (suc k) l h))
        (λ h.
        ⊎_elim
        (λ e'. let z : s.tail k ≡ s.tail l = ap s.tail e' in omega arith)
        (λ ne. omega (arith, room_here, S.low k hk, darker_mono n g (suc l) k (omega arith)))
        (equal_or_not k l))
        (below_or_not k l)

    pub keep_ord : (k i : ℕ) → k < 256 → s.head k ≤ i → i < s.tail k → s'.ord i ≡ s.ord i
    keep_ord k i hk lo_i hi_i = P.ord.there i (omega (arith, tail_le S k hk)) (not_end k i hk lo_i hi_i)

    was_in : (k i : ℕ) → k < 256 → i < s'.tail k → ((k ≡ l) × (i ≡ s.tail l)) ⊎ (i < s.tail k)
    was_in k i hk h = ⊎_elim here (λ ne. inr (rw (P.tail.there k hk ne) at h)) (equal_or_not k l)
      where
        here : k ≡ l → ((k ≡ l) × (i ≡ s.tail l)) ⊎ (i < s.tail k)
        here e =
            let t : s'.tail k ≡ suc (s.tail l) = rw e P.tail.here in
            ⊎_elim
            (λ z. inl (e, z))
            (λ (ne : i ≡ s.tail l → ⊥). inr (rw e (omega arith)))
            (equal_or_not i (s.tail l))

    tail_up : (k : ℕ) → k < 256 → s.tail k ≤ s'.tail k
    tail_up k hk = ⊎_elim here (λ ne. omega (arith, P.tail.there k hk ne)) (equal_or_not k l)
      where
        here : k ≡ l → s.tail k ≤ s'.tail k
        here e = rw e (omega (arith, P.tail.here))

    -- links that hold after it hold before it
    weaker : (h : ℕ) (G : Adjacency) → Links n g s' h G → Links n g s h G
    weaker h G L =
        record {
          up = λ x hx m d. rw (keep x hx m) at (L.up x hx (keep_met x hx m) (rw (keep x hx m) d));
          across = λ k m hk hm ok om lk lm.
              rw (keep_root k hk ok, keep_root m hm om) at
              (L.across k m hk hm (rw (keep_root k hk ok) ok) (rw (keep_root m hm om) om) lk lm);
        }

    -- the fields one by one
    new_room : (k : ℕ) → k < 256 → s'.tail k + unmet_count n g s'.par k ≤ darker n g (suc k)
    new_room k hk = ⊎_elim here there (equal_or_not k l)
      where
        here : k ≡ l → s'.tail k + unmet_count n g s'.par k ≤ darker n g (suc k)
        here e = rw e (omega (arith, room_here, P.tail.here))

        there : (k ≡ l → ⊥) → s'.tail k + unmet_count n g s'.par k ≤ darker n g (suc k)
        there ne = rw (P.tail.there k hk ne, room_there k hk ne) (S.room k hk)

    new_placed : (k i : ℕ) → k < 256 → s'.head k ≤ i → i < s'.tail k → Placed n g s' k i
    new_placed k i hk lo_i hi_i = ⊎_elim here there (was_in k i hk hi_i)
      where
        here : (k ≡ l) × (i ≡ s.tail l) → Placed n g s' k i
        here w =
            let o : s'.ord i ≡ q = rw w.1 P.ord.here in
            record { within = rw o in_q; grey = rw (o, w.0) grey_q; met = rw (o, P.par.here) root_in }

        there : i < s.tail k → Placed n g s' k i
        there h =
            let from : s.head k ≤ i = rw (P.head k) at lo_i in
            let o = keep_ord k i hk from h in
            let old = S.placed k i hk from h in
            record { within = rw o old.within; grey = rw o old.grey; met = rw o (keep_met (s.ord i) old.within old.met) }

    new_met : (x : ℕ) → g x < 256 → x < n → s'.par x < n → Waits g s' x ⊎ Finished n adj g s' x
    new_met x bx hx h = by_cases (was_met x hx h) here there
      where
        here : x ≡ q → Waits g s' x ⊎ Finished n adj g s' x
        here e =
            let gx : g x ≡ l = ap g e ∙ grey_q in
            inl (record {
              at = s.tail l;
              low = rw (gx, P.head l) (S.high l lo);
              high = rw gx (omega (arith, P.tail.here));
              holds = P.ord.here ∙ sym e;
            })

        there : s.par x < n → Waits g s' x ⊎ Finished n adj g s' x
        there m =
            by_cases
            (S.met x hx m)
            (λ old.
            inl (record {
              at = old.at;
              low = rw (P.head (g x)) old.low;
              high = omega (arith, old.high, tail_up (g x) bx);
              holds = keep_ord (g x) old.at bx old.low old.high ∙ old.holds;
            }))
            (λ old. inr (finished_kept keep_met weaker x old))

    new_open : (k : ℕ) → k < 256 → s'.root k < n → Opened g s' k
    new_open k hk h = ⊎_elim here there (was_open k hk h)
      where
        here : k ≡ l → Opened g s' k
        here e =
            let o : s'.root k ≡ r = rw e P.root.here in
            record { grey = rw (o, e) root_grey; own = rw o root_own }

        there : s.root k < n → Opened g s' k
        there m =
            let o = keep_root k hk m in
            let old = S.open_root k hk m in
            record {
              grey = rw o old.grey;
              own = rw o (keep (s.root k) m (rw old.own m) ∙ old.own);
            }

    new_idle : (k : ℕ) → k < 256 → n ≤ s'.root k → s'.head k ≡ s'.tail k
    new_idle k hk h = ⊎_elim here there (equal_or_not k l)
      where
        here : k ≡ l → s'.head k ≡ s'.tail k
        here e = let o : s'.root k ≡ r = rw e P.root.here in absurd (omega (arith, root_in))

        there : (k ≡ l → ⊥) → s'.head k ≡ s'.tail k
        there ne = P.head k ∙ S.idle k hk (rw (P.root.there k hk ne) at h) ∙ sym (P.tail.there k hk ne)

    new_waiting : (k i : ℕ) → k < 256 → s'.head k ≤ i → i < s'.tail k → s'.par (s'.ord i) ≡ s'.root k
    new_waiting k i hk lo_i hi_i = ⊎_elim here there (was_in k i hk hi_i)
      where
        here : (k ≡ l) × (i ≡ s.tail l) → s'.par (s'.ord i) ≡ s'.root k
        here w = rw (w.0, w.1, P.ord.here) (P.par.here ∙ sym P.root.here)

        there : i < s.tail k → s'.par (s'.ord i) ≡ s'.root k
        there h =
            let from : s.head k ≤ i = rw (P.head k) at lo_i in
            let old = S.placed k i hk from h in
            let w = S.waiting k i hk from h in
            rw
            (keep_ord k i hk from h)
            (keep (s.ord i) old.within old.met ∙ w ∙ sym (keep_root k hk (rw w at old.met)))

    new_rooted : (x : ℕ) → x < n → s'.par x < n → Rooted n g s'.par x
    new_rooted x hx h = ⊎_elim here there (was_met x hx h)
      where
        here : x ≡ q → Rooted n g s'.par x
        here e =
            let o : s'.par x ≡ r = rw e P.par.here in
            let gx : g x ≡ l = ap g e ∙ grey_q in
            record {
              within = rw (o, root_own) root_in;
              dim = rw (o, root_grey, gx) (omega arith);
              node = rw o (inl root_own);
            }

        there : s.par x < n → Rooted n g s'.par x
        there m =
            let old = S.rooted x hx m in
            let o = keep x hx m in
            let oo = keep (s.par x) m old.within in
            record {
              within = rw (o, oo) old.within;
              dim = rw o old.dim;
              node = rw (o, oo) old.node;
            }

    new_links : Reaches n adj g s l q → (h : ℕ) (G : Adjacency) → Contains n adj g h G → Links n g s' h G
    new_links reach h G C = record { up = up; across = across }
      where
        old : Links n g s h G
        old = S.links h G C

        anchor : h ≤ l → (k : ℕ) → k < 256 → s'.root k < n → h ≤ k → Joined G q (s'.root k)
        anchor hl k hk o lk =
            by_cases
            (equal_or_not k l)
            (λ e.
            rw
            (e, P.root.here)
            (by_cases P.root_is (λ w. rw w.1 (reach h G C hl l lo w.0 hl)) (λ w. rw w.1 same)))
            (λ ne.
            let z = P.root.there k hk ne in
            rw z (reach h G C hl k hk (rw z at o) lk))

        up : (x : ℕ) → x < n → s'.par x < n → h ≤ g (s'.par x) → Joined G x (s'.par x)
        up x hx m d =
            by_cases
            (was_met x hx m)
            (λ e.
            let o : s'.par x ≡ r = rw e P.par.here in
            let hl : h ≤ l = rw (o, root_grey) at d in
            rw (o, e) (rw P.root.here at (anchor hl l lo (rw P.root.here root_in) hl)))
            (λ w. let z = keep x hx w in rw z (old.up x hx w (rw z at d)))

        across :
            (k m : ℕ) → k < 256 → m < 256 → s'.root k < n → s'.root m < n → h ≤ k → h ≤ m
            → Joined G (s'.root k) (s'.root m)
        across k m hk hm ok om lk lm =
            by_cases
            (below_or_not l h)
            (λ dark.
            let zk = P.root.there k hk (λ e. omega arith) in
            let zm = P.root.there m hm (λ e. omega arith) in
            rw (zk, zm) (old.across k m hk hm (rw zk at ok) (rw zm at om) lk lm))
            (λ hl. then (back (anchor hl k hk ok lk)) (anchor hl m hm om lm))

    pub met_sound : ((x : ℕ) → x < n → g x < 256) → Reaches n adj g s l q → Sound n adj g s'
    met_sound byte reach =
        record {
          range = λ x hx.
              by_cases
              (equal_or_not x q)
              (λ e. rw (e, P.par.here) (omega (arith, root_in)))
              (λ ne. rw (P.par.there x hx ne) (S.range x hx));
          roots = λ k hk.
              by_cases
              (equal_or_not k l)
              (λ e. rw (e, P.root.here) (omega (arith, root_in)))
              (λ ne. rw (P.root.there k hk ne) (S.roots k hk));
          room = new_room;
          low = λ k hk. rw (P.head k) (S.low k hk);
          high = λ k hk. rw (P.head k) (omega (arith, S.high k hk, tail_up k hk));
          placed = new_placed;
          met = λ x hx. new_met x (byte x hx) hx;
          open_root = new_open;
          idle = new_idle;
          waiting = new_waiting;
          rooted = new_rooted;
          links = new_links reach;
        }

    -- the flood goes on at the brighter of the two levels
    pub met_at :
        (c c' : ℕ) → At n s c → ((c < l) × (c' ≡ l)) ⊎ ((l ≤ c) × (c' ≡ c)) → At n s' c'
    met_at c c' A which =
        record {
          level = by_cases which (λ w. rw w.1 lo) (λ w. rw w.1 A.level);
          open_here =
              by_cases
              which
              (λ w. rw (w.1, P.root.here) root_in)
              (λ w. rw (w.1, keep_root c A.level A.open_here) A.open_here);
          top = λ k hk o.
              let ge : (l ≤ c') × (c ≤ c') = by_cases which (λ w. omega arith) (λ w. omega arith) in
              by_cases (was_open k hk o) (λ e. omega arith) (λ w. omega (arith, A.top k hk w));
          busy = λ k hk o.
              rw
              (P.head k)
              (by_cases
              (was_open k hk o)
              (λ e. rw e (omega (arith, P.tail.here, S.high l lo)))
              (λ w. omega (arith, A.busy k hk w, tail_up k hk)));
          first = keep_met 0 (omega arith) A.first;
        }

    -- the place of a waiting pixel stays
    pub met_ord : (k : ℕ) → k < 256 → s.head k < s.tail k → s'.ord (s.head k) ≡ s.ord (s.head k)
    met_ord k hk h = keep_ord k (s.head k) hk (omega arith) h

-- an unmet neighbour of the pixel at the head of the brightest open level
pub reaches :
    {n : ℕ} {adj : Adjacency} {g : ℕ → ℕ} {s : State} {c p q : ℕ} → Sound n adj g s → At n s c → s.ord (s.head c) ≡ p
    → q < n → adj p q ≡ true → Reaches n adj g s (g q) q
reaches {n} {g = g} {s = s} {c} {p} {q} S A here hq a h G C hl k hk o lk =
    let busy = A.busy c A.level A.open_here in
    let P = S.placed c (s.head c) A.level (omega arith) busy in
    let hp : p < n = rw here at P.within in
    let gp : g p ≡ c = rw here at P.grey in
    let w : s.par p ≡ s.root c = rw here at (S.waiting c (s.head c) A.level (omega arith) busy) in
    let hc : h ≤ c = omega (arith, A.top k hk o) in
    let L = S.links h G C in
    let up : Joined G p (s.root c) =
    rw
    w
    at
    (L.up p hp (rw w A.open_here) (rw (w, (S.open_root c A.level A.open_here).grey) hc))
    in
    then (back (C p q hp hq a (rw gp hc) hl)) (then up (L.across c k A.level hk A.open_here o hc lk))
