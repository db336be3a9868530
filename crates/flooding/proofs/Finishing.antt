-- The pixel at the head of the current level is finished once all its neighbours are met: the head moves on.
use Prim.Native.Nat.{ℕ, suc, ◌≤◌, ◌<◌}
use mathlib.Core.Bool.{true}
use mathlib.Core.Logic.{◌⊎◌, inl, inr}
use mathlib.Core.Path.{◌≡◌, sym, ap, ◌∙◌}
use native.Mathlib.Omega.{arith}
use Rattle.connected.specs.Component.{Adjacency, Symmetric}
use Rattle.levels.specs.Tables.{Changed}
use Rattle.levels.proofs.Counts.{by_cases, equal_or_not, below_or_not}
use Rattle.flooding.specs.Flooding.{Joined, back, then, State, Links, Finished, Waits, Sound, At}
use Rattle.flooding.proofs.Meeting.{finished_kept}

-- the same state with other heads
abbrev pub with_heads : State → (ℕ → ℕ) → State
with_heads s head = record { par = s.par; ord = s.ord; head = head; tail = s.tail; root = s.root }

-- level l is open with nothing waiting, and no brighter level is open
pub record Empty (n : ℕ) (s : State) (l : ℕ) : Type 0 where
  pub level : l < 256
  pub open_here : s.root l < n
  pub top : (k : ℕ) → k < 256 → s.root k < n → k ≤ l
  pub busy : (k : ℕ) → k < 256 → s.root k < n → (k ≡ l → ⊥) → s.head k < s.tail k
  pub drained : s.head l ≡ s.tail l
  pub first : s.par 0 < n

module _ {n : ℕ} {adj : Adjacency} {g : ℕ → ℕ} {s : State} (S : Sound n adj g s) (byte : (x : ℕ) → x < n → g x < 256)
    (flip : Symmetric adj) {c p : ℕ} (A : At n s c) (here : s.ord (s.head c) ≡ p)
    (all_met : (q : ℕ) → q < n → adj p q ≡ true → s.par q < n)
  where
    waits : s.head c < s.tail c
    waits = A.busy c A.level A.open_here

    in_p : p < n
    in_p = rw here at (S.placed c (s.head c) A.level (omega arith) waits).within

    grey_p : g p ≡ c
    grey_p = rw here at (S.placed c (s.head c) A.level (omega arith) waits).grey

    root_p : s.par p ≡ s.root c
    root_p = rw here at (S.waiting c (s.head c) A.level (omega arith) waits)

    -- a waiting pixel is joined to its level's root
    to_root :
        (h : ℕ) (G : Adjacency) → Links n g s h G → (x k : ℕ) → x < n → k < 256 → s.root k < n → s.par x ≡ s.root k → h ≤ k
        → Joined G x (s.root k)
    to_root h G L x k hx hk o e lk =
        rw e at (L.up x hx (rw e o) (rw (e, (S.open_root k hk o).grey) lk))

    joins :
        (q : ℕ) → q < n → adj p q ≡ true → (h : ℕ) (G : Adjacency) → Links n g s h G → h ≤ g p → h ≤ g q → Joined G p q
    joins q hq a h G L lp lq =
        let k = g q in
        let hk = byte q hq in
        by_cases
        (S.met q hq (all_met q hq a))
        (λ at.
        let w : s.par q ≡ s.root k = rw at.holds at (S.waiting k at.at hk at.low at.high) in
        let o : s.root k < n = rw w at (all_met q hq a) in
        let hc : h ≤ c = rw grey_p at lp in
        then
        (to_root h G L p c in_p A.level A.open_here root_p hc)
        (then
        (L.across c k A.level hk A.open_here o hc lq)
        (back (to_root h G L q k hq hk o w lq))))
        (λ done. back (done.joined p in_p (flip p q a) h G L lq lp))

    module _ {head' : ℕ → ℕ} (H : Changed 256 s.head head' c (suc (s.head c))) where
      same_links : (h : ℕ) (G : Adjacency) → Links n g (with_heads s head') h G → Links n g s h G
      same_links h G L = record { up = L.up; across = L.across }

      keep_finished : (x : ℕ) → Finished n adj g s x → Finished n adj g (with_heads s head') x
      keep_finished = finished_kept (λ x hx h. h) same_links

      head_up : (k : ℕ) → k < 256 → s.head k ≤ head' k
      head_up k hk =
          by_cases
          (equal_or_not k c)
          (λ e. rw e (omega (arith, H.here)))
          (λ ne. omega (arith, H.there k hk ne))

      -- a pixel that waits does so still, unless it is the one that is finished
      new_met : (x : ℕ) → x < n → s.par x < n → Waits g (with_heads s head') x ⊎ Finished n adj g (with_heads s head') x
      new_met x hx m =
          by_cases
          (S.met x hx m)
          (λ old.
          by_cases
          (below_or_not old.at (head' (g x)))
          (λ passed. inr (rw (sym old.holds ∙ at_head old passed ∙ here) (keep_finished p (record { met = all_met; joined = joins }))))
          (λ still. inl (record { at = old.at; low = still; high = old.high; holds = old.holds })))
          (λ old. inr (keep_finished x old))
        where
          at_head : (old : Waits g s x) → old.at < head' (g x) → s.ord old.at ≡ s.ord (s.head c)
          at_head old passed =
              by_cases
              (equal_or_not (g x) c)
              (λ e.
              let top : head' (g x) ≡ suc (s.head c) = rw e H.here in
              let hd : s.head (g x) ≡ s.head c = ap s.head e in
              ap s.ord (omega (arith, old.low)))
              (λ ne. absurd (omega (arith, old.low, H.there (g x) (byte x hx) ne)))

      pub finished_sound : Sound n adj g (with_heads s head')
      finished_sound =
          record {
            range = S.range;
            roots = S.roots;
            room = S.room;
            low = λ k hk. omega (arith, S.low k hk, head_up k hk);
            high = λ k hk.
                by_cases
                (equal_or_not k c)
                (λ e. rw e (omega (arith, H.here, waits)))
                (λ ne. rw (H.there k hk ne) (S.high k hk));
            placed = λ k i hk lo hi.
                let old = S.placed k i hk (omega (arith, head_up k hk)) hi in
                record { within = old.within; grey = old.grey; met = old.met };
            met = new_met;
            open_root = λ k hk o.
                let old = S.open_root k hk o in
                record { grey = old.grey; own = old.own };
            idle = λ k hk o.
                H.there k hk (λ e. let z : s.root k ≡ s.root c = ap s.root e in omega (arith, A.open_here))
                ∙ S.idle k hk o;
            waiting = λ k i hk lo hi. S.waiting k i hk (omega (arith, head_up k hk)) hi;
            rooted = S.rooted;
            links = λ h G C.
                let L = S.links h G C in
                record { up = L.up; across = L.across };
          }

      -- the queue has more
      pub finished_at : (head' c ≡ s.tail c → ⊥) → At n (with_heads s head') c
      finished_at more =
          record {
            level = A.level;
            open_here = A.open_here;
            top = A.top;
            busy = λ k hk o.
                by_cases
                (equal_or_not k c)
                (λ e. rw e (omega (arith, H.here, waits)))
                (λ ne. rw (H.there k hk ne) (A.busy k hk o));
            first = A.first;
          }

      -- the queue is empty
      pub finished_empty : head' c ≡ s.tail c → Empty n (with_heads s head') c
      finished_empty none_left =
          record {
            level = A.level;
            open_here = A.open_here;
            top = A.top;
            busy = λ k hk o ne. rw (H.there k hk ne) (A.busy k hk o);
            drained = none_left;
            first = A.first;
          }
