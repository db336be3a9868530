-- A pixel of the current level that is met when all other neighbours of the pixel at the head are: it takes that one's place, and the
-- flood goes on at it. That is a pixel met and the one at the head finished, up to the order of the pixels that wait, which is free.
use Prim.Native.Nat.{ℕ, suc, ◌≤◌, ◌<◌}
use mathlib.Core.Bool.{true}
use mathlib.Core.Logic.{◌⊎◌, inl, inr}
use mathlib.Core.Path.{◌≡◌, refl, sym, ◌∙◌}
use native.Mathlib.Omega.{arith}
use Rattle.connected.specs.Component.{Adjacency, Symmetric}
use Rattle.levels.specs.Levels.{darker}
use Rattle.levels.specs.Tables.{Changed}
use Rattle.levels.proofs.Counts.{by_cases, equal_or_not, below_or_not, darker_mono}
use Rattle.flooding.specs.Flooding.{State, Waits, Finished, Sound, At, Pushed}
use Rattle.flooding.specs.Numbers.{changed}
use Rattle.flooding.proofs.Finishing.{with_heads, finished_sound}
use Rattle.flooding.proofs.Meeting.{tail_le, finished_kept, keep_met, keep_ord, met_sound, met_at, met_ord, reaches}
use Rattle.flooding.proofs.Named.{changed_once}

-- the same state with other runs
abbrev with_runs : State → (ℕ → ℕ) → (ℕ → ℕ) → (ℕ → ℕ) → State
with_runs s ord head tail = record { par = s.par; ord = ord; head = head; tail = tail; root = s.root }

-- a pixel waits at the place i of level k
abbrev Waiting : State → ℕ → ℕ → Type 0
Waiting s k i = (s.head k ≤ i) × (i < s.tail k)

-- runs in which the same pixels wait, and which end no later
record Rearranged (n : ℕ) (g : ℕ → ℕ) (s s' : State) : Type 0 where
  low : (k : ℕ) → k < 256 → darker n g k ≤ s'.head k
  high : (k : ℕ) → k < 256 → s'.head k ≤ s'.tail k
  within : (k : ℕ) → k < 256 → s'.tail k ≤ s.tail k
  from : (k i : ℕ) → k < 256 → Waiting s' k i → (j : ℕ) × Waiting s k j × (s'.ord i ≡ s.ord j)
  to : (k j : ℕ) → k < 256 → Waiting s k j → (i : ℕ) × Waiting s' k i × (s'.ord i ≡ s.ord j)

rearranged :
    {n : ℕ} {adj : Adjacency} {g : ℕ → ℕ} {s : State} {ord head tail : ℕ → ℕ} → ((x : ℕ) → x < n → g x < 256) → Sound n adj g s
    → Rearranged n g s (with_runs s ord head tail) → Sound n adj g (with_runs s ord head tail)
rearranged {n} {adj} {g} {s} {ord} {head} {tail} byte S E =
    record {
      range = S.range;
      roots = S.roots;
      room = λ k hk. omega (arith, S.room k hk, E.within k hk);
      low = E.low;
      high = E.high;
      placed = λ k i hk lo hi.
          let (j, w, e) = E.from k i hk (lo, hi) in
          let old = S.placed k j hk w.0 w.1 in
          record { within = rw e old.within; grey = rw e old.grey; met = rw e old.met };
      met = λ x hx m. by_cases (S.met x hx m) (waits x hx) (λ f. inr (kept x f));
      open_root = λ k hk o.
          let old = S.open_root k hk o in
          record { grey = old.grey; own = old.own };
      idle = λ k hk o.
          by_cases
          (below_or_not (head k) (tail k))
          (λ some. let (j, w, e) = E.from k (head k) hk (omega arith, some) in absurd (omega (arith, w, S.idle k hk o)))
          (λ none. omega (arith, E.high k hk));
      waiting = λ k i hk lo hi.
          let (j, w, e) = E.from k i hk (lo, hi) in
          rw e (S.waiting k j hk w.0 w.1);
      rooted = S.rooted;
      links = λ h G C.
          let L = S.links h G C in
          record { up = L.up; across = L.across };
    }
  where
    s' : State
    s' = with_runs s ord head tail

    kept : (x : ℕ) → Finished n adj g s x → Finished n adj g s' x
    kept = finished_kept (λ x hx h. h) (λ h G L. record { up = L.up; across = L.across })

    waits : (x : ℕ) → x < n → Waits g s x → Waits g s' x ⊎ Finished n adj g s' x
    waits x hx old =
        let (i, w, e) = E.to (g x) old.at (byte x hx) (old.low, old.high) in
        inl (record { at = i; low = w.0; high = w.1; holds = e ∙ old.holds })

module _ {n : ℕ} {adj : Adjacency} {g : ℕ → ℕ} {s : State} (S : Sound n adj g s) (byte : (x : ℕ) → x < n → g x < 256)
    (flip : Symmetric adj) {c p q : ℕ} (A : At n s c) (here : s.ord (s.head c) ≡ p) (in_q : q < n) (grey_q : g q ≡ c)
    (new : s.par q ≡ n) (next : adj p q ≡ true) (others : (x : ℕ) → x < n → adj p x ≡ true → (x ≡ q → ⊥) → s.par x < n)
    {par' ord' root' : ℕ → ℕ} (P : Changed n s.par par' q (s.root c)) (O : Changed n s.ord ord' (s.head c) q)
    (R : Changed 256 s.root root' c (s.root c))
  where
    lo : c < 256
    lo = A.level

    waits_p : s.head c < s.tail c
    waits_p = A.busy c lo A.open_here

    -- q is met
    abbrev met : State
    met =
        record {
          par = par';
          ord = changed s.ord (s.tail c) q;
          head = s.head;
          tail = changed s.tail c (suc (s.tail c));
          root = root';
        }

    pushed : Pushed n c q (s.root c) s met
    pushed =
        record {
          root_is = inl (A.open_here, refl);
          par = P;
          ord = changed_once n s.ord (s.tail c) q;
          tail = changed_once 256 s.tail c (suc (s.tail c));
          root = R;
          head = λ k. refl;
        }

    sound_met : Sound n adj g met
    sound_met = met_sound S lo in_q grey_q new pushed byte (rw grey_q at (reaches S A here in_q next))

    at_met : At n met c
    at_met = met_at S lo in_q grey_q new pushed c c A (inr (omega arith, refl))

    all_met : (x : ℕ) → x < n → adj p x ≡ true → par' x < n
    all_met x hx a =
        by_cases
        (equal_or_not x q)
        (λ e. rw (e, P.here) A.open_here)
        (λ ne. keep_met S lo in_q grey_q new pushed x hx (others x hx a ne))

    -- and p is finished
    abbrev left : State
    left = with_heads met (changed s.head c (suc (s.head c)))

    sound_left : Sound n adj g left
    sound_left =
        finished_sound
        sound_met
        byte
        flip
        at_met
        (met_ord S lo in_q grey_q new pushed c lo waits_p ∙ here)
        all_met
        (changed_once 256 s.head c (suc (s.head c)))

    -- the place of p is q's, and all else stays
    abbrev followed : State
    followed = record { par = par'; ord = ord'; head = s.head; tail = s.tail; root = root' }

    -- a place at which a pixel waits, other than that of p, holds what it held
    apart : (k i : ℕ) → k < 256 → Waiting s k i → (i ≡ s.head c → ⊥) → ord' i ≡ left.ord i
    apart k i hk w ne =
        O.there i (omega (arith, w, tail_le S k hk)) ne ∙ sym (keep_ord S lo in_q grey_q new pushed k i hk w.0 w.1)

    -- the place of p is in no other run
    other_run : (k i : ℕ) → k < 256 → (k ≡ c → ⊥) → Waiting s k i → i ≡ s.head c → ⊥
    other_run k i hk ne w e =
        by_cases
        (below_or_not k c)
        (λ darker_run. omega (arith, w, S.room k hk, S.low c lo, darker_mono n g (suc k) c darker_run))
        (λ ge. omega (arith, w, waits_p, S.room c lo, S.low k hk, darker_mono n g (suc c) k (omega arith)))

    abbrev ends : Changed 256 s.tail left.tail c (suc (s.tail c))
    ends = changed_once 256 s.tail c (suc (s.tail c))

    abbrev heads : Changed 256 s.head left.head c (suc (s.head c))
    heads = changed_once 256 s.head c (suc (s.head c))

    last_is : left.ord (s.tail c) ≡ q
    last_is = (changed_once n s.ord (s.tail c) q).here

    moved : Rearranged n g left followed
    moved =
        record {
          low = S.low;
          high = S.high;
          within = λ k hk.
              by_cases (equal_or_not k c) (λ e. rw e (omega (arith, ends.here))) (λ ne. omega (arith, ends.there k hk ne));
          from = λ k i hk w. by_cases (equal_or_not k c) (from_here k i w) (from_there k i hk w);
          to = λ k j hk w. by_cases (equal_or_not k c) (to_here k j w) (to_there k j hk w);
        }
      where
        from_here : (k i : ℕ) → Waiting followed k i → k ≡ c → (j : ℕ) × Waiting left k j × (ord' i ≡ left.ord j)
        from_here k i w e =
            let v : Waiting s c i = rw e at w in
            rw e (by_cases
            (equal_or_not i (s.head c))
            (λ z. (s.tail c, (omega (arith, heads.here, waits_p), omega (arith, ends.here)), rw z (O.here ∙ sym last_is)))
            (λ ne. (i, (omega (arith, heads.here, v), omega (arith, ends.here, v)), apart c i lo v ne)))

        from_there :
            (k i : ℕ) → k < 256 → Waiting followed k i → (k ≡ c → ⊥) → (j : ℕ) × Waiting left k j × (ord' i ≡ left.ord j)
        from_there k i hk w ne =
            (i, (rw (heads.there k hk ne) w.0, rw (ends.there k hk ne) w.1), apart k i hk w (other_run k i hk ne w))

        to_here : (k j : ℕ) → Waiting left k j → k ≡ c → (i : ℕ) × Waiting followed k i × (ord' i ≡ left.ord j)
        to_here k j w e =
            let v : Waiting left c j = rw e at w in
            rw e (by_cases
            (equal_or_not j (s.tail c))
            (λ z. (s.head c, (omega arith, waits_p), rw z (O.here ∙ sym last_is)))
            (λ ne.
            let u : Waiting s c j = (omega (arith, heads.here, v), omega (arith, ends.here, v, ne)) in
            (j, u, apart c j lo u (λ z. omega (arith, heads.here, v)))))

        to_there :
            (k j : ℕ) → k < 256 → Waiting left k j → (k ≡ c → ⊥) → (i : ℕ) × Waiting followed k i × (ord' i ≡ left.ord j)
        to_there k j hk w ne =
            let u : Waiting s k j = (rw (heads.there k hk ne) at w.0, rw (ends.there k hk ne) at w.1) in
            (j, u, apart k j hk u (other_run k j hk ne u))

    pub followed_sound : Sound n adj g followed
    followed_sound = rearranged byte sound_left moved

    pub followed_at : At n followed c
    followed_at =
        record {
          level = lo;
          open_here = at_met.open_here;
          top = at_met.top;
          busy = λ k hk o.
              by_cases
              (equal_or_not k c)
              (λ e. rw e waits_p)
              (λ ne. rw (ends.there k hk ne) at (at_met.busy k hk o));
          first = at_met.first;
        }
