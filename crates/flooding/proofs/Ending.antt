-- The last node is closed: no pixel waits, so every met pixel is finished. Since each pixel but the first has a neighbour before it,
-- every pixel is met.
use Prim.Native.Nat.{ℕ, zero, suc, ◌≤◌, ◌<◌}
use mathlib.Core.Bool.{true}
use mathlib.Core.Path.{◌≡◌}
use native.Mathlib.Omega.{arith}
use Rattle.connected.specs.Component.{Adjacency}
use Rattle.levels.proofs.Counts.{by_cases, below_or_not}
use Rattle.flooding.specs.Flooding.{same, State, Finished, Sound, Flooded}
use Rattle.flooding.proofs.Finishing.{Empty}

module _ {n : ℕ} {adj : Adjacency} {g : ℕ → ℕ} {s : State} (S : Sound n adj g s) (byte : (x : ℕ) → x < n → g x < 256) {l : ℕ}
    (E : Empty n s l) (none_below : (k : ℕ) → k < l → n ≤ s.root k)
    (linked : (q : ℕ) → 0 < q → q < n → (r : ℕ) × (r < q) × (adj r q ≡ true))
  where
    only : (k : ℕ) → k < 256 → s.root k < n → k ≡ l
    only k hk o =
        by_cases (below_or_not k l) (λ kl. absurd (omega (arith, none_below k kl))) (λ ge. omega (arith, E.top k hk o))

    drained : (k : ℕ) → k < 256 → s.head k ≡ s.tail k
    drained k hk =
        by_cases
        (below_or_not (s.root k) n)
        (λ o. rw (only k hk o) E.drained)
        (λ closed. S.idle k hk closed)

    finished : (q : ℕ) → q < n → s.par q < n → Finished n adj g s q
    finished q hq m =
        by_cases (S.met q hq m) (λ w. absurd (omega (arith, w.low, w.high, drained (g q) (byte q hq)))) (λ f. f)

    -- by position, through a neighbour before it
    met_below : (k q : ℕ) → q < k → q < n → s.par q < n
    met_below zero q h hq = absurd (omega arith)
    met_below (suc k) zero h hq = E.first
    met_below (suc k) (suc q) h hq =
        let r = linked (suc q) (omega arith) hq in
        (finished r.0 (omega arith) (met_below k r.0 (omega arith) (omega arith))).met (suc q) hq r.2

    met : (q : ℕ) → q < n → s.par q < n
    met q hq = met_below (suc q) q (omega arith) hq

    pub ends : Flooded n adj g s.par
    ends =
        record {
          within = met;
          rooted = λ q hq. S.rooted q hq (met q hq);
          links = λ h G C q hq d. (S.links h G C).up q hq (met q hq) d;
          edges = λ h G up p q hp hq a lp lq.
              (finished p hp (met p hp)).joined q hq a h G
              (record {
                up = λ x hx m d. up x hx d;
                across = λ k m hk hm ok om lk lm. rw (only k hk ok, only m hm om) same;
              })
              lp
              lq;
        }
