-- Before the first pixel is met nothing is: every parent is n, no level is open, and every queue is empty at its run's start.
use Prim.Native.Nat.{ℕ, suc, ◌+◌, ◌<◌}
use mathlib.Core.Bool.{◌&&◌}
use mathlib.Core.Path.{◌≡◌, refl, sym, ap, ◌∙◌}
use native.Mathlib.Omega.{arith}
use lib.Dec.{eqb}
use borrow.Author.Tests.{eq-eqb}
use Rattle.sets.specs.Sets.{count}
use Rattle.sets.proofs.Laws.{count_ext}
use Rattle.connected.specs.Component.{Adjacency}
use Rattle.levels.specs.Levels.{darker}
use Rattle.levels.proofs.Counts.{by_cases, equal_or_not, darker_suc}
use Rattle.flooding.specs.Flooding.{State, unmet_count, Sound, At, Pushed}
use Rattle.flooding.proofs.Meeting.{met_sound}

-- nothing is met, and every queue is empty at its run's start
pub record Untouched (n : ℕ) (g : ℕ → ℕ) (s : State) : Type 0 where
  pub unmet_all : (q : ℕ) → q < n → s.par q ≡ n
  pub closed_all : (k : ℕ) → k < 256 → s.root k ≡ n
  pub heads : (k : ℕ) → k < 256 → s.head k ≡ darker n g k
  pub tails : (k : ℕ) → k < 256 → s.tail k ≡ darker n g k

module _ {n : ℕ} {g : ℕ → ℕ} {s : State} (B : Untouched n g s) where
  open B use {unmet_all, closed_all, heads, tails}

  all_room : (k : ℕ) → k < 256 → s.tail k + unmet_count n g s.par k ≡ darker n g (suc k)
  all_room k hk =
      let u : unmet_count n g s.par k ≡ count n (λ (q : ℕ). eqb (g q) k) =
      count_ext n _ _ (λ q hq. ap (λ b. b && eqb (g q) k) (eq-eqb (s.par q) n (unmet_all q hq)))
      in
      omega (arith, tails k hk, darker_suc n g k)

  pub begins : {adj : Adjacency} → Sound n adj g s
  begins =
      record {
        range = λ q h. omega (arith, unmet_all q h);
        roots = λ k h. omega (arith, closed_all k h);
        room = λ k h. omega (arith, all_room k h);
        low = λ k h. omega (arith, heads k h);
        high = λ k h. omega (arith, heads k h, tails k h);
        placed = λ k i h lo hi. absurd (omega (arith, heads k h, tails k h));
        met = λ q h m. absurd (omega (arith, unmet_all q h));
        open_root = λ k h o. absurd (omega (arith, closed_all k h));
        idle = λ k h o. heads k h ∙ sym (tails k h);
        waiting = λ k i h lo hi. absurd (omega (arith, heads k h, tails k h));
        rooted = λ q h m. absurd (omega (arith, unmet_all q h));
        links = λ h G C.
            record {
              up = λ q hq m d. absurd (omega (arith, unmet_all q hq));
              across = λ k m hk hm ok om lk lm. absurd (omega (arith, closed_all k hk));
            };
      }

  -- the first pixel
  module _ {s' : State} {r : ℕ} (byte : (x : ℕ) → x < n → g x < 256) (some : 0 < n) (P : Pushed n (g 0) 0 r s s') where
    pub first_sound : {adj : Adjacency} → Sound n adj g s'
    first_sound =
        met_sound
        begins
        (byte 0 some)
        some
        refl
        (unmet_all 0 some)
        P
        byte
        (λ h G C hl k hk o lk. absurd (omega (arith, closed_all k hk)))

    root_is : r ≡ 0
    root_is = by_cases P.root_is (λ w. absurd (omega (arith, closed_all (g 0) (byte 0 some)))) (λ w. w.1)

    pub first_at : At n s' (g 0)
    first_at =
        record {
          level = byte 0 some;
          open_here = rw (P.root.here, root_is) some;
          top = λ k hk o.
              by_cases
              (equal_or_not k (g 0))
              (λ e. omega arith)
              (λ ne. absurd (omega (arith, closed_all k hk, P.root.there k hk ne)));
          busy = λ k hk o.
              by_cases
              (equal_or_not k (g 0))
              (λ e. rw (P.head k, e, P.tail.here) (omega (arith, heads (g 0) (byte 0 some), tails (g 0) (byte 0 some))))
              (λ ne. absurd (omega (arith, closed_all k hk, P.root.there k hk ne)));
          first = rw (P.par.here, root_is) some;
        }
