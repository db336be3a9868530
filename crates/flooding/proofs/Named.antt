-- Numbers that stand for the parent words and the roots of the open levels: before the first pixel is met they do, and what such numbers
-- say of each other.
use Prim.Native.Nat.{ℕ, suc, ◌≤◌, ◌<◌}
use mathlib.Core.Bool.{Bool, true, false}
use mathlib.Core.Path.{◌≡◌, refl, sym, ap, ◌∙◌}
use native.Mathlib.Omega.{arith}
use lib.Dec.{eqb, ltb}
use borrow.Author.Tests.{eq-eqb, ne_eqb, lt-ltb, le-ltb}
use Rattle.sets.specs.Sets.{count}
use Rattle.sets.proofs.Laws.{count_le, count_none, count_some}
use Rattle.levels.specs.Tables.{Changed}
use Rattle.levels.proofs.Counts.{by_cases, below_or_not, count_without}
use Rattle.flooding.specs.Numbers.{changed, Numbers, Named, Numbering}

pub changed_once : (n : ℕ) (f : ℕ → ℕ) (a v : ℕ) → Changed n f (changed f a v) a v
unfolding changed
changed_once n f a v =
    record { here = rw (eq-eqb a a refl) refl; there = λ x hx ne. rw (ne_eqb x a ne) refl }

-- no pixel has a number
pub named_none :
    {n : ℕ} (g first : ℕ → ℕ) {par root : ℕ → ℕ} {w : Numbers} → ((q : ℕ) → q < n → w.num q ≡ n)
    → ((l : ℕ) → l < 256 → w.open_at l ≡ n) → w.taken ≡ 0 → w.done ≡ 0 → ((q : ℕ) → q < n → par q ≡ n)
    → ((l : ℕ) → l < 256 → root l ≡ n) → Named n g first par root w
named_none {n} g first {w = w} unmet no_open none_taken none_done pars roots =
    record {
      few = omega (arith, count_le n (λ (q : ℕ). eqb (w.num q) n));
      balance = omega (arith, count_none 256 (λ (l : ℕ). ltb (w.open_at l) n) (λ l h. le-ltb (w.open_at l) n (omega (arith, no_open l h))));
      range = λ q h. omega (arith, unmet q h);
      met = λ q h m. absurd (omega (arith, unmet q h));
      unmet = λ q h e. pars q h;
      firsts = λ k h. absurd (omega arith);
      others = λ q h m ne. absurd (omega (arith, unmet q h));
      opens = λ l h. omega (arith, no_open l h);
      open_node = λ l h o. absurd (omega (arith, no_open l h));
      no_node = λ l h e. roots l h;
      closed_node = λ k h shut. absurd (omega arith);
      closed_within = λ i h. absurd (omega arith);
      not_open = λ i h o. omega arith;
      once = λ i j h h' e. omega arith;
      later = λ i h. absurd (omega arith);
      drops = λ i h. absurd (omega arith);
    }

-- a table after a store, and what a test counts in it where the entry passed and passes no more
pub turned_back : {n : ℕ} {f f' : ℕ → ℕ} {a v : ℕ} → Changed n f f' a v → Changed n f' f a (f a)
turned_back C = record { here = refl; there = λ x hx ne. sym (C.there x hx ne) }

pub count_stored :
    (n : ℕ) (test : ℕ → Bool) {f f' : ℕ → ℕ} {a v : ℕ} → Changed n f f' a v → a < n → test (f a) ≡ true → test v ≡ false
    → count n (λ (x : ℕ). test (f x)) ≡ suc (count n (λ (x : ℕ). test (f' x)))
count_stored n test C h passed fails = count_without n _ _ _ h passed (ap test C.here ∙ fails) (λ x hx ne. ap test (C.there x hx ne))

module _ {n : ℕ} {g first par root : ℕ → ℕ} {w : Numbers} (N : Named n g first par root w) where
  pub taken_le : w.taken ≤ n
  taken_le = omega (arith, N.few)

  -- while a pixel is not met, a number is left
  pub taken_fits : {q : ℕ} → q < n → w.num q ≡ n → w.taken < n
  taken_fits {q} h new = omega (arith, N.few, count_some n (λ (x : ℕ). eqb (w.num x) n) q h (eq-eqb (w.num q) n new))

  pub pushed_number_fits : {w' : Numbers} {l q k : ℕ} → Numbering n l q k w w' → q < n → w.num q ≡ n → k < n
  pushed_number_fits P h new = by_cases P.which (λ o. omega arith) (λ f. omega (arith, taken_fits h new))

  -- while a node is open, there is a place for it in the order of closing
  pub close_fits : {l : ℕ} → l < 256 → w.open_at l < n → w.done < n
  close_fits {l} h o =
      omega (arith, N.balance, taken_le, count_some 256 (λ (j : ℕ). ltb (w.open_at j) n) l h (lt-ltb (w.open_at l) n o))

  -- a met pixel has a number, and an open level the number of its node
  pub met_number : (q : ℕ) → q < n → par q < n → w.num q < w.taken
  met_number q h m =
      by_cases
      (below_or_not (w.num q) n)
      (λ b. (N.met q h b).number)
      (λ ge. absurd (omega (arith, N.unmet q h (omega (arith, N.range q h)))))

  pub open_number : (l : ℕ) → l < 256 → root l < n → w.open_at l < n
  open_number l h o =
      by_cases (below_or_not (w.open_at l) n) (λ b. b) (λ ge. absurd (omega (arith, N.no_node l h (omega (arith, N.opens l h)))))

  -- the first pixel of a number is met
  pub first_met : (j q : ℕ) → j < w.taken → w.num q ≡ n → first j ≡ q → ⊥
  first_met j q h new e = let z : w.num q ≡ j = rw e at (N.firsts j h).own in omega (arith, taken_le)

  -- the root of an open level is a pixel
  pub open_root : (l : ℕ) → l < 256 → w.open_at l < n → root l < n
  open_root l h o = let O = N.open_node l h o in rw O.root_is (N.firsts (w.open_at l) O.number).within
