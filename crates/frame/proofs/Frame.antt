-- The pass over the frame: one node marked, sets marked one after the other, and a run of pixels. Assumes nothing.
use Prim.Native.Nat.{ℕ, ◌+◌, ◌*◌, ◌≤◌, ◌<◌}
use mathlib.Core.Bool.{Bool, true, false, cond, ◌&&◌, ◌||◌}
use mathlib.Core.List.{List}
use mathlib.Core.Logic.{⊎_elim}
use mathlib.Core.Path.{◌≡◌, refl, sym, ap, ◌∙◌}
use native.Mathlib.Omega.{arith}
use lib.Dec.{eqb}
use lib.ListN.{length, set, length-set}
use lib.Seq.{get_or-set_same, get_or-set_other}
use borrow.Author.Tests.{eqb-true, eq-eqb}
use Rattle.sets.specs.Sets.{Positions, some_in}
use Rattle.sets.proofs.Laws.{some_in_intro, some_in_elim, some_in_ext}
use Rattle.sets.proofs.Tests.{clash, is_false, same_truth, and_left, and_right, and_both, or_cases, or_left, or_right}
use Rattle.levels.specs.Workspace.{Sized, number_at, numbered, held_of}
use Rattle.levels.proofs.Counts.{by_cases, equal_or_not}
use Rattle.parts.proofs.Parts.{lent, returned, lent_read, stored_in}
use Rattle.accumulators.specs.Accumulators.{framed}
use Rattle.accumulators.proofs.Accumulators.{framed_twice}
use Rattle.frame.specs.Frame.{node_marked, run, Markable, Marked}

-- a set meets the union of two exactly if it meets one of them
meets_either : (n : ℕ) (own s t u : Positions) → ((q : ℕ) → q < n → u q ≡ (s q || t q)) → some_in n (λ (q : ℕ). own q && u q) ≡ (some_in n (λ (q : ℕ). own q && s q) || some_in n (λ (q : ℕ). own q && t q))
meets_either n own s t u union =
    let su : Bool = some_in n (λ (q : ℕ). own q && s q) in
    let tu : Bool = some_in n (λ (q : ℕ). own q && t q) in
    same_truth
    _
    (su || tu)
    (λ e.
    let (q, b, both) = some_in_elim n (λ (q : ℕ). own q && u q) e in
    let mine : own q ≡ true = and_left (own q) (u q) both in
    let one : (s q || t q) ≡ true = sym (union q b) ∙ and_right (own q) (u q) both in
    ⊎_elim
    (λ h. or_left su tu (some_in_intro n (λ (q : ℕ). own q && s q) q b (and_both (own q) (s q) mine h)))
    (λ h. or_right su tu (some_in_intro n (λ (q : ℕ). own q && t q) q b (and_both (own q) (t q) mine h)))
    (or_cases (s q) (t q) one))
    (λ e.
    ⊎_elim
    (λ h.
    let (q, b, both) = some_in_elim n (λ (q : ℕ). own q && s q) h in
    some_in_intro n (λ (q : ℕ). own q && u q) q b
    (and_both (own q) (u q) (and_left (own q) (s q) both) (union q b ∙ or_left (s q) (t q) (and_right (own q) (s q) both))))
    (λ h.
    let (q, b, both) = some_in_elim n (λ (q : ℕ). own q && t q) h in
    some_in_intro n (λ (q : ℕ). own q && u q) q b
    (and_both (own q) (u q) (and_left (own q) (t q) both) (union q b ∙ or_right (s q) (t q) (and_right (own q) (t q) both))))
    (or_cases su tu e))

-- a mark is not seen twice
mark_both : (a : ℕ) (b c : Bool) (x : ℕ) → cond c (framed a (cond b (framed a x) x)) (cond b (framed a x) x) ≡ cond (b || c) (framed a x) x
mark_both a true true x = framed_twice a x
mark_both a true false x = refl
mark_both a false true x = refl
mark_both a false false x = refl

-- what two passes leave, one after the other
pub marked_then : {a n : ℕ} {s t : Positions} {ws ws' ws'' : List ℕ} (u : Positions) → Marked a n s ws ws' → Marked a n t ws' ws'' → ((q : ℕ) → q < n → u q ≡ (s q || t q)) → Marked a n u ws ws''
marked_then {a} {n} {s} {t} {ws} {ws'} u M N union =
    record {
      words = N.words ∙ M.words;
      before = λ k b. N.before k b ∙ M.before k b;
      lowests = λ k. N.lowests k ∙ M.lowests k;
      ups = λ k. N.ups k ∙ M.ups k;
      held =
          λ k b.
          let same : some_in n (λ (q : ℕ). numbered ws' k q && t q) ≡ some_in n (λ (q : ℕ). numbered ws k q && t q) =
          some_in_ext n _ _ (λ q c. ap (λ (j : ℕ). eqb j k && t q) (M.before q (omega arith))) in
          N.held k b
          ∙ rw (same, M.held k b)
          (mark_both a (some_in n (λ (q : ℕ). numbered ws k q && s q)) (some_in n (λ (q : ℕ). numbered ws k q && t q)) (held_of n ws k)
          ∙ ap (λ (e : Bool). cond e (framed a (held_of n ws k)) (held_of n ws k)) (sym (meets_either n (numbered ws k) s t u union)));
    }

-- no pixel is marked at first
pub marked_none : {a n : ℕ} {ws : List ℕ} (s : Positions) → ((q : ℕ) → q < n → s q ≡ false) → Marked a n s ws ws
marked_none {a} {n} {ws} s none =
    record {
      words = refl;
      before = λ k b. refl;
      lowests = λ k. refl;
      ups = λ k. refl;
      held =
          λ k b.
          let empty : some_in n (λ (q : ℕ). numbered ws k q && s q) ≡ false =
          is_false
          _
          (λ e.
          let (q, c, both) = some_in_elim n (λ (q : ℕ). numbered ws k q && s q) e in
          clash (s q) (and_right (numbered ws k q) (s q) both) (none q c)) in
          rw empty refl;
    }

-- the pixel q has the number of a node
record NumberedPixel (n q : ℕ) (ws : List ℕ) : Type 0 where
  sized : Sized n ws
  pixel : q < n
  node : number_at ws q < n

-- the words once the node of q is marked
abbrev marked_at : ℕ → ℕ → ℕ → List ℕ → List ℕ
marked_at a n q ws = set ws (3 * n + 3 * number_at ws q + 2) (framed a (held_of n ws (number_at ws q)))

-- so they are when the words of the nodes come back
part_marked : (a : ℕ) {n q : ℕ} {ws : List ℕ} → NumberedPixel n q ws → returned (3 * n) (6 * n) ws (node_marked a (number_at ws q) (lent (3 * n) (6 * n) ws)) ≡ marked_at a n q ws
part_marked a {n} {q} {ws} P =
    let k : ℕ = number_at ws q in
    let high : 6 * n ≤ length ws = omega (arith, P.sized.words) in
    let room : 3 * n + (3 * k + 2) < 6 * n = omega (arith, P.node) in
    let at : 3 * n + (3 * k + 2) ≡ 3 * n + 3 * k + 2 = omega arith in
    stored_in (3 * n) (6 * n) ws high (3 * k + 2) _ room
    ∙ rw (lent_read (3 * n) (6 * n) ws high (3 * k + 2) room, at) refl

-- one pixel q, whose node is marked
marked_one : {a n : ℕ} {ws : List ℕ} (q : ℕ) → NumberedPixel n q ws → Marked a n (eqb q) ws (marked_at a n q ws)
marked_one {a} {n} {ws} q P =
    let j : ℕ = number_at ws q in
    let i : ℕ = 3 * n + 3 * j + 2 in
    let v : ℕ = framed a (held_of n ws j) in
    let here : i < length ws = omega (arith, P.sized.words, P.node) in
    record {
      words = length-set ws i v;
      before = λ k b. get_or-set_other ws i k v 0 (λ z. omega arith);
      lowests = λ k. get_or-set_other ws i (3 * n + 3 * k) v 0 (λ z. omega arith);
      ups = λ k. get_or-set_other ws i (3 * n + 3 * k + 1) v 0 (λ z. omega arith);
      held =
          λ k b.
          by_cases
          (equal_or_not k j)
          (λ e.
          let mine : some_in n (λ (x : ℕ). numbered ws k x && eqb q x) ≡ true =
          some_in_intro n _ q P.pixel (and_both (numbered ws k q) (eqb q q) (eq-eqb j k (sym e)) (eq-eqb q q refl)) in
          rw (mine, e) (get_or-set_same ws i v 0 here))
          (λ ne.
          let other : some_in n (λ (x : ℕ). numbered ws k x && eqb q x) ≡ false =
          is_false
          _
          (λ e.
          let (x, c, both) = some_in_elim n (λ (x : ℕ). numbered ws k x && eqb q x) e in
          let is : q ≡ x = eqb-true q x (and_right (numbered ws k x) (eqb q x) both) in
          let its : number_at ws x ≡ k = eqb-true (number_at ws x) k (and_left (numbered ws k x) (eqb q x) both) in
          ne (sym its ∙ ap (number_at ws) (sym is))) in
          rw other (get_or-set_other ws i (3 * n + 3 * k + 2) v 0 (λ z. ne (omega arith))));
    }

-- a run of one pixel more
module _ (from step : ℕ) where
  pub run_in : (count i q : ℕ) → i < count → from + i * step ≡ q → run from step count q ≡ true
  run_in count i q b e = some_in_intro count (λ (i : ℕ). eqb (from + i * step) q) i b (eq-eqb (from + i * step) q e)

  pub run_is : (count q : ℕ) → run from step count q ≡ true → (i : ℕ) × (i < count) × (from + i * step ≡ q)
  run_is count q e =
      let (i, b, h) = some_in_elim count (λ (i : ℕ). eqb (from + i * step) q) e in
      (i, b, eqb-true (from + i * step) q h)

  pub run_none : (q : ℕ) → run from step 0 q ≡ false
  run_none q = is_false (run from step 0 q) (λ e. let (i, b, h) = run_is 0 q e in omega arith)

  pub run_more : (count q : ℕ) → run from step (count + 1) q ≡ (run from step count q || eqb (from + count * step) q)
  run_more count q =
      same_truth
      (run from step (count + 1) q)
      (run from step count q || eqb (from + count * step) q)
      (λ e.
      let (i, b, h) = run_is (count + 1) q e in
      by_cases
      (equal_or_not i count)
      (λ z. or_right (run from step count q) _ (eq-eqb (from + count * step) q (ap (λ (k : ℕ). from + k * step) (sym z) ∙ h)))
      (λ ne. or_left (run from step count q) _ (run_in count i q (omega arith) h)))
      (λ e.
      ⊎_elim
      (λ r. let (i, b, h) = run_is count q r in run_in (count + 1) i q (omega arith) h)
      (λ r. run_in (count + 1) count q (omega arith) (eqb-true (from + count * step) q r))
      (or_cases (run from step count q) (eqb (from + count * step) q) e))

-- no pixel of the run is done, and one more
pub marking_none : (a : ℕ) {n : ℕ} {ws : List ℕ} (from step : ℕ) → Marked a n (run from step 0) ws ws
marking_none a from step = marked_none (run from step 0) (λ q b. run_none from step q)

module _ {a n from step count : ℕ} {ws₀ ws : List ℕ} {i : ℕ} (start : Markable n from step count ws₀) (M : Marked a n (run from step i) ws₀ ws) (left : i < count) where
  abbrev q : ℕ
  q = from + i * step

  pub pixel : q < n
  pixel = start.inside i left

  asked : NumberedPixel n q ws
  asked =
      record {
        sized = record { words = M.words ∙ start.sized.words; small = start.sized.small };
        pixel = pixel;
        node = omega (arith, M.before q (omega (arith, pixel)), start.within q pixel);
      }

  pub marking_more : {words : List ℕ} → words ≡ node_marked a (number_at ws q) (lent (3 * n) (6 * n) ws) → Marked a n (run from step (i + 1)) ws₀ (returned (3 * n) (6 * n) ws words)
  marking_more is =
      rw
      (is, part_marked a asked)
      (marked_then (run from step (i + 1)) M (marked_one q asked) (λ x b. run_more from step i x))
