-- One node: the numbers that its settling computes are those of the definitions, and they fit; and what is stored.
use Prim.Native.Nat.{ℕ, ◌+◌, ◌*◌, ◌≤◌, ◌<◌}
use mathlib.Core.Bool.{Bool, true, false, cond}
use mathlib.Core.List.{List}
use mathlib.Core.Logic.{⊎_elim}
use mathlib.Core.Path.{◌≡◌, refl, ◌∙◌}
use native.Mathlib.Nat.{le_refl}
use native.Mathlib.Omega.{arith}
use lib.Dec.{ltb}
use lib.ListN.{length, get_or, set, length-set}
use lib.Seq.{get_or-set_same, get_or-set_other}
use borrow.Author.Tests.{lt-ltb, le-ltb, ltb-true}
use Rattle.sets.proofs.Tests.{decided}
use Rattle.opening.proofs.Levels.{cond_case}
use Rattle.causes.specs.Bounds.{words_a_pixel, most_steps}
use Rattle.levels.specs.Tables.{Changed}
use Rattle.map_passes.specs.Settle.{end_in, total_in, index_in, place_in, own_in, never, near, shared_pair, own_of, run_of, pair_of, run_word, pair_word, run_at, pair_at, stored, Settleable, settled_at}

-- what is read of one of two numbers, whichever is chosen
pub read_chosen : (f : ℕ → ℕ) (t : Bool) (x y u v : ℕ) → (t ≡ true → f x ≡ u) → (t ≡ false → f y ≡ v) → f (cond t x y) ≡ cond t u v
read_chosen f t x y u v one other = ⊎_elim (λ (e : t ≡ true). rw e (one e)) (λ (e : t ≡ false). rw e (other e)) (decided t)

-- the words of a node that never falls, and of one that does
module _ (m gap k fall run : ℕ) where
  pub run_never : m ≤ k → run_word m gap k fall run ≡ never
  unfolding run_word
  run_never l = rw (le-ltb k m l)

  pub run_falls : k < m → run_word m gap k fall run ≡ run_of gap k fall run
  unfolding run_word
  run_falls l = rw (lt-ltb k m l)

  module _ (pair : ℕ) where
    pub pair_never : m ≤ k → pair_word m gap k fall run pair ≡ 0
    unfolding pair_word
    pair_never l = rw (le-ltb k m l)

    pub pair_falls : k < m → pair_word m gap k fall run pair ≡ pair_of gap k fall run pair
    unfolding pair_word
    pair_falls l = rw (lt-ltb k m l)

-- a node that falls at place k, with a total that is a byte, from its parent's run word
module _ (gap k fall run : ℕ) (few : k < most_steps) (byte : fall + total_in (own_in run) < 256) where
  -- where its run ends, and the total before its own fall
  shared_end : end_in (shared_pair gap k run) ≡ cond (near gap k run) (end_in (own_in run)) k
  unfolding shared_pair
  shared_end = read_chosen end_in (near gap k run) _ _ _ _ (λ e. refl) (λ e. omega arith)

  shared_total : total_in (shared_pair gap k run) ≡ cond (near gap k run) (total_in (own_in run)) 0
  unfolding shared_pair
  shared_total = read_chosen total_in (near gap k run) _ _ _ _ (λ e. refl) (λ e. omega arith)

  shared_le : total_in (shared_pair gap k run) ≤ total_in (own_in run)
  shared_le =
      rw shared_total (cond_case (λ (x : ℕ). x ≤ total_in (own_in run)) (near gap k run) (λ e. le_refl (total_in (own_in run))) (λ e. omega arith))

  shared_small : shared_pair gap k run < 65536
  unfolding shared_pair
  shared_small = cond_case (λ (x : ℕ). x < 65536) (near gap k run) (λ e. omega arith) (λ e. omega arith)

  -- the fall stays within the byte, so the pair of its run ends there
  pub own_end : end_in (own_of gap k fall run) ≡ cond (near gap k run) (end_in (own_in run)) k
  unfolding own_of
  own_end = omega (arith, shared_le, shared_end)

  pub own_total : total_in (own_of gap k fall run) ≡ fall + cond (near gap k run) (total_in (own_in run)) 0
  unfolding own_of
  own_total = omega (arith, shared_le, shared_total)

  pub own_le : total_in (own_of gap k fall run) ≤ fall + total_in (own_in run)
  unfolding own_of
  own_le = omega (arith, shared_le)

  pub own_small : own_of gap k fall run < 65536
  unfolding own_of
  own_small = omega (arith, shared_le, shared_small)

  -- what is read of its run word
  pub run_place_in : place_in (run_of gap k fall run) ≡ k
  unfolding run_of
  run_place_in = omega (arith, own_small)

  pub run_own_in : own_in (run_of gap k fall run) ≡ own_of gap k fall run
  unfolding run_of
  run_own_in = omega (arith, own_small)

  -- what is read of its pair
  module _ (pair : ℕ) where
    abbrev wins : Bool
    wins = ltb (total_in pair) (total_in (own_of gap k fall run))

    pub pair_residue : total_in (pair_of gap k fall run pair) ≡ cond wins (total_in (own_of gap k fall run)) (total_in pair)
    unfolding pair_of
    pair_residue = read_chosen total_in wins _ _ _ _ (λ e. refl) (λ e. refl)

    pub pair_index : index_in (pair_of gap k fall run pair) ≡ cond wins (end_in (own_of gap k fall run) + 1) (index_in pair)
    unfolding pair_of
    pair_index =
        read_chosen index_in wins _ _ _ _
        (λ e. omega (arith, ltb-true (total_in pair) (total_in (own_of gap k fall run)) e))
        (λ e. refl)

    pub pair_fits : pair < 65536 → pair_of gap k fall run pair < 65536
    unfolding pair_of
    pair_fits l = cond_case (λ (x : ℕ). x < 65536) wins (λ e. own_small) (λ e. l)

-- two words are stored: those and no others change
module _ (n : ℕ) (ws : List ℕ) (k run pair : ℕ) where
  pub stored_length : length (stored n k run pair ws) ≡ length ws
  unfolding stored
  stored_length = length-set (set ws (2 * n + k) run) (6 * n + k) pair ∙ length-set ws (2 * n + k) run

  pub stored_other : (x : ℕ) → (x ≡ 2 * n + k → ⊥) → (x ≡ 6 * n + k → ⊥) → get_or (stored n k run pair ws) x 0 ≡ get_or ws x 0
  unfolding stored
  stored_other x off apart =
      get_or-set_other (set ws (2 * n + k) run) (6 * n + k) x pair 0 apart ∙ get_or-set_other ws (2 * n + k) x run 0 off

  module _ (size : length ws ≡ words_a_pixel * n) (b : k < n) where
    pub stored_run : Changed n (run_at n ws) (run_at n (stored n k run pair ws)) k run
    unfolding stored
    stored_run = record {
      here =
          get_or-set_other (set ws (2 * n + k) run) (6 * n + k) (2 * n + k) pair 0 (λ e. omega arith)
          ∙ get_or-set_same ws (2 * n + k) run 0 (omega arith);
      there = λ x l off. stored_other (2 * n + x) (λ e. off (omega arith)) (λ e. omega arith);
    }

    pub stored_pair : Changed n (pair_at n ws) (pair_at n (stored n k run pair ws)) k pair
    unfolding stored
    stored_pair = record {
      here = get_or-set_same (set ws (2 * n + k) run) (6 * n + k) pair 0 (omega (arith, length-set ws (2 * n + k) run));
      there = λ x l off. stored_other (6 * n + x) (λ e. omega arith) (λ e. off (omega arith));
    }

-- what the code computes for a node that falls, from what it finds that the node shares, and what is better
module _ {gap place fall n k up : ℕ} {ws : List ℕ} (ready : Settleable gap place fall n k up ws) where
  abbrev above : ℕ
  above = run_at n ws up

  module _ {s : ℕ} (is_shared : s ≡ shared_pair gap place above) where
    pub settle_small : s + fall < 65536
    unfolding own_of
    settle_small = rw is_shared (own_small gap place fall above ready.few ready.byte)

    pub settle_stores : {best : ℕ} {left : List ℕ} → best ≡ cond (ltb (total_in (pair_at n ws up)) (total_in (s + fall))) (s + fall) (pair_at n ws up)
        → left ≡ stored n k (place * 65536 + (s + fall)) best ws → left ≡ settled_at gap place fall n k up ws
    unfolding settled_at run_of pair_of own_of
    settle_stores is_best is = is ∙ rw (is_best, is_shared) refl
