-- The turns of the pass over the nodes on the words of the workspace: a turn stores the two words of a node, and so the next goes by the
-- same words. A node's place word is stored over only in its own turn, since each number stands once in the order of closing.
use Prim.Native.Nat.{ℕ, ◌+◌, ◌-◌, ◌*◌, ◌≤◌, ◌<◌}
use mathlib.Core.List.{List}
use mathlib.Core.Path.{◌≡◌, refl, ◌∙◌}
use native.Mathlib.Nat.{le_refl}
use native.Mathlib.Omega.{arith}
use lib.ListN.{length}
use borrow.Author.Tests.{eq-eqb}
use Rattle.causes.specs.Bounds.{words_a_pixel}
use Rattle.levels.specs.Workspace.{closed_of, drop_of, up_of}
use Rattle.places.specs.Places.{place_at}
use Rattle.map_passes.specs.Settle.{never, place_of, run_word, pair_word, run_at, pair_at, stored, Settleable, settled_at}
use Rattle.map_passes.specs.Passes.{Climbable, Given, fall_at, Visitable, visited_at, Settled, Kept, SettledFrom}
use Rattle.map_passes.proofs.Keeping.{kept_up, kept_closed, kept_drop}
use Rattle.map_passes.proofs.Settling.{run_never, run_falls, pair_never, pair_falls, stored_length, stored_other, stored_run, stored_pair}
use Rattle.map_passes.proofs.Turns.{turn_drop, turn_byte, turn_settles}

-- the node closed at place i; its place is what its words say
module _ {n gap count : ℕ} {ws : List ℕ} {i : ℕ} (turn : Visitable n gap count ws i) where
  abbrev k : ℕ
  k = closed_of n ws i

  module _ {place : ℕ} (found : place ≡ fall_at n count ws k) where
    pub visit_ready : place < count → Settleable gap place (drop_of n ws i) n k (up_of n ws k) ws
    visit_ready l = record {
      few = omega (arith, turn.few);
      small_gap = turn.small_gap;
      ws_size = turn.ws_size;
      node = turn.number;
      above = turn.up;
      byte = turn.byte (rw (← found) l);
    }

    pub visit_never : {left : List ℕ} → count ≤ place → left ≡ stored n k never 0 ws → left ≡ visited_at n gap count ws i
    visit_never l is =
        let past : count ≤ fall_at n count ws k = rw (← found) l in
        is ∙ rw (run_never _ _ _ _ _ past, pair_never _ _ _ _ _ _ past) refl

    pub visit_settles : {left : List ℕ} → place < count → left ≡ settled_at gap place (drop_of n ws i) n k (up_of n ws k) ws
        → left ≡ visited_at n gap count ws i
    unfolding settled_at
    visit_settles l is =
        let falls : fall_at n count ws k < count = rw (← found) l in
        is ∙ rw (run_falls _ _ _ _ _ falls, pair_falls _ _ _ _ _ _ falls, found) refl

-- a turn keeps the other words
kept_stored : (n : ℕ) (ws ws' : List ℕ) → Kept n ws ws' → (k run pair : ℕ) → k < n → Kept n ws (stored n k run pair ws')
kept_stored n ws ws' kept k run pair b = record {
  words = stored_length n ws' k run pair ∙ kept.words;
  front = λ x l. stored_other n ws' k run pair x (λ e. omega arith) (λ e. omega arith) ∙ kept.front x l;
  middle = λ x l h. stored_other n ws' k run pair x (λ e. omega arith) (λ e. omega arith) ∙ kept.middle x l h;
}

-- at the start no node is settled
pub visit_start : {n nodes gap count : ℕ} {ws : List ℕ} → SettledFrom n nodes gap count ws ws nodes
visit_start = record {
  kept = record { words = refl; front = λ x l. refl; middle = λ x l h. refl };
  places = λ j l. refl;
  done = λ level climb j late l. absurd (omega arith);
}

-- the turn before place h, after those from h on
module _ {n nodes gap count : ℕ} {ws ws' : List ℕ} {h : ℕ} (given : Given n nodes gap count ws) (some : 0 < h) (most : h ≤ nodes)
    (prog : SettledFrom n nodes gap count ws ws' h) where
  abbrev i : ℕ
  i = h - 1

  abbrev node : ℕ
  node = closed_of n ws i

  b : i < nodes
  b = omega arith

  done_later : (level : ℕ → ℕ) → Climbable n nodes level ws → (j : ℕ) → i < j → j < nodes
      → Settled count gap (fall_at n count ws) level (up_of n ws) (run_at n ws') (pair_at n ws') (closed_of n ws j)
  done_later level climb j late l = prog.done level climb j (omega arith) l

  never_root : (k : ℕ) → up_of n ws k ≡ k → count ≤ fall_at n count ws k
  unfolding place_of
  never_root k e = rw (eq-eqb (up_of n ws k) k e) (le_refl count)

  inside : i < n
  inside = omega (arith, given.climb.few)

  node_within : node < nodes
  node_within = given.climb.order.within i b

  node_small : node < n
  node_small = omega (arith, node_within, given.climb.few)

  size : length ws' ≡ words_a_pixel * n
  size = prog.kept.words ∙ given.ws_size

  -- its place word is as it was
  place_still : place_at n ws' node ≡ place_at n ws node
  place_still = prog.places i (omega arith)

  -- a node closed before it is another, so that its place word is not the one that is stored
  before_within : (j : ℕ) → j < i → closed_of n ws j < n
  before_within j l = omega (arith, given.climb.order.within j (omega arith), given.climb.few)

  before_kept : (run pair j : ℕ) → j < i → place_at n (stored n node run pair ws') (closed_of n ws j) ≡ place_at n ws' (closed_of n ws j)
  before_kept run pair j l =
      stored_other n ws' node run pair (2 * n + closed_of n ws j)
      (λ e. given.climb.order.once j i l b (omega arith))
      (λ e. omega (arith, before_within j l))

  -- it asks of the words now what it asks of those at the start
  pub visit_asked : Visitable n gap count ws' i
  visit_asked = record {
    few = given.few;
    small_gap = given.small_gap;
    ws_size = size;
    place = inside;
    number = rw (kept_closed prog.kept i inside) node_small;
    up =
        rw
        (kept_closed prog.kept i inside, kept_up prog.kept node node_small)
        (omega (arith, given.climb.ups node node_within, given.climb.few));
    byte =
        rw (
          kept_closed prog.kept i inside,
          kept_drop prog.kept i inside,
          kept_up prog.kept node node_small,
          place_still,
          turn_drop given.climb given.few never_root b (done_later given.level given.climb),
        )
        (turn_byte given.climb given.few never_root b (done_later given.level given.climb));
  }

  pub visit_more : {ws'' : List ℕ} → ws'' ≡ visited_at n gap count ws' i → SettledFrom n nodes gap count ws ws'' i
  visit_more {ws''} is =
      let k = prog.kept in
      let place : ℕ = fall_at n count ws node in
      let up : ℕ = up_of n ws node in
      let now : ws''
      ≡ stored
      n
      node
      (run_word count gap place (drop_of n ws i) (run_at n ws' up))
      (pair_word count gap place (drop_of n ws i) (run_at n ws' up) (pair_at n ws' up))
      ws' =
      is ∙ rw (kept_closed k i inside, kept_drop k i inside, kept_up k node node_small, place_still) refl in
      rw now (record {
        kept = kept_stored n ws ws' k node _ _ node_small;
        places = λ j l. before_kept _ _ j l ∙ prog.places j (omega arith);
        done = λ level climb.
            let done = done_later level climb in
            let drop = turn_drop climb given.few never_root b done in
            turn_settles climb given.few never_root b done
            (rw (← drop) (stored_run n ws' node _ _ size node_small))
            (rw (← drop) (stored_pair n ws' node _ _ size node_small));
      })
