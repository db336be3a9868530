-- The pass over the own pixels, from the last position to the first: the words of a node after a store to them, the words of the nodes as
-- they are lent and come back, what holds when the pixels from q on have been taken, and one more of them. Assumes nothing.
use Prim.Native.Nat.{ℕ, ◌+◌, ◌*◌, ◌-◌, ◌≤◌, ◌<◌, min}
use mathlib.Core.Bool.{Bool, true, false, ◌&&◌, ◌||◌}
use mathlib.Core.List.{List, ◌++◌}
use mathlib.Core.Path.{◌≡◌, refl, sym, ap, subst, ◌∙◌}
use native.Mathlib.Nat.{le_antisymm}
use native.Mathlib.Omega.{arith}
use lib.Dec.{eqb, leb}
use lib.ListN.{get_or, length, set, take}
use lib.Seq.{get_or-take, take_at, drop_at, length-take-le}
use borrow.Author.Tests.{leb-true, le-leb, lt-leb, eqb-true, eq-eqb, ne_eqb}
use borrow.Rule.Slice.PartMut.{post_of, same_len_mid, take_put}
use Rattle.sets.specs.Sets.{Positions, some_in}
use Rattle.sets.proofs.Laws.{some_in_ext}
use Rattle.sets.specs.Gather.{first_in}
use Rattle.sets.proofs.Tests.{and_left, and_right, and_both, or_right, same_truth}
use Rattle.sets.proofs.Gather.{gather_ext, gather_none, first_in_le, first_in_holds}
use Rattle.grid.specs.Attributes.{on_frame}
use Rattle.grid.specs.declared.Grid.{Grid}
use Rattle.causes.specs.Bounds.{words_a_pixel}
use Rattle.causes.proofs.Lists.{length_two}
use Rattle.levels.specs.Tables.{Changed}
use Rattle.levels.specs.Workspace.{number_at, numbered, lowest_of, up_of, held_of}
use Rattle.levels.proofs.Counts.{by_cases, equal_or_not}
use Rattle.accumulators.specs.Accumulators.{nothing, seen, combined, gathered, Small, Capped}
use Rattle.accumulators.proofs.Accumulators.{gathered_with, seen_small, seen_one, seen_capped, gathered_small, gathered_area_le, gathered_framed}
use Rattle.parts.proofs.Parts.{lent, returned, lent_long, lent_read, read_one, read_two, read_else}
use Rattle.frame.specs.Frame.{Marked}
use Rattle.own_pixels.specs.OwnPixels.{Countable, Blank, Gatherable, gathered_at, Seen, Owned}

-- the words of the nodes, and the three of the node k among them
abbrev nodes : ℕ → List ℕ → List ℕ
nodes n ws = lent (3 * n) (6 * n) ws

abbrev lowest_in : List ℕ → ℕ → ℕ
lowest_in words k = get_or words (3 * k) 0

abbrev up_in : List ℕ → ℕ → ℕ
up_in words k = get_or words (3 * k + 1) 0

abbrev held_in : List ℕ → ℕ → ℕ
held_in words k = get_or words (3 * k + 2) 0

-- x and y become the lowest own pixel and the accumulator of the node k
record NodeStored (m : ℕ) (words words' : List ℕ) (k x y : ℕ) : Type 0 where
  long : length words' ≡ length words
  ups : (j : ℕ) → up_in words' j ≡ up_in words j
  lowest : Changed m (lowest_in words) (lowest_in words') k x
  held : Changed m (held_in words) (held_in words') k y

node_stored : (m : ℕ) (words : List ℕ) (k x y : ℕ) → 3 * k + 2 < length words → NodeStored m words (set (set words (3 * k) x) (3 * k + 2) y) k x y
node_stored m words k x y b =
    let here : 3 * k < length words = omega arith in
    let apart : 3 * k ≡ 3 * k + 2 → ⊥ = λ z. omega arith in
    let else : (j : ℕ) → (j ≡ 3 * k → ⊥) → (j ≡ 3 * k + 2 → ⊥) → get_or (set (set words (3 * k) x) (3 * k + 2) y) j 0 ≡ get_or words j 0 =
    read_else words (3 * k) (3 * k + 2) x y here b apart in
    record {
      long = length_two words (3 * k) x (3 * k + 2) y;
      ups = λ j. else (3 * j + 1) (λ z. omega arith) (λ z. omega arith);
      lowest =
          record {
            here = read_one words (3 * k) (3 * k + 2) x y here b apart;
            there = λ j c ne. else (3 * j) (λ z. ne (omega arith)) (λ z. omega arith);
          };
      held =
          record {
            here = read_two words (3 * k) (3 * k + 2) x y here b apart;
            there = λ j c ne. else (3 * j + 2) (λ z. omega arith) (λ z. ne (omega arith));
          };
    }

-- the positions from q on that have the number k
abbrev from : (ℕ → ℕ) → ℕ → ℕ → Positions
from num q k x = leb q x && eqb (num x) k

from_in : (num : ℕ → ℕ) (q k x : ℕ) → q ≤ x → num x ≡ k → from num q k x ≡ true
from_in num q k x l e = and_both (leb q x) (eqb (num x) k) (le-leb q x l) (eq-eqb (num x) k e)

from_out : (num : ℕ → ℕ) (q k x : ℕ) → x < q → from num q k x ≡ false
from_out num q k x l = rw (lt-leb q x l) refl

from_first : (num : ℕ → ℕ) (k x : ℕ) → from num 0 k x ≡ eqb (num x) k
from_first num k x = rw (le-leb 0 x (omega arith)) refl

or_no : (b : Bool) → b ≡ (b || false)
or_no true = refl
or_no false = refl

-- one position more, q: only the set of its number grows
from_same : (num : ℕ → ℕ) (q k x : ℕ) → (q ≡ x → num x ≡ k → ⊥) → from num q k x ≡ from num (q + 1) k x
from_same num q k x ne =
    same_truth
    (from num q k x)
    (from num (q + 1) k x)
    (λ t.
    let l : q ≤ x = leb-true q x (and_left (leb q x) (eqb (num x) k) t) in
    let e : num x ≡ k = eqb-true (num x) k (and_right (leb q x) (eqb (num x) k) t) in
    from_in num (q + 1) k x (by_cases (equal_or_not q x) (λ z. absurd (ne z e)) (λ z. omega arith)) e)
    (λ t.
    from_in
    num
    q
    k
    x
    (omega (arith, leb-true (q + 1) x (and_left (leb (q + 1) x) (eqb (num x) k) t)))
    (eqb-true (num x) k (and_right (leb (q + 1) x) (eqb (num x) k) t)))

from_more : (num : ℕ → ℕ) (q k x : ℕ) → num q ≡ k → from num q k x ≡ (from num (q + 1) k x || eqb q x)
from_more num q k x e =
    by_cases
    (equal_or_not q x)
    (λ z.
    from_in num q k x (omega arith) (ap num (sym z) ∙ e)
    ∙ sym (or_right (from num (q + 1) k x) (eqb q x) (eq-eqb q x z)))
    (λ ne. from_same num q k x (λ z f. ne z) ∙ rw (ne_eqb q x ne) (or_no (from num (q + 1) k x)))

-- the word of each number holds what is gathered of its positions after q. One position more: its value is joined to the word of its number,
-- the others stay
gathered_next : (a n m q : ℕ) (v num w w' : ℕ → ℕ) → q < n → Capped a (v q) → ((k : ℕ) → k < m → w k ≡ gathered a n v (from num (q + 1) k)) → num q < m → Changed m w w' (num q) (combined a (w (num q)) (v q)) → (k : ℕ) → k < m → w' k ≡ gathered a n v (from num q k)
gathered_next a n m q v num w w' b cap each here C k c =
    by_cases
    (equal_or_not k (num q))
    (λ e.
    rw e
    (C.here
    ∙ ap (λ (x : ℕ). combined a x (v q)) (each (num q) here)
    ∙ sym
    (gathered_with
    a
    n
    v
    (from num (q + 1) (num q))
    (from num q (num q))
    q
    b
    cap
    (from_out num (q + 1) (num q) q (omega arith))
    (λ x d. from_more num q (num q) x refl))))
    (λ ne.
    C.there k c ne
    ∙ each k c
    ∙ gather_ext n (combined a) (nothing a) v (from num (q + 1) k) (from num q k) (λ x d. sym (from_same num q k x (λ z e. ne (sym e ∙ ap num (sym z))))))

-- the word of each number that has a position from q on is one of its positions, and at most each of those
abbrev Least : ℕ → ℕ → (ℕ → ℕ) → (ℕ → ℕ) → ℕ → Type 0
Least n m num w q = (k x : ℕ) → k < m → q ≤ x → x < n → num x ≡ k → (w k ≤ x) × (num (w k) ≡ k)

least_next : (n m q : ℕ) (num w w' : ℕ → ℕ) → Least n m num w (q + 1) → Changed m w w' (num q) q → Least n m num w' q
least_next n m q num w w' L C k x c l d e =
    by_cases
    (equal_or_not k (num q))
    (λ z. rw (ap w' z ∙ C.here) (l, sym z))
    (λ ne. rw (C.there k c ne) (L k x c (by_cases (equal_or_not q x) (λ z. absurd (ne (sym e ∙ ap num (sym z)))) (λ z. omega arith)) d e))

-- at last the word of a number that has a position is the first
least_first : (n m : ℕ) (num w : ℕ → ℕ) → Least n m num w 0 → (k x : ℕ) → k < m → x < n → num x ≡ k → w k ≡ first_in n (λ (y : ℕ). eqb (num y) k)
least_first n m num w L k x c b e =
    let s : Positions = λ (y : ℕ). eqb (num y) k in
    let p : (w k ≤ x) × (num (w k) ≡ k) = L k x c (omega arith) b e in
    let low : first_in n s ≤ w k = first_in_le n s (w k) (omega (arith, p.0)) (eq-eqb (num (w k)) k p.1) in
    let f : first_in n s < n = omega (arith, p.0) in
    le_antisymm (L k (first_in n s) c (omega arith) f (eqb-true (num (first_in n s)) k (first_in_holds n s f))).0 low

-- the words of the nodes as they are lent
module _ (n : ℕ) (ws : List ℕ) (long : length ws ≡ words_a_pixel * n) where
  high : 6 * n ≤ length ws
  high = omega arith

  nodes_long : length (nodes n ws) ≡ 3 * n
  nodes_long = lent_long (3 * n) (6 * n) ws high ∙ omega arith

  lowest_read : (k : ℕ) → k < n → lowest_in (nodes n ws) k ≡ lowest_of n ws k
  lowest_read k b = lent_read (3 * n) (6 * n) ws high (3 * k) (omega arith)

  up_read : (k : ℕ) → k < n → up_in (nodes n ws) k ≡ up_of n ws k
  up_read k b = lent_read (3 * n) (6 * n) ws high (3 * k + 1) (omega arith) ∙ ap (λ (i : ℕ). get_or ws i 0) (omega arith)

  held_read : (k : ℕ) → k < n → held_in (nodes n ws) k ≡ held_of n ws k
  held_read k b = lent_read (3 * n) (6 * n) ws high (3 * k + 2) (omega arith) ∙ ap (λ (i : ℕ). get_or ws i 0) (omega arith)

  -- and the workspace, when they come back as `words`
  module _ (words : List ℕ) (same : length words ≡ length (nodes n ws)) where
    abbrev back : List ℕ
    back = returned (3 * n) (6 * n) ws words

    low : 3 * n ≤ length ws
    low = omega arith

    back_long : length back ≡ length ws
    back_long = same_len_mid (3 * n) (6 * n - 3 * n) ws words same

    back_before : (k : ℕ) → k < 3 * n → get_or back k 0 ≡ get_or ws k 0
    back_before k b =
        sym (get_or-take (3 * n) back k 0 b)
        ∙ ap (λ (l : List ℕ). get_or l k 0) (take_put (3 * n) (6 * n - 3 * n) ws words low)
        ∙ get_or-take (3 * n) ws k 0 b

    back_nodes : nodes n back ≡ words
    back_nodes =
        let rest : List ℕ = post_of (3 * n) (6 * n - 3 * n) ws in
        ap (take (6 * n - 3 * n)) (drop_at (take (3 * n) ws) (words ++ rest) (3 * n) (length-take-le (3 * n) ws low))
        ∙ take_at words rest (6 * n - 3 * n) (same ∙ lent_long (3 * n) (6 * n) ws high)

-- the pixels from q on are taken
pub record Owning (grid : Grid) (a n m : ℕ) (ws₀ ws : List ℕ) (q : ℕ) : Type 0 where
  pub top : q ≤ n
  pub long : length ws ≡ length ws₀
  pub before : (k : ℕ) → k < 3 * n → get_or ws k 0 ≡ get_or ws₀ k 0
  pub ups : (k : ℕ) → up_in (nodes n ws) k ≡ up_in (nodes n ws₀) k
  pub lowest : Least n m (number_at ws₀) (lowest_in (nodes n ws)) q
  pub held : (k : ℕ) → k < m → held_in (nodes n ws) k ≡ gathered a n (seen grid a) (from (number_at ws₀) q k)

-- the pass over a workspace whose nodes `blank` has left as `words`
module _ {grid : Grid} {a n m : ℕ} {ws words : List ℕ} (start : Countable grid a n m ws) (blank : Blank a m (nodes n ws) words) where
  abbrev ws₀ : List ℕ
  ws₀ = returned (3 * n) (6 * n) ws words

  blanked : nodes n ws₀ ≡ words
  blanked = back_nodes n ws start.sized.words words blank.long

  same_number : (q : ℕ) → q < n → number_at ws₀ q ≡ number_at ws q
  same_number q b = back_before n ws start.sized.words words blank.long q (omega arith)

  pub owning_none : Owning grid a n m ws₀ ws₀ n
  owning_none =
      record {
        top = omega arith;
        long = refl;
        before = λ k b. refl;
        ups = λ k. refl;
        lowest = λ k x c l d e. absurd (omega arith);
        held =
            λ k c.
            ap (λ (l : List ℕ). held_in l k) blanked
            ∙ blank.held k c
            ∙ sym (gather_none n (combined a) (nothing a) (seen grid a) (from (number_at ws₀) n k) (λ x b. from_out (number_at ws₀) n k x b));
      }

  owning_long : {ws' : List ℕ} {q : ℕ} → Owning grid a n m ws₀ ws' q → length ws' ≡ length ws
  owning_long O = O.long ∙ back_long n ws start.sized.words words blank.long

  -- one pixel more
  module _ {ws' : List ℕ} {r : ℕ} (left : 0 < r) (taken : Owning grid a n m ws₀ ws' r) where
    abbrev q : ℕ
    q = r - 1

    O : Owning grid a n m ws₀ ws' (q + 1)
    O = subst (λ (i : ℕ). Owning grid a n m ws₀ ws' i) (omega arith) taken

    abbrev k : ℕ
    k = number_at ws₀ q

    b : q < n
    b = omega (arith, O.top)

    number_is : number_at ws' q ≡ k
    number_is = O.before q (omega (arith, b))

    within : k < m
    within = omega (arith, same_number q b, start.within q b)

    sized : length ws' ≡ words_a_pixel * n
    sized = owning_long O ∙ start.sized.words

    room : 3 * k + 2 < length (nodes n ws')
    room = omega (arith, nodes_long n ws' sized, within, start.few)

    own_small : Small (seen grid a q)
    own_small = seen_small grid a q (start.short q b)

    held_small : Small (held_in (nodes n ws') k)
    held_small =
        rw (O.held k within) (gathered_small a n (seen grid a) _ (λ x c. seen_small grid a x (start.short x c)))

    -- one pixel more does not reach beyond the top threshold
    sum_capped : Capped a (held_in (nodes n ws') k + seen grid a q)
    sum_capped area =
        omega (arith, O.held k within, gathered_area_le grid a area n (from (number_at ws₀) (q + 1) k) start.sized.small, start.sized.small, seen_one grid a q area)

    pub gather_asked : {own : ℕ} → own ≡ seen grid a q → Gatherable a q (number_at ws' q) own (nodes n ws')
    gather_asked e =
        rw number_is
        (record {
          within = room;
          pixel = omega (arith, b, start.sized.small);
          small = held_small;
          small_own = rw e own_small;
          capped = rw e sum_capped;
        })

    pub owning_more : {own : ℕ} {words' : List ℕ} → own ≡ seen grid a q → words' ≡ gathered_at a q (number_at ws' q) own (nodes n ws') → Owning grid a n m ws₀ (returned (3 * n) (6 * n) ws' words') q
    owning_more {own} {words'} e f =
        let words₁ : List ℕ = gathered_at a q k (seen grid a q) (nodes n ws') in
        let S = node_stored m (nodes n ws') k q (combined a (held_in (nodes n ws') k) (seen grid a q)) room in
        let after : nodes n (returned (3 * n) (6 * n) ws' words₁) ≡ words₁ = back_nodes n ws' sized words₁ S.long in
        rw
        (f, e, number_is)
        (record {
          top = omega (arith, b);
          long = back_long n ws' sized words₁ S.long ∙ O.long;
          before = λ j c. back_before n ws' sized words₁ S.long j c ∙ O.before j c;
          ups = rw after (λ j. S.ups j ∙ O.ups j);
          lowest = rw after (least_next n m q (number_at ws₀) (lowest_in (nodes n ws')) (lowest_in words₁) O.lowest S.lowest);
          held =
              rw after
              (gathered_next a n m q (seen grid a) (number_at ws₀) (held_in (nodes n ws')) (held_in words₁) b (seen_capped grid a q) O.held within S.held);
        })

  pub owning_end : {ws' : List ℕ} {q : ℕ} → q ≤ 0 → Owning grid a n m ws₀ ws' q → Seen grid a n m ws ws'
  owning_end {ws'} none taken =
      let O : Owning grid a n m ws₀ ws' 0 = subst (λ (i : ℕ). Owning grid a n m ws₀ ws' i) (omega arith) taken in
      let long : length ws' ≡ words_a_pixel * n = owning_long O ∙ start.sized.words in
      let same : (k x : ℕ) → x < n → numbered ws₀ k x ≡ numbered ws k x = λ k x b. ap (λ (j : ℕ). eqb j k) (same_number x b) in
      let node : (k : ℕ) → k < m → k < n = λ k c. omega (arith, start.few) in
      record {
        kept =
            record {
              words = owning_long O;
              before = λ j b. O.before j b ∙ back_before n ws start.sized.words words blank.long j b;
              ups =
                  λ k c.
                  sym (up_read n ws' long k (node k c))
                  ∙ O.ups k
                  ∙ ap (λ (l : List ℕ). up_in l k) blanked
                  ∙ blank.ups k
                  ∙ up_read n ws start.sized.words k (node k c);
            };
        lowest =
            λ k c.
            let p = start.some k c in
            sym (lowest_read n ws' long k (node k c))
            ∙ least_first n m (number_at ws₀) (lowest_in (nodes n ws')) O.lowest k p.0 c p.1 (same_number p.0 p.1 ∙ p.2)
            ∙ gather_ext n min n (λ (x : ℕ). x) (numbered ws₀ k) (numbered ws k) (same k);
        held =
            λ k c.
            sym (held_read n ws' long k (node k c))
            ∙ O.held k c
            ∙ gather_ext n (combined a) (nothing a) (seen grid a) (from (number_at ws₀) 0 k) (numbered ws k)
            (λ x b. from_first (number_at ws₀) k x ∙ same k x b);
      }

-- the pass over the frame
module _ {grid : Grid} {a n m : ℕ} {ws ws' : List ℕ} (start : Countable grid a n m ws) (S : Seen grid a n m ws ws') where
  pub framed_end : {ws'' : List ℕ} → Marked a n (on_frame grid) ws' ws'' → Owned grid a n m ws ws''
  framed_end M =
      record {
        kept =
            record {
              words = M.words ∙ S.kept.words;
              before = λ j b. M.before j b ∙ S.kept.before j b;
              ups = λ k c. M.ups k ∙ S.kept.ups k c;
            };
        lowest = λ k c. M.lowests k ∙ S.lowest k c;
        held =
            λ k c.
            let same : some_in n (λ (x : ℕ). numbered ws' k x && on_frame grid x) ≡ some_in n (λ (x : ℕ). numbered ws k x && on_frame grid x) =
            some_in_ext n _ _ (λ x b. ap (λ (j : ℕ). eqb j k && on_frame grid x) (S.kept.before x (omega arith))) in
            M.held k (omega (arith, start.few))
            ∙ rw (same, S.held k c) (sym (gathered_framed grid a n (numbered ws k) start.short));
      }
