-- The parts of the workspace and the table of the open nodes: what is read after the stores of an operation, and the operations on the
-- lists as steps of the numbers and the queues.
use Prim.Native.Nat.{ℕ, ◌+◌, ◌*◌, ◌-◌, ◌/◌, ◌%◌, ◌^◌, ◌≤◌, ◌<◌}
use mathlib.Core.List.{List}
use mathlib.Core.Logic.{inl, inr}
use mathlib.Core.Path.{◌≡◌, refl, ap, ◌∙◌}
use native.Mathlib.Numerals.{add-one}
use native.Mathlib.Omega.{arith}
use lib.Bits.{bit_or}
use lib.ListN.{get_or, length, set, length-set}
use lib.Seq.{get_or-set_same, get_or-set_other}
use Rattle.causes.specs.Bounds.{words_a_pixel, most_pixels}
use Rattle.levels.specs.Tables.{Changed}
use Rattle.levels.specs.Workspace.{Sized, number_at, closed_of, drop_of, order_of, up_of}
use Rattle.levels.proofs.Counts.{by_cases}
use Rattle.levels.proofs.Tables.{stored}
use Rattle.flooding.specs.Numbers.{Numbering}
use Rattle.queues.specs.declared.Opened.{Opened}
use Rattle.queues.specs.Marks.{digit, mark}
use Rattle.queues.specs.Queues.{numbers_of, Nextable, Nameable, Naming, pushed_words, Appendable, Fitting, Placing}
use Rattle.queues.specs.Queues.{Replaceable, Replacing, NextOpen, Closable, Shut}
use Rattle.queues.proofs.Marks.{set_here, set_there, bit_fits, clear_here, clear_there, one_shifted, remarked, remarked_wide, number_stored, mark_opened, mark_closed}

-- two stores, seen in a table whose entry x stands at place x of the words: an entry that both miss, and one that the first or the
-- second hits
module _ (ws : List ℕ) (a v b w : ℕ) (place : ℕ → ℕ) where
  abbrev twice : List ℕ
  twice = set (set ws a v) b w

  missed : (x : ℕ) → (place x ≡ a → ⊥) → (place x ≡ b → ⊥) → get_or twice (place x) 0 ≡ get_or ws (place x) 0
  missed x na nb = get_or-set_other (set ws a v) b (place x) w 0 nb ∙ get_or-set_other ws a (place x) v 0 na

  hit_first :
      {n : ℕ} (i : ℕ) → place i ≡ a → a < length ws → (a ≡ b → ⊥)
      → ((x : ℕ) → x < n → (x ≡ i → ⊥) → (place x ≡ a → ⊥) × (place x ≡ b → ⊥))
      → Changed n (λ x. get_or ws (place x) 0) (λ x. get_or twice (place x) 0) i v
  hit_first i e inside ne others =
      record {
        here = rw e (get_or-set_other (set ws a v) b a w 0 ne ∙ get_or-set_same ws a v 0 inside);
        there = λ x h nx. missed x (others x h nx).0 (others x h nx).1;
      }

  hit_second :
      {n : ℕ} (i : ℕ) → place i ≡ b → b < length ws
      → ((x : ℕ) → x < n → (x ≡ i → ⊥) → (place x ≡ a → ⊥) × (place x ≡ b → ⊥))
      → Changed n (λ x. get_or ws (place x) 0) (λ x. get_or twice (place x) 0) i w
  hit_second i e inside others =
      record {
        here = rw e (get_or-set_same (set ws a v) b w 0 (rw (length-set ws a v) inside));
        there = λ x h nx. missed x (others x h nx).0 (others x h nx).1;
      }

module _ (n : ℕ) (ws : List ℕ) (size : length ws ≡ words_a_pixel * n) (q k t : ℕ) (in_q : q < n) (in_t : t < n) where
  number_pushed : Changed n (number_at ws) (number_at (pushed_words n ws q k t)) q k
  number_pushed =
      hit_first ws q k (2 * n + t) q (λ x. x) q refl (omega arith) (λ e. omega arith) (λ x h ne. (ne, λ e. omega arith))

  order_pushed : Changed n (order_of n ws) (order_of n (pushed_words n ws q k t)) t q
  order_pushed =
      hit_second ws q k (2 * n + t) q (λ x. 2 * n + x) t refl (omega arith)
      (λ x h ne. (λ e. omega arith, λ e. ne (omega arith)))

  word_pushed : (i : ℕ) → i < n → get_or (pushed_words n ws q k t) (n + i) 0 ≡ get_or ws (n + i) 0
  word_pushed i h = missed ws q k (2 * n + t) q (λ x. n + x) i (λ e. omega arith) (λ e. omega arith)

  up_pushed : (j : ℕ) → j < n → up_of n (pushed_words n ws q k t) j ≡ up_of n ws j
  up_pushed j h = missed ws q k (2 * n + t) q (λ x. 3 * n + 3 * x + 1) j (λ e. omega arith) (λ e. omega arith)

-- the word v at place i of the order of closing, and the parent's number p among the words of k
abbrev pub shut_words : ℕ → List ℕ → ℕ → ℕ → ℕ → ℕ → List ℕ
shut_words n ws i v k p = set (set ws (n + i) v) (3 * n + 3 * k + 1) p

module _ (n : ℕ) (ws : List ℕ) (size : length ws ≡ words_a_pixel * n) (i v k p : ℕ) (in_i : i < n) (in_k : k < n) where
  word_shut : Changed n (λ x. get_or ws (n + x) 0) (λ x. get_or (shut_words n ws i v k p) (n + x) 0) i v
  word_shut =
      hit_first ws (n + i) v (3 * n + 3 * k + 1) p (λ x. n + x) i refl (omega arith) (λ e. omega arith)
      (λ x h ne. (λ e. ne (omega arith), λ e. omega arith))

  -- a word that holds the number k and the drop d
  module _ {d : ℕ} (is : v ≡ k * 256 + d) (byte : d < 256) where
    closed_shut : Changed n (closed_of n ws) (closed_of n (shut_words n ws i v k p)) i k
    closed_shut =
        record { here = omega (arith, word_shut.here); there = λ x h ne. ap (λ (y : ℕ). y / 256) (word_shut.there x h ne) }

    drop_shut : Changed n (drop_of n ws) (drop_of n (shut_words n ws i v k p)) i d
    drop_shut =
        record { here = omega (arith, word_shut.here); there = λ x h ne. ap (λ (y : ℕ). y % 256) (word_shut.there x h ne) }

  up_shut : Changed n (up_of n ws) (up_of n (shut_words n ws i v k p)) k p
  up_shut =
      hit_second ws (n + i) v (3 * n + 3 * k + 1) p (λ x. 3 * n + 3 * x + 1) k refl (omega arith)
      (λ x h ne. (λ e. omega arith, λ e. ne (omega arith)))

  number_shut : (q : ℕ) → q < n → number_at (shut_words n ws i v k p) q ≡ number_at ws q
  number_shut q h = missed ws (n + i) v (3 * n + 3 * k + 1) p (λ x. x) q (λ e. omega arith) (λ e. omega arith)

  order_shut : (t : ℕ) → t < n → order_of n (shut_words n ws i v k p) t ≡ order_of n ws t
  order_shut t h =
      missed ws (n + i) v (3 * n + 3 * k + 1) p (λ x. 2 * n + x) t (λ e. omega arith) (λ e. omega arith)

-- the word that holds the bit of level l, and that word with the bit set and with the bit cleared
abbrev pub mark_word : Opened → ℕ → ℕ
mark_word opened l = get_or opened.levels (l / 64) 0

abbrev pub with_level : ℕ → ℕ → ℕ
with_level w l = bit_or w ((1 * 2 ^ (l % 64)) % 2 ^ 64)

abbrev pub without_level : ℕ → ℕ → ℕ
without_level w l = w - (1 * 2 ^ (l % 64)) % 2 ^ 64

level_bit : (l : ℕ) → (1 * 2 ^ (l % 64)) % 2 ^ 64 ≡ 2 ^ (l % 64)
level_bit l = one_shifted (l % 64) (omega arith)

-- the open nodes with level l opened under the next number, and with level l closed
abbrev pub opened_next : Opened → ℕ → Opened
opened_next opened l =
    remarked opened l opened.taken (with_level (mark_word opened l) l) (opened.taken + 1) opened.closed

abbrev pub closed_next : ℕ → Opened → ℕ → Opened
closed_next n opened l = remarked opened l n (without_level (mark_word opened l) l) opened.taken (opened.closed + 1)

-- a number of the level, where its node is open and where it is not
module _ {n l : ℕ} {opened : Opened} (N : Nameable n l opened) where
  pub named_open : (get_or opened.numbers l 0 ≡ n → ⊥) → Naming n l opened (get_or opened.numbers l 0) opened
  named_open ne =
      record {
        which = inl (omega (arith, N.held), refl, refl);
        open_at = record { here = refl; there = λ x h nx. refl };
        done = refl;
        wide = N.wide;
        marks = N.marks;
      }

  pub named_next : get_or opened.numbers l 0 ≡ n → Naming n l opened opened.taken (opened_next opened l)
  named_next e =
      let k = opened.taken in
      let w = mark_word opened l in
      let x = with_level w l in
      let is : x ≡ bit_or w (2 ^ (l % 64)) = ap (bit_or w) (level_bit l) in
      record {
        which = inr (e, refl, add-one k);
        open_at = number_stored opened l k x (k + 1) opened.closed N.wide N.level;
        done = refl;
        wide = remarked_wide opened l k x (k + 1) opened.closed N.wide N.level;
        marks =
            mark_opened opened l k x (k + 1) opened.closed N.wide N.level
            (λ i ne. ap (λ (y : ℕ). digit y i) is ∙ set_there w (l % 64) i ne)
            N.marks
            (λ z. omega (arith, N.left e))
            (ap (λ (y : ℕ). digit y (l % 64)) is ∙ set_here w (l % 64));
      }

-- q at the place t of the runs, with the number k
numbering_pushed :
    {n q l k t : ℕ} {ws : List ℕ} {opened opened' : Opened} → Sized n ws → q < n → t < n → Naming n l opened k opened'
    → let ws' = pushed_words n ws q k t in
    Numbering n l q (number_at ws' q) (numbers_of n ws opened) (numbers_of n ws' opened')
numbering_pushed {n} {q} {k = k} {t} {ws} size in_q in_t N =
    let num = number_pushed n ws size.words q k t in_q in_t in
    rw
    num.here
    (record {
      which = N.which;
      num = num;
      open_at = N.open_at;
      up = up_pushed n ws size.words q k t in_q in_t;
      closed = λ i h. ap (λ (v : ℕ). v / 256) (word_pushed n ws size.words q k t in_q in_t i h);
      drop = λ i h. ap (λ (v : ℕ). v % 256) (word_pushed n ws size.words q k t in_q in_t i h);
      done = N.done;
    })

-- q at the end of the run of its level
pub placing :
    {n q l k : ℕ} {ws tails : List ℕ} {opened opened' : Opened} → Fitting n q l ws tails opened → Naming n l opened k opened'
    → Placing n q l ws tails opened (pushed_words n ws q k (get_or tails l 0)) (set tails l (get_or tails l 0 + 1)) opened'
placing {n} {q} {l} {k} {ws} {tails} F N =
    let t = get_or tails l 0 in
    record {
      wide_tails = length-set tails l _ ∙ F.wide_tails;
      wide_opened = N.wide;
      marks = N.marks;
      numbering = numbering_pushed F.sized F.within F.free N;
      ord = order_pushed n ws F.sized.words q k t F.within F.free;
      tail = rw (← add-one t) (stored 256 tails l (t + 1) (omega (arith, F.nameable.level, F.wide_tails)));
    }

-- q in place of another pixel of the run of its level
pub replacing :
    {n q l t : ℕ} {ws : List ℕ} {opened : Opened} → Replaceable n q l t ws opened
    → Replacing n q l t ws opened (pushed_words n ws q (get_or opened.numbers l 0) t)
replacing {n} {q} {l} {t} {ws} {opened} R =
    record {
      numbering =
          numbering_pushed R.sized R.within R.place (named_open R.nameable (λ e. omega (arith, R.open_here)));
      ord = order_pushed n ws R.sized.words q (get_or opened.numbers l 0) t R.within R.place;
    }

pub number_small : {n l k : ℕ} {opened opened' : Opened} → Nameable n l opened → Naming n l opened k opened' → k < n
number_small N M = by_cases M.which (λ o. omega arith) (λ f. omega (arith, N.left f.0))

pub nextable : {n l : ℕ} {opened : Opened} → Nameable n l opened → get_or opened.numbers l 0 ≡ n → Nextable l opened
nextable N e = record { level = N.level; small = omega (arith, N.left e, N.small) }

pub appendable :
    {n q l k : ℕ} {ws tails : List ℕ} {opened opened' : Opened} → Fitting n q l ws tails opened → Naming n l opened k opened'
    → Appendable n q l k ws tails
appendable F N =
    record {
      level = F.nameable.level;
      wide_tails = F.wide_tails;
      fits = record { sized = F.sized; within = F.within; number = number_small F.nameable N; place = F.free };
    }

-- the node of level l closed
module _ {n l : ℕ} {ws : List ℕ} {opened : Opened} (C : Closable n ws opened l) where
  -- the bit of an open level is set, so it can be taken away
  level_marked : mark opened l ≡ 1
  level_marked = C.marks.open_set l C.level (λ e. omega (arith, C.open_here))

  pub level_fits : (1 * 2 ^ (l % 64)) % 2 ^ 64 ≤ mark_word opened l
  level_fits = rw (level_bit l) (bit_fits (mark_word opened l) (l % 64) level_marked)

  abbrev x : ℕ
  x = without_level (mark_word opened l) l

  closed_at : Changed 256 (λ k. get_or opened.numbers k 0) (λ k. get_or (closed_next n opened l).numbers k 0) l n
  closed_at = number_stored opened l n x opened.taken (opened.closed + 1) C.wide C.level

  -- the number of the next open level stays, and fits a word
  next_kept : {m : ℕ} → NextOpen n opened l m → get_or (closed_next n opened l).numbers m 0 ≡ get_or opened.numbers m 0
  next_kept {m} N =
      closed_at.there m (omega (arith, N.lower, C.level)) (λ e. omega (arith, N.lower))

  pub next_small : {m : ℕ} → NextOpen n opened l m → get_or (closed_next n opened l).numbers m 0 ≤ most_pixels
  next_small {m} N =
      omega (arith, next_kept N, C.within m (omega (arith, N.lower, C.level)), C.sized.small)

  pub shuts :
      {v d : ℕ} (p : ℕ) → v ≡ get_or opened.numbers l 0 * 256 + d → d < 256
      → Shut n ws opened (shut_words n ws opened.closed v (get_or opened.numbers l 0) p) (closed_next n opened l) l p d
  shuts {v} p v_is byte =
      let i = opened.closed in
      let k = get_or opened.numbers l 0 in
      let w = mark_word opened l in
      let is : x ≡ w - 2 ^ (l % 64) = ap (λ (z : ℕ). w - z) (level_bit l) in
      let size = C.sized.words in
      record {
        wide = remarked_wide opened l n x opened.taken (i + 1) C.wide C.level;
        marks =
            mark_closed opened l n x opened.taken (i + 1) C.wide C.level
            (λ j ne. ap (λ (y : ℕ). digit y j) is ∙ clear_there w (l % 64) j level_marked ne)
            C.marks
            refl
            (ap (λ (y : ℕ). digit y (l % 64)) is ∙ clear_here w (l % 64) level_marked);
        shutting =
            record {
              up = up_shut n ws size i v k p C.left C.open_here;
              closed = closed_shut n ws size i v k p C.left C.open_here v_is byte;
              drop = drop_shut n ws size i v k p C.left C.open_here v_is byte;
              open_at = closed_at;
              num = number_shut n ws size i v k p C.left C.open_here;
              taken = refl;
              done = add-one i;
            };
        ord = order_shut n ws size i v k p C.left C.open_here;
      }

  pub shuts_below :
      {m : ℕ} → NextOpen n opened l m
      → let k = get_or opened.numbers l 0 in
      Shut n ws opened (shut_words n ws opened.closed (k * 256 + (l - m)) k (get_or (closed_next n opened l).numbers m 0))
      (closed_next n opened l)
      l
      (get_or opened.numbers m 0)
      (l - m)
  shuts_below {m} N = rw (next_kept N) (shuts (get_or opened.numbers m 0) refl (omega (arith, C.level)))
