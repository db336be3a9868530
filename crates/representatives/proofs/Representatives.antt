-- The pass that writes the record, in order of position: what holds when the pixels below q are written, one more of them, and the
-- end. Assumes nothing.
use Prim.Native.Nat.{ℕ, ◌+◌, ◌*◌, ◌≤◌, ◌<◌}
use mathlib.Core.Bool.{true, cond}
use mathlib.Core.List.{List}
use mathlib.Core.Logic.{inr, ⊎_elim}
use mathlib.Core.Path.{◌≡◌, refl, sym, ap, ◌∙◌}
use native.Mathlib.Nat.{zero-add}
use native.Mathlib.Omega.{arith}
use lib.Dec.{eqb}
use lib.ListN.{get_or, length, set, length-set}
use lib.Seq.{get_or-set_same, get_or-set_other}
use Rattle.sets.specs.Sets.{Positions, count}
use Rattle.sets.proofs.Tests.{decided, clash}
use Rattle.sets.proofs.Laws.{count_le}
use Rattle.tree.specs.Listing.{Before, Listed}
use Rattle.causes.specs.Bounds.{words_a_pixel}
use Rattle.levels.specs.Workspace.{order_of, number_at, lowest_of, up_of, held_of}
use Rattle.levels.proofs.Counts.{bit, off, equal_or_not}
use Rattle.levels.proofs.Tables.{count_next}
use Rattle.parts.proofs.Parts.{lent, returned, part_stored}
use Rattle.representatives.proofs.Choosing.{bit_most, by_test}
use Rattle.representatives.specs.Representatives.{Representable, is_lowest, new_parent, new_attribute, Writable, written_at, Represented}

-- the positions of s below q, in order of position
abbrev pub InPlaceOrder : ℕ → ℕ → Positions → (ℕ → ℕ) → Type 0
InPlaceOrder q m s ord = Listed q m (λ (x : ℕ). 0) s ord

-- one position more, put at the end of the list: it stays there if it is one of s
module _ {q m : ℕ} {s : Positions} {ord ord' : ℕ → ℕ} (list : InPlaceOrder q m s ord) (same : (i : ℕ) → i < m → ord' i ≡ ord i) where
  in_order_put : s q ≡ true → ord' m ≡ q → InPlaceOrder (q + 1) (m + 1) s ord'
  in_order_put own put =
      record {
        within = λ i b. at i b (λ (x : ℕ). x < q + 1) (λ c. omega (arith, list.within i c)) (omega arith);
        inside = λ i b. at i b (λ (x : ℕ). s x ≡ true) (list.inside i) own;
        place =
            λ x b e.
            ⊎_elim
            (λ z. (m, omega arith, put ∙ sym z))
            (λ ne. let (i, c, d) = list.place x (omega arith) e in (i, omega arith, same i c ∙ d))
            (equal_or_not x q);
        rising =
            λ i j l b.
            let c : i < m = omega arith in
            rw
            (same i c)
            (at j b (λ (x : ℕ). Before (λ (y : ℕ). 0) (ord i) x) (list.rising i j l) (inr (refl, list.within i c)));
      }
    where
      at : (i : ℕ) → i < m + 1 → (P : ℕ → Type 0) → (i < m → P (ord i)) → P q → P (ord' i)
      at i b P old new =
          ⊎_elim
          (λ z. let e : ord' i ≡ q = ap ord' z ∙ put in rw e new)
          (λ ne. let c : i < m = omega arith in rw (same i c) (old c))
          (equal_or_not i m)

  in_order_skip : (s q ≡ true → ⊥) → InPlaceOrder (q + 1) m s ord'
  in_order_skip other =
      record {
        within = λ i b. rw (same i b) (omega (arith, list.within i b));
        inside = λ i b. rw (same i b) (list.inside i b);
        place =
            λ x b e.
            ⊎_elim
            (λ z. absurd (other (rw z at e)))
            (λ ne. let (i, c, d) = list.place x (omega arith) e in (i, c, same i c ∙ d))
            (equal_or_not x q);
        rising = λ i j l b. rw (same i (omega arith), same j b) (list.rising i j l b);
      }

  in_order_next : ord' m ≡ q → InPlaceOrder (q + 1) (m + bit (s q)) s ord'
  in_order_next put =
      ⊎_elim
      (λ t. rw t (in_order_put t put))
      (λ t.
      let z : m + bit (s q) ≡ m = omega (arith, off t) in
      rw z (in_order_skip (λ u. clash (s q) u t)))
      (decided (s q))

-- the words of the record at q depend on its number and the words of the nodes
abbrev NodesKept : ℕ → List ℕ → List ℕ → Type 0
NodesKept n ws ws₀ = (k : ℕ) → 3 * n ≤ k → get_or ws k 0 ≡ get_or ws₀ k 0

module _ (n q : ℕ) (ws ws₀ : List ℕ) (same : number_at ws q ≡ number_at ws₀ q) (kept : NodesKept n ws ws₀) where
  abbrev k₀ : ℕ
  k₀ = number_at ws₀ q

  same_lowest : lowest_of n ws (number_at ws q) ≡ lowest_of n ws₀ k₀
  same_lowest = ap (lowest_of n ws) same ∙ kept (3 * n + 3 * k₀) (omega arith)

  same_up : up_of n ws (number_at ws q) ≡ up_of n ws₀ k₀
  same_up = ap (up_of n ws) same ∙ kept (3 * n + 3 * k₀ + 1) (omega arith)

  same_held : held_of n ws (number_at ws q) ≡ held_of n ws₀ k₀
  same_held = ap (held_of n ws) same ∙ kept (3 * n + 3 * k₀ + 2) (omega arith)

  same_own : is_lowest n ws q ≡ is_lowest n ws₀ q
  same_own = ap (λ (x : ℕ). eqb x q) same_lowest

  same_parent : new_parent n ws q ≡ new_parent n ws₀ q
  same_parent =
      let above : lowest_of n ws (up_of n ws (number_at ws q)) ≡ lowest_of n ws₀ (up_of n ws₀ k₀) =
      ap (lowest_of n ws) same_up ∙ kept (3 * n + 3 * up_of n ws₀ k₀) (omega arith) in
      rw (above, same_lowest) refl

  same_attribute : new_attribute n ws q ≡ new_attribute n ws₀ q
  same_attribute = rw (same_held, same_lowest) refl

-- the workspace once the parent word of q is written, and once its attribute word is written too
module _ (n q : ℕ) (ws : List ℕ) where
  abbrev with_parent : List ℕ
  with_parent = set ws q (new_parent n ws q)

  abbrev with_words : List ℕ
  with_words = set with_parent (n + q) (new_attribute n ws q)

  parent_long : length with_parent ≡ length ws
  parent_long = length-set ws q (new_parent n ws q)

  words_long : length with_words ≡ length ws
  words_long = length-set with_parent (n + q) (new_attribute n ws q) ∙ parent_long

-- and once q is put at the end of the list: as long as before
pub written_long : {n q listed : ℕ} {ws ws' : List ℕ} → Writable n q listed ws → ws' ≡ written_at n q listed ws → length ws' ≡ length ws
written_long {n} {q} {listed} {ws} ready written = ap length written ∙ length-set (with_words n q ws) (2 * n + listed) q ∙ words_long n q ws

-- one pixel: the number of its test chooses the words that are stored, and each part that is lent comes back with one word of them
module _ {n q listed : ℕ} {ws : List ℕ} (ready : Writable n q listed ws) {one : ℕ} (is : one ≡ bit (is_lowest n ws q)) where
  pub one_most : one ≤ 1
  one_most = rw is (bit_most (is_lowest n ws q))

  -- the three words stored in the whole list
  pub stored_at : {parent attribute : ℕ}
      → parent ≡ cond (eqb one 1) (lowest_of n ws (up_of n ws (number_at ws q))) (lowest_of n ws (number_at ws q))
      → attribute ≡ cond (eqb one 1) (held_of n ws (number_at ws q)) 0
      → set (set (set ws q parent) (n + q) attribute) (2 * n + listed) q ≡ written_at n q listed ws
  stored_at p a = rw (p, a, by_test (is_lowest n ws q) is) refl

  high : 3 * n ≤ length ws
  high = omega (arith, ready.sized.words)

  pub parent_put : {word : ℕ} {part : List ℕ}
      → word ≡ cond (eqb one 1) (lowest_of n ws (up_of n ws (number_at ws q))) (lowest_of n ws (number_at ws q))
      → part ≡ set (lent 0 n ws) q word → returned 0 n ws part ≡ with_parent n q ws
  parent_put {word} chosen put =
      let is_word : word ≡ new_parent n ws q = rw (by_test (is_lowest n ws q) is) at chosen in
      rw
      (zero-add q)
      at (part_stored 0 n ws (omega (arith, high)) q (new_parent n ws q) (omega (arith, ready.within)) refl (rw is_word at put))

  pub attribute_put : {word : ℕ} {ys part : List ℕ}
      → word ≡ cond (eqb one 1) (held_of n ws (number_at ws q)) 0
      → ys ≡ with_parent n q ws → part ≡ set (lent n (2 * n) ys) q word → returned n (2 * n) ys part ≡ with_words n q ws
  attribute_put {word} kept before put =
      let is_word : word ≡ new_attribute n ws q = rw (by_test (is_lowest n ws q) is) at kept in
      part_stored
      n
      (2 * n)
      (with_parent n q ws)
      (omega (arith, high, parent_long n q ws))
      q
      (new_attribute n ws q)
      (omega (arith, ready.within))
      before
      (rw is_word at put)

  pub list_put : {ys part : List ℕ}
      → ys ≡ with_words n q ws → part ≡ set (lent (2 * n) (3 * n) ys) listed q
      → returned (2 * n) (3 * n) ys part ≡ written_at n q listed ws
  list_put =
      part_stored (2 * n) (3 * n) (with_words n q ws) (omega (arith, high, words_long n q ws)) listed q (omega (arith, ready.room))

pub record Writing (n : ℕ) (ws₀ ws : List ℕ) (listed q : ℕ) : Type 0 where
  pub top : q ≤ n
  pub words : length ws ≡ length ws₀
  pub parents : (x : ℕ) → x < q → get_or ws x 0 ≡ new_parent n ws₀ x
  pub attributes : (x : ℕ) → x < q → get_or ws (n + x) 0 ≡ new_attribute n ws₀ x
  pub rest : (x : ℕ) → q ≤ x → x < n → number_at ws x ≡ number_at ws₀ x
  pub kept : NodesKept n ws ws₀
  pub list : InPlaceOrder q listed (is_lowest n ws₀) (order_of n ws)
  pub number : listed ≡ count q (is_lowest n ws₀)

pub writing_none : (n : ℕ) (ws₀ : List ℕ) → Writing n ws₀ ws₀ 0 0
unfolding count
writing_none n ws₀ =
    record {
      top = omega arith;
      words = refl;
      parents = λ x b. absurd (omega arith);
      attributes = λ x b. absurd (omega arith);
      rest = λ x l b. refl;
      kept = λ k b. refl;
      list =
          record {
            within = λ i b. absurd (omega arith);
            inside = λ i b. absurd (omega arith);
            place = λ x b e. absurd (omega arith);
            rising = λ i j l b. absurd (omega arith);
          };
      number = refl;
    }

pub writing_end : {n : ℕ} {ws₀ ws : List ℕ} {listed q : ℕ} → n ≤ q → Writing n ws₀ ws listed q → Represented n ws₀ ws listed
writing_end {n} {ws₀} {ws} {listed} {q} all W =
    let z : q ≡ n = omega (arith, W.top) in
    record {
      words = W.words;
      parents = λ x b. W.parents x (omega arith);
      attributes = λ x b. W.attributes x (omega arith);
      order = rw z at W.list;
      number = rw z at W.number;
    }

-- one pixel more, q
module _ {n : ℕ} {ws₀ ws : List ℕ} {listed q : ℕ} (start : Representable n ws₀) (b : q < n) (W : Writing n ws₀ ws listed q) where
  short : listed ≤ q
  short = omega (arith, W.number, count_le q (is_lowest n ws₀))

  long : length ws ≡ words_a_pixel * n
  long = W.words ∙ start.sized.words

  as_before : number_at ws q ≡ number_at ws₀ q
  as_before = W.rest q (omega arith) b

  pub write_asked : Writable n q listed ws
  write_asked =
      let k : number_at ws₀ q < start.nodes = start.within q b in
      record {
        sized = record { words = long; small = start.sized.small };
        within = b;
        room = omega (arith, short);
        number = omega (arith, as_before, k, start.few);
        low = rw (same_lowest n q ws ws₀ as_before W.kept) (start.low q b);
        up = omega (arith, same_up n q ws ws₀ as_before W.kept, start.ups (number_at ws₀ q) k, start.few);
      }

  -- there is room for one node more
  pub listed_room : {one : ℕ} → one ≡ bit (is_lowest n ws q) → listed + one ≤ q + 1
  listed_room e = omega (arith, short, one_most write_asked e)

  -- the words after the three stores
  abbrev after : ℕ → ℕ
  after k = get_or (written_at n q listed ws) k 0

  after_parent : after q ≡ new_parent n ws₀ q
  after_parent =
      get_or-set_other (with_words n q ws) (2 * n + listed) q q 0 (λ z. omega arith)
      ∙ get_or-set_other (with_parent n q ws) (n + q) q (new_attribute n ws q) 0 (λ z. omega arith)
      ∙ get_or-set_same ws q (new_parent n ws q) 0 (omega (arith, long))
      ∙ same_parent n q ws ws₀ as_before W.kept

  after_attribute : after (n + q) ≡ new_attribute n ws₀ q
  after_attribute =
      get_or-set_other (with_words n q ws) (2 * n + listed) (n + q) q 0 (λ z. omega arith)
      ∙ get_or-set_same (with_parent n q ws) (n + q) (new_attribute n ws q) 0 (omega (arith, long, parent_long n q ws))
      ∙ same_attribute n q ws ws₀ as_before W.kept

  after_order : after (2 * n + listed) ≡ q
  after_order = get_or-set_same (with_words n q ws) (2 * n + listed) q 0 (omega (arith, short, long, words_long n q ws))

  after_else : (k : ℕ) → (k ≡ q → ⊥) → (k ≡ n + q → ⊥) → (k ≡ 2 * n + listed → ⊥) → after k ≡ get_or ws k 0
  after_else k off_q off_held off_List =
      get_or-set_other (with_words n q ws) (2 * n + listed) k q 0 off_List
      ∙ get_or-set_other (with_parent n q ws) (n + q) k (new_attribute n ws q) 0 off_held
      ∙ get_or-set_other ws q k (new_parent n ws q) 0 off_q

  more : Writing n ws₀ (written_at n q listed ws) (listed + bit (is_lowest n ws₀ q)) (q + 1)
  more =
      record {
        top = omega arith;
        words = written_long write_asked refl ∙ W.words;
        parents =
            λ x c.
            ⊎_elim
            (λ z. rw z after_parent)
            (λ ne. after_else x ne (λ z. omega arith) (λ z. omega arith) ∙ W.parents x (omega arith))
            (equal_or_not x q);
        attributes =
            λ x c.
            ⊎_elim
            (λ z. rw z after_attribute)
            (λ ne.
            after_else (n + x) (λ z. omega arith) (λ z. ne (omega arith)) (λ z. omega arith) ∙ W.attributes x (omega arith))
            (equal_or_not x q);
        rest = λ x l c. after_else x (λ z. omega arith) (λ z. omega arith) (λ z. omega arith) ∙ W.rest x (omega arith) c;
        kept =
            λ k c. after_else k (λ z. omega arith) (λ z. omega arith) (λ z. omega (arith, short)) ∙ W.kept k c;
        list =
            in_order_next
            W.list
            (λ i c. after_else (2 * n + i) (λ z. omega arith) (λ z. omega arith) (λ z. omega arith))
            after_order;
        number = omega (arith, W.number, count_next q (is_lowest n ws₀));
      }

  pub writing_more :
      {ws' : List ℕ} {one : ℕ} → one ≡ bit (is_lowest n ws q) → ws' ≡ written_at n q listed ws
      → Writing n ws₀ ws' (listed + one) (q + 1)
  writing_more e f = rw (f, e ∙ ap bit (same_own n q ws ws₀ as_before W.kept)) more
