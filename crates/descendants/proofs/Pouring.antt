-- The pass that adds each node to its parent, in the order of closing: what holds when the places below i have been taken, one more of
-- them, and the end. Assumes that neighbours are mutual.
use Prim.Native.Nat.{ℕ, ◌+◌, ◌*◌, ◌/◌, ◌≤◌, ◌<◌}
use mathlib.Core.Bool.{true, false, cond}
use mathlib.Core.List.{List}
use mathlib.Core.Logic.{⊎_elim}
use mathlib.Core.Path.{◌≡◌, refl, sym, ap, subst, ◌∙◌}
use native.Mathlib.Omega.{arith}
use lib.Dec.{eqb}
use lib.ListN.{get_or, length, set, length-set}
use lib.Seq.{get_or-set_same, get_or-set_other}
use borrow.Author.Tests.{eqb-true, eqb-false, eq-eqb, ne_eqb}
use Rattle.sets.specs.Sets.{Positions}
use Rattle.sets.proofs.Tests.{decided, same_truth, or_cases, or_left, or_right}
use Rattle.sets.proofs.Gather.{gather_ext}
use Rattle.connected.specs.Component.{Adjacency, Symmetric}
use Rattle.tree.specs.Forest.{Forest}
use Rattle.tree.proofs.Forest.{node_root_self}
use Rattle.causes.specs.Bounds.{words_a_pixel}
use Rattle.causes.proofs.Lists.{length_two}
use Rattle.levels.specs.Levels.{grey}
use Rattle.levels.specs.Workspace.{closed_of, lowest_of, up_of, held_of}
use Rattle.levels.proofs.Counts.{equal_or_not}
use Rattle.flooding.specs.Numbers.{Numbered, parent_by}
use Rattle.accumulators.specs.Accumulators.{nothing, combined, measured, gathered, Small}
use Rattle.accumulators.proofs.Accumulators.{gathered_small, gathered_union}
use Rattle.branches.specs.Branches.{branch, poured}
use Rattle.branches.proofs.Branches.{poured_all, poured_none, poured_own, poured_other, poured_apart, poured_more}
use Rattle.numbers.proofs.Numbers.{number_forest, parent_first, root_first, first_apart, number_owned}
use Rattle.parts.proofs.Parts.{lent, returned, lent_long, lent_read, stored_in, two_stored_in, read_one, read_two, read_else}
use Rattle.descendants.specs.Pouring.{held_at, held_in, Pour, poured_at, Pourable, parents_of, Poured}
use Rattle.descendants.proofs.Closing.{shut, shut_none, shut_all, shut_not, shut_more, shut_children, shut_parent}

-- the word of the root r: its attribute once it is done, before that the accumulator of what is poured into it
abbrev turned : ℕ → ℕ → (ℕ → ℕ) → (ℕ → ℕ) → (ℕ → ℕ) → Positions → ℕ → ℕ
turned a n v g par done r =
    cond (done r) (measured a (gathered a n v (branch g par r))) (gathered a n v (poured g par done r))

-- the word of the number k when the places below i have been taken, where a pixel's accumulator is v
abbrev pub word : ℕ → {n : ℕ} {adj : Adjacency} {g num up closed drop : ℕ → ℕ} {m : ℕ} → Numbered n adj g num up closed drop m → (ℕ → ℕ) → ℕ → ℕ → ℕ
word a {n = n} {g = g} {num = num} {up = up} N v i k =
    turned a n v g (parent_by N.first num up) (shut N i) (N.first k)

module _ (a : ℕ) {n : ℕ} {adj : Adjacency} (symm : Symmetric adj) {g num up closed drop : ℕ → ℕ} {m : ℕ}
    (N : Numbered n adj g num up closed drop m) (v : ℕ → ℕ) where
  abbrev par : ℕ → ℕ
  par = parent_by N.first num up

  forest : Forest n adj g par
  forest = number_forest N symm

  word_first : (k : ℕ) → k < m → word a N v 0 k ≡ gathered a n v (λ (x : ℕ). eqb (num x) k)
  word_first k b =
      (rw (shut_none N (N.first k)) refl)
      ∙ gather_ext
      n
      (combined a)
      (nothing a)
      v
      (poured g par (shut N 0) (N.first k))
      (λ (x : ℕ). eqb (num x) k)
      (λ x c.
      poured_none n adj symm g par forest (shut N 0) (N.first k) x c (λ r d. shut_none N r)
      ∙ number_owned N k x b c)

  word_last : (i k : ℕ) → m ≤ i → k < m → word a N v i k ≡ measured a (gathered a n v (branch g par (N.first k)))
  word_last i k all b = rw (shut_all N i k all b) refl

  -- one place more, that of the root q
  module _ (i : ℕ) (b : i < m) where
    abbrev q : ℕ
    q = N.first (closed i)

    abbrev done : Positions
    done = shut N i

    abbrev more : Positions
    more = shut N (i + 1)

    here : closed i < m
    here = N.order.within i b

    at : q < n
    at = N.first_within (closed i) here

    whole : turned a n v g par done q ≡ gathered a n v (branch g par q)
    whole =
        (rw (shut_not N i b) refl)
        ∙ gather_ext
        n
        (combined a)
        (nothing a)
        v
        (poured g par done q)
        (branch g par q)
        (λ x c.
        poured_all n adj symm g par forest done q x at c (root_first N (closed i) here) (shut_children N i b))

    more_q : more q ≡ true
    more_q = shut_more N i b q ∙ or_right (done q) (eqb q q) (eq-eqb q q refl)

    more_else : (r : ℕ) → (q ≡ r → ⊥) → more r ≡ done r
    more_else r ne =
        same_truth
        (more r)
        (done r)
        (λ e. ⊎_elim (λ t. t) (λ t. absurd (ne (eqb-true q r t))) (or_cases (done r) (eqb q r) (sym (shut_more N i b r) ∙ e)))
        (λ e. shut_more N i b r ∙ or_left (done r) (eqb q r) e)

    word_node : word a N v (i + 1) (closed i) ≡ measured a (word a N v i (closed i))
    word_node = (rw more_q refl) ∙ ap (measured a) (sym whole)

    to_parent : g (par q) < g q → done (par q) ≡ false → turned a n v g par more (par q) ≡ combined a (turned a n v g par done (par q)) (turned a n v g par done q)
    to_parent dark out =
        let u : ℕ = par q in
        (rw (more_else u (λ e. omega (arith, ap g e)) ∙ out) refl)
        ∙ gathered_union
        a
        n
        v
        (poured g par done u)
        (branch g par q)
        (poured g par more u)
        (poured_apart n adj symm g par forest done more q at (shut_more N i b) dark (shut_not N i b))
        (poured_more n adj symm g par forest done more q at (shut_more N i b) dark)
        ∙ sym (ap (combined a (gathered a n v (poured g par done u))) whole)
        ∙ ap (λ (x : ℕ). combined a x (turned a n v g par done q)) (sym (rw out refl))

    word_parent : (up (closed i) ≡ closed i → ⊥) → word a N v (i + 1) (up (closed i)) ≡ combined a (word a N v i (up (closed i))) (word a N v i (closed i))
    word_parent ne =
        let dark : g (N.first (up (closed i))) < g q = ⊎_elim (λ own. absurd (ne own)) (λ l. l) (N.dim (closed i) here) in
        subst
        (λ (r : ℕ).
        g r < g q → done r ≡ false
        → turned a n v g par more r ≡ combined a (turned a n v g par done r) (turned a n v g par done q))
        (parent_first N (closed i) here)
        to_parent
        dark
        (shut_parent N i b dark)

    word_else : (k : ℕ) → k < m → (closed i ≡ k → ⊥) → (up (closed i) ≡ k → ⊥) → word a N v (i + 1) k ≡ word a N v i k
    word_else k c ne other =
        let r : ℕ = N.first k in
        rw
        (more_else r (λ e. ne (first_apart N (closed i) k here c e)))
        (ap
        (cond (done r) (measured a (gathered a n v (branch g par r))))
        (gather_ext
        n
        (combined a)
        (nothing a)
        v
        (poured g par more r)
        (poured g par done r)
        (λ x d.
        poured_other
        n
        adj
        symm
        g
        par
        forest
        done
        more
        q
        at
        (shut_more N i b)
        r
        x
        d
        (λ z l.
        other
        (first_apart N (up (closed i)) k (N.up_within (closed i) here) c (sym (parent_first N (closed i) here) ∙ z))))))

-- the words of the nodes as they are lent
module _ (n : ℕ) (ws : List ℕ) (long : length ws ≡ words_a_pixel * n) where
  abbrev part : List ℕ
  part = lent (3 * n) (6 * n) ws

  abbrev word_at : ℕ → ℕ
  word_at j = 3 * n + 3 * j + 2

  high : 6 * n ≤ length ws
  high = omega arith

  word_at_is : (j : ℕ) → 3 * n + held_at j ≡ word_at j
  word_at_is j = omega arith

  held_within : (j : ℕ) → j < n → held_at j < length part
  held_within j b = rw (lent_long (3 * n) (6 * n) ws high) (omega arith)

  held_read : (j : ℕ) → j < n → held_in part j ≡ held_of n ws j
  held_read j b =
      lent_read (3 * n) (6 * n) ws high (held_at j) (omega arith) ∙ ap (λ (x : ℕ). get_or ws x 0) (word_at_is j)

  -- one addition, when they come back
  module _ (a k p : ℕ) (k_in : k < n) (p_in : p < n) where
    abbrev ws₁ : List ℕ
    ws₁ = returned (3 * n) (6 * n) ws (poured_at a k p part)

    abbrev measure : ℕ
    measure = measured a (held_of n ws k)

    abbrev sum : ℕ
    sum = combined a (held_of n ws p) (held_of n ws k)

    in_place : ws₁ ≡ cond (eqb p k) (set ws (word_at k) measure) (set (set ws (word_at k) measure) (word_at p) sum)
    in_place =
        rw
        (held_read k k_in, held_read p p_in)
        (⊎_elim
        (λ t. rw t (rw (word_at_is k) at (stored_in (3 * n) (6 * n) ws high (held_at k) measure (omega arith))))
        (λ f.
        rw f
        (rw (word_at_is k, word_at_is p) at (two_stored_in (3 * n) (6 * n) ws high (held_at k) measure (held_at p) sum (omega arith) (omega arith))))
        (decided (eqb p k)))

    at_words : length ws₁ ≡ length ws
    at_words =
        rw in_place
        (⊎_elim
        (λ t. rw t (length-set ws (word_at k) measure))
        (λ f. rw f (length_two ws (word_at k) measure (word_at p) sum))
        (decided (eqb p k)))

    room : (j : ℕ) → j < n → word_at j < length ws
    room j b = omega arith

    apart : (p ≡ k → ⊥) → word_at k ≡ word_at p → ⊥
    apart ne z = ne (omega arith)

    at_node : held_of n ws₁ k ≡ measure
    at_node =
        rw in_place
        (⊎_elim
        (λ t. rw t (get_or-set_same ws (word_at k) measure 0 (room k k_in)))
        (λ f. rw f (read_one ws (word_at k) (word_at p) measure sum (room k k_in) (room p p_in) (apart (eqb-false p k f))))
        (decided (eqb p k)))

    at_parent : (p ≡ k → ⊥) → held_of n ws₁ p ≡ sum
    at_parent ne =
        rw (in_place, ne_eqb p k ne) (read_two ws (word_at k) (word_at p) measure sum (room k k_in) (room p p_in) (apart ne))

    at_else : (w : ℕ) → (w ≡ word_at k → ⊥) → (w ≡ word_at p → ⊥) → get_or ws₁ w 0 ≡ get_or ws w 0
    at_else w d e =
        rw in_place
        (⊎_elim
        (λ t. rw t (get_or-set_other ws (word_at k) w measure 0 d))
        (λ f.
        rw f (read_else ws (word_at k) (word_at p) measure sum (room k k_in) (room p p_in) (apart (eqb-false p k f)) w d e))
        (decided (eqb p k)))

pub record Pouring (a : ℕ) (picture ws₀ : List ℕ) (m : ℕ) (ws : List ℕ) (i : ℕ) : Type 0 where
  pub words : length ws ≡ length ws₀
  pub before : (k : ℕ) → k < 3 * length picture → get_or ws k 0 ≡ get_or ws₀ k 0
  pub lowests : (k : ℕ) → k < m → lowest_of (length picture) ws k ≡ lowest_of (length picture) ws₀ k
  pub ups : (k : ℕ) → k < m → up_of (length picture) ws k ≡ up_of (length picture) ws₀ k
  pub held :
      (P : Pourable a picture ws₀ m) (k : ℕ) → k < m
      → held_of (length picture) ws k ≡ word a P.numbered P.value i k

pub pouring_none : {a : ℕ} {picture ws₀ : List ℕ} {m : ℕ} → Pouring a picture ws₀ m ws₀ 0
pouring_none {a} {picture} {ws₀} {m} =
    record {
      words = refl;
      before = λ k b. refl;
      lowests = λ k b. refl;
      ups = λ k b. refl;
      held = λ P k b. P.own k b ∙ sym (word_first a P.symm P.numbered P.value k b);
    }

pub pouring_end : {a : ℕ} {picture ws₀ ws : List ℕ} {m i : ℕ} → m ≤ i → Pouring a picture ws₀ m ws i → Poured a picture ws₀ ws m
pouring_end {a} {i = i} all W =
    record {
      words = W.words;
      before = W.before;
      lowests = W.lowests;
      ups = W.ups;
      measures = λ P k b. W.held P k b ∙ word_last a P.symm P.numbered P.value i k all b;
    }

-- one place more, that of the number k, whose parent's number is p
module _ {a : ℕ} {picture ws₀ : List ℕ} {m : ℕ} (start : Pourable a picture ws₀ m) {ws : List ℕ} {i : ℕ} (b : i < m) (W : Pouring a picture ws₀ m ws i) where
  abbrev n : ℕ
  n = length picture

  abbrev g : ℕ → ℕ
  g = grey picture

  abbrev k : ℕ
  k = closed_of n ws₀ i

  abbrev p : ℕ
  p = up_of n ws₀ k

  few : m ≤ n
  few = start.numbered.few

  k_within : k < m
  k_within = start.numbered.order.within i b

  p_within : p < m
  p_within = start.numbered.up_within k k_within

  k_low : k < n
  k_low = omega (arith, k_within, few)

  p_low : p < n
  p_low = omega (arith, p_within, few)

  number_is : closed_of n ws i ≡ k
  number_is = ap (λ (v : ℕ). v / 256) (W.before (n + i) (omega (arith, few)))

  parent_is : up_of n ws k ≡ p
  parent_is = W.ups k k_within

  words : length ws ≡ words_a_pixel * n
  words = W.words ∙ start.sized.words

  -- the word of a node that is not taken
  waiting : (j : ℕ) → j < m → shut start.numbered i (start.numbered.first j) ≡ false → held_of n ws j ≡ gathered a n start.value (poured g (parents_of start) (shut start.numbered i) (start.numbered.first j))
  waiting j c out = W.held start j c ∙ (rw out refl)

  small : (j : ℕ) → j < m → shut start.numbered i (start.numbered.first j) ≡ false → Small (held_of n ws j)
  small j c out =
      rw
      (waiting j c out)
      (gathered_small a n start.value _ start.small)

  small_node : Small (held_of n ws k)
  small_node = small k k_within (shut_not start.numbered i b)

  pub pour_asked : Pour a (closed_of n ws i) (up_of n ws (closed_of n ws i)) (lent (3 * n) (6 * n) ws)
  pour_asked =
      let q : ℕ = start.numbered.first k in
      rw
      (number_is, parent_is)
      (record {
        within = held_within n ws words k k_low;
        parent = held_within n ws words p p_low;
        small = rw (held_read n ws words k k_low) small_node;
        small_parent =
            rw
            (held_read n ws words p p_low)
            (⊎_elim
            (λ own. rw own small_node)
            (λ dark. small p p_within (shut_parent start.numbered i b dark))
            (start.numbered.dim k k_within));
        ends =
            rw
            (held_read n ws words k k_low, waiting k k_within (shut_not start.numbered i b))
            (start.ends
            (poured g (parents_of start) (shut start.numbered i) q)
            q
            (start.numbered.first_within k k_within)
            (poured_own
            g
            (parents_of start)
            (shut start.numbered i)
            q
            q
            (node_root_self g (parents_of start) q (root_first start.numbered k k_within))));
      })

  abbrev ws' : List ℕ
  ws' = returned (3 * n) (6 * n) ws (poured_at a k p (lent (3 * n) (6 * n) ws))

  held_next : (P : Pourable a picture ws₀ m) (j : ℕ) → j < m → held_of n ws' j ≡ word a P.numbered P.value (i + 1) j
  held_next P j c =
      let N = P.numbered in
      let v : ℕ → ℕ = P.value in
      ⊎_elim
      (λ z.
      subst
      (λ (x : ℕ). held_of n ws' x ≡ word a N v (i + 1) x)
      z
      (at_node n ws words a k p k_low p_low
      ∙ ap (measured a) (W.held P k k_within)
      ∙ sym (word_node a P.symm N v i b)))
      (λ ne.
      ⊎_elim
      (λ z.
      let apart : p ≡ k → ⊥ = λ e. ne (sym e ∙ z) in
      subst
      (λ (x : ℕ). held_of n ws' x ≡ word a N v (i + 1) x)
      z
      (at_parent n ws words a k p k_low p_low apart
      ∙ ap (λ (x : ℕ). combined a x (held_of n ws k)) (W.held P p p_within)
      ∙ ap (combined a (word a N v i p)) (W.held P k k_within)
      ∙ sym (word_parent a P.symm N v i b apart)))
      (λ other.
      at_else n ws words a k p k_low p_low (3 * n + 3 * j + 2) (λ z. ne (omega arith)) (λ z. other (omega arith))
      ∙ W.held P j c
      ∙ sym (word_else a P.symm N v i b j c ne other))
      (equal_or_not p j))
      (equal_or_not k j)

  step : Pouring a picture ws₀ m ws' (i + 1)
  step =
      record {
        words = at_words n ws words a k p k_low p_low ∙ W.words;
        before = λ w c. at_else n ws words a k p k_low p_low w (λ z. omega arith) (λ z. omega arith) ∙ W.before w c;
        lowests =
            λ j c. at_else n ws words a k p k_low p_low (3 * n + 3 * j) (λ z. omega arith) (λ z. omega arith) ∙ W.lowests j c;
        ups =
            λ j c. at_else n ws words a k p k_low p_low (3 * n + 3 * j + 1) (λ z. omega arith) (λ z. omega arith) ∙ W.ups j c;
        held = held_next;
      }

  pub pouring_more : {part : List ℕ} → part ≡ poured_at a (closed_of n ws i) (up_of n ws (closed_of n ws i)) (lent (3 * n) (6 * n) ws) → Pouring a picture ws₀ m (returned (3 * n) (6 * n) ws part) (i + 1)
  pouring_more e = rw (e, number_is, parent_is) step
