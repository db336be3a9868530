-- Numbers and the words of the nodes stay what they are where the words are the same. Assumes nothing.
use Prim.Native.Nat.{ℕ, ◌<◌}
use mathlib.Core.Logic.{inl, inr, ⊎_elim}
use mathlib.Core.Path.{◌≡◌, refl, sym, ap, ◌∙◌}
use native.Mathlib.Omega.{arith}
use Rattle.sets.specs.Sets.{Positions}
use Rattle.connected.specs.Component.{Adjacency}
use Rattle.flooding.specs.Numbers.{Drops, parent_by, ClosingOrder, Numbered}
use Rattle.flooding.proofs.Numbers.{flooded_same}
use Rattle.numbers.specs.Nodes.{Nodes}

-- the order of closing
module _ {m : ℕ} {up closed up' closed' : ℕ → ℕ} (same_up : (k : ℕ) → k < m → up' k ≡ up k)
    (same_closed : (i : ℕ) → i < m → closed' i ≡ closed i) (O : ClosingOrder m up closed)
  where
    pub order_same : ClosingOrder m up' closed'
    order_same =
        record {
          within = λ i b. rw (same_closed i b) (O.within i b);
          place = λ k b. let (i, c, e) = O.place k b in (i, c, same_closed i c ∙ e);
          once = λ i j l b e. O.once i j l b (sym (same_closed i (omega arith)) ∙ e ∙ same_closed j b);
          later = λ i b.
              rw (same_closed i b, same_up (closed i) (O.within i b))
              (⊎_elim
              (λ e. inl e)
              (λ w. let (j, l, d, e) = w in inr (j, l, d, same_closed j d ∙ e))
              (O.later i b));
        }

    -- and the drops, also where the levels are read of other pixels
    pub drops_same :
        {level drop level' drop' : ℕ → ℕ} → ((k : ℕ) → k < m → level' k ≡ level k) → ((i : ℕ) → i < m → drop' i ≡ drop i)
        → ((k : ℕ) → k < m → up k < m) → Drops m level up closed drop → Drops m level' up' closed' drop'
    drops_same same_level same_drop ups D i b =
        let k = closed i in
        let inside = O.within i b in
        rw
        (same_drop i b, same_closed i b, same_up k inside, same_level k inside, same_level (up k) (ups k inside))
        (D i b)

-- what the flood leaves
module _ {n m : ℕ} {adj : Adjacency} {g num up closed drop num' up' closed' drop' : ℕ → ℕ} (same_num : (q : ℕ) → q < n → num' q ≡ num q)
    (same_up : (k : ℕ) → k < m → up' k ≡ up k) (same_closed : (i : ℕ) → i < m → closed' i ≡ closed i)
    (same_drop : (i : ℕ) → i < m → drop' i ≡ drop i) (N : Numbered n adj g num up closed drop m)
  where
    same_parent : (q : ℕ) → q < n → parent_by N.first num' up' q ≡ parent_by N.first num up q
    same_parent q b = rw (same_num q b, same_up (num q) (N.within q b)) refl

    pub numbered_same : Numbered n adj g num' up' closed' drop' m
    numbered_same =
        record {
          few = N.few;
          within = λ q b. rw (same_num q b) (N.within q b);
          first = N.first;
          first_within = N.first_within;
          first_own = λ k b. same_num (N.first k) (N.first_within k b) ∙ N.first_own k b;
          level = λ q b. rw (same_num q b) (N.level q b);
          up_within = λ k b. rw (same_up k b) (N.up_within k b);
          dim = λ k b. rw (same_up k b) (N.dim k b);
          flooded = flooded_same same_parent N.flooded;
          order = order_same same_up same_closed N.order;
          drops =
              drops_same same_up same_closed N.order {level = λ (k : ℕ). g (N.first k)} (λ k b. refl) same_drop N.up_within N.drops;
        }

-- the words of the nodes
module _ {n m : ℕ} {adj : Adjacency} {attr : Positions → ℕ} {g num low up held closed drop num' low' up' held' closed' drop' : ℕ → ℕ}
    (same_num : (q : ℕ) → q < n → num' q ≡ num q) (same_low : (k : ℕ) → k < m → low' k ≡ low k)
    (same_up : (k : ℕ) → k < m → up' k ≡ up k) (same_held : (k : ℕ) → k < m → held' k ≡ held k)
    (same_closed : (i : ℕ) → i < m → closed' i ≡ closed i) (same_drop : (i : ℕ) → i < m → drop' i ≡ drop i)
    (N : Nodes n adj attr g num low up held closed drop m)
  where
    pub nodes_same : Nodes n adj attr g num' low' up' held' closed' drop' m
    nodes_same =
        record {
          few = N.few;
          within = λ q b. rw (same_num q b) (N.within q b);
          low_within = λ k b. rw (same_low k b) (N.low_within k b);
          low_own = λ k b. rw (same_low k b) (same_num (low k) (N.low_within k b) ∙ N.low_own k b);
          ups = λ k b. rw (same_up k b) (N.ups k b);
          representatives = λ q b. rw (same_num q b, same_low (num q) (N.within q b)) (N.representatives q b);
          parents = λ k b. rw (same_up k b, same_low (up k) (N.ups k b), same_low k b) (N.parents k b);
          attributes = λ k b. rw (same_held k b, same_low k b) (N.attributes k b);
          order = order_same same_up same_closed N.order;
          drops = drops_same same_up same_closed N.order (λ k b. ap g (same_low k b)) same_drop N.ups N.drops;
        }
