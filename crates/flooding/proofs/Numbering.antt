-- A pixel takes a number, that of the open node of its level or the next: the numbers still stand for the parent words and the roots,
-- of which that pixel's and that level's are changed as the flood changes them.
use Prim.Native.Nat.{ℕ, suc, ◌+◌, ◌<◌}
use mathlib.Core.Logic.{◌⊎◌, inl, inr}
use mathlib.Core.Path.{◌≡◌, refl, sym, ap, ◌∙◌}
use native.Mathlib.Omega.{arith}
use lib.Dec.{eqb, ltb}
use borrow.Author.Tests.{eq-eqb, ne_eqb, lt-ltb, le-ltb}
use Rattle.sets.specs.Sets.{count}
use Rattle.sets.proofs.Laws.{count_ext}
use Rattle.levels.specs.Tables.{Changed}
use Rattle.levels.proofs.Counts.{by_cases, equal_or_not}
use Rattle.flooding.specs.Numbers.{changed, Numbers, IsOpen, Taken, First, OpenNode, ClosedNode, Named, Numbering}
use Rattle.flooding.proofs.Named.{changed_once, turned_back, count_stored, taken_le, pushed_number_fits, first_met, open_root}

-- what a pixel q that takes a number leaves: the first pixels, the parent words and the roots, with r the first pixel of the number
pub record Renamed (n l q : ℕ) (g par root : ℕ → ℕ) (w' : Numbers) : Type 0 where
  pub first' : ℕ → ℕ
  pub par' : ℕ → ℕ
  pub root' : ℕ → ℕ
  pub r : ℕ
  pub root_is : ((root l < n) × (r ≡ root l)) ⊎ ((root l ≡ n) × (r ≡ q))
  pub par_changed : Changed n par par' q r
  pub root_changed : Changed 256 root root' l r
  pub named : Named n g first' par' root' w'

module _ {n : ℕ} {g first par root : ℕ → ℕ} {w w' : Numbers} (N : Named n g first par root w) {l q k : ℕ}
    (P : Numbering n l q k w w') (in_q : q < n) (lo : l < 256) (grey_q : g q ≡ l) (new : w.num q ≡ n)
    (greys : (j : ℕ) → j < 256 → root j < n → g (root j) ≡ j)
  where
    k_in : k < n
    k_in = pushed_number_fits N P in_q new

    fewer : count n (λ (x : ℕ). eqb (w.num x) n) ≡ suc (count n (λ (x : ℕ). eqb (w'.num x) n))
    fewer = count_stored n (λ y. eqb y n) P.num in_q (eq-eqb (w.num q) n new) (ne_eqb k n (λ e. omega (arith, k_in)))

    -- r is the first pixel of the number
    module _ {r : ℕ}
        (R : ((w.open_at l < n) × (k ≡ w.open_at l) × (w'.taken ≡ w.taken) × (r ≡ root l))
        ⊎ ((w.open_at l ≡ n) × (k ≡ w.taken) × (w'.taken ≡ suc w.taken) × (r ≡ q)))
      where
        abbrev first' : ℕ → ℕ
        first' = changed first k r

        first_here : first' k ≡ r
        first_here = (changed_once n first k r).here

        par_once : Changed n par (changed par q r) q r
        par_once = changed_once n par q r

        root_once : Changed 256 root (changed root l r) l r
        root_once = changed_once 256 root l r

        root_is : ((root l < n) × (r ≡ root l)) ⊎ ((root l ≡ n) × (r ≡ q))
        root_is = by_cases R (λ o. inl (open_root N l lo o.0, o.3)) (λ f. inr (N.no_node l lo f.0, f.3))

        r_in : r < n
        r_in = by_cases root_is (λ o. omega arith) (λ f. omega arith)

        grey_r : g r ≡ l
        grey_r = by_cases root_is (λ o. rw o.1 (greys l lo o.0)) (λ f. rw f.1 grey_q)

        old_or_next : (j : ℕ) → j < w'.taken → (j < w.taken) ⊎ ((j ≡ k) × (r ≡ q))
        old_or_next j h =
            by_cases
            R
            (λ o. inl (omega arith))
            (λ f.
            by_cases
            (equal_or_not j k)
            (λ e. inr (e, f.3))
            (λ (ne : j ≡ k → ⊥). inl (omega arith)))

        stays : (j : ℕ) → j < w.taken → j < w'.taken
        stays j h = by_cases R (λ o. omega arith) (λ f. omega arith)

        k_taken : k < w'.taken
        k_taken = by_cases R (λ o. omega (arith, (N.open_node l lo o.0).number)) (λ f. omega arith)

        kept : (j : ℕ) → j < w.taken → first' j ≡ first j
        kept j h =
            by_cases
            (equal_or_not j k)
            (λ e.
            by_cases
            R
            (λ o. rw (e, first_here, o.3, (N.open_node l lo o.0).root_is, o.1) refl)
            (λ f. absurd (omega arith)))
            ((changed_once (suc j) first k r).there j (omega arith))

        -- a number that was taken is open as it was
        open_kept : (j x : ℕ) → x < 256 → j < w.taken → w.open_at x ≡ j → w'.open_at x ≡ j
        open_kept j x hx h o =
            by_cases
            (equal_or_not x l)
            (λ e.
            by_cases
            R
            (λ z. rw (e, P.open_at.here, z.1) (rw e at o))
            (λ z. let y : w.open_at l ≡ j = rw e at o in absurd (omega (arith, taken_le N))))
            (λ ne. P.open_at.there x hx ne ∙ o)

        was_open : (j x : ℕ) → x < 256 → j < w.taken → w'.open_at x ≡ j → w.open_at x ≡ j
        was_open j x hx h o =
            by_cases
            (equal_or_not x l)
            (λ e.
            let y : k ≡ j = sym P.open_at.here ∙ (rw e at o) in
            by_cases R (λ z. rw e (sym z.1 ∙ y)) (λ z. absurd (omega arith)))
            (λ ne. sym (P.open_at.there x hx ne) ∙ o)

        is_open_kept : (j : ℕ) → j < w.taken → IsOpen g first w j → IsOpen g first' w' j
        is_open_kept j h o = rw (kept j h) (open_kept j (g (first j)) (N.firsts j h).byte h o)

        was_is_open : (j : ℕ) → j < w.taken → IsOpen g first' w' j → IsOpen g first w j
        was_is_open j h o = was_open j (g (first j)) (N.firsts j h).byte h (rw (kept j h) at o)

        new_balance : w'.done + count 256 (λ (j : ℕ). ltb (w'.open_at j) n) ≡ w'.taken
        new_balance =
            by_cases
            R
            (λ o.
            let same : count 256 (λ (j : ℕ). ltb (w'.open_at j) n) ≡ count 256 (λ (j : ℕ). ltb (w.open_at j) n) =
            count_ext
            256
            _
            _
            (λ j hj.
            ap
            (λ (y : ℕ). ltb y n)
            (by_cases
            (equal_or_not j l)
            (λ e. rw (e, P.open_at.here) o.1)
            (λ ne. P.open_at.there j hj ne)))
            in
            omega (arith, N.balance, P.done))
            (λ f.
            omega (
              arith,
              N.balance,
              P.done,
              count_stored 256 (λ y. ltb y n) (turned_back P.open_at) lo
                  (lt-ltb (w'.open_at l) n (omega (arith, P.open_at.here, k_in)))
                  (le-ltb (w.open_at l) n (omega arith)),
            ))

        new_met : (x : ℕ) → x < n → w'.num x < n → Taken n g first' (changed par q r) w' x
        new_met x hx m =
            by_cases
            (equal_or_not x q)
            (λ e.
            record {
              number = rw (e, P.num.here) k_taken;
              parent = rw (e, par_once.here) r_in;
              level = rw (e, P.num.here, first_here) (grey_r ∙ sym grey_q);
            })
            (λ ne.
            let z = P.num.there x hx ne in
            let old = N.met x hx (rw z at m) in
            record {
              number = rw z (stays (w.num x) old.number);
              parent = rw (par_once.there x hx ne) old.parent;
              level = rw (z, kept (w.num x) old.number) old.level;
            })

        new_first : (j : ℕ) → j < w'.taken → First n g first' w' j
        new_first j h =
            by_cases
            (old_or_next j h)
            (λ old.
            let F = N.firsts j old in
            let z = kept j old in
            record {
              within = rw z F.within;
              byte = rw z F.byte;
              own = rw z (P.num.there (first j) F.within (first_met N j q old new) ∙ F.own);
            })
            (λ z.
            let here : first' j ≡ q = rw z.0 (first_here ∙ z.1) in
            record {
              within = rw here in_q;
              byte = rw (here, grey_q) lo;
              own = rw here (P.num.here ∙ sym z.0);
            })

        new_others :
            (x : ℕ) → x < n → w'.num x < n → (first' (w'.num x) ≡ x → ⊥) → changed par q r x ≡ first' (w'.num x)
        new_others x hx m far =
            by_cases
            (equal_or_not x q)
            (λ e. rw (e, P.num.here, first_here) par_once.here)
            (λ ne.
            let z = P.num.there x hx ne in
            let m' : w.num x < n = rw z at m in
            let same = kept (w.num x) (N.met x hx m').number in
            rw (par_once.there x hx ne, z, same) (N.others x hx m' (rw (z, same) at far)))

        new_open : (j : ℕ) → j < 256 → w'.open_at j < n → OpenNode first' (changed root l r) w' j
        new_open j hj o =
            by_cases
            (equal_or_not j l)
            (λ e.
            record {
              number = rw (e, P.open_at.here) k_taken;
              root_is = rw (e, P.open_at.here, first_here) root_once.here;
            })
            (λ ne.
            let z = P.open_at.there j hj ne in
            let old = N.open_node j hj (rw z at o) in
            record {
              number = rw z (stays (w.open_at j) old.number);
              root_is = rw (z, root_once.there j hj ne, kept (w.open_at j) old.number) old.root_is;
            })

        same_closed : (i : ℕ) → i < w.done → w'.closed i ≡ w.closed i
        same_closed i h = P.closed i (omega (arith, N.balance, taken_le N))

        same_drop : (i : ℕ) → i < w.done → w'.drop i ≡ w.drop i
        same_drop i h = P.drop i (omega (arith, N.balance, taken_le N))

        same_up : (j : ℕ) → j < w.taken → w'.up j ≡ w.up j
        same_up j h = P.up j (omega (arith, taken_le N))

        new_closed : (j : ℕ) → j < w'.taken → (IsOpen g first' w' j → ⊥) → ClosedNode g first' (changed par q r) w' j
        new_closed j h shut =
            by_cases
            (old_or_next j h)
            (λ old.
            let C = N.closed_node j old (λ o. shut (is_open_kept j old o)) in
            let up = same_up j old in
            let z = kept j old in
            let z_up = kept (w.up j) C.up_within in
            record {
              up_within = rw up (stays (w.up j) C.up_within);
              parent =
                  rw
                  (up, z, z_up)
                  (par_once.there (first j) (N.firsts j old).within (first_met N j q old new) ∙ C.parent);
              dark = rw (up, z, z_up) C.dark;
              at = C.at;
              place = omega (arith, C.place, P.done);
              holds = same_closed C.at C.place ∙ C.holds;
            })
            (λ z. absurd (shut (rw (z.0, first_here, grey_r) P.open_at.here)))

        in_up : (i : ℕ) → i < w.done → w.up (w.closed i) < w.taken
        in_up i h = (N.closed_node (w.closed i) (N.closed_within i h) (N.not_open i h)).up_within

        new_later :
            (i : ℕ) → i < w.done
            → IsOpen g first' w' (w.up (w.closed i))
            ⊎ ((j : ℕ) × (i < j) × (j < w.done) × (w'.closed j ≡ w.up (w.closed i)))
        new_later i h =
            by_cases
            (N.later i h)
            (λ o. inl (is_open_kept (w.up (w.closed i)) (in_up i h) o))
            (λ z. inr (z.0, z.1, z.2, same_closed z.0 z.2 ∙ z.3))

        renamed : Renamed n l q g par root w'
        renamed =
            record {
              first' = first';
              par' = changed par q r;
              root' = changed root l r;
              r = r;
              root_is = root_is;
              par_changed = par_once;
              root_changed = root_once;
              named =
                  record {
                    few = by_cases R (λ o. omega (arith, N.few, fewer)) (λ f. omega (arith, N.few, fewer));
                    balance = new_balance;
                    range = λ x hx.
                        by_cases
                        (equal_or_not x q)
                        (λ e. rw (e, P.num.here) (omega (arith, k_in)))
                        (λ ne. rw (P.num.there x hx ne) (N.range x hx));
                    met = new_met;
                    unmet = λ x hx u.
                        let ne : x ≡ q → ⊥ = λ e.
                        let z : w'.num x ≡ k = rw e P.num.here in omega (arith, k_in) in
                        par_once.there x hx ne ∙ N.unmet x hx (sym (P.num.there x hx ne) ∙ u);
                    firsts = new_first;
                    others = new_others;
                    opens = λ j hj.
                        by_cases
                        (equal_or_not j l)
                        (λ e. rw (e, P.open_at.here) (omega (arith, k_in)))
                        (λ ne. rw (P.open_at.there j hj ne) (N.opens j hj));
                    open_node = new_open;
                    no_node = λ j hj u.
                        let ne : j ≡ l → ⊥ = λ e.
                        let z : w'.open_at j ≡ k = rw e P.open_at.here in omega (arith, k_in) in
                        root_once.there j hj ne ∙ N.no_node j hj (sym (P.open_at.there j hj ne) ∙ u);
                    closed_node = new_closed;
                    closed_within = λ i h.
                        let b : i < w.done = rw P.done at h in
                        rw (same_closed i b) (stays (w.closed i) (N.closed_within i b));
                    not_open = λ i h o.
                        let b : i < w.done = rw P.done at h in
                        N.not_open i b (was_is_open (w.closed i) (N.closed_within i b) (rw (same_closed i b) at o));
                    once = λ i j h hj e.
                        let b : j < w.done = rw P.done at hj in
                        N.once i j h b (sym (same_closed i (omega arith)) ∙ e ∙ same_closed j b);
                    later = λ i h.
                        let b : i < w.done = rw P.done at h in
                        rw (same_closed i b, same_up (w.closed i) (N.closed_within i b), P.done) (new_later i b);
                    drops = λ i h.
                        let b : i < w.done = rw P.done at h in
                        let inside = N.closed_within i b in
                        rw (
                          same_drop i b,
                          same_closed i b,
                          same_up (w.closed i) inside,
                          kept (w.closed i) inside,
                          kept (w.up (w.closed i)) (in_up i b),
                        )
                        (N.drops i b);
                  };
            }

    -- q takes a number
    pub named_pushed : Renamed n l q g par root w'
    named_pushed =
        by_cases
        P.which
        (λ o. renamed {r = root l} (inl (o.0, o.1, o.2, refl)))
        (λ f. renamed {r = q} (inr (f.0, f.1, f.2, refl)))
