-- A visit of a neighbour on the lists: nothing is stored where it is met, and where it is not it is put into its queue or takes the place at
-- the head.
use Prim.Native.Nat.{ℕ, suc, ◌≤◌, ◌<◌}
use Rattle.std.specs.Prelude.{Option, Some, None}
use Rattle.std.specs.Bool.{then_some}
use mathlib.Core.Bool.{Bool, true, false, ◌||◌}
use mathlib.Core.List.{List}
use mathlib.Core.Logic.{◌⊎◌, inl, inr}
use mathlib.Core.Path.{◌≡◌, refl, sym, ap, subst, ◌∙◌}
use native.Mathlib.Omega.{arith}
use lib.Dec.{eqb, ltb}
use lib.ListN.{get_or, length}
use borrow.Author.Tests.{eqb-true, eq-eqb, lt-ltb, le-ltb, ltb-true, ltb-false}
use Rattle.sets.specs.Sets.{Positions}
use Rattle.sets.proofs.Tests.{or_cases, or_right}
use Rattle.grid.specs.Neighbours.{adjacent}
use Rattle.grid.specs.declared.Grid.{Grid}
use Rattle.grid.proofs.Attributes.{adjacent_symmetric}
use Rattle.levels.specs.Levels.{grey}
use Rattle.levels.specs.Tables.{Changed}
use Rattle.levels.specs.Workspace.{number_at, order_of}
use Rattle.levels.proofs.Counts.{by_cases, equal_or_not, below_or_not}
use Rattle.flooding.specs.Flooding.{Placed, Pushed}
use Rattle.flooding.proofs.Meeting.{met_sound, met_at, met_ord, tail_le, tail_lt, reaches}
use Rattle.flooding.proofs.Following.{followed_sound, followed_at}
use Rattle.flooding.proofs.Named.{turned_back, count_stored}
use Rattle.flooding.proofs.Numbers.{taken_fits, pushed_number_fits, open_number, open_root, Renamed, named_pushed}
use Rattle.queues.specs.declared.Opened.{Opened}
use Rattle.queues.specs.Queues.{Lists, lists, numbers_of, state_of, Nameable, Fitting, Placing, Replaceable, Replacing}
use Rattle.visits.specs.Visits.{head_pixel, Ready, Standing, StandsAt, Visiting, Visited, Moved, VisitedTo, met_test, met_count, MetBut, VisitedAround}

-- a pixel in its queue, and the parents and roots that the numbers stand for then, are a step of the flood
pub pushes :
    {n q l : ℕ} {g par root : ℕ → ℕ} {ws tails ws' tails' : List ℕ} {opened opened' : Opened} (heads : List ℕ)
    → Placing n q l ws tails opened ws' tails' opened'
    → (N : Renamed n l q g par root (numbers_of n ws' opened'))
    → Pushed n l q N.r (state_of n par root (lists ws heads tails opened))
    (state_of n N.par' N.root' (lists ws' heads tails' opened'))
pushes heads P N =
    record {
      root_is = N.root_is;
      par = N.par_changed;
      ord = P.ord;
      tail = P.tail;
      root = N.root_changed;
      head = λ k. refl;
    }

-- a pixel that was not met and is
one_more_met :
    {n q : ℕ} (ws ws' : List ℕ) → Changed n (number_at ws) (number_at ws') q (number_at ws' q) → q < n → number_at ws q ≡ n
    → number_at ws' q < n
    → met_count n ws' ≡ suc (met_count n ws)
one_more_met {n} {q} ws ws' C h new fits =
    count_stored n (λ (k : ℕ). ltb k n) (turned_back C) h (lt-ltb (number_at ws' q) n fits) (le-ltb (number_at ws q) n (omega arith))

-- what was met stays met
still_met :
    {n q : ℕ} (ws ws' : List ℕ) → Changed n (number_at ws) (number_at ws') q (number_at ws' q) → number_at ws' q < n → (x : ℕ)
    → x < n → number_at ws x < n → number_at ws' x < n
still_met {q = q} ws ws' C fits x hx h =
    by_cases (equal_or_not x q) (λ e. rw e fits) (λ ne. rw (C.there x hx ne) h)

-- the pixel where the flood stands, and the visits of its neighbours
module _ {grid : Grid} {picture : List ℕ} {s : Lists} {l p : ℕ} (S : Standing grid picture s l p) where
  head_placed :
      let R = S.ready in
      Placed (length picture) (grey picture) (state_of (length picture) R.par R.root s) l (get_or s.heads l 0)
  head_placed =
      let R = S.ready in
      let A = R.at in
      R.sound.placed l _ A.level (omega arith) (A.busy l A.level A.open_here)

  pub standing_in : p < length picture
  standing_in = rw S.here at head_placed.within

  -- its grey is the level
  pub standing_grey : grey picture p ≡ l
  standing_grey = rw S.here at head_placed.grey

  standing_met : S.ready.par p < length picture
  standing_met = rw S.here at head_placed.met

  pub stands_at : StandsAt grid picture s p
  stands_at = rw standing_grey S

  -- a node is open there
  here_open : get_or s.opened.numbers l 0 < length picture
  here_open = let A = S.ready.at in open_number S.ready.named l A.level A.open_here

  pub visiting : (q : ℕ) → q < length picture → adjacent grid p q ≡ true → Visiting grid picture s l p q
  visiting q h e = record { standing = S; within = h; next = e }

module _ {grid : Grid} {picture : List ℕ} {s : Lists} where
  -- a head is a place in part 3
  pub head_in : {l : ℕ} → Ready grid picture s l → get_or s.heads l 0 < length picture
  head_in {l} R =
      let A = R.at in
      omega (arith, A.busy l A.level A.open_here, tail_le R.sound l A.level)

  -- the flood stands at the pixel at the head
  pub stands : {l : ℕ} → Ready grid picture s l → StandsAt grid picture s (head_pixel (length picture) s l)
  stands R = stands_at (record { ready = R; here = refl })

  -- nothing is stored
  pub stays :
      {l p : ℕ} {side : Positions} → Standing grid picture s l p
      → ((x : ℕ) → x < length picture → side x ≡ true → number_at s.words x < length picture)
      → Visited grid picture s s p p side
  stays S met =
      record {
        stands = stands_at S;
        same_heads = refl;
        kept = λ x hx h. h;
        more = omega arith;
        raised = λ ne. absurd (ne refl);
        met = λ e. met;
      }

  -- the only pixel on a side is met
  pub met_already :
      {l p q : ℕ} {side : Positions} → Standing grid picture s l p → ((x : ℕ) → side x ≡ true → x ≡ q)
      → met_test (length picture) s.words q ≡ true → Visited grid picture s s p p side
  met_already {q = q} S only met = stays S (λ x hx h. rw (only x h) (ltb-true (number_at s.words q) _ met))

  module _ {s' : Lists} {p r : ℕ} {side : Positions} (U : Visited grid picture s s' p r side) where
    -- after a visit that stays, the flood stands where it stood
    pub still : {l : ℕ} → Standing grid picture s l p → r ≡ p → Standing grid picture s' l p
    still S e =
        let T : Standing grid picture s' (grey picture p) p = rw e at U.stands in
        rw (standing_grey S) at T

    pub settled : r ≡ p → Visited grid picture s s' p p side
    settled e = rw e at U

    -- no word is added
    pub same_words : {l : ℕ} → Standing grid picture s l p → length s'.words ≡ length s.words
    same_words S = U.stands.ready.sized.words ∙ sym S.ready.sized.words

    -- other pixels that are met where the flood stays
    on_other :
        {other : Positions}
        → (r ≡ p → (x : ℕ) → x < length picture → other x ≡ true → number_at s'.words x < length picture)
        → Visited grid picture s s' p r other
    on_other met =
        record {
          stands = U.stands;
          same_heads = U.same_heads;
          kept = U.kept;
          more = U.more;
          raised = U.raised;
          met = met;
        }

    -- a visit that moves the flood
    pub moved : {other : Positions} → (r ≡ p → ⊥) → Visited grid picture s s' p r other
    moved ne = on_other (λ e. absurd (ne e))

    -- a visit of all that was not met on another side
    pub covers :
        {other : Positions}
        → ((x : ℕ) → x < length picture → other x ≡ true → (side x ≡ true) ⊎ (number_at s.words x < length picture))
        → Visited grid picture s s' p r other
    covers within = on_other (λ e x hx h. by_cases (within x hx h) (U.met e x hx) (U.kept x hx))

  -- one visit after another that stays
  pub visits :
      {s₁ s₂ : Lists} {p q r : ℕ} {side₁ side₂ : Positions} → Visited grid picture s s₁ p q side₁ → q ≡ p
      → Visited grid picture s₁ s₂ p r side₂ → Visited grid picture s s₂ p r (λ x. side₁ x || side₂ x)
  visits {side₁ = side₁} {side₂ = side₂} A here B =
      record {
        stands = B.stands;
        same_heads = B.same_heads ∙ A.same_heads;
        kept = λ x hx h. B.kept x hx (A.kept x hx h);
        more = omega (arith, A.more, B.more);
        raised = λ ne. omega (arith, A.more, B.raised ne);
        met = λ e x hx h.
            by_cases (or_cases (side₁ x) (side₂ x) h) (λ a. B.kept x hx (A.met here x hx a)) (λ b. B.met e x hx b);
      }

  -- by the answer: none
  pub no_visit : {p : ℕ} {side : Positions} → Visited grid picture s s p p side → VisitedTo grid picture s s None p side
  no_visit none = record { stayed = λ e. none; went = λ q e. absurd (cc) }

  module _ {s' : Lists} {r : Option ℕ} {p : ℕ} {side other : Positions} (U : VisitedTo grid picture s s' r p side) where
    -- on another side with the pixel to which the flood has moved
    pub leads : {q : ℕ} → r ≡ Some q → (side q ≡ true → other q ≡ true) → Moved grid picture s s' p q other
    leads {q} e near =
        let M = U.went q e in
        record { there = near M.there; away = M.away; visited = moved M.visited M.away }

    -- on another side, of which all that is not on this one is met
    pub covers_to :
        ((x : ℕ) → x < length picture → other x ≡ true → (side x ≡ true) ⊎ (number_at s.words x < length picture))
        → ((x : ℕ) → x < length picture → side x ≡ true → other x ≡ true) → VisitedTo grid picture s s' r p other
    covers_to within near =
        record {
          stayed = λ e. covers (U.stayed e) within;
          went = λ q e. leads e (near q (standing_in (U.went q e).visited.stands));
        }

  -- the visit of the only pixel on a side
  pub on_side_to :
      {s' : Lists} {p q : ℕ} {r : Option ℕ} {side : Positions} → VisitedTo grid picture s s' r p (eqb q)
      → ((x : ℕ) → x < length picture → side x ≡ true → x ≡ q) → side q ≡ true → VisitedTo grid picture s s' r p side
  on_side_to {q = q} U only one =
      covers_to U (λ x hx h. inl (eq-eqb q x (sym (only x hx h)))) (λ x hx h. rw (← eqb-true q x h) one)

  -- a visit after others that stay
  pub then_to :
      {s₁ s₂ : Lists} {p : ℕ} {r : Option ℕ} {side₁ side₂ : Positions} → Visited grid picture s s₁ p p side₁
      → VisitedTo grid picture s₁ s₂ r p side₂ → VisitedTo grid picture s s₂ r p (λ x. side₁ x || side₂ x)
  then_to {side₁ = side₁} A B =
      record {
        stayed = λ e. visits A refl (B.stayed e);
        went = λ q e.
            let M = B.went q e in
            record { there = or_right (side₁ q) _ M.there; away = M.away; visited = visits A refl M.visited };
      }

  pub then_moves :
      {s₁ s₂ : Lists} {p q : ℕ} {side₁ side₂ : Positions} → Visited grid picture s s₁ p p side₁ → Moved grid picture s₁ s₂ p q side₂
      → Moved grid picture s s₂ p q side₂
  then_moves A M = record { there = M.there; away = M.away; visited = moved (visits A refl M.visited) M.away }

  -- the last visit, of all that was not met
  pub then_last :
      {s₁ s₂ : Lists} {p : ℕ} {r : Option ℕ} {side₁ side₂ : Positions} → Visited grid picture s s₁ p p side₁
      → VisitedTo grid picture s₁ s₂ r p side₂ → VisitedTo grid picture s s₂ r p side₂
  then_last {side₁ = side₁} A B =
      record {
        stayed = λ e. covers (visits A refl (B.stayed e)) (λ x hx h. inl (or_right (side₁ x) _ h));
        went = λ q e. then_moves A (B.went q e);
      }

  -- by the answer: a pixel
  pub moves :
      {s' : Lists} {p q : ℕ} {side : Positions} → Moved grid picture s s' p q side → VisitedTo grid picture s s' (Some q) p side
  moves {s'} {p} {q} {side} M =
      record {
        stayed = λ e. absurd (cc);
        went = λ x e. let same : q ≡ x = cc in subst (λ (y : ℕ). Moved grid picture s s' p y side) same M;
      }

  -- the root of an open level is a pixel of it
  pub root_greys :
      {l : ℕ} (R : Ready grid picture s l) → (k : ℕ) → k < 256 → R.root k < length picture → grey picture (R.root k) ≡ k
  root_greys R k h o = (R.sound.open_root k h o).grey

  -- while a pixel is not met, there is a number for it at any level
  nameable_for :
      {l k q : ℕ} → Ready grid picture s l → k < 256 → q < length picture → number_at s.words q ≡ length picture
      → Nameable (length picture) k s.opened
  nameable_for {k = k} R level in_q new =
      record {
        small = R.sized.small;
        level = level;
        held = R.named.opens k level;
        left = λ e. taken_fits R.named in_q new;
        wide = R.wide_opened;
        marks = R.marks;
      }

  module _ {l p q : ℕ} (U : Visiting grid picture s l p q) where
    abbrev R : Ready grid picture s l
    R = U.standing.ready

    pub already : met_test (length picture) s.words q ≡ true → VisitedTo grid picture s s None p (eqb q)
    already met = no_visit (met_already U.standing (λ x h. sym (eqb-true q x h)) met)

    -- a pixel that is not met has no number
    pub unnumbered : met_test (length picture) s.words q ≡ false → number_at s.words q ≡ length picture
    unnumbered new = omega (arith, R.named.range q U.within, ltb-false (number_at s.words q) _ new)

    -- no node is open at a brighter level
    no_root : l < grey picture q → length picture ≤ R.root (grey picture q)
    no_root brighter =
        by_cases
        (below_or_not (R.root (grey picture q)) (length picture))
        (λ o. absurd (omega (arith, R.at.top (grey picture q) (R.bytes q) o)))
        (λ ge. ge)

    pub not_open : l < grey picture q → get_or s.opened.numbers (grey picture q) 0 ≡ length picture
    not_open brighter =
        by_cases
        (below_or_not (get_or s.opened.numbers (grey picture q) 0) (length picture))
        (λ o. absurd (omega (arith, no_root brighter, open_root R.named (grey picture q) (R.bytes q) o)))
        (λ ge. omega (arith, R.named.opens (grey picture q) (R.bytes q)))

    -- one is open at the same level
    pub is_open : grey picture q ≡ l → get_or s.opened.numbers (grey picture q) 0 < length picture
    is_open same = rw same (here_open U.standing)

    module _ (new : number_at s.words q ≡ length picture) where
      no_parent : R.par q ≡ length picture
      no_parent = R.named.unmet q U.within new

      -- p is met, and q was not
      other : q ≡ p → ⊥
      other e = let met : R.par p < length picture = standing_met U.standing in omega (arith, ap R.par e, no_parent)

      pub fits : Fitting (length picture) q (grey picture q) s.words s.tails s.opened
      fits =
          record {
            sized = R.sized;
            within = U.within;
            free = tail_lt R.sound (R.bytes q) U.within no_parent;
            wide_tails = R.wide_tails;
            nameable = nameable_for R (R.bytes q) U.within new;
          }

      module _ {ws' tails' : List ℕ} {opened' : Opened} (same_length : length ws' ≡ length s.words)
          (P : Placing (length picture) q (grey picture q) s.words s.tails s.opened ws' tails' opened')
        where
          named_fits : number_at ws' q < length picture
          named_fits = pushed_number_fits R.named P.numbering U.within new

          renamed :
              Renamed (length picture) (grey picture q) q (grey picture) R.par R.root
              (numbers_of (length picture) ws' opened')
          renamed = named_pushed R.named P.numbering U.within (R.bytes q) refl new (root_greys R)

          -- the queue of a level that was not open was empty: q is at its head
          first_here : l < grey picture q → order_of (length picture) ws' (get_or s.heads (grey picture q) 0) ≡ q
          first_here brighter = rw (R.sound.idle (grey picture q) (R.bytes q) (no_root brighter)) P.ord.here

          abbrev after : Lists
          after = lists ws' s.heads tails' opened'

          -- the flood stands at the brighter of the two levels
          queued_ready :
              {k : ℕ} → ((l < grey picture q) × (k ≡ grey picture q)) ⊎ ((grey picture q ≤ l) × (k ≡ l))
              → Ready grid picture after k
          queued_ready {k} which =
              let A = R.at in
              let N = renamed in
              let step = pushes s.heads P N in
              record {
                bytes = R.bytes;
                whole = R.whole;
                wide = R.wide;
                sized = record { words = same_length ∙ R.sized.words; small = R.sized.small };
                wide_heads = R.wide_heads;
                wide_tails = P.wide_tails;
                wide_opened = P.wide_opened;
                marks = P.marks;
                first = N.first';
                par = N.par';
                root = N.root';
                named = N.named;
                sound =
                    met_sound R.sound (R.bytes q) U.within refl no_parent step (λ x h. R.bytes x)
                    (reaches R.sound A U.standing.here U.within U.next);
                at = met_at R.sound (R.bytes q) U.within refl no_parent step l k A which;
              }

          same_head : head_pixel (length picture) after l ≡ head_pixel (length picture) s l
          same_head =
              let A = R.at in
              met_ord R.sound (R.bytes q) U.within refl no_parent (pushes s.heads P renamed) l A.level
              (A.busy l A.level A.open_here)

          queued_stands : {r : ℕ} → ((l < grey picture q) × (r ≡ q)) ⊎ ((grey picture q ≤ l) × (r ≡ p)) → StandsAt grid picture after r
          queued_stands (inl up) =
              rw up.1 (record { ready = queued_ready (inl (up.0, refl)); here = first_here up.0 })
          queued_stands (inr stay) =
              rw
              stay.1
              (stands_at (record { ready = queued_ready (inr (stay.0, refl)); here = same_head ∙ U.standing.here }))

          queued :
              {r : ℕ} → ((l < grey picture q) × (r ≡ q)) ⊎ ((grey picture q ≤ l) × (r ≡ p))
              → Visited grid picture s after p r (eqb q)
          queued which =
              let raise = one_more_met s.words ws' P.numbering.num U.within new named_fits in
              record {
                stands = queued_stands which;
                same_heads = refl;
                kept = still_met s.words ws' P.numbering.num named_fits;
                more = omega arith;
                raised = λ ne. omega arith;
                met = λ same x hx h. let e = eqb-true q x h in rw (sym e) named_fits;
              }

          pub queued_to :
              (up : Bool) → up ≡ ltb l (grey picture q) → VisitedTo grid picture s after (then_some up q) p (eqb q)
          queued_to true e =
              let lower : l < grey picture q = ltb-true l _ (sym e) in
              moves (record { there = eq-eqb q q refl; away = other; visited = queued (inl (lower, refl)) })
          queued_to false e =
              let V = queued (inr (ltb-false l _ (sym e), refl)) in
              record { stayed = λ x. V; went = λ x z. absurd (cc) }

-- q, the neighbour of p on a side that has no other pixel, is not met and of p's level: it takes p's place at the head
module _ {grid : Grid} {picture : List ℕ} {s : Lists} {l p q : ℕ} {side : Positions} (U : Visiting grid picture s l p q)
    (others : MetBut grid picture s p side) (only : (x : ℕ) → side x ≡ true → x ≡ q) (fresh : met_test (length picture) s.words q ≡ false)
    (level : grey picture q ≡ l)
  where
    in_q : q < length picture
    in_q = U.within

    new : number_at s.words q ≡ length picture
    new = unnumbered U fresh

    abbrev S : Standing grid picture s l p
    S = U.standing

    abbrev ready : Ready grid picture s l
    ready = S.ready

    in_l : l < 256
    in_l = ready.at.level

    pub replaceable : Replaceable (length picture) q l (get_or s.heads l 0) s.words s.opened
    replaceable =
        record {
          sized = ready.sized;
          within = in_q;
          place = head_in ready;
          nameable = nameable_for ready in_l in_q new;
          open_here = here_open S;
        }

    module _ {ws' : List ℕ} (same_length : length ws' ≡ length s.words)
        (P : Replacing (length picture) q l (get_or s.heads l 0) s.words s.opened ws')
      where
        renamed' : Renamed (length picture) l q (grey picture) ready.par ready.root (numbers_of (length picture) ws' s.opened)
        renamed' = named_pushed ready.named P.numbering in_q in_l level new (root_greys ready)

        root_is : renamed'.r ≡ ready.root l
        root_is = by_cases renamed'.root_is (λ w. w.1) (λ w. absurd (omega (arith, ready.at.open_here, w.0)))

        parents : (x : ℕ) → x < length picture → adjacent grid p x ≡ true → (x ≡ q → ⊥) → ready.par x < length picture
        parents x hx a ne =
            by_cases (others x hx a) (λ e. absurd (ne (only x e))) (λ m. (ready.named.met x hx m).parent)

        unmet_parent : ready.par q ≡ length picture
        unmet_parent = ready.named.unmet q in_q new

        bytes : (x : ℕ) → x < length picture → grey picture x < 256
        bytes x h = ready.bytes x

        goes_on : Ready grid picture (lists ws' s.heads s.tails s.opened) l
        goes_on =
            let N = renamed' in
            let pars = rw root_is at N.par_changed in
            let roots = rw root_is at N.root_changed in
            record {
              bytes = ready.bytes;
              whole = ready.whole;
              wide = ready.wide;
              sized = record { words = same_length ∙ ready.sized.words; small = ready.sized.small };
              wide_heads = ready.wide_heads;
              wide_tails = ready.wide_tails;
              wide_opened = ready.wide_opened;
              marks = ready.marks;
              first = N.first';
              par = N.par';
              root = N.root';
              named = N.named;
              sound =
                  followed_sound ready.sound bytes (adjacent_symmetric grid) ready.at S.here in_q level unmet_parent U.next
                  parents pars P.ord roots;
              at =
                  followed_at ready.sound bytes (adjacent_symmetric grid) ready.at S.here in_q level unmet_parent U.next parents
                  pars P.ord roots;
            }

        pub follows : VisitedAround grid picture s (lists ws' s.heads s.tails s.opened) p (Some q)
        follows =
            let fits = pushed_number_fits ready.named P.numbering in_q new in
            let raise = one_more_met s.words ws' P.numbering.num in_q new fits in
            moves
            (record {
              there = U.next;
              away = other U new;
              visited =
                  record {
                    stands = stands_at (record { ready = goes_on; here = P.ord.here });
                    same_heads = refl;
                    kept = still_met s.words ws' P.numbering.num fits;
                    more = omega arith;
                    raised = λ ne. omega arith;
                    met = λ e. absurd (other U new e);
                  };
            })
