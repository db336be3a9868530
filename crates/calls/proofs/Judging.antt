-- The steps of judging: a workspace by its words, and a step list that is looked at from its front. Assumes nothing.
use Prim.Native.Nat.{ℕ, ◌+◌, ◌*◌, ◌%◌, ◌≤◌, ◌<◌}
use mathlib.Core.Bool.{Bool, true, false, ◌&&◌}
use mathlib.Core.List.{List, ◌∷◌}
use mathlib.Core.Path.{◌≡◌, refl, ◌∙◌, sym, ap, subst}
use native.Mathlib.Omega.{arith}
use lib.Dec.{leb}
use lib.ListN.{length, get_or, drop, drop_of_length-le}
use borrow.Author.Tests.{lt-leb, le-leb, le-ltb, lt-ltb, eq-eqb}
use Rattle.sets.proofs.Tests.{and_false}
use Rattle.opening.specs.Residue.{rising}
use Rattle.grid.specs.Triples.{triple_of, zeros}
use Rattle.grid.specs.declared.Triple.{Triple}
use Rattle.causes.specs.Bounds.{most_steps}
use Rattle.causes.specs.declared.Cause.{Cause}
use Rattle.causes.proofs.Lists.{from_here}
use Rattle.calls.specs.Steps.{triples_in}
use Rattle.calls.specs.Judging.{threshold_good, all_good, steps_good, may_follow, rising_triples, whole_steps, triples_good, list_good, Verdict, also}
use Rattle.calls.specs.declared.Kind.{Kind}
use Rattle.calls.specs.declared.Kind.TheVariants.{Thresholds, Triples}

-- one test more, by what the verdict before it and its answer are
pub tested : {r v v' : Verdict} {good good' : Bool} (cause : Cause)
    → r ≡ also v (good, cause) → v ≡ v' → good ≡ good' → r ≡ also v' (good', cause)
tested {v' = v'} {good = good} cause is before answer =
    is ∙ ap (λ (u : Verdict). also u (good, cause)) before ∙ ap (λ (b : Bool). also v' (b, cause)) answer

-- three words from i on
three_words : (words : List ℕ) (i : ℕ) → i + 2 < length words
    → triples_in (drop i words) ≡ triple_of (get_or words i 0) (get_or words (i + 1) 0) (get_or words (i + 2) 0) ∷ triples_in (drop (i + 3) words)
unfolding triples_in
three_words words i b =
    let one_on : i + 1 + 1 ≡ i + 2 = omega arith in
    let two_on : i + 2 + 1 ≡ i + 3 = omega arith in
    let second : drop (i + 1) words ≡ get_or words (i + 1) 0 ∷ drop (i + 2) words =
    subst (λ (j : ℕ). drop (i + 1) words ≡ get_or words (i + 1) 0 ∷ drop j words) one_on (from_here words (i + 1) (omega arith)) in
    let third : drop (i + 2) words ≡ get_or words (i + 2) 0 ∷ drop (i + 3) words =
    subst (λ (j : ℕ). drop (i + 2) words ≡ get_or words (i + 2) 0 ∷ drop j words) two_on (from_here words (i + 2) (omega arith)) in
    ap triples_in (from_here words i (omega arith) ∙ ap (λ (l : List ℕ). get_or words i 0 ∷ l) (second ∙ ap (λ (l : List ℕ). get_or words (i + 1) 0 ∷ l) third))

-- the triples before the word i follow each other, the last of them is low: what is left to judge is the rest
pub record FollowedSoFar (words : List ℕ) (low : Triple) (i : ℕ) : Type 0 where
  pub within : i ≤ length words
  pub whole : length words % 3 ≡ 0
  pub third : i % 3 ≡ 0
  pub counted : (whole_steps words && (leb 1 (length words) && leb (length words) (3 * most_steps))) ≡ true
  pub rest : rising_triples zeros (triples_in words) ≡ rising_triples low (triples_in (drop i words))

module _ (words : List ℕ) where
  pub no_words : length words % 3 ≡ 0 → length words < 1 → false ≡ triples_good words
  unfolding triples_good
  no_words whole none = rw (eq-eqb (length words % 3) 0 whole, lt-leb 1 (length words) none) refl

  pub many_words : length words % 3 ≡ 0 → 1 ≤ length words → 3 * most_steps < length words → false ≡ triples_good words
  unfolding triples_good
  many_words whole some many = rw (eq-eqb (length words % 3) 0 whole, le-leb 1 (length words) some, lt-leb (length words) (3 * most_steps) many) refl

  module _ {low : Triple} {i : ℕ} (so_far : FollowedSoFar words low i) where
    by_later : rising_triples low (triples_in (drop i words)) ≡ triples_good words
    unfolding triples_good
    by_later = rw so_far.counted (sym so_far.rest)

    pub followed_end : length words ≤ i → true ≡ triples_good words
    unfolding rising_triples triples_in
    followed_end past = rw (drop_of_length-le words past) at by_later

    module _ (here : i < length words) where
      pub three_left : i + 2 < length words
      three_left = omega (arith, so_far.whole, so_far.third)

      abbrev next : Triple
      next = triple_of (get_or words i 0) (get_or words (i + 1) 0) (get_or words (i + 2) 0)

      pub not_following : may_follow low next ≡ false → false ≡ triples_good words
      unfolding rising_triples
      not_following bad = rw (three_words words i three_left, bad) at by_later

      pub followed_more : may_follow low next ≡ true → FollowedSoFar words next (i + 3)
      unfolding rising_triples
      followed_more good =
          record {
            within = omega (arith, three_left);
            whole = so_far.whole;
            third = omega (arith, so_far.third);
            counted = so_far.counted;
            rest = so_far.rest ∙ rw (three_words words i three_left, good) refl;
          }

-- the place after the triple i
pub third_on : {words : List ℕ} {low : Triple} (i : ℕ) → FollowedSoFar words low (3 * i + 3) → FollowedSoFar words low (3 * (i + 1))
third_on {words} {low} i so_far = let same : 3 * i + 3 ≡ 3 * (i + 1) = omega arith in subst (FollowedSoFar words low) same so_far

-- the thresholds before i are good and rise, the last of them to low: what is left to judge is the rest
pub record RisingSoFar (steps : List ℕ) (low i : ℕ) : Type 0 where
  pub within : i ≤ length steps
  pub counted : (leb 1 (length steps) && leb (length steps) most_steps) ≡ true
  pub rest : (rising 0 steps && all_good steps) ≡ (rising low (drop i steps) && all_good (drop i steps))

module _ (steps : List ℕ) where
  pub no_steps : length steps < 1 → false ≡ steps_good steps
  unfolding steps_good
  no_steps none = rw (lt-leb 1 (length steps) none)

  pub many_steps : 1 ≤ length steps → most_steps < length steps → false ≡ steps_good steps
  unfolding steps_good
  many_steps some many = rw (le-leb 1 (length steps) some, lt-leb (length steps) most_steps many)

  module _ (low i : ℕ) (so_far : RisingSoFar steps low i) where
    -- the rest decides
    by_rest : (rising low (drop i steps) && all_good (drop i steps)) ≡ steps_good steps
    unfolding steps_good
    by_rest = rw so_far.counted (sym so_far.rest)

    pub rising_end : length steps ≤ i → true ≡ steps_good steps
    unfolding rising all_good
    rising_end past = rw (drop_of_length-le steps past) at by_rest

    module _ (t : ℕ) (here : i < length steps) (is : t ≡ get_or steps i 0) where
      cons : drop i steps ≡ t ∷ drop (i + 1) steps
      cons = rw is (from_here steps i here)

      pub not_rising : t ≤ low → false ≡ steps_good steps
      unfolding rising
      not_rising le = rw (cons, le-ltb low t le) at by_rest

      pub out_of_range : low < t → threshold_good t ≡ false → false ≡ steps_good steps
      unfolding rising all_good
      out_of_range more bad = rw (cons, lt-ltb low t more, bad, and_false) at by_rest

      pub rising_more : low < t → threshold_good t ≡ true → RisingSoFar steps t (i + 1)
      unfolding rising all_good
      rising_more more good =
          record {
            within = omega arith;
            counted = so_far.counted;
            rest = so_far.rest ∙ rw (cons, lt-ltb low t more, good);
          }

pub good_thresholds : {kind : Kind} {a : ℕ} (steps : List ℕ) {r : Bool} → kind ≡ Thresholds a → r ≡ steps_good steps → r ≡ list_good kind steps
good_thresholds steps is e = rw is e

pub good_triples : {kind : Kind} (steps : List ℕ) {r : Bool} → kind ≡ Triples → r ≡ triples_good steps → r ≡ list_good kind steps
good_triples steps is e = rw is e
