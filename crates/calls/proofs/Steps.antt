-- Steps of both kinds: what a step keeps holds of more as a set grows, and is what its triple keeps; the tests of a good list get narrower; a list of
-- thresholds and its triples are judged alike and keep the same. That a test holds of more as a set grows asks that a picture has no more pixels
-- than it may have; the rest assumes nothing.
use Prim.Native.Nat.{ℕ, ◌*◌, ◌/◌, ◌%◌, ◌≤◌, ◌<◌, max}
use mathlib.Core.Bool.{Bool, true, false, ◌&&◌, ◌||◌}
use mathlib.Core.List.{List, [], ◌∷◌, map}
use mathlib.Core.Logic.{◌⊎◌, inl, inr, ⊎_elim}
use mathlib.Core.Path.{◌≡◌, refl, sym, ap, fun_ext, subst, ◌∙◌}
use native.Mathlib.Omega.{arith}
use lib.Dec.{leb, ltb, eqb}
use lib.ListN.{length, length-map}
use borrow.Author.Tests.{leb-true, le-leb, ltb-true, lt-ltb, eqb-true, eq-eqb}
use Rattle.sets.specs.Sets.{Positions}
use Rattle.sets.proofs.Tests.{and_left, and_right, and_both, or_cases, or_left, or_right, same_truth, decided}
use Rattle.causes.specs.Bounds.{most_pixels, top_threshold, most_steps}
use Rattle.opening.specs.Opening.{Keeps, Upward, NeedsPixel, at_least}
use Rattle.opening.specs.Residue.{rising, threshold_tests, Narrowing}
use Rattle.opening.proofs.Threshold.{at_least_up}
use Rattle.opening.proofs.Residue.{rising_not_falling, threshold_tests_narrow}
use Rattle.grid.specs.Pixels.{pixels}
use Rattle.grid.specs.Attributes.{touches_frame, attribute}
use Rattle.grid.specs.Triples.{triple_of, meets, zeros, need, join}
use Rattle.grid.specs.declared.Grid.{Grid}
use Rattle.grid.specs.declared.Triple.{Triple}
use Rattle.grid.proofs.Attributes.{attribute_increasing, attribute_needs_pixel, attribute_touched}
use Rattle.grid.proofs.Triples.{Within, meets_up, meets_less, meets_need, meets_touched, meets_needs_pixel}
use Rattle.calls.specs.Steps.{step_test, step_triple, triples_in, words_of, list_tests}
use Rattle.calls.specs.Judging.{threshold_good, all_good, steps_good, parts_good, no_part_falls, some_part_rises, may_follow, rising_triples, whole_steps, triples_good, list_good, step_good}
use Rattle.calls.specs.declared.Step.{Step}
use Rattle.calls.specs.declared.Step.TheVariants.{Threshold, Three}
use Rattle.calls.specs.declared.Kind.{Kind}
use Rattle.calls.specs.declared.Kind.TheVariants.{Thresholds, Triples}
use Rattle.calls.proofs.Accepted.{threshold_some, threshold_top, step_list}

-- the triple that no part in range is above
abbrev pub top_triple : Triple
top_triple = triple_of top_threshold top_threshold top_threshold

-- a triple that may follow low
pub record Follows (low t : Triple) : Type 0 where
  pub in_range : Within t top_triple
  pub no_fall : Within low t
  pub rise : (low.area < t.area) ⊎ ((low.height < t.height) ⊎ (low.width < t.width))

pub follows : (low t : Triple) → may_follow low t ≡ true → Follows low t
unfolding may_follow parts_good no_part_falls some_part_rises
follows low t e =
    let small = and_left (parts_good t) (no_part_falls low t && some_part_rises low t) e in
    let both = and_right (parts_good t) (no_part_falls low t && some_part_rises low t) e in
    let none = and_left (no_part_falls low t) (some_part_rises low t) both in
    let some = and_right (no_part_falls low t) (some_part_rises low t) both in
    record {
      in_range = three t.area top_threshold t.height top_threshold t.width top_threshold small;
      no_fall = three low.area t.area low.height t.height low.width t.width none;
      rise =
          ⊎_elim
          (λ a. inl (ltb-true low.area t.area a))
          (λ later.
          inr
          (⊎_elim
          (λ h. inl (ltb-true low.height t.height h))
          (λ w. inr (ltb-true low.width t.width w))
          (or_cases (ltb low.height t.height) (ltb low.width t.width) later)))
          (or_cases (ltb low.area t.area) (ltb low.height t.height || ltb low.width t.width) some);
    }
  where
    three : (a a' h h' w w' : ℕ) → (leb a a' && (leb h h' && leb w w')) ≡ true → Within (triple_of a h w) (triple_of a' h' w')
    three a a' h h' w w' all =
        let later = and_right (leb a a') (leb h h' && leb w w') all in
        record {
          areas = leb-true a a' (and_left (leb a a') (leb h h' && leb w w') all);
          heights = leb-true h h' (and_left (leb h h') (leb w w') later);
          widths = leb-true w w' (and_right (leb h h') (leb w w') later);
        }

-- one step
module _ (grid : Grid) where
  -- "A single threshold opens as a triple with two zeros.": a step keeps what its triple keeps
  pub step_meets : (step : Step) (s : Positions) → step_test grid step s ≡ meets grid (step_triple step) s
  unfolding step_test step_triple
  step_meets (Threshold a t) s = meets_need grid a t s
  step_meets (Three t) s = refl

  pub step_same : (step : Step) → step_test grid step ≡ meets grid (step_triple step)
  step_same step = fun_ext (step_meets step)

  pub step_up : pixels grid ≤ most_pixels → (step : Step) → Upward (pixels grid) (step_test grid step)
  unfolding step_test
  step_up few (Threshold a t) = at_least_up (pixels grid) (attribute grid a) (attribute_increasing grid a few) t
  step_up few (Three t) = meets_up grid few t

  -- no set without pixels passes a step that an opening may name
  pub step_needs_pixel : (step : Step) → step_good step ≡ true → NeedsPixel (pixels grid) (step_test grid step)
  unfolding step_test
  step_needs_pixel (Threshold a t) good = attribute_needs_pixel grid a t (threshold_some t good)
  step_needs_pixel (Three t) good = meets_needs_pixel grid t (follows zeros t good).rise

  -- every set with a pixel on the frame does
  pub step_touched : (step : Step) → step_good step ≡ true → (s : Positions) → touches_frame grid s ≡ true → step_test grid step s ≡ true
  unfolding step_test
  step_touched (Threshold a t) good s e = le-leb t (attribute grid a s) (omega (arith, threshold_top t good, attribute_touched grid a s e))
  step_touched (Three t) good s e = meets_touched grid t (follows zeros t good).in_range s e

-- a list of steps: what every set passes
abbrev pub everything : Keeps
everything s = true

from_everything : (n : ℕ) (wide : Keeps) (tests : List Keeps) → Narrowing n wide tests → Narrowing n everything tests
from_everything n wide [] narrow = tt
from_everything n wide (keeps ∷ rest) narrow = (narrow.0, (λ s e. refl), narrow.2)

-- all tests of a list are passed by s
abbrev pub PassesAll : Positions → List Keeps → Type 0
PassesAll s [] = Unit {0}
PassesAll s (keeps ∷ rest) = (keeps s ≡ true) × PassesAll s rest

-- triples one after the other
module _ (grid : Grid) where
  triples_narrow : pixels grid ≤ most_pixels → (low : Triple) (ts : List Triple) → rising_triples low ts ≡ true
      → Narrowing (pixels grid) (meets grid low) (map (meets grid) ts)
  unfolding rising_triples
  triples_narrow few low [] e = tt
  triples_narrow few low (t ∷ rest) e =
      let here = follows low t (and_left (may_follow low t) (rising_triples t rest) e) in
      let later = and_right (may_follow low t) (rising_triples t rest) e in
      (meets_up grid few t, meets_less grid low t here.no_fall, triples_narrow few t rest later)

  triples_touched : (low : Triple) (ts : List Triple) → rising_triples low ts ≡ true → (s : Positions) → touches_frame grid s ≡ true
      → PassesAll s (map (meets grid) ts)
  unfolding rising_triples
  triples_touched low [] e s frame = tt
  triples_touched low (t ∷ rest) e s frame =
      let here = follows low t (and_left (may_follow low t) (rising_triples t rest) e) in
      let later = and_right (may_follow low t) (rising_triples t rest) e in
      (meets_touched grid t here.in_range s frame, triples_touched t rest later s frame)

  thresholds_touched : (a : ℕ) (steps : List ℕ) → all_good steps ≡ true → (s : Positions) → touches_frame grid s ≡ true
      → PassesAll s (threshold_tests (attribute grid a) steps)
  unfolding all_good
  thresholds_touched a [] e s frame = tt
  thresholds_touched a (t ∷ rest) e s frame =
      let here = threshold_top t (and_left (threshold_good t) (all_good rest) e) in
      let later = and_right (threshold_good t) (all_good rest) e in
      (le-leb t (attribute grid a s) (omega (arith, here, attribute_touched grid a s frame)), thresholds_touched a rest later s frame)

-- a list of triples
pub record TripleList (words : List ℕ) : Type 0 where
  pub whole : length words % 3 ≡ 0
  pub not_more : length words ≤ 3 * most_steps
  pub rises : rising_triples zeros (triples_in words) ≡ true

pub triple_list : (words : List ℕ) → triples_good words ≡ true → TripleList words
unfolding triples_good
triple_list words good =
    let l : ℕ = length words in
    let counted = and_left (whole_steps words && (leb 1 l && leb l (3 * most_steps))) (rising_triples zeros (triples_in words)) good in
    record {
      whole = eqb-true (l % 3) 0 (and_left (whole_steps words) (leb 1 l && leb l (3 * most_steps)) counted);
      not_more = leb-true l (3 * most_steps) (and_right (leb 1 l) (leb l (3 * most_steps)) (and_right (whole_steps words) (leb 1 l && leb l (3 * most_steps)) counted));
      rises = and_right (whole_steps words && (leb 1 l && leb l (3 * most_steps))) (rising_triples zeros (triples_in words)) good;
    }

-- how many triples words hold
pub length_triples : (words : List ℕ) → length (triples_in words) ≡ length words / 3
unfolding triples_in
length_triples [] = omega arith
length_triples (a ∷ []) = omega arith
length_triples (a ∷ h ∷ []) = omega arith
length_triples (a ∷ h ∷ w ∷ rest) = omega (arith, length_triples rest)

-- either kind
module _ (grid : Grid) where
  -- the tests of a good list get narrower
  pub list_narrow : pixels grid ≤ most_pixels → (kind : Kind) (steps : List ℕ) → list_good kind steps ≡ true
      → Narrowing (pixels grid) everything (list_tests grid kind steps)
  unfolding list_tests
  list_narrow few (Thresholds a) steps good =
      from_everything (pixels grid) (at_least (attribute grid a) 0) (threshold_tests (attribute grid a) steps)
      (threshold_tests_narrow (pixels grid) (attribute grid a) (attribute_increasing grid a few) 0 steps
      (rising_not_falling 0 steps (step_list steps good).rises))
  list_narrow few Triples steps good =
      from_everything (pixels grid) (meets grid zeros) (map (meets grid) (triples_in steps))
      (triples_narrow grid few zeros (triples_in steps) (triple_list steps good).rises)

  -- there are at most 256 of them
  pub list_few : (kind : Kind) (steps : List ℕ) → list_good kind steps ≡ true → length (list_tests grid kind steps) ≤ most_steps
  unfolding list_tests
  list_few (Thresholds a) steps good = omega (arith, length-map steps (at_least (attribute grid a)), (step_list steps good).not_more)
  list_few Triples steps good =
      omega (arith, length-map (triples_in steps) (meets grid), length_triples steps, (triple_list steps good).not_more)

  -- and a set with a pixel on the frame passes them all
  pub list_touched : (kind : Kind) (steps : List ℕ) → list_good kind steps ≡ true → (s : Positions) → touches_frame grid s ≡ true
      → PassesAll s (list_tests grid kind steps)
  unfolding list_tests
  list_touched (Thresholds a) steps good = thresholds_touched grid a steps (step_list steps good).each_good
  list_touched Triples steps good = triples_touched grid zeros (triples_in steps) (triple_list steps good).rises

-- the words of triples are read as those triples
pub words_read : (ts : List Triple) → triples_in (words_of ts) ≡ ts
unfolding triples_in words_of
words_read [] = refl
words_read (t ∷ rest) = ap (λ (later : List Triple). t ∷ later) (words_read rest)

pub length_words : (ts : List Triple) → length (words_of ts) ≡ 3 * length ts
unfolding words_of
length_words [] = refl
length_words (t ∷ rest) = omega (arith, length_words rest)

-- a list of thresholds keeps what its triples keep
pub list_meets : (grid : Grid) (a : ℕ) (steps : List ℕ)
    → list_tests grid (Thresholds a) steps ≡ list_tests grid Triples (words_of (map (need a) steps))
unfolding list_tests
list_meets grid a steps = go steps ∙ ap (map (meets grid)) (sym (words_read (map (need a) steps)))
  where
    go : (l : List ℕ) → threshold_tests (attribute grid a) l ≡ map (meets grid) (map (need a) l)
    go [] = refl
    go (t ∷ rest) =
        let here : at_least (attribute grid a) t ≡ meets grid (need a t) = fun_ext (meets_need grid a t) in
        rw (here, go rest) refl

-- and is judged as they are
pub followed : (low t : Triple) → Follows low t → may_follow low t ≡ true
unfolding may_follow parts_good no_part_falls some_part_rises
followed low t f =
    and_both (parts_good t) (no_part_falls low t && some_part_rises low t)
    (three t top_triple f.in_range)
    (and_both (no_part_falls low t) (some_part_rises low t) (three low t f.no_fall)
    (⊎_elim
    (λ a. or_left (ltb low.area t.area) (ltb low.height t.height || ltb low.width t.width) (lt-ltb low.area t.area a))
    (λ later.
    or_right (ltb low.area t.area) (ltb low.height t.height || ltb low.width t.width)
    (⊎_elim
    (λ h. or_left (ltb low.height t.height) (ltb low.width t.width) (lt-ltb low.height t.height h))
    (λ w. or_right (ltb low.height t.height) (ltb low.width t.width) (lt-ltb low.width t.width w))
    later))
    f.rise))
  where
    three : (x y : Triple) → Within x y → (leb x.area y.area && (leb x.height y.height && leb x.width y.width)) ≡ true
    three x y b =
        and_both (leb x.area y.area) (leb x.height y.height && leb x.width y.width)
        (le-leb x.area y.area b.areas)
        (and_both (leb x.height y.height) (leb x.width y.width) (le-leb x.height y.height b.heights) (le-leb x.width y.width b.widths))

-- a threshold as a triple, by the part that it is
by_part : (a : ℕ) (P : (ℕ → Triple) → Type 0) → P (λ (t : ℕ). triple_of t 0 0) → P (λ (t : ℕ). triple_of 0 t 0) → P (λ (t : ℕ). triple_of 0 0 t) → P (need a)
unfolding need
by_part a P area height width =
    ⊎_elim
    (λ (e : eqb a 1 ≡ true). subst P (fun_ext (λ (t : ℕ). rw e refl)) area)
    (λ (no_area : eqb a 1 ≡ false).
    ⊎_elim
    (λ (e : eqb a 2 ≡ true). subst P (fun_ext (λ (t : ℕ). rw (no_area, e) refl)) height)
    (λ (no_height : eqb a 2 ≡ false). subst P (fun_ext (λ (t : ℕ). rw (no_area, no_height) refl)) width)
    (decided (eqb a 2)))
    (decided (eqb a 1))

-- the threshold 0 is three zeros, and the largest values of two thresholds are the larger one
pub need_none : (a : ℕ) → need a 0 ≡ zeros
need_none a = by_part a (λ (f : ℕ → Triple). f 0 ≡ zeros) refl refl refl

pub need_join : (a t u : ℕ) → join (need a t) (need a u) ≡ need a (max t u)
need_join a t u = by_part a (λ (f : ℕ → Triple). join (f t) (f u) ≡ f (max t u)) refl refl refl

alone_rises : (a low t : ℕ) → low < t → t ≤ top_threshold → Follows (need a low) (need a t)
alone_rises a low t more small =
    by_part a (λ (f : ℕ → Triple). Follows (f low) (f t))
    (record { in_range = within (omega arith) (omega arith) (omega arith); no_fall = within (omega arith) (omega arith) (omega arith); rise = inl more })
    (record { in_range = within (omega arith) (omega arith) (omega arith); no_fall = within (omega arith) (omega arith) (omega arith); rise = inr (inl more) })
    (record { in_range = within (omega arith) (omega arith) (omega arith); no_fall = within (omega arith) (omega arith) (omega arith); rise = inr (inr more) })
  where
    within : {x y : Triple} → x.area ≤ y.area → x.height ≤ y.height → x.width ≤ y.width → Within x y
    within a h w = record { areas = a; heights = h; widths = w }

rises_alone : (a low t : ℕ) → Follows (need a low) (need a t) → (low < t) × (t ≤ top_threshold)
rises_alone a low t =
    by_part a (λ (f : ℕ → Triple). Follows (f low) (f t) → (low < t) × (t ≤ top_threshold))
    (λ f. (⊎_elim (λ l. l) (λ later. absurd (⊎_elim (λ l. omega arith) (λ l. omega arith) later)) f.rise, f.in_range.areas))
    (λ f. (⊎_elim (λ l. absurd (omega arith)) (λ later. ⊎_elim (λ l. l) (λ l. absurd (omega arith)) later) f.rise, f.in_range.heights))
    (λ f. (⊎_elim (λ l. absurd (omega arith)) (λ later. ⊎_elim (λ l. absurd (omega arith)) (λ l. l) later) f.rise, f.in_range.widths))

alone_follows : (a low t : ℕ) → (ltb low t && threshold_good t) ≡ may_follow (need a low) (need a t)
unfolding threshold_good
alone_follows a low t =
    same_truth (ltb low t && threshold_good t) (may_follow (need a low) (need a t))
    (λ e.
    followed (need a low) (need a t)
    (alone_rises a low t (ltb-true low t (and_left (ltb low t) (threshold_good t) e)) (threshold_top t (and_right (ltb low t) (threshold_good t) e))))
    (λ e.
    let (more, small) = rises_alone a low t (follows (need a low) (need a t) e) in
    and_both (ltb low t) (threshold_good t) (lt-ltb low t more)
    (and_both (leb 1 t) (leb t top_threshold) (le-leb 1 t (omega arith)) (le-leb t top_threshold small)))

in_turn : (a r t g : Bool) → ((a && r) && (t && g)) ≡ ((a && t) && (r && g))
in_turn false r t g = refl
in_turn true false false g = refl
in_turn true false true g = refl
in_turn true true false g = refl
in_turn true true true g = refl

rising_alone : (a low : ℕ) (steps : List ℕ) → (rising low steps && all_good steps) ≡ rising_triples (need a low) (map (need a) steps)
unfolding rising all_good rising_triples
rising_alone a low [] = refl
rising_alone a low (t ∷ rest) =
    in_turn (ltb low t) (rising t rest) (threshold_good t) (all_good rest)
    ∙ ap (λ (b : Bool). b && (rising t rest && all_good rest)) (alone_follows a low t)
    ∙ ap (λ (b : Bool). may_follow (need a low) (need a t) && b) (rising_alone a t rest)

pub list_judged : (a : ℕ) (steps : List ℕ) → steps_good steps ≡ triples_good (words_of (map (need a) steps))
unfolding steps_good triples_good
list_judged a steps =
    let l : ℕ = length steps in
    let k : ℕ = length (words_of (map (need a) steps)) in
    let long : k ≡ 3 * l = length_words (map (need a) steps) ∙ ap (λ (m : ℕ). 3 * m) (length-map steps (need a)) in
    let some : leb 1 l ≡ leb 1 k =
    same_truth (leb 1 l) (leb 1 k) (λ e. le-leb 1 k (omega (arith, leb-true 1 l e))) (λ e. le-leb 1 l (omega (arith, leb-true 1 k e))) in
    let few : leb l most_steps ≡ leb k (3 * most_steps) =
    same_truth (leb l most_steps) (leb k (3 * most_steps)) (λ e. le-leb k (3 * most_steps) (omega (arith, leb-true l most_steps e)))
    (λ e. le-leb l most_steps (omega (arith, leb-true k (3 * most_steps) e))) in
    let whole : eqb (k % 3) 0 ≡ true = eq-eqb (k % 3) 0 (omega arith) in
    rw (whole, ← some, ← few, words_read (map (need a) steps), ← need_none a, ← rising_alone a 0 steps) refl

-- one threshold and its triple
pub threshold_judged : (a t : ℕ) → threshold_good t ≡ may_follow zeros (need a t)
unfolding threshold_good
threshold_judged a t =
    let alone : (ltb 0 t && threshold_good t) ≡ may_follow zeros (need a t) = rw (need_none a) at (alone_follows a 0 t) in
    same_truth (threshold_good t) (may_follow zeros (need a t))
    (λ good. sym alone ∙ and_both (ltb 0 t) (threshold_good t) (lt-ltb 0 t (omega (arith, threshold_some t good))) good)
    (λ may. and_right (ltb 0 t) (threshold_good t) (alone ∙ may))
