-- "A call given triples names no attribute and leaves areas as its attribute words; calls with an attribute keep theirs." 1 is the area. 3 cannot
-- apply to a call with triples: none is refused for its attribute. Assumes nothing.
use Rattle.std.specs.Prelude.{Ok, Err}
use Rattle.calls.specs.Judging.{Verdict}
use Prim.Native.Nat.{ℕ}
use mathlib.Core.Bool.{true, false}
use mathlib.Core.List.{List, [], ◌∷◌}
use mathlib.Core.Logic.{◌⊎◌, inl, inr, ⊎_elim}
use mathlib.Core.Path.{◌≡◌, refl, ap}
use native.Mathlib.Omega.{arith}
use lib.IntN.{ℤ}
use Rattle.grid.specs.declared.Grid.{Grid}
use Rattle.grid.specs.declared.Triple.{Triple}
use Rattle.causes.specs.Causes.{number_of}
use Rattle.causes.specs.declared.Cause.{Cause}
use Rattle.causes.specs.declared.Cause.TheVariants.{Attribute}
use Rattle.calls.specs.Judging.{attribute_good, Test, also, verdict_after, verdict_of}
use Rattle.calls.specs.Calls.{record_of, opening_of, open_tests, open_verdict, open_workspace}
use Rattle.calls.specs.Calls.{MapCall, mapping_of, map_tests, map_verdict, map_workspace}
use Rattle.calls.specs.Combined.{combined_tests, combined_verdict, combined_workspace}
use Rattle.calls.specs.Reversed.{reversed}
use Rattle.calls.specs.declared.Step.TheVariants.{Threshold, Three}
use Rattle.calls.specs.declared.Kind.TheVariants.{Thresholds, Triples}

module _ (picture : List ℕ) (grid : Grid) (workspace output : List ℕ) where
  pub open_areas : (t : Triple) → open_verdict (opening_of picture grid (Three t) workspace output) ≡ Ok tt
      → open_workspace (opening_of picture grid (Three t) workspace output) ≡ record_of grid 1 picture
  unfolding open_workspace
  open_areas t is = rw is refl

  pub open_keeps : (a t : ℕ) → open_verdict (opening_of picture grid (Threshold a t) workspace output) ≡ Ok tt
      → open_workspace (opening_of picture grid (Threshold a t) workspace output) ≡ record_of grid a picture
  unfolding open_workspace
  open_keeps a t is = rw is refl

-- a dark call is the map call on the reversed picture
module _ (picture : List ℕ) (grid : Grid) (steps : List ℕ) (gap : ℕ) (workspace residue index : List ℕ) where
  pub map_areas : map_verdict (mapping_of picture grid Triples steps gap workspace residue index) ≡ Ok tt
      → map_workspace (mapping_of picture grid Triples steps gap workspace residue index) ≡ record_of grid 1 picture
  unfolding map_workspace
  map_areas is = rw is refl

  pub map_keeps : (a : ℕ) → map_verdict (mapping_of picture grid (Thresholds a) steps gap workspace residue index) ≡ Ok tt
      → map_workspace (mapping_of picture grid (Thresholds a) steps gap workspace residue index) ≡ record_of grid a picture
  unfolding map_workspace
  map_keeps a is = rw is refl

  pub combined_areas : (contrast : List ℤ) → combined_verdict (mapping_of picture grid Triples steps gap workspace residue index) contrast ≡ Ok tt
      → combined_workspace (mapping_of picture grid Triples steps gap workspace residue index) contrast ≡ record_of grid 1 (reversed picture)
  unfolding combined_workspace
  combined_areas contrast is = rw is refl

  pub combined_keeps : (contrast : List ℤ) (a : ℕ)
      → combined_verdict (mapping_of picture grid (Thresholds a) steps gap workspace residue index) contrast ≡ Ok tt
      → combined_workspace (mapping_of picture grid (Thresholds a) steps gap workspace residue index) contrast ≡ record_of grid a (reversed picture)
  unfolding combined_workspace
  combined_keeps contrast a is = rw is refl

pub area_good : attribute_good 1 ≡ true
unfolding attribute_good
area_good = refl

-- every test holds or is for another cause
abbrev OtherCauses : List Test → Type 0
OtherCauses [] = Unit {0}
OtherCauses (test ∷ later) = ((test.1 ≡ Attribute → ⊥) ⊎ (test.0 ≡ true)) × OtherCauses later

refused_still : (first : Cause) (tests : List Test) → verdict_after (Err first) tests ≡ Err Attribute → first ≡ Attribute
unfolding also
refused_still first [] e = cc e
refused_still first (test ∷ later) e = refused_still first later e

not_refused : ◌≡◌ {A = Verdict} (Ok tt) (Err Attribute) → ⊥
not_refused e = let clash : ◌≡◌ {A = ℕ} 0 1 = cc in omega arith

never_for_it : (tests : List Test) → OtherCauses tests → verdict_of tests ≡ Err Attribute → ⊥
unfolding also
never_for_it [] others e = not_refused e
never_for_it ((true, cause) ∷ later) others e = never_for_it later others.1 e
never_for_it ((false, cause) ∷ later) others e =
    ⊎_elim (λ other. other (refused_still cause later e)) (λ held. let clash : ◌≡◌ {A = ℕ} 0 1 = cc in omega arith) others.0

-- a test for another cause
other : {test : Test} → (number_of test.1 ≡ 3 → ⊥) → (test.1 ≡ Attribute → ⊥) ⊎ (test.0 ≡ true)
other apart = inl (λ e. apart (ap number_of e))

pub open_unnamed : (picture : List ℕ) (grid : Grid) (t : Triple) (workspace output : List ℕ)
    → open_verdict (opening_of picture grid (Three t) workspace output) ≡ Err Attribute → ⊥
open_unnamed picture grid t workspace output =
    never_for_it (open_tests (opening_of picture grid (Three t) workspace output)) (
      other (λ e. omega arith),
      (
        other (λ e. omega arith),
        (
          inr area_good,
          (
            other (λ e. omega arith),
            (
              other (λ e. omega arith),
              (
                other (λ e. omega arith),
                (
                  other (λ e. omega arith),
                  tt,
                ),
              ),
            ),
          ),
        ),
      ),
    )

module _ (picture : List ℕ) (grid : Grid) (words : List ℕ) (gap : ℕ) (workspace residue index : List ℕ) where
  abbrev call : MapCall
  call = mapping_of picture grid Triples words gap workspace residue index

  pub map_unnamed : map_verdict call ≡ Err Attribute → ⊥
  map_unnamed =
      never_for_it (map_tests call) (
        other (λ e. omega arith),
        (
          other (λ e. omega arith),
          (
            inr area_good,
            (
              other (λ e. omega arith),
              (
                other (λ e. omega arith),
                (
                  other (λ e. omega arith),
                  (
                    other (λ e. omega arith),
                    (
                      other (λ e. omega arith),
                      (
                        other (λ e. omega arith),
                        tt,
                      ),
                    ),
                  ),
                ),
              ),
            ),
          ),
        ),
      )

  pub combined_unnamed : (contrast : List ℤ) → combined_verdict call contrast ≡ Err Attribute → ⊥
  combined_unnamed contrast =
      never_for_it (combined_tests call contrast) (
        other (λ e. omega arith),
        (
          other (λ e. omega arith),
          (
            inr area_good,
            (
              other (λ e. omega arith),
              (
                other (λ e. omega arith),
                (
                  other (λ e. omega arith),
                  (
                    other (λ e. omega arith),
                    (
                      other (λ e. omega arith),
                      (
                        other (λ e. omega arith),
                        (
                          other (λ e. omega arith),
                          tt,
                        ),
                      ),
                    ),
                  ),
                ),
              ),
            ),
          ),
        ),
      )
