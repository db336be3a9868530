-- The residue map of an accepted call with steps 1, 2, 3 and on holds the largest sums of equation 6.
use Rattle.std.specs.Prelude.{Ok}
use Prim.Native.Nat.{ℕ, ◌<◌, max}
use mathlib.Core.List.{List}
use mathlib.Core.Path.{◌≡◌, refl, sym, ap, subst, ◌∙◌}
use Rattle.opening.specs.Opening.{least_grey, Increasing, Keeps}
use Rattle.opening.specs.Residue.{threshold_tests, residues, residue_by}
use Rattle.opening.specs.Runs.{Run, run_total}
use Rattle.grid.specs.Pixels.{pixels}
use Rattle.grid.specs.Neighbours.{adjacent}
use Rattle.grid.specs.Attributes.{attribute}
use Rattle.grid.proofs.Attributes.{adjacent_symmetric, attribute_increasing}
use Rattle.grid.proofs.Whole.{grid_whole}
use Rattle.tree.proofs.Together.{Together}
use Rattle.falls.specs.Falls.{run_sum}
use Rattle.calls.specs.Steps.{list_tests, list_attribute}
use Rattle.calls.specs.Calls.{grey, MapCall, map_verdict, kept_by}
use Rattle.calls.proofs.Accepted.{map_passed, bounded}
use Rattle.runs.specs.Claim.{residue_at}
use Rattle.runs.specs.Equation.{counting, Equation6, own_attribute, Counted, SumsAgree}
use Rattle.runs.proofs.Pixels.{residue_is}
use Rattle.runs.proofs.Equation.{parent_inside, equation_only, sums_by_equation, run_is}

module _ (call : MapCall) (ok : map_verdict call ≡ Ok tt) where
  abbrev n : ℕ
  n = pixels call.grid

  abbrev g : ℕ → ℕ
  g = grey call.picture

  whole : (p q : ℕ) → p < n → q < n → Together n (adjacent call.grid) g (least_grey n g) p q
  whole = grid_whole call.grid (bounded call.grid.width call.grid.height (map_passed call ok).common.sides).wide g

  rise : Increasing n (attribute call.grid (list_attribute call.kind))
  rise =
      attribute_increasing call.grid (list_attribute call.kind)
      (bounded call.grid.width call.grid.height (map_passed call ok).common.sides).small

  -- the sums are the totals of the runs of the nodes' own falls
  abbrev sum : ℕ → ℕ
  sum p = run_sum n (adjacent call.grid) (kept_by call) call.gap g p

  module _ (m : ℕ) (counted : Counted call m) where
    abbrev kept : List ℕ → List Keeps
    kept l = threshold_tests (attribute call.grid (list_attribute call.kind)) l

    -- what the steps keep
    steps_keep : kept_by call ≡ kept (counting 1 m)
    unfolding list_tests
    steps_keep = rw (counted.kind.1, counted.steps) refl

    by_definition : Equation6 n (adjacent call.grid) (own_attribute call) call.gap g sum
        (λ (p : ℕ). residue_by n (adjacent call.grid) (kept_by call) call.gap g p)
    by_definition =
        subst
        (λ (l : List Keeps).
        Equation6 n (adjacent call.grid) (own_attribute call) call.gap g
        (λ (p : ℕ). run_sum n (adjacent call.grid) l call.gap g p)
        (λ (p : ℕ). residue_by n (adjacent call.grid) l call.gap g p))
        (sym steps_keep)
        (sums_by_equation n (adjacent call.grid) (adjacent_symmetric call.grid) _ rise g whole m call.gap counted.below_last)

    equation : Equation6 n (adjacent call.grid) (own_attribute call) call.gap g sum (residue_at call)
    equation =
        record {
          root = λ p b e. ((by_definition.root p b e).0, residue_is call ok p b ∙ (by_definition.root p b e).1);
          sum = by_definition.sum;
          most = λ p b above.
              residue_is call ok p b
              ∙ by_definition.most p b above
              ∙ ap (max (sum p))
              (sym (residue_is call ok _ (parent_inside n (adjacent call.grid) (adjacent_symmetric call.grid) g whole p b above)));
        }

    pub sums_agree : SumsAgree call sum
    sums_agree =
        record {
          sums = equation;
          run = λ p b above.
              subst
              (λ (l : List Keeps).
              let rs = residues n (adjacent call.grid) l g p in
              (c : ℕ) × Run call.gap rs (own_attribute call p) c
              × (run_sum n (adjacent call.grid) l call.gap g p ≡ run_total rs (own_attribute call p) c))
              (sym steps_keep)
              (run_is n (adjacent call.grid) (adjacent_symmetric call.grid) _ rise g whole m call.gap counted.below_last p b above);
        }

    -- no other sums are by equation 6, and no other map holds their largest
    pub sums_only : (r R : ℕ → ℕ) → Equation6 n (adjacent call.grid) (own_attribute call) call.gap g r R → (p : ℕ) → p < n
        → (r p ≡ sum p) × (R p ≡ residue_at call p)
    sums_only r R other = equation_only n (adjacent call.grid) (adjacent_symmetric call.grid) g whole other equation
