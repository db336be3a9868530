-- The steps of a climb and of the pass over the positions. Assumes nothing.
use Prim.Native.Nat.{ℕ, zero, suc, ◌+◌, ◌≤◌, ◌<◌}
use mathlib.Core.List.{List}
use mathlib.Core.Logic.{⊎_elim}
use mathlib.Core.Path.{◌≡◌}
use native.Mathlib.Omega.{arith}
use lib.ListN.{length, set, length-set}
use lib.Seq.{get_or-set_same, get_or-set_other}
use Rattle.sets.proofs.Tests.{last_or_below}
use Rattle.calls.specs.Calls.{grey}
use Rattle.openings.specs.Climbing.{parent, attribute, Representative, Climbable, From, Kept, kept, root, up, OpenedTo, Pass}

module _ (picture words : List ℕ) (n r : ℕ) (from : From picture words n r) (higher : parent words r ≡ r → ⊥) where
  -- the parent of a node that is not the root
  pub from_parent : From picture words n (parent words r)
  from_parent =
      record {
        climbable = from.climbable;
        below = from.climbable.within r from.below;
        representative = from.climbable.leads r from.below;
      }

  -- "Levels fall strictly on the way up"
  pub parent_falls : grey picture (parent words r) < grey picture r
  parent_falls =
      ⊎_elim (λ same. absurd (higher same)) (λ less. less) (from.climbable.falls r from.below from.representative)

module _ (picture words : List ℕ) (n t : ℕ) where
  -- what at most k steps find, at most l find
  pub kept_within : {k r v : ℕ} → Kept picture words n t k r v → (l : ℕ) → k ≤ l → Kept picture words n t l r v
  kept_within (kept enough) l more = kept enough
  kept_within (root top) l more = root top
  kept_within (up gone rest) zero more = absurd (omega arith)
  kept_within (up gone rest) (suc l) more = up gone (kept_within rest l (omega arith))

  pub pass_start : (output : List ℕ) → Climbable picture words n → length output ≡ n → 0 < t → Pass picture words n t 0 output
  pass_start output climbable entries positive =
      record {
        climbable = climbable;
        positive = positive;
        entries = entries;
        reached = omega arith;
        opened = λ p below. absurd (omega arith);
      }

  module _ (p : ℕ) (output : List ℕ) (pass : Pass picture words n t p output) (below : p < n) where
    -- a representative starts a climb
    from_itself : Representative words n p → From picture words n p
    from_itself representative = record { climbable = pass.climbable; below = below; representative = representative }

    -- the levels of bytes fall at most 255 times
    pub pass_itself : (v : ℕ) → From picture words n p → grey picture p < 256 → Kept picture words n t (grey picture p) p v
        → OpenedTo picture words n t p v
    pass_itself v from byte found =
        record { own = λ none. absurd (from.representative none); itself = λ e. record { found = found; bounded = omega arith } }

    -- a node that is kept has its grey; its attribute word is not 0, as the threshold is above 0
    pub pass_kept : t ≤ attribute words n p → grey picture p < 256 → OpenedTo picture words n t p (grey picture p)
    pass_kept enough byte =
        pass_itself (grey picture p) (from_itself (λ none. omega (arith, pass.positive))) byte (kept enough)

    -- any other pixel has the new grey at its parent word, if that is written; from a representative it is one step more than from there
    pub pass_parent :
        attribute words n p < t → parent words p < p → grey picture p < 256
        → OpenedTo picture words n t p (grey output (parent words p))
    pass_parent gone before byte =
        let above = (pass.opened (parent words p) before).itself (pass.climbable.leads p below) in
        record {
          own = λ e. above;
          itself = λ representative.
              let less = parent_falls picture words n p (from_itself representative) (λ same. omega arith) in
              record { found = kept_within (up gone above.found) _ less; bounded = omega arith };
        }

    -- where it is not, the pixel is a representative
    pub pass_from : p ≤ parent words p → From picture words n p
    pass_from later = from_itself (λ none. omega (arith, pass.climbable.lowest p below none))

    pub pass_more : (v : ℕ) → OpenedTo picture words n t p v → Pass picture words n t (p + 1) (set output p v)
    pass_more v found =
        let within : p < length output = omega (arith, pass.entries) in
        record {
          climbable = pass.climbable;
          positive = pass.positive;
          entries = simp length-set pass.entries;
          reached = omega arith;
          opened = λ q before. ⊎_elim
              (λ (same : q ≡ p). rw (same, get_or-set_same output p v 0) found)
              (λ (less : q < p). rw (get_or-set_other output p q v 0 (λ e. omega arith)) (pass.opened q less))
              (last_or_below q p (omega arith));
        }
