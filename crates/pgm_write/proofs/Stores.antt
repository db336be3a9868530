-- Runs of stores into a buffer. Assumes nothing.
use Prim.Native.Nat.{ℕ, suc, ◌+◌, ◌-◌, ◌≤◌, ◌<◌}
use mathlib.Core.Path.{◌≡◌, refl, sym, ◌∙◌, ap}
use mathlib.Core.List.{List, [], ◌∷◌, ◌++◌}
use native.Mathlib.Numerals.{add-one}
use native.Mathlib.Nat.{add-zero, add-suc, suc-add}
use native.Mathlib.Omega.{arith}
use lib.ListN.{length, get_or, take, set}
use Rattle.std.proofs.lemmas.Slice.{put_mid-paste}
use borrow.Rule.Slice.PartMut.{put_mid}
use lib.Seq.{sets-eq, sets, length-sets, take-suc, take_all, length-take-le}

-- storing one run and then another from where it ended is storing both
pub sets_append : (a b l : List ℕ) (i : ℕ) → sets l i (a ++ b) ≡ sets (sets l i a) (i + length a) b
sets_append [] b l i = rw add-zero
sets_append (x ∷ a) b l i = sets_append a b (set l i x) (suc i) ∙ rw (suc-add, add-suc)

-- the first i of s are stored in l from a position on
pub record StoredSoFar (l : List ℕ) (at : ℕ) (s : List ℕ) (i : ℕ) (now : List ℕ) : Type 0 where
  pub stored : now ≡ sets l at (take i s)
  pub within : i ≤ length s

pub stored_none : (l : List ℕ) (at : ℕ) (s : List ℕ) → StoredSoFar l at s 0 l
stored_none l at s = record { stored = refl; within = omega arith }

module _ {l : List ℕ} {at : ℕ} {s : List ℕ} {i : ℕ} {now : List ℕ} (so_far : StoredSoFar l at s i now) where
  pub stored_length : length now ≡ length l
  stored_length = ap length so_far.stored ∙ length-sets l at (take i s)

  pub stored_more : i < length s → StoredSoFar l at s (i + 1) (set now (at + i) (get_or s i 0))
  stored_more h =
      record {
        stored =
            ap (λ (b : List ℕ). set b (at + i) (get_or s i 0)) so_far.stored
            ∙ sym
            (rw (
              add-one,
              take-suc s i 0,
              sets_append (take i s) (get_or s i 0 ∷ []) l at,
              length-take-le i s (omega arith),
            ));
        within = omega arith;
      }

  pub stored_all : length s ≤ i → now ≡ sets l at s
  stored_all h = so_far.stored ∙ ap (sets l at) (take_all i s h)

-- a part that was copied over is a run of stores
pub part_stored : (l part s : List ℕ) (at : ℕ) → at + length s ≤ length l → part ≡ s → put_mid at (at + length s - at) l part ≡ sets l at s
part_stored l part s at room same =
    put_mid-paste at (at + length s - at) l part s (length s) same (omega arith) refl
    ∙ rw (take_all (length s) s (omega arith), sets-eq s l at room)
