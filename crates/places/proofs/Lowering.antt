-- The turns of the pass that lowers the place words: each stores one, and goes by words that no turn before it has stored.
use Prim.Native.Nat.{ℕ, ◌+◌, ◌*◌, ◌≤◌, ◌<◌, min}
use mathlib.Core.List.{List}
use mathlib.Core.Logic.{⊎_elim}
use mathlib.Core.Path.{◌≡◌, refl, ◌∙◌}
use native.Mathlib.Omega.{arith}
use lib.ListN.{length, get_or, set, length-set}
use lib.Seq.{get_or-set_same, get_or-set_other}
use Rattle.sets.proofs.Tests.{last_or_below}
use Rattle.falls.specs.Falls.{places_before}
use Rattle.falls.proofs.Places.{places_le}
use Rattle.levels.specs.Workspace.{held_of}
use Rattle.places.specs.Places.{place_at, Lowerable, Lowered}

-- what the search finds is at most the number of thresholds, whichever attribute it is for
pub found_le : {found : ℕ} (a : ℕ) (steps : List ℕ) → found ≡ places_before a steps → found ≤ length steps
found_le a steps finds = omega (arith, places_le a steps)

-- the place words of the nodes of numbers below k are lowered, the others are as they were
pub record LoweredTo (n k : ℕ) (steps ws ws' : List ℕ) : Type 0 where
  pub below : Lowered n k steps ws ws'
  pub rest : (j : ℕ) → k ≤ j → place_at n ws' j ≡ place_at n ws j

pub lower_start : {n : ℕ} {steps ws : List ℕ} → LoweredTo n 0 steps ws ws
lower_start = record {
  below = record { outside = record { words = refl; front = λ x l. refl; back = λ x l. refl }; lowered = λ k l. absurd (omega arith) };
  rest = λ j l. refl;
}

-- the turn of the node of number k, of what the search finds for the attribute that it holds now
module _ {n nodes k : ℕ} {steps ws ws' : List ℕ} (ready : Lowerable n nodes steps ws) (b : k < nodes) (prog : LoweredTo n k steps ws ws')
    {found word : ℕ} (finds : found ≡ places_before (held_of n ws' k) steps) (chooses : word ≡ min (place_at n ws' k) found) where
  abbrev left : List ℕ
  left = set ws' (2 * n + k) word

  -- the words by which the turn goes are those at the start
  word_is : word ≡ min (place_at n ws k) (places_before (held_of n ws k) steps)
  word_is =
      chooses ∙ rw (finds, prog.rest k (omega arith), prog.below.outside.back (3 * n + 3 * k + 2) (omega arith)) refl

  here : place_at n left k ≡ word
  here = get_or-set_same ws' (2 * n + k) word 0 (omega (arith, prog.below.outside.words, ready.words, ready.few))

  there : (x : ℕ) → (x ≡ 2 * n + k → ⊥) → get_or left x 0 ≡ get_or ws' x 0
  there x off = get_or-set_other ws' (2 * n + k) x word 0 off

  lowered_now : (j : ℕ) → j < k + 1 → place_at n left j ≡ min (place_at n ws j) (places_before (held_of n ws j) steps)
  lowered_now j l =
      ⊎_elim
      (λ (e : j ≡ k). rw e (here ∙ word_is))
      (λ (before : j < k). there (2 * n + j) (λ e. omega arith) ∙ prog.below.lowered j before)
      (last_or_below j k (omega arith))

  pub lower_more : LoweredTo n (k + 1) steps ws left
  lower_more = record {
    below = record {
      outside = record {
        words = length-set ws' (2 * n + k) word ∙ prog.below.outside.words;
        front = λ x l. there x (λ e. omega arith) ∙ prog.below.outside.front x l;
        back = λ x l. there x (λ e. omega (arith, ready.few)) ∙ prog.below.outside.back x l;
      };
      lowered = lowered_now;
    };
    rest = λ j l. there (2 * n + j) (λ e. omega arith) ∙ prog.rest j (omega arith);
  }

-- at the end
pub lower_end : {n nodes k : ℕ} {steps ws ws' : List ℕ} → nodes ≤ k → LoweredTo n k steps ws ws' → Lowered n nodes steps ws ws'
lower_end most prog = record {
  outside = prog.below.outside;
  lowered = λ j l. prog.below.lowered j (omega arith);
}
