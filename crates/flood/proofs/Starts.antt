-- The flood's start on the lists: the levels counted, the numbers filled, and the first pixel in its queue.
use Prim.Native.Nat.{ℕ, ◌/◌, ◌%◌, ◌^◌, ◌≤◌, ◌<◌}
use mathlib.Core.List.{List, ◌++◌}
use mathlib.Core.Path.{◌≡◌, refl, ◌∙◌}
use native.Mathlib.Nat.{mul-pos, zero-div}
use native.Mathlib.Omega.{arith}
use lib.Dec.{ltb}
use lib.ListN.{get_or, length, take, drop, replicate, length-append, length-take, length-drop, length-replicate, get_or-replicate, get_or-append}
use Rattle.sets.proofs.Laws.{count_le}
use Rattle.grid.specs.Neighbours.{adjacent}
use Rattle.grid.specs.declared.Grid.{Grid}
use Rattle.sets.proofs.Tables.{table_long, table_read}
use Rattle.causes.specs.Bounds.{most_pixels}
use Rattle.levels.specs.Levels.{grey, darker, level_counts, entry_sum, starts_of}
use Rattle.levels.specs.Workspace.{Sized}
use Rattle.levels.proofs.Tables.{sum_darker}
use Rattle.flooding.specs.Numbers.{Named}
use Rattle.flooding.proofs.Beginning.{Untouched, begins, first_sound, first_at}
use Rattle.flooding.proofs.Meeting.{tail_lt}
use Rattle.flooding.proofs.Numbers.{named_none, taken_fits, Renamed, named_pushed}
use Rattle.queues.specs.Marks.{Marked}
use Rattle.queues.specs.declared.Opened.{Opened}
use Rattle.queues.specs.Queues.{Whole, lists, numbers_of, state_of, Fitting, Placing}
use Rattle.visits.specs.Visits.{StandsAt}
use Rattle.visits.proofs.Visits.{pushes}
use Rattle.flood.specs.Calls.{Floodable}

-- there is a first pixel
pub first_pixel : {grid : Grid} {picture ws : List ℕ} → Floodable grid picture ws → 0 < length picture
first_pixel F = rw F.whole (mul-pos F.wide F.high)

-- all counts add up to the pixels
pub counts_fit :
    (picture : List ℕ) {counts : List ℕ} → counts ≡ level_counts (length picture) picture → length picture ≤ most_pixels
    → entry_sum counts 256 < 2 ^ 64
counts_fit picture {counts} C small =
    omega (
      arith,
      sum_darker picture counts (length picture) C 256 (omega arith),
      count_le (length picture) (λ (q : ℕ). ltb (grey picture q) 256),
    )

-- the first part filled
module _ {n : ℕ} {ws : List ℕ} (part : List ℕ) (size : Sized n ws) (all : part ≡ replicate (length (take n ws)) n) where
  part_length : length (take n ws) ≡ n
  part_length = simp length-take (omega (arith, size.words))

  pub filled_sized : Sized n (part ++ drop n ws)
  filled_sized =
      record {
        words = simp (all, length-append, length-replicate, length-drop) (omega (arith, size.words, part_length));
        small = size.small;
      }

  pub filled_unmet : (q : ℕ) → q < n → get_or (part ++ drop n ws) q 0 ≡ n
  filled_unmet q h =
      rw
      (all, part_length)
      (get_or-append (replicate n n) _ 0 q (rw (length-replicate n n) h) ∙ get_or-replicate n q n 0 h)

-- no node is open: n for each number, an empty set, no number taken and no node closed
abbrev pub none_open : ℕ → Opened
none_open n = record { numbers = replicate 256 n; levels = replicate 4 0; taken = 0; closed = 0 }

none_whole : (n : ℕ) → Whole (none_open n)
none_whole n = record { numbers = length-replicate 256 n; levels = length-replicate {A = ℕ} 4 0 }

pub none_numbered : (n k : ℕ) → k < 256 → get_or (none_open n).numbers k 0 ≡ n
none_numbered n k h = get_or-replicate 256 k n 0 h

none_marked : (n : ℕ) → Marked n (none_open n)
none_marked n =
    record {
      open_set = λ k h o. absurd (o (none_numbered n k h));
      closed_clear = λ k h e. rw (get_or-replicate {A = ℕ} 4 (k / 64) 0 0 (omega arith), zero-div (2 ^ (k % 64))) refl;
    }

module _ {grid : Grid} {picture ws ws₁ counts starts : List ℕ} (F : Floodable grid picture ws) (bytes : (x : ℕ) → grey picture x < 256)
    (C : counts ≡ level_counts (length picture) picture) (T : starts ≡ starts_of counts) (size : Sized (length picture) ws₁)
    (unmet_all : (q : ℕ) → q < length picture → get_or ws₁ q 0 ≡ length picture)
  where
    some : 0 < length picture
    some = first_pixel F

    at_start : (k : ℕ) → k < 256 → get_or starts k 0 ≡ darker (length picture) (grey picture) k
    at_start k h = table_read 0 _ T k h ∙ sum_darker picture counts (length picture) C k (omega arith)

    -- no pixel has a parent and no level a root
    abbrev none : ℕ → ℕ
    none x = length picture

    untouched :
        Untouched
        (length picture)
        (grey picture)
        (state_of (length picture) none none (lists ws₁ starts starts (none_open (length picture))))
    untouched =
        record { unmet_all = λ q h. refl; closed_all = λ k h. refl; heads = at_start; tails = at_start }

    unnamed :
        Named (length picture) (grey picture) none none none
        (numbers_of (length picture) ws₁ (none_open (length picture)))
    unnamed =
        named_none (grey picture) none unmet_all (none_numbered (length picture)) refl refl
        (λ q h. refl)
        (λ l h. refl)

    pub first_fits : Fitting (length picture) 0 (grey picture 0) ws₁ starts (none_open (length picture))
    first_fits =
        record {
          sized = size;
          within = some;
          free = tail_lt (begins untouched {adj = adjacent grid}) (bytes 0) some refl;
          wide_tails = table_long _ T;
          nameable =
              record {
                small = size.small;
                level = bytes 0;
                held = unnamed.opens (grey picture 0) (bytes 0);
                left = λ e. taken_fits unnamed some (unmet_all 0 some);
                wide = none_whole (length picture);
                marks = none_marked (length picture);
              };
        }

    module _ {ws₂ tails : List ℕ} {opened : Opened}
        (P : Placing (length picture) 0 (grey picture 0) ws₁ starts (none_open (length picture)) ws₂ tails opened)
      where
        first_named :
            Renamed (length picture) (grey picture 0) 0 (grey picture) none none (numbers_of (length picture) ws₂ opened)
        first_named =
            named_pushed unnamed P.numbering some (bytes 0) refl (unmet_all 0 some) (λ j h o. absurd (omega arith))

        pub first_stands : length ws₂ ≡ length ws₁ → StandsAt grid picture (lists ws₂ starts tails opened) 0
        first_stands same_length =
            let N = first_named in
            let step = pushes starts P N in
            record {
              ready =
                  record {
                    bytes = bytes;
                    whole = F.whole;
                    wide = F.wide;
                    sized = record { words = same_length ∙ size.words; small = size.small };
                    wide_heads = table_long _ T;
                    wide_tails = P.wide_tails;
                    wide_opened = P.wide_opened;
                    marks = P.marks;
                    first = N.first';
                    par = N.par';
                    root = N.root';
                    named = N.named;
                    sound = first_sound untouched (λ x h. bytes x) some step;
                    at = first_at untouched (λ x h. bytes x) some step;
                  };
              here = P.ord.here;
            }
