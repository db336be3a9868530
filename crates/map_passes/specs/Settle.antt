-- What the pass over the nodes computes for one node from what its parent holds. A pair stands for a run of residues: the place at which the run
-- ends, times 256, and its total. So a pair modulo 256 is the total, and over 256, rounded up, it is the index, counted from 1, or 0 where no
-- residue is. A node holds two words. Its run word is the place of the step at which the node falls, times 65,536, and the pair of the run of its
-- own fall; the place is 512, beyond every step and gap, for a node that never falls. Its pair is that of the run of its largest total, 0 where
-- the total is 0.
use Rattle.std.specs.Prelude.{ℕ, ◌+◌, ◌*◌, ◌/◌, ◌%◌, ◌≤◌, ◌<◌, Bool, cond, List, ◌≡◌, eqb, leb, ltb, length, get_or, set}
use Rattle.causes.specs.Bounds.{words_a_pixel, most_steps, most_gap}

-- what a pair holds
abbrev pub end_in : ℕ → ℕ
end_in pair = pair / 256

abbrev pub total_in : ℕ → ℕ
total_in pair = pair % 256

abbrev pub index_in : ℕ → ℕ
index_in pair = (pair + 255) / 256

-- what a run word holds
abbrev pub place_in : ℕ → ℕ
place_in run = run / 65536

abbrev pub own_in : ℕ → ℕ
own_in run = run % 65536

-- the run word of a node that never falls
abbrev pub never : ℕ
never = 33554432

-- the place at which the node of number r falls, of m steps: its place word, or m if it is the root, its own parent, which never falls
unfoldable pub place_of : ℕ → ℕ → ℕ → ℕ → ℕ
place_of m r parent word = cond (eqb parent r) m word

-- whether a node that falls at place k shares its parent's run: the parent falls at most the gap later
unfoldable pub near : ℕ → ℕ → ℕ → Bool
near gap k run = leb (place_in run) (k + gap)

-- the pair of its run before its own fall: the parent's if they share it, else a run that ends at its own place
unfoldable pub shared_pair : ℕ → ℕ → ℕ → ℕ
shared_pair gap k run = cond (near gap k run) (own_in run) (k * 256)

-- the pair of its run: with the fall from its parent
unfoldable pub own_of : ℕ → ℕ → ℕ → ℕ → ℕ
own_of gap k fall run = shared_pair gap k run + fall

-- its run word, and its pair: its own run's, if the total is more than the parent's largest, else the parent's
unfoldable pub run_of : ℕ → ℕ → ℕ → ℕ → ℕ
run_of gap k fall run = k * 65536 + own_of gap k fall run

unfoldable pub pair_of : ℕ → ℕ → ℕ → ℕ → ℕ → ℕ
pair_of gap k fall run pair = cond (ltb (total_in pair) (total_in (own_of gap k fall run))) (own_of gap k fall run) pair

-- the same for any node of m steps: it falls at place k, or never
unfoldable pub run_word : ℕ → ℕ → ℕ → ℕ → ℕ → ℕ
run_word m gap k fall run = cond (ltb k m) (run_of gap k fall run) never

unfoldable pub pair_word : ℕ → ℕ → ℕ → ℕ → ℕ → ℕ → ℕ
pair_word m gap k fall run pair = cond (ltb k m) (pair_of gap k fall run pair) 0

-- the words of the node of number k, of n pixels: its run word in the third part, its pair in the last
abbrev pub run_at : ℕ → List ℕ → ℕ → ℕ
run_at n ws k = get_or ws (2 * n + k) 0

abbrev pub pair_at : ℕ → List ℕ → ℕ → ℕ
pair_at n ws k = get_or ws (6 * n + k) 0

-- the words after both are stored
unfoldable pub stored : ℕ → ℕ → ℕ → ℕ → List ℕ → List ℕ
stored n k run pair ws = set (set ws (2 * n + k) run) (6 * n + k) pair

-- the parts have room for them
pub record Storable (n k : ℕ) (ws : List ℕ) : Type 0 where
  pub ws_size : length ws ≡ words_a_pixel * n
  pub node : k < n

-- what a node of number k needs that falls at a place, `fall` above its parent, of number up: the total of its run is a byte
pub record Settleable (gap place fall n k up : ℕ) (ws : List ℕ) : Type 0 where
  pub few : place < most_steps
  pub small_gap : gap ≤ most_gap
  pub ws_size : length ws ≡ words_a_pixel * n
  pub node : k < n
  pub above : up < n
  pub byte : fall + total_in (own_in (run_at n ws up)) < 256

-- the words after it is settled
unfoldable pub settled_at : ℕ → ℕ → ℕ → ℕ → ℕ → ℕ → List ℕ → List ℕ
settled_at gap place fall n k up ws =
    stored n k (run_of gap place fall (run_at n ws up)) (pair_of gap place fall (run_at n ws up) (pair_at n ws up)) ws
