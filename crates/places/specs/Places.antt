-- The places of the nodes among a list of steps. A node's place word stands in part 3 of the workspace, by its number.
use Rattle.std.specs.Prelude.{ℕ, ◌+◌, ◌*◌, ◌≤◌, ◌<◌, min, true, List, ◌≡◌, length, get_or}
use Rattle.sets.specs.Sets.{table}
use Rattle.opening.specs.Residue.{not_falling}
use Rattle.falls.specs.Falls.{places_before}
use Rattle.causes.specs.Bounds.{words_a_pixel, most_steps}
use Rattle.levels.specs.Workspace.{held_of}

-- the places for the attributes below 256
abbrev pub small_places : List ℕ → List ℕ
small_places steps = table 256 (λ (a : ℕ). places_before a steps)

-- the place word of the node of number k, of n pixels
abbrev pub place_at : ℕ → List ℕ → ℕ → ℕ
place_at n ws k = get_or ws (2 * n + k) 0

-- what lowering the place words needs: room for them, and not too many thresholds, which do not fall
pub record Lowerable (n nodes : ℕ) (steps ws : List ℕ) : Type 0 where
  pub words : length ws ≡ words_a_pixel * n
  pub few : nodes ≤ n
  pub small : length steps ≤ most_steps
  pub rise : not_falling 0 steps ≡ true

-- nothing outside the third of the parts of n words has changed
pub record Outside (n : ℕ) (ws ws' : List ℕ) : Type 0 where
  pub words : length ws' ≡ length ws
  pub front : (x : ℕ) → x < 2 * n → get_or ws' x 0 ≡ get_or ws x 0
  pub back : (x : ℕ) → 3 * n ≤ x → get_or ws' x 0 ≡ get_or ws x 0

-- the place word of each node is the least of what it was and how many thresholds the attribute that it holds outlasts; outside part 3
-- nothing has changed
pub record Lowered (n nodes : ℕ) (steps ws ws' : List ℕ) : Type 0 where
  pub outside : Outside n ws ws'
  pub lowered : (k : ℕ) → k < nodes → place_at n ws' k ≡ min (place_at n ws k) (places_before (held_of n ws k) steps)
