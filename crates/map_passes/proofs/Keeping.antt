-- The words of the nodes are as they were where only the third part and the last are written.
use Prim.Native.Nat.{ℕ, ◌+◌, ◌*◌, ◌/◌, ◌%◌, ◌<◌}
use mathlib.Core.List.{List}
use mathlib.Core.Path.{◌≡◌, ap}
use native.Mathlib.Omega.{arith}
use lib.ListN.{length}
use Rattle.grid.specs.declared.Grid.{Grid}
use Rattle.levels.specs.Workspace.{number_at, closed_of, drop_of, lowest_of, up_of, held_of}
use Rattle.numbers.specs.Nodes.{NodesOf}
use Rattle.numbers.proofs.Same.{nodes_same}
use Rattle.map_passes.specs.Passes.{Kept}

-- what is read of the words that are kept
module _ {n : ℕ} {ws ws' : List ℕ} (kept : Kept n ws ws') where
  kept_lowest : (k : ℕ) → k < n → lowest_of n ws' k ≡ lowest_of n ws k
  kept_lowest k b = kept.middle (3 * n + 3 * k) (omega arith) (omega arith)

  pub kept_up : (k : ℕ) → k < n → up_of n ws' k ≡ up_of n ws k
  kept_up k b = kept.middle (3 * n + 3 * k + 1) (omega arith) (omega arith)

  kept_held : (k : ℕ) → k < n → held_of n ws' k ≡ held_of n ws k
  kept_held k b = kept.middle (3 * n + 3 * k + 2) (omega arith) (omega arith)

  pub kept_closed : (i : ℕ) → i < n → closed_of n ws' i ≡ closed_of n ws i
  kept_closed i b = ap (λ (v : ℕ). v / 256) (kept.front (n + i) (omega arith))

  pub kept_drop : (i : ℕ) → i < n → drop_of n ws' i ≡ drop_of n ws i
  kept_drop i b = ap (λ (v : ℕ). v % 256) (kept.front (n + i) (omega arith))

  pub kept_number : (q : ℕ) → q < n → number_at ws' q ≡ number_at ws q
  kept_number q b = kept.front q (omega arith)

-- so they stand for the same nodes
pub nodes_kept : (grid : Grid) (a : ℕ) (picture : List ℕ) {ws ws' : List ℕ} {nodes : ℕ} → Kept (length picture) ws ws'
    → NodesOf grid a picture ws nodes → NodesOf grid a picture ws' nodes
nodes_kept grid a picture kept N =
    nodes_same
    (kept_number kept)
    (λ k b. kept_lowest kept k (omega (arith, N.few)))
    (λ k b. kept_up kept k (omega (arith, N.few)))
    (λ k b. kept_held kept k (omega (arith, N.few)))
    (λ i b. kept_closed kept i (omega (arith, N.few)))
    (λ i b. kept_drop kept i (omega (arith, N.few)))
    N
