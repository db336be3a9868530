-- The record of a picture has its nodes from the root to the leaves, and every accepted call leaves it. Of the record alone: assumes that the
-- sides fit.
use Rattle.std.specs.Prelude.{Ok}
use Prim.Native.Nat.{ℕ, ◌<◌}
use mathlib.Core.Bool.{Bool, cond}
use mathlib.Core.List.{List}
use mathlib.Core.Logic.{⊎_elim}
use mathlib.Core.Path.{◌≡◌, refl, sym, ap, ◌∙◌}
use native.Mathlib.Omega.{arith}
use lib.IntN.{ℤ}
use lib.ListN.{get_or}
use borrow.Author.Tests.{eqb-true}
use Rattle.connected.specs.Component.{Adjacency}
use Rattle.grid.specs.Pixels.{pixels}
use Rattle.grid.specs.Neighbours.{adjacent}
use Rattle.grid.specs.Attributes.{attribute}
use Rattle.grid.specs.declared.Grid.{Grid}
use Rattle.grid.proofs.Attributes.{adjacent_symmetric}
use Rattle.grid.proofs.Whole.{grid_whole}
use Rattle.tree.specs.Tree.{representative, parent_representative, is_representative, parent_word, listing}
use Rattle.tree.specs.Listing.{Listed}
use Rattle.tree.proofs.Parents.{root_representative, root_least}
use Rattle.tree.proofs.Listing.{listed_same, listed_once}
use Rattle.tree.proofs.RootToLeaf.{nodes_few, zeros_after, listing_listed, parent_before, some_node, first_root, only_root}
use Rattle.tree.proofs.Words.{parent_at, listed_at}
use Rattle.causes.proofs.Laws.{Bounded, some_pixel}
use Rattle.calls.specs.Steps.{step_attribute, list_attribute}
use Rattle.calls.specs.Calls.{grey, record_of, BuildCall, build_verdict, build_workspace, OpenCall, open_verdict, open_workspace}
use Rattle.calls.specs.Calls.{MapCall, map_verdict, map_workspace}
use Rattle.calls.specs.Reversed.{reversed}
use Rattle.calls.specs.Combined.{combined_verdict, combined_workspace}
use Rattle.calls.specs.RootToLeaf.{parent, entry, nodes, RootToLeaf}
use Rattle.calls.proofs.Accepted.{build_passed, open_passed, map_passed, bounded}
use Rattle.calls.proofs.Combined.{combined_passed}

module _ (grid : Grid) (a : ℕ) (picture : List ℕ) (fits : Bounded grid.width grid.height) where
  abbrev n : ℕ
  n = pixels grid

  abbrev adj : Adjacency
  adj = adjacent grid

  abbrev g : ℕ → ℕ
  g = grey picture

  abbrev ws : List ℕ
  ws = record_of grid a picture

  abbrev in_list : ℕ → ℕ
  in_list i = get_or (listing n adj g) i 0

  some : 0 < n
  some = omega (arith, some_pixel fits)

  entry_is : (i : ℕ) → i < n → entry grid ws i ≡ in_list i
  entry_is i b = listed_at n adj (attribute grid a) g i b

  node_entry : (i : ℕ) → i < nodes grid picture → entry grid ws i ≡ in_list i
  node_entry i b = entry_is i (omega (arith, nodes_few n adj g))

  -- the parent word of a node is its parent's representative
  parent_is : (i : ℕ) → i < nodes grid picture → parent ws (entry grid ws i) ≡ parent_representative n adj g (in_list i)
  unfolding parent_word
  parent_is i b =
      let p : ℕ = in_list i in
      let listed = listing_listed n adj g in
      ap (parent ws) (node_entry i b)
      ∙ parent_at n adj (attribute grid a) g p (listed.within i b)
      ∙ ap (λ (t : Bool). cond t (parent_representative n adj g p) (representative n adj g p)) (listed.inside i b)

  record_root_to_leaf : RootToLeaf grid picture (record_of grid a picture)
  unfolding is_representative
  record_root_to_leaf =
      let symm = adjacent_symmetric grid in
      let whole = grid_whole grid fits.wide g in
      let list = listing_listed n adj g in
      let one : 0 < nodes grid picture = some_node n adj g symm some in
      let listed : Listed n (nodes grid picture) g (is_representative n adj g) (entry grid ws) =
      listed_same n (nodes grid picture) g (is_representative n adj g) (is_representative n adj g) in_list (entry grid ws) (λ q b. refl) node_entry list in
      let root = first_root n adj g symm some in
      record {
        listed = listed;
        once = listed_once listed;
        zeros = λ i c b. entry_is i b ∙ zeros_after n adj g i c b;
        root =
            parent_is 0 one
            ∙ root_representative n adj symm g (in_list 0) root
            ∙ eqb-true (representative n adj g (in_list 0)) (in_list 0) (list.inside 0 one)
            ∙ sym (node_entry 0 one);
        darkest = ap g (node_entry 0 one) ∙ root_least n adj symm g whole (in_list 0) (list.within 0 one) root;
        parents =
            λ i late b.
            ⊎_elim
            (λ other. absurd (only_root n adj g symm whole i late b other))
            (λ (j, c, e). (j, c, node_entry j (omega arith) ∙ e ∙ sym (parent_is i b)))
            (parent_before n adj g symm i b);
      }

-- every accepted call leaves it
pub build_root_to_leaf : (call : BuildCall) → build_verdict call ≡ Ok tt → RootToLeaf call.grid call.picture (build_workspace call)
unfolding build_workspace
build_root_to_leaf call accepted =
    let grid = call.grid in
    rw accepted (record_root_to_leaf grid call.attribute call.picture (bounded grid.width grid.height (build_passed call accepted).sides))

pub open_root_to_leaf : (call : OpenCall) → open_verdict call ≡ Ok tt → RootToLeaf call.grid call.picture (open_workspace call)
unfolding open_workspace
open_root_to_leaf call accepted =
    let grid = call.grid in
    rw accepted (record_root_to_leaf grid (step_attribute call.step) call.picture (bounded grid.width grid.height (open_passed call accepted).common.sides))

pub map_root_to_leaf : (call : MapCall) → map_verdict call ≡ Ok tt → RootToLeaf call.grid call.picture (map_workspace call)
unfolding map_workspace
map_root_to_leaf call accepted =
    let grid = call.grid in
    rw accepted (record_root_to_leaf grid (list_attribute call.kind) call.picture (bounded grid.width grid.height (map_passed call accepted).common.sides))

-- a dark call is a map call on the reversed picture, and a combined call leaves the same
pub combined_root_to_leaf : (call : MapCall) (contrast : List ℤ) → combined_verdict call contrast ≡ Ok tt
    → RootToLeaf call.grid (reversed call.picture) (combined_workspace call contrast)
unfolding combined_workspace
combined_root_to_leaf call contrast accepted =
    let grid = call.grid in
    let passed = map_passed call (combined_passed call contrast accepted).0 in
    rw accepted (record_root_to_leaf grid (list_attribute call.kind) (reversed call.picture) (bounded grid.width grid.height passed.common.sides))
