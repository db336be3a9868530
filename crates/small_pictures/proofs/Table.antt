-- The starred cases of the table, by computing the definitions. P is meant in its ring. Its components are computed once: they give its openings, and the
-- openings its maps. Where a `refl` computes much, its value is written out, which saves half the time or more. Assumes nothing.
use Rattle.std.specs.Prelude.{Ok}
use Prim.Native.Nat.{ℕ, ◌+◌, ◌-◌, ◌<◌}
use mathlib.Core.Bool.{Bool, true, false}
use mathlib.Core.List.{List, [], ◌∷◌, ◌++◌, map}
use mathlib.Core.Path.{◌≡◌, refl, ap}
use lib.ListN.{length, get_or, replicate}
use Rattle.sets.specs.Sets.{some_in, count, table_from, table, member}
use Rattle.sets.specs.Gather.{gather}
use Rattle.sets.proofs.Laws.{table_at, table_ext}
use Rattle.connected.specs.Component.{Adjacency, seed, grow, grown, component}
use Rattle.grid.specs.Pixels.{grid_of}
use Rattle.grid.specs.Neighbours.{adjacent}
use Rattle.grid.specs.Attributes.{extent, side, visible, on_frame, attribute}
use Rattle.opening.specs.Opening.{component_at, least_grey, Keeps, at_least, highest_above, opened_by}
use Rattle.opening.specs.Residue.{falls_from, soon, joined, largest, last_place, largest_place, threshold_tests, openings_by, residues, residue_by, index_by}
use Rattle.tree.specs.Tree.{lowest_own, representative, node_below, parent_representative, is_representative, number_of_nodes}
use Rattle.tree.specs.Tree.{parent_word, attribute_word, parents, attributes, put, by_level, listing, workspace}
use Rattle.calls.specs.Judging.{attribute_good, neighbours_good, also}
use Rattle.calls.specs.Steps.{step_test, list_tests}
use Rattle.calls.specs.Calls.{grey, record_of, built, opened_picture, residue_map, index_map}
use Rattle.small_pictures.specs.Table.{ringed_P, parents_P, attributes_P, nodes_P, building_P, Starred, opened_at, residues_at, indices_at}

-- the neighbours in P
abbrev near : Adjacency
near = adjacent (grid_of 7 3 4)

record_is : record_of (grid_of 7 3 4) 1 ringed_P ≡ parents_P ++ attributes_P ++ nodes_P ++ replicate 84 0
unfolding adjacent some_in count table_from table gather seed grow grown component visible on_frame attribute component_at lowest_own
    representative node_below parent_representative is_representative parent_word attribute_word parents attributes
    number_of_nodes put by_level listing workspace
record_is = refl {a = parents_P ++ attributes_P ++ nodes_P ++ replicate 84 0}

nodes_are : number_of_nodes 21 near (grey ringed_P) ≡ 4
unfolding adjacent some_in count table_from table gather seed grow grown component component_at lowest_own representative is_representative
    number_of_nodes
nodes_are = refl {A = ℕ} {a = 4}

built_is : (lent : List ℕ) → length lent ≡ 147 → built (building_P lent) ≡ Ok 4
unfolding also attribute_good neighbours_good built
built_is lent size = rw (size, nodes_are)

-- at each pixel of P, its components at the levels from 11 to its grey
components : List (List (List Bool))
components = table 21 (λ (p : ℕ). table (grey ringed_P p - 10) (λ (i : ℕ). component_at 21 near (grey ringed_P) (11 + i) p))

-- k positions of P from i on
abbrev run : ℕ → ℕ → List Bool
run i k = replicate i false ++ replicate k true ++ replicate (21 - (i + k)) false

components_P : List (List (List Bool))
components_P =
    replicate 9 []
    ++ (replicate 10 (run 9 3) ++ replicate 10 (run 9 1))
    ∷ replicate 10 (run 9 3)
    ∷ (replicate 10 (run 9 3) ++ replicate 30 (run 11 1))
    ∷ replicate 9 []

components_are : components ≡ components_P
unfolding components components_P adjacent some_in table_from table seed grow grown component component_at
components_are = refl {a = components_P}

-- an opening of P from its components
opened_from : List (List (List Bool)) → Keeps → List ℕ
opened_from cs keeps =
    table 21 (λ (p : ℕ). highest_above 10 (grey ringed_P p - 10) (λ (h : ℕ). keeps (member (get_or (get_or cs p []) (h - 11) []))))

-- the opening by the attribute a at t
opened_P : ℕ → ℕ → List ℕ
opened_P a t = opened_from components_P (at_least (attribute (grid_of 7 3 4) a) t)

opened_is : (a t : ℕ) → opened_at (grid_of 7 3 4) a t ringed_P ≡ opened_P a t
unfolding step_test components opened_from opened_P table_from table least_grey highest_above opened_by opened_picture
opened_is a t = ap (λ (cs : List (List (List Bool))). opened_from cs (at_least (attribute (grid_of 7 3 4) a) t)) components_are

-- a map of P from its openings: at each pixel, f of its falls
mapped : (List ℕ → ℕ) → List (List ℕ) → List ℕ
mapped f openings = table 21 (λ (p : ℕ). f (falls_from (grey ringed_P p) (map (λ (opened : List ℕ). grey opened p) openings)))

openings_are : (a : ℕ) (steps : List ℕ) (p : ℕ) → p < 21
    → openings_by 21 near (threshold_tests (attribute (grid_of 7 3 4) a) steps) (grey ringed_P) p
    ≡ map (λ (opened : List ℕ). grey opened p) (map (opened_P a) steps)
unfolding step_test opened_picture
openings_are a [] p below = refl
openings_are a (t ∷ steps) p below =
    cc (
      openings_are a steps p below,
      opened_is a t,
      table_at 21 (opened_by 21 near (at_least (attribute (grid_of 7 3 4) a) t) (grey ringed_P)) p 0 below,
    )

residue_is : (a : ℕ) (steps : List ℕ) (gap : ℕ)
    → residues_at (grid_of 7 3 4) a steps gap ringed_P ≡ mapped (λ (rs : List ℕ). largest (joined gap 0 rs)) (map (opened_P a) steps)
unfolding list_tests mapped residues residue_by residue_map
residue_is a steps gap =
    table_ext 21 _ _
    (λ p below. ap (λ (l : List ℕ). largest (joined gap 0 (falls_from (grey ringed_P p) l))) (openings_are a steps p below))

index_is : (a : ℕ) (steps : List ℕ) (gap : ℕ)
    → indices_at (grid_of 7 3 4) a steps gap ringed_P ≡ mapped (λ (rs : List ℕ). largest_place (joined gap 0 rs)) (map (opened_P a) steps)
unfolding list_tests mapped residues index_by index_map
index_is a steps gap =
    table_ext 21 _ _
    (λ p below. ap (λ (l : List ℕ). largest_place (joined gap 0 (falls_from (grey ringed_P p) l))) (openings_are a steps p below))

pub starred : Starred
unfolding components_P opened_from opened_P mapped adjacent some_in count table_from table gather seed grow grown component extent side visible
    on_frame attribute component_at least_grey highest_above opened_by falls_from soon joined largest last_place largest_place residues
    residue_by index_by list_tests residue_map index_map
starred =
    record {
      tree_record = record_is;
      tree_nodes = built_is;
      steps_1_2_3_4_residue = residue_is 1 (1 ∷ 2 ∷ 3 ∷ 4 ∷ []) 0;
      steps_1_2_3_4_index = index_is 1 (1 ∷ 2 ∷ 3 ∷ 4 ∷ []) 0;
      gap_2_residue = residue_is 1 (1 ∷ 2 ∷ 3 ∷ 4 ∷ []) 2;
      gap_2_index = index_is 1 (1 ∷ 2 ∷ 3 ∷ 4 ∷ []) 2;
      steps_2_4_residue = residue_is 1 (2 ∷ 4 ∷ []) 0;
      steps_2_4_index = index_is 1 (2 ∷ 4 ∷ []) 0;
      step_1_residue = residue_is 1 (1 ∷ []) 0;
      step_1_index = index_is 1 (1 ∷ []) 0;
      step_6_residue = residue_is 1 (6 ∷ []) 0;
      step_6_index = index_is 1 (6 ∷ []) 0;
      height_residue = residue_is 2 (1 ∷ 2 ∷ []) 0;
      height_index = index_is 2 (1 ∷ 2 ∷ []) 0;
      opened_2 = opened_is 1 2;
      opened_3 = opened_is 1 3;
      opened_4 = opened_is 1 4;
      two_rows_residue = refl;
      two_rows_index = refl;
      corners_residue = refl;
      corners_index = refl;
    }
