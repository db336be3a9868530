-- The cases for proof of the scope's table of small pictures, which name 4 neighbours and gap 0, and those that requests E2 and E4 add, as one
-- statement over the definitions that the calls' contracts state. By request E6 they "are then set in a ring, one pixel wide, of their least
-- grey; their light maps and openings inside it stay, and the tree case" is "worked out again". The ring itself has no residue and keeps its grey.
use Rattle.std.specs.Prelude.{Ok}
use Rattle.std.specs.Prelude.{ℕ, ◌+◌, ◌≡◌, length, replicate}
use mathlib.Core.List.{List, [], ◌∷◌, ◌++◌, foldr}
use Rattle.grid.specs.Pixels.{grid_of}
use Rattle.grid.specs.declared.Grid.{Grid}
use Rattle.calls.specs.Steps.{step_test, list_tests}
use Rattle.calls.specs.Calls.{record_of, BuildCall, built, opened_picture, residue_map, index_map}
use Rattle.calls.specs.declared.Step.TheVariants.{Threshold}
use Rattle.calls.specs.declared.Kind.TheVariants.{Thresholds}

-- rows of w entries, set in a ring of v: a row of v, each row between two v, and a row of v
abbrev pub ringed : ℕ → ℕ → List (List ℕ) → List ℕ
ringed v w rows = replicate (w + 2) v ++ foldr (λ (row below : List ℕ). v ∷ (row ++ v ∷ below)) (replicate (w + 2) v) rows

-- "P is one row: 10 30 20 50 10."
abbrev pub P : List ℕ
P = 10 ∷ 30 ∷ 20 ∷ 50 ∷ 10 ∷ []

-- P in its ring, 7 by 3
abbrev pub ringed_P : List ℕ
ringed_P = ringed 10 5 (P ∷ [])

-- the parents in its tree record, row by row
abbrev pub parents_P : List ℕ
parents_P =
    (0 ∷ 0 ∷ 0 ∷ 0 ∷ 0 ∷ 0 ∷ 0 ∷ [])
    ++ (0 ∷ 0 ∷ 10 ∷ 0 ∷ 10 ∷ 0 ∷ 0 ∷ [])
    ++ (0 ∷ 0 ∷ 0 ∷ 0 ∷ 0 ∷ 0 ∷ 0 ∷ [])

-- and the attributes, by area. The root has "a pixel in the first or last row or column", so 1,048,577.
abbrev pub attributes_P : List ℕ
attributes_P =
    (1048577 ∷ 0 ∷ 0 ∷ 0 ∷ 0 ∷ 0 ∷ 0 ∷ [])
    ++ (0 ∷ 0 ∷ 1 ∷ 3 ∷ 1 ∷ 0 ∷ 0 ∷ [])
    ++ (0 ∷ 0 ∷ 0 ∷ 0 ∷ 0 ∷ 0 ∷ 0 ∷ [])

-- and by request E8 its nodes, "by rising level": 10, 20, 30 and 50, "and zeros after the last"
abbrev pub nodes_P : List ℕ
nodes_P = (0 ∷ 10 ∷ 9 ∷ 11 ∷ []) ++ replicate 17 0

-- two rows, 9 0 and 0 9, in their ring, 4 by 4
abbrev pub ringed_Q : List ℕ
ringed_Q = ringed 0 2 ((9 ∷ 0 ∷ []) ∷ (0 ∷ 9 ∷ []) ∷ [])

-- opened at a threshold, and the maps of a list of thresholds and a gap
abbrev pub opened_at : Grid → ℕ → ℕ → List ℕ → List ℕ
opened_at grid a t picture = opened_picture grid (step_test grid (Threshold a t)) picture

abbrev pub residues_at : Grid → ℕ → List ℕ → ℕ → List ℕ → List ℕ
residues_at grid a steps gap picture = residue_map grid (list_tests grid (Thresholds a) steps) gap picture

abbrev pub indices_at : Grid → ℕ → List ℕ → ℕ → List ℕ → List ℕ
indices_at grid a steps gap picture = index_map grid (list_tests grid (Thresholds a) steps) gap picture

-- a building call on P by area
abbrev pub building_P : List ℕ → BuildCall
building_P lent = record { picture = ringed_P; grid = grid_of 7 3 4; attribute = 1; workspace = lent }

pub record Starred : Type 0 where
  -- "P, area: parents 0 2 0 2 0, attributes 5 1 3 1 0, 4 nodes.", worked out again: positions move, and the root has the frame's attribute.
  -- The record's other four parts are zero, and a building call that is lent 147 words answers the number.
  pub tree_record : record_of (grid_of 7 3 4) 1 ringed_P ≡ parents_P ++ attributes_P ++ nodes_P ++ replicate 84 0
  pub tree_nodes : (lent : List ℕ) → length lent ≡ 147 → built (building_P lent) ≡ Ok 4
  -- "P, area, steps 1 2 3 4: residue 0 10 10 30 0, index 0 4 4 2 0."
  pub steps_1_2_3_4_residue : residues_at (grid_of 7 3 4) 1 (1 ∷ 2 ∷ 3 ∷ 4 ∷ []) 0 ringed_P ≡ ringed 0 5 ((0 ∷ 10 ∷ 10 ∷ 30 ∷ 0 ∷ []) ∷ [])
  pub steps_1_2_3_4_index : indices_at (grid_of 7 3 4) 1 (1 ∷ 2 ∷ 3 ∷ 4 ∷ []) 0 ringed_P ≡ ringed 0 5 ((0 ∷ 4 ∷ 4 ∷ 2 ∷ 0 ∷ []) ∷ [])
  -- "P with area, steps 1 to 4, gap 2 gives 0 20 10 40 0 and 0 4 4 4 0."
  pub gap_2_residue : residues_at (grid_of 7 3 4) 1 (1 ∷ 2 ∷ 3 ∷ 4 ∷ []) 2 ringed_P ≡ ringed 0 5 ((0 ∷ 20 ∷ 10 ∷ 40 ∷ 0 ∷ []) ∷ [])
  pub gap_2_index : indices_at (grid_of 7 3 4) 1 (1 ∷ 2 ∷ 3 ∷ 4 ∷ []) 2 ringed_P ≡ ringed 0 5 ((0 ∷ 4 ∷ 4 ∷ 4 ∷ 0 ∷ []) ∷ [])
  -- "P, area, steps 2 4: same residue, index 0 2 2 1 0."
  pub steps_2_4_residue : residues_at (grid_of 7 3 4) 1 (2 ∷ 4 ∷ []) 0 ringed_P ≡ ringed 0 5 ((0 ∷ 10 ∷ 10 ∷ 30 ∷ 0 ∷ []) ∷ [])
  pub steps_2_4_index : indices_at (grid_of 7 3 4) 1 (2 ∷ 4 ∷ []) 0 ringed_P ≡ ringed 0 5 ((0 ∷ 2 ∷ 2 ∷ 1 ∷ 0 ∷ []) ∷ [])
  -- "P, area, step 1: all 0."
  pub step_1_residue : residues_at (grid_of 7 3 4) 1 (1 ∷ []) 0 ringed_P ≡ ringed 0 5 ((0 ∷ 0 ∷ 0 ∷ 0 ∷ 0 ∷ []) ∷ [])
  pub step_1_index : indices_at (grid_of 7 3 4) 1 (1 ∷ []) 0 ringed_P ≡ ringed 0 5 ((0 ∷ 0 ∷ 0 ∷ 0 ∷ 0 ∷ []) ∷ [])
  -- "P, area, step 6: residue 0 20 10 40 0, index 0 1 1 1 0."
  pub step_6_residue : residues_at (grid_of 7 3 4) 1 (6 ∷ []) 0 ringed_P ≡ ringed 0 5 ((0 ∷ 20 ∷ 10 ∷ 40 ∷ 0 ∷ []) ∷ [])
  pub step_6_index : indices_at (grid_of 7 3 4) 1 (6 ∷ []) 0 ringed_P ≡ ringed 0 5 ((0 ∷ 1 ∷ 1 ∷ 1 ∷ 0 ∷ []) ∷ [])
  -- "P, height, steps 1 2: residue 0 20 10 40 0, index 0 2 2 2 0."
  pub height_residue : residues_at (grid_of 7 3 4) 2 (1 ∷ 2 ∷ []) 0 ringed_P ≡ ringed 0 5 ((0 ∷ 20 ∷ 10 ∷ 40 ∷ 0 ∷ []) ∷ [])
  pub height_index : indices_at (grid_of 7 3 4) 2 (1 ∷ 2 ∷ []) 0 ringed_P ≡ ringed 0 5 ((0 ∷ 2 ∷ 2 ∷ 2 ∷ 0 ∷ []) ∷ [])
  -- "P opened by area at 2 and at 3: both 10 20 20 20 10. At 4: all 10."
  pub opened_2 : opened_at (grid_of 7 3 4) 1 2 ringed_P ≡ ringed 10 5 ((10 ∷ 20 ∷ 20 ∷ 20 ∷ 10 ∷ []) ∷ [])
  pub opened_3 : opened_at (grid_of 7 3 4) 1 3 ringed_P ≡ ringed 10 5 ((10 ∷ 20 ∷ 20 ∷ 20 ∷ 10 ∷ []) ∷ [])
  pub opened_4 : opened_at (grid_of 7 3 4) 1 4 ringed_P ≡ ringed 10 5 ((10 ∷ 10 ∷ 10 ∷ 10 ∷ 10 ∷ []) ∷ [])
  -- "Two rows, 9 0 and 0 9, area, step 2: residue 9 0 0 9, index 1 0 0 1."
  pub two_rows_residue : residues_at (grid_of 4 4 4) 1 (2 ∷ []) 0 ringed_Q ≡ ringed 0 2 ((9 ∷ 0 ∷ []) ∷ (0 ∷ 9 ∷ []) ∷ [])
  pub two_rows_index : indices_at (grid_of 4 4 4) 1 (2 ∷ []) 0 ringed_Q ≡ ringed 0 2 ((1 ∷ 0 ∷ []) ∷ (0 ∷ 1 ∷ []) ∷ [])
  -- "With 8, the two-row case of 01 has zero maps."
  pub corners_residue : residues_at (grid_of 4 4 8) 1 (2 ∷ []) 0 ringed_Q ≡ ringed 0 2 ((0 ∷ 0 ∷ []) ∷ (0 ∷ 0 ∷ []) ∷ [])
  pub corners_index : indices_at (grid_of 4 4 8) 1 (2 ∷ []) 0 ringed_Q ≡ ringed 0 2 ((0 ∷ 0 ∷ []) ∷ (0 ∷ 0 ∷ []) ∷ [])
