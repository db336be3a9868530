-- The calls by the parameters of the C interface, in their order.
use Rattle.std.specs.Prelude.{ℕ, List}
use Rattle.grid.specs.Pixels.{grid_of}
use Rattle.grid.specs.Triples.{triple_of}
use Rattle.calls.specs.Calls.{BuildCall, build_call, OpenCall, open_call, MapCall, map_call}
use Rattle.calls.specs.declared.Step.TheVariants.{Threshold, Three}
use Rattle.calls.specs.declared.Kind.TheVariants.{Thresholds, Triples}

abbrev pub build_by : List ℕ → ℕ → ℕ → ℕ → ℕ → List ℕ → BuildCall
build_by picture width height attribute neighbours workspace = build_call picture (grid_of width height neighbours) attribute workspace

abbrev pub open_by : List ℕ → ℕ → ℕ → ℕ → ℕ → ℕ → List ℕ → List ℕ → OpenCall
open_by picture width height attribute neighbours threshold workspace output =
    open_call picture (grid_of width height neighbours) (Threshold attribute threshold) workspace output

-- a triple call names no attribute
abbrev pub open_triple_by : List ℕ → ℕ → ℕ → ℕ → ℕ → ℕ → ℕ → List ℕ → List ℕ → OpenCall
open_triple_by picture width height neighbours area rows columns workspace output =
    open_call picture (grid_of width height neighbours) (Three (triple_of area rows columns)) workspace output

abbrev pub map_by : List ℕ → ℕ → ℕ → ℕ → ℕ → List ℕ → ℕ → List ℕ → List ℕ → List ℕ → MapCall
map_by picture width height attribute neighbours steps gap workspace residue index =
    map_call picture (grid_of width height neighbours) (Thresholds attribute) steps gap workspace residue index

abbrev pub triples_by : List ℕ → ℕ → ℕ → ℕ → List ℕ → ℕ → List ℕ → List ℕ → List ℕ → MapCall
triples_by picture width height neighbours steps gap workspace residue index =
    map_call picture (grid_of width height neighbours) Triples steps gap workspace residue index
