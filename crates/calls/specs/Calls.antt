-- What the calls on a picture answer and write. A picture is the list of its greys by position; what is lent comes in as a list, and
-- a refused call leaves it as it was.
use Rattle.std.specs.Prelude.{Ok, Err, Result}
use Rattle.calls.specs.Judging.{Verdict}
use Rattle.std.specs.Prelude.{ℕ, List, [], ◌∷◌, ◌++◌, length}
use Rattle.sets.specs.Sets.{table, member}
use Rattle.grid.specs.Pixels.{pixels}
use Rattle.grid.specs.Neighbours.{adjacent}
use Rattle.grid.specs.Attributes.{attribute}
use Rattle.grid.specs.declared.Grid.{Grid}
pub use Rattle.grid.specs.Greys.{grey}
use Rattle.opening.specs.Opening.{Keeps, opened, opened_by}
use Rattle.opening.specs.Node.{node}
use Rattle.opening.specs.Residue.{residue_by, index_by}
use Rattle.tree.specs.Tree.{workspace, number_of_nodes}
use Rattle.causes.specs.Causes.{number_of}
use Rattle.causes.specs.declared.Cause.{Cause}
use Rattle.causes.specs.declared.Cause.TheVariants.{Steps}
use Rattle.calls.specs.Steps.{step_test, step_attribute, list_tests, list_attribute}
use Rattle.calls.specs.Judging.{step_good, Test, verdict_of, picture_tests, workspace_test, output_test, sizing_tests}
use Rattle.calls.specs.declared.Step.{Step}
use Rattle.calls.specs.declared.Kind.{Kind}

-- the new grey of a position: the opening at the threshold t of the attribute a, in a picture with the greys g
abbrev pub opening : Grid → ℕ → ℕ → (ℕ → ℕ) → ℕ → ℕ
opening grid a t g p = opened (pixels grid) (adjacent grid) (attribute grid a) t g p

-- the picture opened by what a test keeps
unfoldable pub opened_picture : Grid → Keeps → List ℕ → List ℕ
opened_picture grid keeps picture = table (pixels grid) (λ (p : ℕ). opened_by (pixels grid) (adjacent grid) keeps (grey picture) p)

-- "The map holds the largest run total"; at gap 0 "The residue map holds the largest residue (a byte)."
unfoldable pub residue_map : Grid → List Keeps → ℕ → List ℕ → List ℕ
residue_map grid tests gap picture =
    table (pixels grid) (λ (p : ℕ). residue_by (pixels grid) (adjacent grid) tests gap (grey picture) p)

-- "the index is the largest i + 1 of a non-null residue in a run attaining it, the largest among such runs, or 0"; at gap 0 "The index map
-- holds the largest i + 1 attaining it (16 bits), or 0 where it is 0."
unfoldable pub index_map : Grid → List Keeps → ℕ → List ℕ → List ℕ
index_map grid tests gap picture =
    table (pixels grid) (λ (p : ℕ). index_by (pixels grid) (adjacent grid) tests gap (grey picture) p)

-- the attribute of the node that p is an own pixel of
abbrev pub node_attribute : Grid → ℕ → List ℕ → ℕ → ℕ
node_attribute grid a picture p = attribute grid a (member (node (pixels grid) (adjacent grid) (grey picture) p))

-- the tree record of a picture, which every accepted call leaves in the workspace
abbrev pub record_of : Grid → ℕ → List ℕ → List ℕ
record_of grid a picture = workspace (pixels grid) (adjacent grid) (attribute grid a) (grey picture)

-- what a lent run holds after a call: what the call writes if it is accepted; a refusal leaves "all lent memory" as it was
abbrev pub after : {E : Type 0} → Verdict → List E → List E → List E
after (Ok done) written lent = written
after (Err cause) written lent = lent

-- Building: what a call names and is lent.
pub record BuildCall : Type 0 where
  pub picture : List ℕ
  pub grid : Grid
  pub attribute : ℕ
  pub workspace : List ℕ

-- the same from the parameters of a function, by what they hold at entry
abbrev pub build_call : List ℕ → Grid → ℕ → List ℕ → BuildCall
build_call picture grid attribute workspace =
    record { picture = picture; grid = grid; attribute = attribute; workspace = workspace }

-- its tests, in order
abbrev pub build_tests : BuildCall → List Test
build_tests call =
    picture_tests call.grid (length call.picture) call.attribute
    ++ workspace_test call.grid (length call.workspace)
    ∷ []

abbrev pub build_verdict : BuildCall → Verdict
build_verdict call = verdict_of (build_tests call)

-- "Building answers the number of nodes."
abbrev pub built_by : Verdict → ℕ → Result ℕ Cause
built_by (Ok done) nodes = Ok nodes
built_by (Err cause) nodes = Err cause

-- its answer
unfoldable pub built : BuildCall → Result ℕ Cause
built call =
    built_by (build_verdict call) (number_of_nodes (pixels call.grid) (adjacent call.grid) (grey call.picture))

-- "this paper's number and values for each enum case": 0 and the number of nodes, or the number of the cause
abbrev pub built_numbers : Result ℕ Cause → List ℕ
built_numbers (Ok nodes) = 0 ∷ nodes ∷ []
built_numbers (Err cause) = number_of cause ∷ []

-- the workspace after it
unfoldable pub build_workspace : BuildCall → List ℕ
build_workspace call =
    after (build_verdict call) (record_of call.grid call.attribute call.picture) call.workspace

-- Opening: what a call names and is lent. The step is of either kind.
pub record OpenCall : Type 0 where
  pub picture : List ℕ
  pub grid : Grid
  pub step : Step
  pub workspace : List ℕ
  pub output : List ℕ

abbrev pub opening_of : List ℕ → Grid → Step → List ℕ → List ℕ → OpenCall
opening_of picture grid step workspace output =
    record { picture = picture; grid = grid; step = step; workspace = workspace; output = output }

abbrev pub open_call : List ℕ → Grid → Step → List ℕ → List ℕ → OpenCall
open_call picture grid step workspace output =
    opening_of picture grid step workspace output

-- its tests, in order; the verdict is its answer
abbrev pub open_tests : OpenCall → List Test
open_tests call =
    picture_tests call.grid (length call.picture) (step_attribute call.step)
    ++ (step_good call.step, Steps)
    ∷ workspace_test call.grid (length call.workspace)
    ∷ output_test call.grid (length call.output)
    ∷ []

abbrev pub open_verdict : OpenCall → Verdict
open_verdict call = verdict_of (open_tests call)

-- the workspace and the output after it
unfoldable pub open_workspace : OpenCall → List ℕ
open_workspace call =
    after (open_verdict call) (record_of call.grid (step_attribute call.step) call.picture) call.workspace

unfoldable pub open_output : OpenCall → List ℕ
open_output call =
    after (open_verdict call) (opened_picture call.grid (step_test call.grid call.step) call.picture) call.output

-- Mapping: what a call names and is lent. The steps are of either kind.
pub record MapCall : Type 0 where
  pub picture : List ℕ
  pub grid : Grid
  pub kind : Kind
  pub steps : List ℕ
  pub gap : ℕ
  pub workspace : List ℕ
  pub residue : List ℕ
  pub index : List ℕ

abbrev pub mapping_of : List ℕ → Grid → Kind → List ℕ → ℕ → List ℕ → List ℕ → List ℕ → MapCall
mapping_of picture grid kind steps gap workspace residue index =
    record {
      picture = picture;
      grid = grid;
      kind = kind;
      steps = steps;
      gap = gap;
      workspace = workspace;
      residue = residue;
      index = index;
    }

abbrev pub map_call : List ℕ → Grid → Kind → List ℕ → ℕ → List ℕ → List ℕ → List ℕ → MapCall
map_call picture grid kind steps gap workspace residue index =
    mapping_of
    picture
    grid
    kind
    steps
    gap
    workspace
    residue
    index

-- its tests, in order; the verdict is its answer
abbrev pub map_tests : MapCall → List Test
map_tests call =
    sizing_tests
    call.grid
    (length call.picture)
    call.kind
    call.steps
    call.gap
    (length call.workspace)
    (length call.residue)
    (length call.index)

abbrev pub map_verdict : MapCall → Verdict
map_verdict call = verdict_of (map_tests call)

-- what its steps keep
abbrev pub kept_by : MapCall → List Keeps
kept_by call = list_tests call.grid call.kind call.steps

-- the workspace and the two maps after it
unfoldable pub map_workspace : MapCall → List ℕ
map_workspace call =
    after (map_verdict call) (record_of call.grid (list_attribute call.kind) call.picture) call.workspace

unfoldable pub map_residue : MapCall → List ℕ
map_residue call = after (map_verdict call) (residue_map call.grid (kept_by call) call.gap call.picture) call.residue

unfoldable pub map_index : MapCall → List ℕ
map_index call = after (map_verdict call) (index_map call.grid (kept_by call) call.gap call.picture) call.index
