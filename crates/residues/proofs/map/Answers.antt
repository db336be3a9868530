-- `residues::map` meets its contract. Assumes nothing.
use mathlib.Core.Path.{◌≡◌, sym, ◌∙◌}
use Rattle.std.specs.Prelude.{Ok}
use Rattle.calls.specs.Calls.{MapCall, mapping_of, map_verdict}
use Rattle.sizing.proofs.Mapping.{passed, size_asks, called_done}
use Rattle.residues.proofs.map.Goals as goal
use Rattle.residues.proofs.map.Goals.{After-judge_sizing}

-- the call that the verdict is on
abbrev call : After-judge_sizing → MapCall
call c =
    let a = c.args in
    mapping_of a.picture.now a.grid a.kind a.steps.now a.gap a.workspace.now a.residue.now a.index.now

pub size-requires-clause-sizeable : goal.size-requires-clause-sizeable
size-requires-clause-sizeable c =
    size_asks (call (goal.at.size-requires-clause-sizeable c).After-judge_sizing) (sym c.in_ok-judge_sizing.ensures.answer)

pub size-requires-clause-pairs_len : goal.size-requires-clause-pairs_len
size-requires-clause-pairs_len c =
    (passed (call (goal.at.size-requires-clause-pairs_len c).After-judge_sizing) (sym c.in_ok-judge_sizing.ensures.answer)).index

pub unpack-requires : goal.unpack-requires
unpack-requires c =
    (passed (call (goal.at.unpack-requires c).After-judge_sizing) (sym c.in_ok-judge_sizing.ensures.answer)).residue ∙ sym c.size.ensures.pairs.size

pub returns : goal.returns
returns c =
    let both = called_done
    (call (goal.at.returns c).After-judge_sizing)
    (sym c.in_ok-judge_sizing.ensures.answer)
    c.size.ensures.workspace
    c.size.ensures.pairs
    c.write_whole.ensures
    (c.unpack.ensures.residues, c.unpack.ensures.indices) in
    record { answer = both.0; workspace = both.1.0; residue = both.1.1.0; index = both.1.1.1 }
