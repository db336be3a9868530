-- `dark::dark_map` meets its contract. Assumes nothing.
use mathlib.Core.Path.{refl, sym}
use Rattle.calls.specs.Calls.{MapCall, mapping_of}
use Rattle.dark.proofs.Calling.{index_long, reverse_asks, dark_asks, dark_done}
use Rattle.dark.proofs.dark_map.Goals as goal
use Rattle.dark.proofs.dark_map.Goals.{After-judge_sizing}

-- the call that the verdict is on
abbrev call : After-judge_sizing → MapCall
call c =
    let a = c.args in
    mapping_of a.picture.now a.grid a.kind a.steps.now a.gap a.workspace.now a.residue.now a.index.now

pub reverse-requires : goal.reverse-requires
reverse-requires c =
    reverse_asks (call (goal.at.reverse-requires c).After-judge_sizing) (sym c.in_ok-judge_sizing.ensures.answer)

pub size-requires : goal.size-requires
size-requires c =
    record {
      sizeable = dark_asks (call (goal.at.size-requires c).After-judge_sizing) (sym c.in_ok-judge_sizing.ensures.answer) c.reverse.ensures refl;
      pairs_len = index_long (call (goal.at.size-requires c).After-judge_sizing) (sym c.in_ok-judge_sizing.ensures.answer);
    }

pub returns : goal.returns
returns c =
    let both = dark_done
    (call (goal.at.returns c).After-judge_sizing)
    (sym c.in_ok-judge_sizing.ensures.answer)
    c.reverse.ensures
    c.size.ensures.workspace
    c.size.ensures.pairs
    c.write_whole.ensures
    (c.unpack.ensures.residues, c.unpack.ensures.indices) in
    record { answer = both.0; workspace = both.1.0; residue = both.1.1.0; index = both.1.1.1 }
