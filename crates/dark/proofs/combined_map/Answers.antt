-- `dark::combined_map` meets its contract. Assumes nothing.
use mathlib.Core.Path.{◌≡◌, sym, ◌∙◌}
use lib.IntN.{ℤ}
use mathlib.Core.List.{List}
use Rattle.std.specs.Prelude.{Ok}
use Rattle.calls.specs.Calls.{MapCall, mapping_of}
use Rattle.calls.specs.Combined.{combined_verdict}
use Rattle.dark.proofs.Calling.{light_asks, index_long, reverse_asks, dark_asks, combined_accepted, sizing_accepted, merge_asks, combined_done}
use Rattle.dark.proofs.combined_map.Goals as goal
use Rattle.dark.proofs.combined_map.Goals.{In_ok-check}

-- the call and its contrast map, and that it is accepted
abbrev call : In_ok-check → MapCall
call c =
    let a = c.args in
    mapping_of a.picture.now a.grid a.kind a.steps.now a.gap a.workspace.now a.residue.now a.index.now

abbrev lent : In_ok-check → List ℤ
lent c = c.args.contrast.now

accepted : (c : In_ok-check) → combined_verdict (call c) (lent c) ≡ Ok tt
accepted c = combined_accepted (call c) (lent c) c.in_ok-judge_sizing.ensures.answer c.in_ok-check.ensures.answer c.entry_each.ensures.answer

pub size-requires : goal.size-requires
size-requires c =
    let ok = sizing_accepted (call (goal.at.size-requires c).In_ok-check) (lent (goal.at.size-requires c).In_ok-check) (accepted (goal.at.size-requires c).In_ok-check) in
    record { sizeable = light_asks (call (goal.at.size-requires c).In_ok-check) ok; pairs_len = index_long (call (goal.at.size-requires c).In_ok-check) ok }

pub reverse-requires : goal.reverse-requires
reverse-requires c =
    reverse_asks (call (goal.at.reverse-requires c).In_ok-check) (sizing_accepted (call (goal.at.reverse-requires c).In_ok-check) (lent (goal.at.reverse-requires c).In_ok-check) (accepted (goal.at.reverse-requires c).In_ok-check))

pub settle-requires : goal.settle-requires
settle-requires c =
    let ok = sizing_accepted (call (goal.at.settle-requires c).In_ok-check) (lent (goal.at.settle-requires c).In_ok-check) (accepted (goal.at.settle-requires c).In_ok-check) in
    dark_asks (call (goal.at.settle-requires c).In_ok-check) ok c.reverse.ensures (c.size.ensures.workspace.noded.buildable.words ∙ sym (light_asks (call (goal.at.settle-requires c).In_ok-check) ok).buildable.words)

pub merge-requires : goal.merge-requires
merge-requires c =
    let both = merge_asks (call (goal.at.merge-requires c).In_ok-check) (lent (goal.at.merge-requires c).In_ok-check) (accepted (goal.at.merge-requires c).In_ok-check) c.reverse.ensures c.size.ensures.pairs c.settle.ensures in
    record { holdable = both.0; contrasts_len = both.1 }

pub returns : goal.returns
returns c =
    let both = combined_done
    (call (goal.at.returns c).In_ok-check)
    (lent (goal.at.returns c).In_ok-check)
    (accepted (goal.at.returns c).In_ok-check)
    c.reverse.ensures
    c.size.ensures.pairs
    c.settle.ensures
    (c.merge.ensures.pairs, c.merge.ensures.contrasts)
    c.write_whole.ensures
    (c.unpack.ensures.residues, c.unpack.ensures.indices) in
    record { answer = both.0; workspace = both.1.0; residue = both.1.1.0; index = both.1.1.1.0; contrast = both.1.1.1.1 }
