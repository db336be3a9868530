-- What the check leaves of `new_grey`: the node is kept, or the new grey at the parent word is there.
use Rattle.openings.proofs.Climbing.{pass_kept, pass_parent}
use Rattle.openings.proofs.new_grey.Goals as goal

pub returns-then-threshold-words : goal.returns-then-threshold-words
returns-then-threshold-words c =
    pass_kept _ _ _ _ _ _ c.requires.pass c.requires.p_lt_n c.if-threshold-words.true (c.type_inv.picture c.args.p).fits

pub returns-then-parent-p : goal.returns-then-parent-p
returns-then-parent-p c =
    pass_parent _ _ _ _ _ _ c.requires.pass c.requires.p_lt_n c.if-threshold-words.false c.if-parent-p.true (c.type_inv.picture c.args.p).fits
