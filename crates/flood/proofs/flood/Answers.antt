-- `flood` meets its contract: the counts give the starts of the runs, the numbers are filled, and the first pixel in its queue is where the
-- flood stands first.
use Rattle.std.proofs.Common.{rules}
use Prim.Native.Nat.{ℕ, ◌<◌}
use mathlib.Core.List.{List, ◌++◌}
use mathlib.Core.Path.{◌≡◌}
use lib.ListN.{get_or, length, drop, take, replicate}
use Rattle.levels.specs.Levels.{grey}
use Rattle.levels.specs.Workspace.{Sized}
use Rattle.queues.specs.Queues.{Fitting, Naming}
use Rattle.queues.proofs.Parts.{appendable, placing}
use Rattle.flood.proofs.Starts.{counts_fit, filled_sized, filled_unmet, none_open, none_numbered, first_fits, first_stands}
use Rattle.flood.proofs.flood.Goals as goal
use Rattle.flood.proofs.flood.Goals.{After-fill-2, After-next_number-k}

-- the words of the workspace, the numbers filled
abbrev words : After-fill-2 → List ℕ
words c = c.fill-2.new.part ++ drop (length c.args.picture.now) c.args.ws.now

filled : (c : After-fill-2) → let n = length c.args.picture.now in c.fill-2.new.part ≡ replicate (length (take n c.args.ws.now)) n
filled c = c.fill-2.ensures

numbers-sized : (c : After-fill-2) → Sized (length c.args.picture.now) (words c)
numbers-sized c = filled_sized c.fill-2.new.part c.requires.sized (filled c)

numbers-unmet : (c : After-fill-2) → let n = length c.args.picture.now in (q : ℕ) → q < n → get_or (words c) q 0 ≡ n
numbers-unmet c = filled_unmet c.fill-2.new.part c.requires.sized (filled c)

room :
    (c : After-fill-2)
    → let n = length c.args.picture.now in
    Fitting n 0 (grey c.args.picture.now 0) (words c) c.counts_to_starts.new.counts (none_open n)
room c =
    first_fits c.requires (λ x. (c.type_inv.picture x).fits) c.count_levels.ensures c.counts_to_starts.ensures (numbers-sized c)
    (numbers-unmet c)

-- no level is open
same : (c : After-next_number-k) → c.fill.new.self ≡ replicate 256 (length c.args.picture.now)
same c = search rules

named :
    (c : After-next_number-k)
    → let n = length c.args.picture.now in
    Naming n (grey c.args.picture.now 0) (none_open n) c.next_number-k.result c.next_number-k.new.self
named c =
    let n = length c.args.picture.now in
    let fits = room (goal.at.After-next_number-k c).After-fill-2 in
    (rw (same c) at c.next_number-k.ensures.named) n fits.nameable (none_numbered n _ fits.nameable.level)

pub counts_to_starts-requires : goal.counts_to_starts-requires
counts_to_starts-requires c = counts_fit c.args.picture.now c.count_levels.ensures c.requires.sized.small

pub append-requires : goal.append-requires
append-requires c =
    appendable (room (goal.at.append-requires c).After-fill-2) (named (goal.at.append-requires c).After-next_number-k)

pub run-requires : goal.run-requires
run-requires c =
    let fill = (goal.at.run-requires c).After-fill-2 in
    let same = rw c.append.ensures.words at c.append.auto.ws in
    rw
    (c.append.ensures.words, c.append.ensures.queues)
    (first_stands
    c.requires
    (λ x. (c.type_inv.picture x).fits)
    c.count_levels.ensures
    c.counts_to_starts.ensures
    (numbers-sized fill)
    (numbers-unmet fill)
    (placing (room fill) (named (goal.at.run-requires c).After-next_number-k))
    same)
