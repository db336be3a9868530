-- `representatives::write_pixel` meets its contract: each of the three parts comes back with one word stored. Assumes nothing.
use Rattle.representatives.proofs.Representatives.{parent_put, attribute_put, list_put}
use Rattle.representatives.proofs.write_pixel.Goals as goal

pub returns : goal.returns
returns c =
    let ready = c.requires in
    let one = c.one_if_same-one.ensures in
    let parent = parent_put ready one c.chosen.ensures c.put_word.ensures in
    let attribute = attribute_put ready one c.kept.ensures parent c.put_word-2.ensures in
    record { value = one; ws_after = list_put ready one attribute c.put_word-3.ensures }
