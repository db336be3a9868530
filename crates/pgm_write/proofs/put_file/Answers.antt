-- Each field is stored where the one before it ended.
use Rattle.std.proofs.Common.{rules, length-take-le, ℕ, List, ◌∷◌, ap, ◌∙◌, ◌≡◌, ◌+◌, ◌^◌, ◌≤◌, ◌<◌, length, arith}
use Rattle.std.proofs.Math.ListN.{length-set}
use borrow.Rule.Slice.PartMut.{put_mid}
use lib.Seq.{sets, length-sets}
use Rattle.pgm_header.specs.Header.{sign}
use Rattle.pgm_write.specs.Write.{digits_of}
use Rattle.pgm_write.proofs.Files.{file_length, file_stored}
use Rattle.pgm_write.proofs.Stores.{part_stored}
use Rattle.pgm_write.proofs.put_file.Goals as goal
use Rattle.pgm_write.proofs.put_file.Goals.{After-put_field-c, After-copy_from_slice}

-- the buffer has room for the magic
pub slice_bounds-copy_from_slice-end : goal.slice_bounds-copy_from_slice-end
slice_bounds-copy_from_slice-end c = omega (arith, file_length c.args.picture.now c.args.width c.args.height c.args.maximum)

pub slice_bounds-copy_from_slice-end-2 : goal.slice_bounds-copy_from_slice-end-2
slice_bounds-copy_from_slice-end-2 c =
    let long : 2 ≤ length c.args.buffer.now = omega (arith, file_length c.args.picture.now c.args.width c.args.height c.args.maximum) in
    omega (arith, length-take-le 2 c.args.buffer.now long)

pub copy_from_slice-requires : goal.copy_from_slice-requires
copy_from_slice-requires c =
    length-take-le 2 c.args.buffer.now (omega (arith, file_length c.args.picture.now c.args.width c.args.height c.args.maximum)) ∙ search rules

-- the magic is stored, and leaves the buffer as long
magic : (c : After-copy_from_slice) → put_mid 0 2 c.args.buffer.now c.copy_from_slice.new.self ≡ sets c.args.buffer.now 0 sign
magic c =
    part_stored c.args.buffer.now c.copy_from_slice.new.self sign 0
    (omega (arith, c.requires.room, file_length c.args.picture.now c.args.width c.args.height c.args.maximum))
    c.copy_from_slice.ensures.after

-- the buffer has room for the whole file, and its length fits
room :
    (c : After-copy_from_slice) →
    (length (digits_of c.args.width) + length (digits_of c.args.height) + length (digits_of c.args.maximum) + 6 + length c.args.picture.now ≤ length c.args.buffer.now)
    × (length (put_mid 0 2 c.args.buffer.now c.copy_from_slice.new.self) ≡ length c.args.buffer.now)
    × (length c.args.buffer.now < 2 ^ 64)
room c = (
  omega (arith, c.requires.room, file_length c.args.picture.now c.args.width c.args.height c.args.maximum),
  ap length (magic c) ∙ length-sets c.args.buffer.now 0 sign,
  omega arith,
)

pub put_field-a-requires-clause-room : goal.put_field-a-requires-clause-room
put_field-a-requires-clause-room c = omega (arith, room (goal.at.put_field-a-requires-clause-room c).After-copy_from_slice)

pub put_field-b-requires-clause-room : goal.put_field-b-requires-clause-room
put_field-b-requires-clause-room c = omega (arith, room (goal.at.put_field-b-requires-clause-room c).After-copy_from_slice)

pub put_field-c-requires-clause-room : goal.put_field-c-requires-clause-room
put_field-c-requires-clause-room c = omega (arith, room (goal.at.put_field-c-requires-clause-room c).After-copy_from_slice)

-- the fields are stored: the buffer is as long as it was, and has room for one byte and the samples
stored :
    (c : After-put_field-c) →
    (c.put_field-c.result + 1 + length c.args.picture.now ≤ length c.put_field-c.new.buffer) × (length c.put_field-c.new.buffer < 2 ^ 64)
stored c =
    omega (arith, room (goal.at.After-put_field-c c).After-copy_from_slice)

pub bounds-buffer-c : goal.bounds-buffer-c
bounds-buffer-c c = omega (arith, stored (goal.at.bounds-buffer-c c).After-put_field-c)

pub overflow_add-c : goal.overflow_add-c
overflow_add-c c = omega (arith, stored (goal.at.overflow_add-c c).After-put_field-c)

pub put_samples-requires : goal.put_samples-requires
put_samples-requires c = simp length-set (omega (arith, stored (goal.at.put_samples-requires c).After-put_field-c))

pub returns : goal.returns
returns c =
    record {
      buffer = file_stored
          (record {
            after_width = c.put_field-a.ensures.next;
            with_width = c.put_field-a.ensures.buffer ∙ ap (λ (b : List ℕ). sets b 2 (10 ∷ digits_of c.args.width)) (magic (goal.at.returns c).After-copy_from_slice);
            after_height = c.put_field-b.ensures.next;
            with_height = c.put_field-b.ensures.buffer;
            after_maximum = c.put_field-c.ensures.next;
            with_maximum = c.put_field-c.ensures.buffer;
            with_raster = c.put_samples.ensures.buffer;
          });
    }
