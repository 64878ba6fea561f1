-- `put_file` meets its contract: the three parts, one after the other, are the file; `file_size` has room for each.
use native.Mathlib.Omega.{arith}
use Prim.Native.Nat.{◌+◌, ◌*◌, ◌/◌}
use Rattle.loadwrite.proofs.Files.{length_full, room_short, room_end, a_file}
use Rattle.loadwrite.proofs.saving.put_file.Goals as goal

pub put_full-full-requires : goal.put_full-full-requires
put_full-full-requires c = omega (arith, room_short c.args.count)

pub put_short-short-requires : goal.put_short-short-requires
put_short-short-requires c =
    let a = c.args in
    omega (arith, room_short a.count, length_full a.words.now a.address (a.count / 128))

pub put_end-requires : goal.put_end-requires
put_end-requires c =
    let a = c.args in
    let room = room_end a.words.now (a.address + a.count / 128 * 128) a.count in
    omega (arith, room, length_full a.words.now a.address (a.count / 128))

pub returns : goal.returns
returns c =
    let a = c.args in
    let full = c.put_full-full.ensures in
    let short = c.put_short-short.ensures in
    a_file a.words.now a.address a.count a.transfer full short c.put_end.ensures
