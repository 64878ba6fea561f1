-- `transfer_line` meets its contract: its three writes add up (laws `both`, `and_one`).
use native.Mathlib.Omega.{arith}
use lib.ListN.{length-set}
use Rattle.names.specs.Text.{bytes}
use Rattle.maps.specs.Maps.{transfer_line}
use Rattle.lines.proofs.Writes.{both, and_one}
use Rattle.maps.proofs.transfer_line.Goals as goal

pub shape_of-out : goal.shape_of-out
shape_of-out c =
    let u = c.put_bytes-next.ensures in
    let v = c.put_octal-next.ensures in
    rw (length-set) (omega (arith, u.long, v.wrote.long))

pub returns : goal.returns
unfolding transfer_line bytes
returns c =
    let u = c.put_bytes-next.ensures in
    let v = c.put_octal-next.ensures in
    let room = c.requires in
    record {
      wrote = and_one 10 (both u v.wrote) (omega (arith, u.ends, v.short, room));
      short = omega (arith, u.ends, v.short);
    }
