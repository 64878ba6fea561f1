-- `block_line` meets its contract: its five writes add up (laws `both`, `and_one`).
use native.Mathlib.Omega.{arith}
use lib.ListN.{length-set}
use Rattle.names.specs.Text.{bytes}
use Rattle.maps.specs.Maps.{block_line}
use Rattle.lines.proofs.Writes.{both, and_one}
use Rattle.maps.proofs.block_line.Goals as goal

pub put_octal-next-requires-2 : goal.put_octal-next-requires-2
put_octal-next-requires-2 c =
    let u = c.put_octal-next.ensures in
    rw (length-set) (omega (arith, u.short, u.wrote.long, c.requires.3))

pub six_wide-next-requires : goal.six_wide-next-requires
six_wide-next-requires c =
    let u = c.put_octal-next in
    let v = c.put_octal-next-2.ensures in
    let set = length-set u.new.out u.result 45 in
    let s = c.requires in
    (s.2, omega (arith, set, u.ensures.short, u.ensures.wrote.long, v.short, v.wrote.long, s.3))

pub bounds-out-next-2 : goal.bounds-out-next-2
bounds-out-next-2 c =
    let u = c.put_octal-next in
    let e = u.ensures in
    let v = c.put_octal-next-2.ensures in
    let w = c.six_wide-next.ensures in
    let set = length-set u.new.out u.result 45 in
    let room = c.requires.3 in
    omega (arith, set, e.wrote.long, v.wrote.long, w.wrote.long, e.short, v.short, w.short, room)

pub shape_of-out : goal.shape_of-out
shape_of-out c =
    let u = c.put_octal-next in
    let v = c.put_octal-next-2.ensures in
    let w = c.six_wide-next.ensures in
    let set = length-set u.new.out u.result 45 in
    rw (length-set) (omega (arith, set, u.ensures.wrote.long, v.wrote.long, w.wrote.long))

pub returns : goal.returns
unfolding block_line bytes
returns c =
    let u = c.put_octal-next in
    let v = c.put_octal-next-2.ensures in
    let w = c.six_wide-next.ensures in
    let e = u.ensures in
    let one = and_one 45 e.wrote (omega (arith, e.short, c.requires.3)) in
    let three = both (both one v.wrote) w.wrote in
    record {
      wrote = and_one 10 three (omega (arith, e.short, v.short, w.short, c.requires.3));
      short = omega (arith, e.short, v.short, w.short);
    }
