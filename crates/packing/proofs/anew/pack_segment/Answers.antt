-- `pack_segment` meets its contract: four writes into zeros, and all of it copied back, are the rendered segment (`segment-made`); the list is as the
-- walk over the entries has left it.
use native.Mathlib.Omega.{arith}
use Rattle.packing.proofs.Rendering.{entries-room, left-ready, left-room, segment-made}
use Rattle.packing.proofs.anew.pack_segment.Goals as goal

pub pass_entries-place-requires : goal.pass_entries-place-requires
pass_entries-place-requires c =
    (c.requires.0.walk, entries-room c.requires.0 c.put_words-at.ensures, c.requires.1)

pub put_left-end-requires : goal.put_left-end-requires
put_left-end-requires c =
    let k = c.requires.0 in
    let p = c.pass_entries-place.ensures.0 in
    let r = left-ready k p.free c.end_of-last.ensures in
    let o = left-room k p.free c.end_of-last.ensures c.put_words-at.ensures p.written in
    (k.walk.wide, k.walk.narrow, r.0, r.1, omega (arith, o))

pub bounds-out-end : goal.bounds-out-end
bounds-out-end c =
    let p = c.pass_entries-place.ensures.0 in
    let o = left-room c.requires.0 p.free c.end_of-last.ensures c.put_words-at.ensures p.written in
    omega (arith, o, c.put_left-end.ensures.next)

pub returns : goal.returns
returns c =
    let p = c.pass_entries-place.ensures in (
      segment-made c.requires.0 p.0.free c.end_of-last.ensures c.put_words-at.ensures p.0.written c.put_left-end.ensures c.copy_from_slice.ensures.after,
      p.1.written,
    )
