-- `pass_entry` meets its contract: nothing is written, or what is left over and the entry's words, which are one write (`file-made`), and the
-- file's move.
use native.Mathlib.Omega.{arith}
use mathlib.Core.Path.{◌≡◌, refl, sym, ◌∙◌}
use mathlib.Core.Bool.{false}
use Rattle.segment.proofs.Writes.{none_written}
use Rattle.squeezed.specs.Squeeze.{is_file, free_after}
use Rattle.squeezed.proofs.Steps.{place-bounds}
use Rattle.packing.proofs.Outs.{Filed, left-room, slot-room, file-made}
use Rattle.packing.proofs.entries.pass_entry.Goals.{After-place_at-place, Start}
use Rattle.packing.proofs.entries.pass_entry.Goals as goal

-- the call; and what is known of a file whose place is known
abbrev start : After-place_at-place → Start
start p = (goal.at.After-place_at-place p).Start

filed : (p : After-place_at-place)
    → let a = (start p).args in
    Filed a.entry.now.words.now a.stands a.so_far.free p.place_at-place.result a.out.now a.so_far.at
unfolding is_file
filed p =
    record {
      file = sym (rw p.status.ensures at p.is_permanent.ensures) ∙ p.if-not-is_permanent.false;
      place = p.place_at-place.ensures;
      room = (start p).requires.1;
    }

pub returns-then-not-is_permanent : goal.returns-then-not-is_permanent
unfolding is_file free_after
returns-then-not-is_permanent c =
    let n : is_file c.args.entry.now.words.now ≡ false =
    sym (rw c.status.ensures at c.is_permanent.ensures) ∙ c.if-not-is_permanent.true in
    record { entries = rw n (none_written _ _); moves = rw n (none_written _ _); free = rw n refl }

pub put_left-next-requires : goal.put_left-next-requires
put_left-next-requires c =
    let p = (goal.at.put_left-next-requires c).After-place_at-place in
    let r = c.requires.0 in
    let y = place-bounds c.args.stands c.args.so_far.free c.args.entry.now.words.now r.low in
    let e = c.place_at-place.ensures in
    (omega arith, r.narrow, omega arith, omega (arith, r.high), left-room (filed p))

pub put_entry-requires : goal.put_entry-requires
put_entry-requires c = slot-room (filed (goal.at.put_entry-requires c).After-place_at-place) c.put_left-next.ensures

pub put_move-requires : goal.put_move-requires
put_move-requires c =
    let r = c.requires.0 in
    let y = place-bounds c.args.stands c.args.so_far.free c.args.entry.now.words.now r.low in
    let e = c.place_at-place.ensures in
    let f = filed (goal.at.put_move-requires c).After-place_at-place in
    (omega arith, r.high, rw (c.blocks-blocks.ensures, f.place) (rw f.file at c.requires.2))

pub overflow_add-result : goal.overflow_add-result
overflow_add-result c =
    let r = c.requires.0 in
    let y = place-bounds c.args.stands c.args.so_far.free c.args.entry.now.words.now r.low in
    let e = c.place_at-place.ensures in
    omega (arith, r.high)

pub returns : goal.returns
unfolding free_after
returns c =
    let f = filed (goal.at.returns c).After-place_at-place in
    record {
      entries = file-made f c.put_left-next.ensures c.put_entry.ensures;
      moves = rw (f.file, ← f.place, ← c.blocks-blocks.ensures) c.put_move.ensures;
      free = rw (f.file, f.place, c.blocks-blocks.ensures) refl;
    }
