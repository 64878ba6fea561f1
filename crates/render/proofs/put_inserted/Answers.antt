-- `put_inserted` meets its contract: four writes, each where the one before it ends, and then the area's length changed.
use native.Mathlib.Omega.{arith}
use mathlib.Core.Path.{◌≡◌, sym, ap, ◌∙◌}
use Prim.Native.Nat.{◌+◌, ◌-◌, ◌<◌}
use lib.ListN.{length, take, drop, length-drop, length-set}
use lib.Seq.{length-take-le}
use Rattle.render.specs.Anew.{gap_words, inserted_words}
use Rattle.render.proofs.Anew.{inserted-length, rest-is, inserted-written}
use Rattle.render.proofs.put_inserted.Goals.{After-put_gap-start, After-put_words-area, After-put_words-gap, After-put_words-next, Start}
use Rattle.render.proofs.put_inserted.Goals as goal

-- the lengths of what is written
lengths : (c : Start)
    → (length (inserted_words c.args.word c.args.cost c.args.new.now c.args.words.now)
    ≡ length c.args.words.now + length c.args.new.now + length (gap_words (length c.args.new.now) c.args.cost))
    × (length (take c.args.word c.args.words.now) ≡ c.args.word)
    × (length (take (length c.args.words.now - c.args.word) (drop c.args.word c.args.words.now))
    ≡ length c.args.words.now - c.args.word)
lengths c =
    let a = c.args in (
      inserted-length a.word a.cost a.new.now a.words.now (omega arith),
      length-take-le a.word a.words.now (omega arith),
      ap length (rest-is a.word a.words.now) ∙ length-drop a.word a.words.now,
    )

-- the writes, from the last one back to the call
abbrev new-at : After-put_words-next → After-put_words-area
new-at p = (goal.at.After-put_words-next p).After-put_words-area

abbrev gap_at : After-put_words-area → After-put_gap-start
gap_at p = (goal.at.After-put_words-area p).After-put_gap-start

abbrev low-at : After-put_gap-start → After-put_words-gap
low-at p = (goal.at.After-put_gap-start p).After-put_words-gap

abbrev start : After-put_words-gap → Start
start p = (goal.at.After-put_words-gap p).Start

-- the area's length stands in the room
all_placed : (p : After-put_words-next)
    → ((new-at p).put_words-area.result + 4 < length p.put_words-next.new.target)
    × (length p.put_words-next.new.target ≡ length (start (low-at (gap_at (new-at p)))).args.out.now)
all_placed p =
    let g = gap_at (new-at p) in
    let n = lengths (start (low-at g)) in
    let u = (low-at g).put_words-gap.ensures in
    let v = g.put_gap-start.ensures in
    let w = (new-at p).put_words-area.ensures in
    let x = p.put_words-next.ensures in
    (omega arith, x.long ∙ w.long ∙ v.long ∙ u.long)

pub slice_bounds-put_words-end : goal.slice_bounds-put_words-end
slice_bounds-put_words-end c = sym (lengths (goal.at.slice_bounds-put_words-end c).Start).1

pub put_words-gap-requires : goal.put_words-gap-requires
put_words-gap-requires c =
    let n = lengths (goal.at.put_words-gap-requires c).Start in
    omega arith

pub put_gap-start-requires : goal.put_gap-start-requires
put_gap-start-requires c =
    let n = lengths (goal.at.put_gap-start-requires c).Start in
    let u = c.put_words-gap.ensures in
    (omega arith, omega arith, omega arith)

pub put_words-area-requires : goal.put_words-area-requires
put_words-area-requires c =
    let n = lengths (start (low-at (goal.at.put_words-area-requires c).After-put_gap-start)) in
    let u = (low-at (goal.at.put_words-area-requires c).After-put_gap-start).put_words-gap.ensures in
    let v = c.put_gap-start.ensures in
    omega arith

pub put_words-next-requires : goal.put_words-next-requires
put_words-next-requires c =
    let g = gap_at (goal.at.put_words-next-requires c).After-put_words-area in
    let f = low-at g in
    let n = lengths f.before.before.before.before.before.before in
    let u = f.put_words-gap.ensures in
    let v = g.put_gap-start.ensures in
    let x = c.put_words-area.ensures in
    omega arith

pub offset_bounds-out-area : goal.offset_bounds-out-area
offset_bounds-out-area c =
    let s : Start = start (low-at (gap_at (new-at (goal.at.offset_bounds-out-area c).After-put_words-next))) in
    omega (arith, (all_placed (goal.at.offset_bounds-out-area c).After-put_words-next).0, (all_placed (goal.at.offset_bounds-out-area c).After-put_words-next).1)

pub bounds-out-area : goal.bounds-out-area
bounds-out-area c = omega (arith, (all_placed (goal.at.bounds-out-area c).After-put_words-next).0, (all_placed (goal.at.bounds-out-area c).After-put_words-next).1)

pub shape_of-out : goal.shape_of-out
shape_of-out c = simp length-set (all_placed (goal.at.shape_of-out c).After-put_words-next).1

pub returns : goal.returns
returns c =
    let g = gap_at (new-at (goal.at.returns c).After-put_words-next) in
    let s = start (low-at g) in
    let a = s.args in
    let h = s.requires.0 in
    let n = lengths s in
    inserted-written a.word a.cost a.new.now a.words.now (omega arith) h.wide h.slot (low-at g).put_words-gap.ensures
    g.put_gap-start.ensures (new-at (goal.at.returns c).After-put_words-next).put_words-area.ensures c.put_words-next.ensures (omega arith)
