-- `split_and_insert` meets its contract: both halves are made of the directory as it was, and then put, one after the other.
use native.Mathlib.Omega.{arith}
use mathlib.Core.Path.{◌≡◌, sym, ◌∙◌}
use Prim.Native.Nat.{◌+◌, ◌*◌, ◌≤◌}
use Rattle.meaning.specs.Words.{highest}
use lib.ListN.{length, length-set}
use Rattle.segment.proofs.Writes.{pasted}
use Rattle.insert.proofs.Placing.{new-length, part-full, counted_of, half_of, count_of, old_kept, fresh_inside, split_is, half_is, spot-small}
use Rattle.insert.proofs.place.split_and_insert.Goals.{After-copy_words, After-copy_words-2, Start}
use Rattle.insert.proofs.place.split_and_insert.Goals as goal

pub slice_bounds-words-end : goal.slice_bounds-words-end
slice_bounds-words-end c =
    let a = c.args in
    let h = c.requires in
    let w = c.slot_words-width.ensures in
    let e = c.entry_words-entry.ensures in
    sym (new-length a.new h.0 w e)

pub count_kept-kept-requires : goal.count_kept-kept-requires
count_kept-kept-requires c =
    let a = c.args in
    let h = c.requires in
    let w = c.slot_words-width.ensures in
    let e = c.entry_words-entry.ensures in
    (part-full a.directory.now a.spot.seg h.1.low (omega arith), omega arith, counted_of a.new h.0 w e h.1 a.count h.2)

pub old_segment-old-requires : goal.old_segment-old-requires
old_segment-old-requires c =
    let a = c.args in
    let h = c.requires in
    let w = c.slot_words-width.ensures in
    let e = c.entry_words-entry.ensures in
    let k = c.count_kept-kept in
    half_of a.new h.0 w e h.1 k.result k.ensures h.3

pub fresh_segment-fresh-requires : goal.fresh_segment-fresh-requires
fresh_segment-fresh-requires c =
    let a = c.args in
    let h = c.requires in
    let w = c.slot_words-width.ensures in
    let e = c.entry_words-entry.ensures in
    let k = c.count_kept-kept in
    (half_of a.new h.0 w e h.1 k.result k.ensures h.3, count_of a.new h.0 w e h.1 a.count h.2)

-- the start, from the place after the first copy
abbrev start_of : After-copy_words → Start
start_of c = (goal.at.After-copy_words c).Start

pub overflow_cast-highest : goal.overflow_cast-highest
overflow_cast-highest c =
    let h = (start_of (goal.at.overflow_cast-highest c).After-copy_words).requires.0 in
    omega (arith, h.whole, h.few)

pub overflow_mul-highest : goal.overflow_mul-highest
overflow_mul-highest c =
    let h = (start_of (goal.at.overflow_mul-highest c).After-copy_words).requires.0 in
    omega (arith, h.whole, h.few)

-- the directory is as long as it was, with the old half put
kept_at : (c : After-copy_words) → length c.copy_words.new.target ≡ length (start_of c).args.directory.now
kept_at c =
    let a = (start_of c).args in
    let h = (start_of c).requires in
    let w = c.slot_words-width.ensures in
    let e = c.entry_words-entry.ensures in
    let k = c.count_kept-kept in
    let o = c.old_segment-old in
    let x = c.copy_words in
    old_kept a.new h.0 w e h.1 k.result o.result x.new.target o.ensures x.ensures

-- the other half has its place there
fresh_at : (c : After-copy_words)
    → 512 * highest (start_of c).args.directory.now + length c.fresh_segment-fresh.result
    ≤ length c.copy_words.new.target
fresh_at c =
    let a = (start_of c).args in
    let h = (start_of c).requires in
    let w = c.slot_words-width.ensures in
    let e = c.entry_words-entry.ensures in
    let k = c.count_kept-kept in
    let f = c.fresh_segment-fresh in
    fresh_inside a.new h.0 w e h.1 k.result _ _ f.result c.copy_words.new.target f.ensures h.3 (kept_at c)

pub copy_words-requires-2 : goal.copy_words-requires-2
copy_words-requires-2 c = fresh_at (goal.at.copy_words-requires-2 c).After-copy_words

-- and with both halves put
long-at : (c : After-copy_words-2)
    → length c.copy_words-2.new.target ≡ length (start_of (goal.at.After-copy_words-2 c).After-copy_words).args.directory.now
long-at c =
    let x = c.copy_words in
    let y = c.copy_words-2 in
    let f = c.fresh_segment-fresh in
    let n = 512 * highest (start_of (goal.at.After-copy_words-2 c).After-copy_words).args.directory.now in
    (pasted x.new.target y.new.target f.result n (fresh_at (goal.at.After-copy_words-2 c).After-copy_words) y.ensures).long ∙ kept_at (goal.at.After-copy_words-2 c).After-copy_words

pub bounds-directory-2-2 : goal.bounds-directory-2-2
bounds-directory-2-2 c =
    let h = (start_of (goal.at.bounds-directory-2-2 c).After-copy_words).requires.0 in
    omega (arith, long-at (goal.at.bounds-directory-2-2 c).After-copy_words-2, h.some, h.whole)

pub overflow_cast-next : goal.overflow_cast-next
overflow_cast-next c =
    let h = (start_of (goal.at.overflow_cast-next c).After-copy_words).requires.0 in
    omega (arith, h.whole, h.few)

pub half_position-requires : goal.half_position-requires
half_position-requires c =
    let s = start_of (goal.at.half_position-requires c).After-copy_words in
    spot-small s.args.directory.now s.args.spot s.args.new.length s.requires.0 s.requires.1

pub shape_of-directory : goal.shape_of-directory
shape_of-directory c = rw length-set (long-at (goal.at.shape_of-directory c).After-copy_words-2)

pub returns : goal.returns
returns c =
    let a = (start_of (goal.at.returns c).After-copy_words).args in
    let h = (start_of (goal.at.returns c).After-copy_words).requires in
    let w = c.slot_words-width.ensures in
    let e = c.entry_words-entry.ensures in
    let k = c.count_kept-kept in
    let o = c.old_segment-old in
    let f = c.fresh_segment-fresh in
    let x = c.copy_words in
    let y = c.copy_words-2 in
    record {
      position = c.half_position.ensures ∙ half_is a.new h.0 w e h.1 k.result k.ensures;
      words = split_is a.new h.0 w e h.1 k.result _ _ _ _ k.ensures o.ensures f.ensures x.ensures y.ensures;
    }
