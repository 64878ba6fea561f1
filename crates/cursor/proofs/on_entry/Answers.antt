-- `on_entry` meets its contract: past the last slot there is no entry, and the word read is the slot's status (`stands_by`).
use borrow.Author.Tests.{lt-leb}
use mathlib.Core.Path.{ap, ◌∙◌}
use Prim.Native.Nat.{ℕ}
use lib.ListN.{get_or}
use Rattle.meaning.specs.Kinds.{kind_of, is_end}
use Rattle.meaning.specs.Words.{slot_count}
use Rattle.cursor.specs.Cursor.{is_entry}
use Rattle.cursor.proofs.Stepping.{stands_by}
use Rattle.cursor.proofs.on_entry.Goals as goal

pub returns-then-slot-width : goal.returns-then-slot-width
returns-then-slot-width c =
    let g = c.args.segment.now in
    stands_by c.args.width g c.args.slot _ c.requires.1 c.requires.2 c.if-slot-width.true
    (c.is_marker.ensures ∙ ap (λ (p : ℕ). is_end (kind_of (get_or g p 0))) c.word_of.ensures.0)

pub returns-else-slot-width : goal.returns-else-slot-width
unfolding is_entry
returns-else-slot-width c = rw (lt-leb c.args.slot (slot_count c.args.width) c.if-slot-width.false)
