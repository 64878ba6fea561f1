-- `see_entry` meets its contract: the words read are those of the slot (`slot_cut`), which lies in the segment.
use mathlib.Core.Path.{◌≡◌, ap, ◌∙◌}
use Rattle.cursor.specs.Cursor.{row_in, slot_in}
use Rattle.cursor.proofs.Stepping.{slot_cut}
use Rattle.cursor.proofs.see_entry.Goals as goal

pub returns : goal.returns
unfolding row_in
returns c =
    let a = c.args in
    let q = c.requires in
    let cut = slot_cut a.width a.segment.now a.cursor.slot c.word_of-word.result q.3 q.4 c.word_of-word.ensures.0 in
    let words : c.new-entry.result.words.now ≡ slot_in a.width a.segment.now a.cursor.slot = ap (λ b. b.now) c.new-entry.ensures ∙ cut in
    rw (c.kind_of.ensures, c.status.ensures, c.name.ensures, c.blocks-length.ensures, c.channel.ensures, c.date.ensures, words, c.word_of-word.ensures.0)
