-- `name_text` meets its contract: the three words spell the nine characters that are written (law `spelled-text`).
use Rattle.lines.specs.Pieces.{name_by}
use Rattle.lines.proofs.Shown.{spelled-text}
use Rattle.lines.proofs.name_text.Goals as goal

pub returns : goal.returns
unfolding name_by
returns c =
    let a = c.args in
    let h = c.requires in
    let s = c.text_of_words-spelled in
    rw (← spelled-text a.a a.b a.c s.result s.ensures h.0 h.1 h.2) c.dotted.ensures
