-- `note` meets its contract: each way through it is one law of `Noted`.
use mathlib.Core.Path.{◌≡◌, ◌∙◌}
use mathlib.Core.Bool.{◌||◌}
use lib.Dec.{leb}
use Rattle.survey.proofs.Noted.{note_passed, note_longest, note_second}
use Rattle.survey.proofs.areas.note.Goals.{then-found, else-found, then-found-2, else-found-2}
use Rattle.survey.proofs.areas.note.Goals as goal

pub returns-then-not-eligible : goal.returns-then-not-eligible
returns-then-not-eligible c =
    let a = c.args in
    let long : c.if-found.long ≡ a.found.long || leb a.least a.size =
    elim c.if-found.branch [ then-found w ↦ w.long-is ∙ rw w.if-found.true | else-found w ↦ w.long-is ∙ rw w.if-found.false ] in
    note_passed a.least a.found a.size a.eligible _ long c.if-not-eligible.true

pub returns-then-found-size : goal.returns-then-found-size
returns-then-found-size c =
    let a = c.args in
    let long : c.if-found.long ≡ a.found.long || leb a.least a.size =
    elim c.if-found.branch [ then-found w ↦ w.long-is ∙ rw w.if-found.true | else-found w ↦ w.long-is ∙ rw w.if-found.false ] in
    let fit : c.if-found-2.fit ≡ a.found.eligible || leb a.least a.size =
    elim c.if-found-2.branch [ then-found-2 w ↦ w.fit-is ∙ rw w.if-found-2.true | else-found-2 w ↦ w.fit-is ∙ rw w.if-found-2.false ] in
    note_longest a.least a.found a.size a.eligible _ long c.if-not-eligible.false _ fit c.if-found-size.true

pub returns : goal.returns
returns c =
    let a = c.args in
    let long : c.if-found.long ≡ a.found.long || leb a.least a.size =
    elim c.if-found.branch [ then-found w ↦ w.long-is ∙ rw w.if-found.true | else-found w ↦ w.long-is ∙ rw w.if-found.false ] in
    let fit : c.if-found-2.fit ≡ a.found.eligible || leb a.least a.size =
    elim c.if-found-2.branch [ then-found-2 w ↦ w.fit-is ∙ rw w.if-found-2.true | else-found-2 w ↦ w.fit-is ∙ rw w.if-found-2.false ] in
    note_second a.least a.found a.size a.eligible _ long c.if-not-eligible.false _ fit c.if-found-size.false _ c.max.ensures
