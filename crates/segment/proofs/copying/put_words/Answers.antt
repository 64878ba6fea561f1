-- `put_words` meets its contract: a copy is a write of what is copied (`pasted`).
use Rattle.segment.proofs.Writes.{pasted}
use Rattle.segment.proofs.copying.put_words.Goals as goal

pub returns : goal.returns
returns c =
    let a = c.args in
    pasted a.target.now _ a.source.now a.place c.requires c.copy_words.ensures
