-- `abandon_sound` meets its contract: the channel is tested, and then `restate_found` does the rest with the channel's key.
use Rattle.std.proofs.lemmas.Result.{err_from_is_err_and}
use Rattle.meaning.specs.Told.{number_of}
use Rattle.find.proofs.Behind.{passed-on, told-by-number}
use Rattle.channels.proofs.Tested.{abandon-bad, abandon-good}
use Rattle.channels.proofs.abandon_sound.Goals as goal

pub returns-in_err-word : goal.returns-in_err-word
returns-in_err-word c =
    let a = c.args in
    let p = err_from_is_err_and c.from_residual.result c.from_residual.ensures.1 in
    let f = c.in_err-word.ensures in
    rw (abandon-bad a.v a.d.now c.requires a.job a.channel f.0)
    (rw f.1 at (passed-on _ _ _ a.d.now p.1 p.2))

pub returns : goal.returns
returns c =
    let a = c.args in
    let w = c.in_ok-word.ensures in
    rw (abandon-good a.v a.d.now c.requires a.job a.channel w.0)
    (simp (told-by-number c.restate_found.result, w.1) at (c.restate_found.ensures number_of))
