-- `restate_sound` meets its contract: the tests of the name refuse it, or let it pass, and then `restate_found` does the rest with the name's
-- key.
use Rattle.std.proofs.lemmas.Result.{err_from_is_err_and}
use Rattle.meaning.specs.Told.{number_of}
use Rattle.find.proofs.Behind.{passed-on, told-by-number}
use Rattle.files.proofs.Tested.{restate-bad, restate-good}
use Rattle.files.proofs.restate_sound.Goals as goal

pub returns-in_err-check_name : goal.returns-in_err-check_name
returns-in_err-check_name c =
    let a = c.args in
    let p = err_from_is_err_and c.from_residual.result c.from_residual.ensures.1 in
    rw (restate-bad a.v a.d.now c.requires a.name a.status _ c.in_err-check_name.ensures) (passed-on _ _ _ a.d.now p.1 p.2)

pub returns : goal.returns
returns c =
    rw (restate-good c.args.v c.args.d.now c.requires c.args.name c.args.status c.in_ok-check_name.ensures)
    (rw (told-by-number c.restate_found.result) at (c.restate_found.ensures number_of))
