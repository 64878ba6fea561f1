-- `delete_sound` meets its contract: the tests of the name refuse it, or let it pass; then there is a return for each of what the search and
-- the file's status tell. The status is written where the file was found and is not protected.
use mathlib.Core.Path.{refl, sym, ◌∙◌}
use Rattle.std.proofs.lemmas.Result.{err_from_is_err_and}
use Rattle.meaning.specs.declared.Key.TheVariants.{File}
use Rattle.meaning.specs.Answers.{refuse}
use Rattle.chain.proofs.Chains.{fault-chained}
use Rattle.find.proofs.Behind.{passed-on, unfound, place-small}
use Rattle.files.proofs.Tested.{delete-bad, delete-good, deleted-none, deleted-protected, deleted-at}
use Rattle.files.proofs.delete_sound.Goals as goal

pub returns-in_err-check_name : goal.returns-in_err-check_name
returns-in_err-check_name c =
    let a = c.args in
    let p = err_from_is_err_and c.from_residual.result c.from_residual.ensures.1 in
    rw (delete-bad a.v a.d.now c.requires a.name _ c.in_err-check_name.ensures) (passed-on _ _ _ a.d.now p.1 p.2)

pub find_entry-requires : goal.find_entry-requires
find_entry-requires c = fault-chained c.args.v c.args.d.now c.requires

pub returns-in_err-file : goal.returns-in_err-file
returns-in_err-file c =
    let a = c.args in
    let p = err_from_is_err_and c.from_residual-in_err-file.result c.from_residual-in_err-file.ensures.1 in
    let f = c.in_err-file.ensures in
    rw (
      delete-good a.v a.d.now c.requires a.name c.in_ok-check_name.ensures,
      deleted-none a.d.now a.name (sym c.find_entry.ensures.is ∙ f.ok_part),
    )
    (unfound _ _ _ _ a.d.now p.1 p.2 f.value f.ok_part)

pub returns-then-is_protected : goal.returns-then-is_protected
unfolding refuse
returns-then-is_protected c =
    let a = c.args in
    let e = sym c.find_entry.ensures.is ∙ c.in_ok-file.ensures.ok_part in
    let t = sym c.is_protected.ensures ∙ c.if-is_protected.true in
    rw (delete-good a.v a.d.now c.requires a.name c.in_ok-check_name.ensures, deleted-protected a.d.now a.name _ e t)
    (record { answer = refl; words = refl })

pub granted-requires : goal.granted-requires
granted-requires c =
    place-small c.args.v c.args.d.now c.requires (File c.args.name) _ (sym c.find_entry.ensures.is ∙ c.in_ok-file.ensures.ok_part)

pub returns : goal.returns
returns c =
    let a = c.args in
    let e = sym c.find_entry.ensures.is ∙ c.in_ok-file.ensures.ok_part in
    let t = sym c.is_protected.ensures ∙ c.if-is_protected.false in
    rw (
      delete-good a.v a.d.now c.requires a.name c.in_ok-check_name.ensures,
      deleted-at a.d.now a.name _ e t,
      c.granted.ensures,
    )
    (record { answer = refl; words = c.give_status.ensures })
