-- `close_sound` meets its contract: the channel is tested, its entry looked for, then the final length, and then `close_at` does the rest.
-- The length is handed on as a machine word, from which it comes back as it was.
use mathlib.Core.Path.{sym, ◌∙◌}
use mir.Syntax.{w32}
use mir.ValLaws.{to_z-of_z}
use Rattle.std.proofs.lemmas.Result.{err_from_is_err_and}
use Rattle.chain.proofs.Chains.{fault-chained}
use Rattle.find.proofs.Behind.{passed-on, unfound, open_found}
use Rattle.channels.proofs.Finals.{final-small}
use Rattle.channels.proofs.Tested.{close-bad, close-none, close_wrong, close-length}
use Rattle.channels.proofs.close_sound.Goals.{In_ok-place}
use Rattle.channels.proofs.close_sound.Goals as goal

pub returns-in_err-word : goal.returns-in_err-word
returns-in_err-word c =
    let a = c.args in
    let p = err_from_is_err_and c.from_residual.result c.from_residual.ensures.1 in
    let f = c.in_err-word.ensures in
    rw (close-bad a.v a.d.now c.requires a.job a.channel a.size f.0)
    (rw f.1 at (passed-on _ _ _ a.d.now p.1 p.2))

pub find_entry-requires : goal.find_entry-requires
find_entry-requires c = fault-chained c.args.v c.args.d.now c.requires

pub returns-in_err-place : goal.returns-in_err-place
returns-in_err-place c =
    let a = c.args in
    let w = c.in_ok-word.ensures in
    let p = err_from_is_err_and c.from_residual-in_err-place.result c.from_residual-in_err-place.ensures.1 in
    let f = c.in_err-place.ensures in
    rw (close-none a.v a.d.now c.requires a.job a.channel a.size w.0 (rw w.1 at (sym c.find_entry.ensures.is ∙ f.ok_part)))
    (unfound _ _ _ _ a.d.now p.1 p.2 f.value f.ok_part)

pub returns-in_err-blocks : goal.returns-in_err-blocks
returns-in_err-blocks c =
    let a = c.args in
    let w = c.in_ok-word.ensures in
    let p = err_from_is_err_and c.from_residual-in_err-blocks.result c.from_residual-in_err-blocks.ensures.1 in
    let f = c.in_err-blocks.ensures in
    let none = rw (to_z-of_z w32 a.size c.ranges.size) at (sym c.final_of.ensures ∙ f.ok_part) in
    let found = rw w.1 at (sym c.find_entry.ensures.is ∙ c.in_ok-place.ensures.ok_part) in
    rw (close_wrong a.v a.d.now c.requires a.job a.channel a.size _ w.0 found none) (unfound _ _ _ _ a.d.now p.1 p.2 f.value f.ok_part)

pub close_at-requires : goal.close_at-requires
close_at-requires c =
    let a = c.args in
    let b = open_found a.d.now c.in_ok-word.word _ (sym c.find_entry.ensures.is ∙ c.in_ok-place.ensures.ok_part) in
    (c.requires, record { row = b.row; is = b.is; place = b.place }, final-small _ _ _ (sym c.final_of.ensures ∙ c.in_ok-blocks.ensures.ok_part))

pub returns : goal.returns
returns c =
    let a = c.args in
    let w = c.in_ok-word.ensures in
    let length = rw (to_z-of_z w32 a.size c.ranges.size) at (sym c.final_of.ensures ∙ c.in_ok-blocks.ensures.ok_part) in
    let found = rw w.1 at (sym c.find_entry.ensures.is ∙ c.in_ok-place.ensures.ok_part) in
    rw (close-length a.v a.d.now c.requires a.job a.channel a.size _ w.0 found _ length, ← w.1) c.close_at.ensures
