-- `lookup_sound` meets its contract: each return has the tests that led to it, and each of them is a law (`Tested`).
use mathlib.Core.Path.{sym, ap, ◌∙◌}
use Rattle.std.proofs.lemmas.Result.{err_from_is_err_and}
use Rattle.meaning.specs.Answers.{refuse}
use Rattle.chain.proofs.Chains.{fault-chained}
use Rattle.meaning.specs.declared.Key.TheVariants.{File}
use Rattle.find.proofs.Behind.{unfound, place-small}
use Rattle.walks.proofs.Outcomes.{answer_of}
use Rattle.files.proofs.Tested.{lookup-illegal, lookup-at, lookup-none}
use Rattle.files.proofs.lookup_sound.Goals as goal

pub returns-then-not-is_legal : goal.returns-then-not-is_legal
unfolding refuse
returns-then-not-is_legal c =
    let l = sym c.is_legal.ensures ∙ c.if-not-is_legal.true in
    sym (ap answer_of (lookup-illegal c.args.v c.args.d.now c.requires c.args.name l))

pub find_entry-requires : goal.find_entry-requires
find_entry-requires c = fault-chained c.args.v c.args.d.now c.requires

pub returns-in_err-place : goal.returns-in_err-place
returns-in_err-place c =
    let a = c.args in
    let l = sym c.is_legal.ensures ∙ c.if-not-is_legal.false in
    let p = err_from_is_err_and c.from_residual.result c.from_residual.ensures.1 in
    let f = c.in_err-place.ensures in
    (unfound _ _ _ _ a.d.now p.1 p.2 f.value f.ok_part).answer
    ∙ sym (ap answer_of (lookup-none a.v a.d.now c.requires a.name l (sym c.find_entry.ensures.is ∙ f.ok_part)))

pub granted-requires : goal.granted-requires
granted-requires c =
    place-small c.args.v c.args.d.now c.requires (File c.args.name) _ (sym c.find_entry.ensures.is ∙ c.in_ok-place.ensures.ok_part)

pub returns : goal.returns
returns c =
    let l = sym c.is_legal.ensures ∙ c.if-not-is_legal.false in
    let e = sym c.find_entry.ensures.is ∙ c.in_ok-place.ensures.ok_part in
    rw c.granted.ensures (sym (lookup-at c.args.v c.args.d.now c.requires c.args.name _ l e))
