-- `rename_sound` meets its contract: an illegal name and FILE.BAD are refused, as the old name or the new one; then there is a return for each
-- of what the two searches and the file's status tell. The name is written where the old one was found, unprotected, and the new one was not.
use mathlib.Core.Path.{◌≡◌, refl, sym, ◌∙◌}
use Rattle.std.proofs.lemmas.Result.{err_from_is_err_and}
use Rattle.meaning.specs.declared.Key.TheVariants.{File}
use Rattle.meaning.specs.Answers.{refuse}
use Rattle.meaning.specs.Requests.{rename}
use Rattle.chain.proofs.Chains.{fault-chained}
use Rattle.find.proofs.Behind.{unfound, place-small}
use Rattle.files.specs.Unprotected.{renamed}
use Rattle.files.proofs.Tested.{rename-old-illegal, rename-new-illegal, rename-old-spared, rename-new-spared, rename-legal}
use Rattle.files.proofs.Tested.{not_some, renamed-none, renamed-protected, renamed_taken, renamed-at}
use Rattle.files.proofs.rename_sound.Goals.{then-not-is_legal-via-then-not-is_legal, then-not-is_legal-via-else-not-is_legal+then-not-is_legal-2}
use Rattle.files.proofs.rename_sound.Goals.{then-is_spared-via-then-is_spared, then-is_spared-via-else-is_spared+then-is_spared-2}
use Rattle.files.proofs.rename_sound.Goals.{Else-is_spared-2}
use Rattle.files.proofs.rename_sound.Goals as goal

pub returns-then-not-is_legal : goal.returns-then-not-is_legal
unfolding refuse
returns-then-not-is_legal c =
    let a = c.args in
    elim c.then-not-is_legal.branch [
      | then-not-is_legal-via-then-not-is_legal w ↦
          rw (rename-old-illegal a.v a.d.now c.requires a.old a.new (sym c.is_legal.ensures ∙ w.if-not-is_legal.true))
          (record { answer = refl; words = refl })
      | then-not-is_legal-via-else-not-is_legal+then-not-is_legal-2 w ↦
          rw (rename-new-illegal a.v a.d.now c.requires a.old a.new
          (sym c.is_legal.ensures ∙ w.if-not-is_legal.false)
          (sym w.is_legal-else-not-is_legal.ensures ∙ w.if-not-is_legal-2.true))
          (record { answer = refl; words = refl })
    ]

pub returns-then-is_spared : goal.returns-then-is_spared
unfolding refuse
returns-then-is_spared c =
    let a = c.args in
    let l = sym c.is_legal.ensures ∙ c.if-not-is_legal.false in
    let m = sym c.is_legal-else-not-is_legal.ensures ∙ c.if-not-is_legal-2.false in
    elim c.then-is_spared.branch [
      | then-is_spared-via-then-is_spared w ↦
          rw (rename-old-spared a.v a.d.now c.requires a.old a.new l m (sym c.is_spared.ensures ∙ w.if-is_spared.true))
          (record { answer = refl; words = refl })
      | then-is_spared-via-else-is_spared+then-is_spared-2 w ↦
          rw (rename-new-spared a.v a.d.now c.requires a.old a.new l m
          (sym c.is_spared.ensures ∙ w.if-is_spared.false)
          (sym w.is_spared-else-is_spared.ensures ∙ w.if-is_spared-2.true))
          (record { answer = refl; words = refl })
    ]

pub find_entry-requires : goal.find_entry-requires
find_entry-requires c = fault-chained c.args.v c.args.d.now c.requires

-- the names passed their tests
legal-at : (c : Else-is_spared-2) → let a = c.args in rename a.v a.d.now a.old a.new ≡ renamed a.d.now a.old a.new
legal-at c =
    let a = c.args in
    rename-legal a.v a.d.now c.requires a.old a.new
    (sym c.is_legal.ensures ∙ c.if-not-is_legal.false)
    (sym c.is_legal-else-not-is_legal.ensures ∙ c.if-not-is_legal-2.false)
    (sym c.is_spared.ensures ∙ c.if-is_spared.false)
    (sym c.is_spared-else-is_spared.ensures ∙ c.if-is_spared-2.false)

pub returns-in_err-place : goal.returns-in_err-place
returns-in_err-place c =
    let a = c.args in
    let p = err_from_is_err_and c.from_residual.result c.from_residual.ensures.1 in
    let f = c.in_err-place.ensures in
    rw (
      legal-at (goal.at.returns-in_err-place c).Else-is_spared-2,
      renamed-none a.d.now a.old a.new (sym c.find_entry.ensures.is ∙ f.ok_part),
    )
    (unfound _ _ _ _ a.d.now p.1 p.2 f.value f.ok_part)

pub returns-then-is_protected : goal.returns-then-is_protected
unfolding refuse
returns-then-is_protected c =
    let a = c.args in
    let e = sym c.find_entry.ensures.is ∙ c.in_ok-place.ensures.ok_part in
    let t = sym c.is_protected.ensures ∙ c.if-is_protected.true in
    rw (legal-at (goal.at.returns-then-is_protected c).Else-is_spared-2, renamed-protected a.d.now a.old _ e a.new t)
    (record { answer = refl; words = refl })

pub find_entry-requires-2 : goal.find_entry-requires-2
find_entry-requires-2 c = fault-chained c.args.v c.args.d.now c.requires

pub returns-then-is_some : goal.returns-then-is_some
unfolding refuse
returns-then-is_some c =
    let a = c.args in
    let e = sym c.find_entry.ensures.is ∙ c.in_ok-place.ensures.ok_part in
    let t = sym c.is_protected.ensures ∙ c.if-is_protected.false in
    let f = rw c.find_entry-2.ensures.is at (sym c.is_some.ensures ∙ c.if-is_some.true) in
    rw (legal-at (goal.at.returns-then-is_some c).Else-is_spared-2, renamed_taken a.d.now a.old _ e a.new t f)
    (record { answer = refl; words = refl })

pub granted-requires : goal.granted-requires
granted-requires c =
    place-small c.args.v c.args.d.now c.requires (File c.args.old) _ (sym c.find_entry.ensures.is ∙ c.in_ok-place.ensures.ok_part)

pub returns : goal.returns
returns c =
    let a = c.args in
    let e = sym c.find_entry.ensures.is ∙ c.in_ok-place.ensures.ok_part in
    let t = sym c.is_protected.ensures ∙ c.if-is_protected.false in
    let f = sym c.find_entry-2.ensures.is ∙ not_some _ (sym c.is_some.ensures ∙ c.if-is_some.false) in
    rw (legal-at (goal.at.returns c).Else-is_spared-2, renamed-at a.d.now a.old _ e a.new t f, c.granted.ensures)
    (record { answer = refl; words = c.give_name.ensures })
