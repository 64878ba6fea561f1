-- `enter_sound` meets its contract: the tests in order, each by its law (`Tested`), and then `enter_file` on a sound directory in which the
-- channel is free and no protected file has the name. What has passed is said once for each place.
use mathlib.Core.Path.{◌≡◌, refl, sym, ap, ◌∙◌}
use mathlib.Core.Bool.{true}
use mir.Syntax.{w32}
use mir.ValLaws.{to_z-of_z}
use Rattle.std.proofs.lemmas.Result.{err_from_is_err_and}
use Rattle.meaning.specs.Answers.{refuse}
use Rattle.meaning.specs.Requests.{word_of}
use Rattle.meaning.specs.Enter.{size_of, good_size}
use Rattle.choice.specs.Asks.{size_by}
use Rattle.choice.proofs.Sizes.{good-asked}
use Rattle.chain.proofs.Chains.{fault-chained}
use Rattle.find.proofs.Behind.{passed-on, unfound, open_found, open_none, over-protected}
use Rattle.files.proofs.Tested.{not_some}
use Rattle.engine.specs.Named.{entering_named}
use Rattle.engine.proofs.Tested.{Call, Named, Passed, outcome, name-bad, channel_wrong, size_wrong_lem, date_wrong, in_use, let_in}
use Rattle.engine.proofs.Tested.{some_place, name-protected, name_free}
use Rattle.engine.proofs.enter_sound.Goals.{In_ok-asked, Else-is_some, Else-not-is_good_date, In_ok-check_name, Start}
use Rattle.engine.proofs.enter_sound.Goals as goal

-- the call, by its arguments
abbrev call : Start → Call
call s = record {
  v = s.args.v;
  d = s.args.d.now;
  sound = s.requires;
  name = s.args.name;
  size = s.args.size;
  job = s.args.job;
  channel = s.args.channel;
  date = s.args.date;
}

-- the name has passed where the channel is tested; the size that was read comes back from the machine's word as it was; and where the
-- channel's entry is looked for, all tests before it have passed
named-at : (c : In_ok-check_name) → Named (call (goal.at.In_ok-check_name c).Start)
named-at c = record { lawful = c.in_ok-check_name.ensures.0; plain = c.in_ok-check_name.ensures.1 }

size_back : (c : In_ok-asked) → size_by c.in_ok-asked.asked ≡ size_of c.args.size
size_back c = rw c.in_ok-asked.ensures.ok_part at c.size_of.ensures ∙ ap size_of (to_z-of_z w32 c.args.size c.ranges.size)

size-tested : (c : In_ok-asked) → good_size (size_of c.args.size) ≡ true
size-tested c = sym (ap good_size (size_back c)) ∙ good-asked c.in_ok-asked.asked

passed-at : (c : Else-not-is_good_date) → Passed (call (goal.at.Else-not-is_good_date c).Start)
passed-at c = record {
  named = named-at (goal.at.Else-not-is_good_date c).In_ok-check_name;
  channelled = c.in_ok-word.ensures.0;
  sized = size-tested (goal.at.Else-not-is_good_date c).In_ok-asked;
  dated = sym c.is_good_date.ensures ∙ c.if-not-is_good_date.false;
}

-- the channel is free where the old file is looked for
free-at : (c : Else-is_some)
    → let a = c.args in outcome (call (goal.at.Else-is_some c).Start)
    ≡ entering_named a.d.now a.name (size_by c.in_ok-asked.asked) c.in_ok-word.word a.date
free-at c =
    let a = c.args in
    let w = c.in_ok-word.ensures.1 in
    let none-there = rw w at (sym c.find_entry.ensures.is ∙ not_some _ (sym c.is_some.ensures ∙ c.if-is_some.false)) in
    let n = open_none a.d.now (word_of a.job a.channel) none-there in
    rw (
      let_in (call (goal.at.Else-is_some c).Start) (passed-at (goal.at.Else-is_some c).Else-not-is_good_date) n,
      ← size_back (goal.at.Else-is_some c).In_ok-asked,
      ← w,
    )

pub returns-in_err-check_name : goal.returns-in_err-check_name
returns-in_err-check_name c =
    let p = err_from_is_err_and c.from_residual.result c.from_residual.ensures.1 in
    rw (name-bad (call (goal.at.returns-in_err-check_name c).Start) _ c.in_err-check_name.ensures) (passed-on _ _ _ c.args.d.now p.1 p.2)

pub returns-in_err-word : goal.returns-in_err-word
returns-in_err-word c =
    let p = err_from_is_err_and c.from_residual-in_err-word.result c.from_residual-in_err-word.ensures.1 in
    let f = c.in_err-word.ensures in
    rw (channel_wrong (call (goal.at.returns-in_err-word c).Start) (named-at (goal.at.returns-in_err-word c).In_ok-check_name) f.0)
    (rw f.1 at (passed-on _ _ _ c.args.d.now p.1 p.2))

pub returns-in_err-asked : goal.returns-in_err-asked
returns-in_err-asked c =
    let a = c.args in
    let q = call (goal.at.returns-in_err-asked c).Start in
    let n = named-at (goal.at.returns-in_err-asked c).In_ok-check_name in
    let p = err_from_is_err_and c.from_residual-in_err-asked.result c.from_residual-in_err-asked.ensures.1 in
    let f = c.in_err-asked.ensures in
    let wrong-size = rw f.ok_part at c.size_of.ensures ∙ ap size_of (to_z-of_z w32 a.size c.ranges.size) in
    rw (size_wrong_lem q n c.in_ok-word.ensures.0 (sym (ap good_size wrong-size))) (unfound _ _ _ _ a.d.now p.1 p.2 f.value f.ok_part)

pub returns-then-not-is_good_date : goal.returns-then-not-is_good_date
unfolding refuse
returns-then-not-is_good_date c =
    let q = call (goal.at.returns-then-not-is_good_date c).Start in
    let n = named-at (goal.at.returns-then-not-is_good_date c).In_ok-check_name in
    let t = size-tested (goal.at.returns-then-not-is_good_date c).In_ok-asked in
    rw (date_wrong q n c.in_ok-word.ensures.0 t (sym c.is_good_date.ensures ∙ c.if-not-is_good_date.true)) (record { answer = refl; words = refl })

pub find_entry-requires : goal.find_entry-requires
find_entry-requires c = fault-chained c.args.v c.args.d.now c.requires

pub returns-then-is_some : goal.returns-then-is_some
unfolding refuse
returns-then-is_some c =
    let a = c.args in
    let p = some_place _ (sym c.is_some.ensures ∙ c.if-is_some.true) in
    let there = rw c.in_ok-word.ensures.1 at (sym c.find_entry.ensures.is ∙ p.1) in
    let b = open_found a.d.now (word_of a.job a.channel) p.0 there in
    rw (in_use (call (goal.at.returns-then-is_some c).Start) (passed-at (goal.at.returns-then-is_some c).Else-not-is_good_date) (rw b.is))
    (record { answer = refl; words = refl })

pub find_old-old-requires : goal.find_old-old-requires
find_old-old-requires c = fault-chained c.args.v c.args.d.now c.requires

pub returns-then-is_protected : goal.returns-then-is_protected
unfolding refuse
returns-then-is_protected c =
    let a = c.args in
    let u = over-protected a.d.now a.name _ _ c.find_old-old.ensures.is (sym c.if-is_protected.true ∙ c.is_protected.ensures) in
    rw (
      free-at (goal.at.returns-then-is_protected c).Else-is_some,
      name-protected a.d.now a.name (size_by c.in_ok-asked.asked) c.in_ok-word.word a.date u,
    )
    (record { answer = refl; words = refl })

pub returns : goal.returns
returns c =
    let a = c.args in
    let u = over-protected a.d.now a.name _ _ c.find_old-old.ensures.is (sym c.if-is_protected.false ∙ c.is_protected.ensures) in
    rw (
      free-at (goal.at.returns c).Else-is_some,
      name_free a.d.now a.name (size_by c.in_ok-asked.asked) c.in_ok-word.word a.date u,
    )
    c.enter_file.ensures
