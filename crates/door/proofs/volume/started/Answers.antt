-- `started` meets its contract: rule 1 and the extra words are tested, and then the words are those of `start_fresh`.
use borrow.Author.Rules.{rules}
use native.Mathlib.Omega.{arith}
use mathlib.Core.Path.{◌≡◌, refl, sym, ◌∙◌}
use mathlib.Core.Bool.{false}
use borrow.Author.Tests.{le-leb, lt-leb}
use Rattle.meaning.specs.Answers.{refuse, success}
use Rattle.meaning.specs.Requests.{fresh}
use Rattle.meaning.specs.Sound.{bad1}
use Rattle.walks.specs.Heads.{Sized}
use Rattle.walks.proofs.Heads.{sized}
use Rattle.chain.proofs.Chains.{size_is}
use Rattle.door.proofs.volume.started.Goals.{Else-size_wrong}
use Rattle.door.proofs.volume.started.Goals as goal

-- rule 1 holds where its test has passed
right-at : (c : Else-size_wrong) → bad1 c.args.v c.args.d.now ≡ false
right-at c = size_is c.args.v c.args.d.now ∙ sym c.size_wrong.ensures ∙ c.if-size_wrong.false

sized-at : (c : Else-size_wrong) → Sized c.args.v c.args.d.now
sized-at c = sized _ _ (right-at c)

pub returns-then-size_wrong : goal.returns-then-size_wrong
unfolding fresh refuse
returns-then-size_wrong c =
    rw (size_is c.args.v c.args.d.now ∙ sym c.size_wrong.ensures ∙ c.if-size_wrong.true) (record { answer = refl; words = refl })

pub returns-then-extra-gt16 : goal.returns-then-extra-gt16
unfolding fresh refuse
returns-then-extra-gt16 c =
    rw (right-at (goal.at.returns-then-extra-gt16 c).Else-size_wrong, lt-leb _ 16 c.if-extra-gt16.true)
    (record { answer = refl; words = refl })

pub start_fresh-requires : goal.start_fresh-requires
start_fresh-requires c = (sized-at (goal.at.start_fresh-requires c).Else-size_wrong, search rules)

pub overflow_cast-result : goal.overflow_cast-result
overflow_cast-result c = let z = sized-at (goal.at.overflow_cast-result c).Else-size_wrong in omega arith

pub overflow_sub-result : goal.overflow_sub-result
overflow_sub-result c = let z = sized-at (goal.at.overflow_sub-result c).Else-size_wrong in omega arith

pub overflow_cast-result-2 : goal.overflow_cast-result-2
overflow_cast-result-2 c = let z = sized-at (goal.at.overflow_cast-result-2 c).Else-size_wrong in omega arith

pub returns : goal.returns
unfolding fresh success
returns c =
    rw (right-at (goal.at.returns c).Else-size_wrong, le-leb _ 16 c.if-extra-gt16.false)
    (record { answer = refl; words = c.start_fresh.ensures })
