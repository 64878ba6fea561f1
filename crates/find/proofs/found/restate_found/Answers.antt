-- `restate_found` meets its contract: what was found is what the meaning finds, and its status is the one write (`restated-at`); where nothing
-- was found no word is written (`restated-none`). What number the refusal has is no matter.
use mathlib.Core.Path.{refl, sym, ◌∙◌}
use Rattle.meaning.specs.Answers.{refuse}
use Rattle.chain.proofs.Chains.{fault-chained}
use Rattle.find.proofs.Behind.{place-small, restated-at, restated-none}
use Rattle.find.proofs.found.restate_found.Goals as goal

pub find_entry-requires : goal.find_entry-requires
find_entry-requires g c = fault-chained c.args.v c.args.d.now c.requires

pub returns-in_default : goal.returns-in_default
unfolding refuse
returns-in_default g c number =
    let none-there = sym c.find_entry.ensures.is ∙ c.in_default.is in
    rw (restated-none c.args.d.now c.args.key (number c.args.missing) c.args.status none-there) (record { answer = refl; words = refl })

pub granted-requires : goal.granted-requires
granted-requires g c = place-small c.args.v c.args.d.now c.requires c.args.key _ (sym c.find_entry.ensures.is ∙ c.in-Some.is)

pub returns : goal.returns
returns g c number =
    let found = sym c.find_entry.ensures.is ∙ c.in-Some.is in
    rw (restated-at c.args.d.now c.args.key (number c.args.missing) c.args.status _ found, c.granted.ensures)
    (record { answer = refl; words = c.give_status.ensures })
