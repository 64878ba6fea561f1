-- `lookup` meets its contract: a fault refuses it (`lookup_faulty`), and without one the engine's contract is the same.
use mathlib.Core.Path.{sym, ap, ◌∙◌}
use Rattle.meaning.specs.Answers.{refuse}
use Rattle.walks.proofs.Outcomes.{answer_of}
use Rattle.engine.proofs.Tested.{lookup_faulty}
use Rattle.door.proofs.lookup.Goals as goal

pub returns-then-number-ne0 : goal.returns-then-number-ne0
unfolding refuse
returns-then-number-ne0 c =
    let e = lookup_faulty c.args.v c.args.d.now c.args.name _ c.fault_of-number.ensures c.if-number-ne0.true in
    c.refused.ensures ∙ sym (ap answer_of e)

pub lookup_sound-requires : goal.lookup_sound-requires
lookup_sound-requires c = sym c.fault_of-number.ensures ∙ c.if-number-ne0.false
