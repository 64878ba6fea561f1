-- `serve_known` meets its contract: a fault refuses every request (`faulty`), and without one the engine's contract is the same.
use mathlib.Core.Path.{refl}
use Rattle.meaning.specs.Answers.{refuse}
use Rattle.engine.proofs.Tested.{faulty}
use Rattle.engine.proofs.serve_known.Goals as goal

pub returns-then-number-ne0 : goal.returns-then-number-ne0
unfolding refuse
returns-then-number-ne0 c =
    rw (faulty c.args.v c.args.d.now c.args.request _ c.requires c.if-number-ne0.true)
    (record { answer = c.refused.ensures; words = refl })
