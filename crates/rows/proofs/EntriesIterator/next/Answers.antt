-- `next` meets its contract: a step at the end finds no entries ahead, and any other gives the first of them.
use native.Mathlib.Omega.{arith}
use mathlib.Core.Path.{sym, ap, ◌∙◌}
use lib.ListN.{length}
use Rattle.rows.proofs.Ahead.{ahead-none, ahead-some, underway-past}
use Rattle.rows.proofs.EntriesIterator.next.Goals as goal

pub returns-in_err-seen-clause-steps : goal.returns-in_err-seen-clause-steps
returns-in_err-seen-clause-steps c =
    let e = ahead-none c.args.self.now.underway (sym c.step_from.ensures ∙ c.in_err-seen.was) in
    rw c.from_residual.ensures (e, e)

pub invariant_of-self : goal.invariant_of-self
invariant_of-self c = record { underway = underway-past c.args.self.now.underway (sym c.step_from.ensures ∙ c.in_ok-seen.was) }

pub returns-clause-steps : goal.returns-clause-steps
returns-clause-steps c = ahead-some c.args.self.now.underway (sym c.step_from.ensures ∙ c.in_ok-seen.was)

pub returns-clause-goes : goal.returns-clause-goes
returns-clause-goes c =
    let e = ap length (ahead-some c.args.self.now.underway (sym c.step_from.ensures ∙ c.in_ok-seen.was)) in
    record { on = λ _. (tt, tt, omega (arith, e)); keeps = tt; rests = λ _. tt }
