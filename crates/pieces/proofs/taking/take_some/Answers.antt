-- `take_some` meets its contract: bytes that are no data are passed, and data bytes with a place are stored in a row (laws `one_took`, `run_took`).
use mathlib.Core.Path.{sym, ap, ◌∙◌}
use Rattle.loadsteps.specs.Step.{is_data}
use Rattle.pieces.proofs.Turns.{no_run, storing, positive, one_took, run_took}
use Rattle.pieces.proofs.taking.take_some.Goals as goal

pub returns-then-run-eq0 : goal.returns-then-run-eq0
returns-then-run-eq0 c =
    let h = c.requires in
    let e = sym c.role.ensures ∙ c.in-Storing.is in
    let z = no_run _ _ _ _ h.some (sym c.run_of-run.ensures ∙ c.if-run-eq0.true) in
    one_took _ _ h (ap (is_data _) e ∙ z) c.one.ensures.0 c.one.ensures.1

pub returns-else-run-eq0 : goal.returns-else-run-eq0
returns-else-run-eq0 c =
    let e = storing _ _ _ (sym c.role.ensures ∙ c.in-Storing.is) in
    run_took _ _ _ _ _ e c.run_of-run.ensures (positive c.if-run-eq0.false) c.past.ensures c.put_bytes.ensures
