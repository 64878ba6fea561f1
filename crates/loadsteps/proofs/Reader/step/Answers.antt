-- `step` meets its contract: its calls are the parts of `moved`, and as the byte is not data, `stored` stays.
use native.Mathlib.Omega.{arith}
use mathlib.Core.Path.{◌≡◌}
use Rattle.loadsteps.specs.Step.{next, moved, up, capped}
use Rattle.loadsteps.proofs.Reader.step.Goals as goal

pub returns : goal.returns
unfolding next moved up capped
returns c =
    let e : up 0 c.args.self.stored ≡ c.args.self.stored = omega (arith, c.well_formed) in
    rw (c.requires.1, c.requires.2, e, c.up_by.ensures, c.passed.ensures, c.role.ensures, c.after-phase.ensures)
