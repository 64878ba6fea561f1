-- `count_kept` meets its contract: one more than half where the last of the half is tentative, and else half.
use native.Mathlib.Omega.{arith}
use mathlib.Core.Path.{◌≡◌, sym, ◌∙◌}
use Prim.Native.Nat.{◌/◌}
use Rattle.render.proofs.Counting.{kept-none, kept-one, kept_half}
use Rattle.render.proofs.measure.count_kept.Goals.{else-half-gt0-via-then-half-gt0+else-is_tentative, else-half-gt0-via-else-half-gt0}
use Rattle.render.proofs.measure.count_kept.Goals as goal

pub returns-then-is_tentative : goal.returns-then-is_tentative
returns-then-is_tentative c =
    let h = c.requires in kept-one h.2 h.1 c.if-half-gt0.true (sym c.is_tentative.ensures ∙ c.if-is_tentative.true)

pub returns-else-half-gt0 : goal.returns-else-half-gt0
returns-else-half-gt0 c =
    let h = c.requires in
    elim c.else-half-gt0.branch [
      | else-half-gt0-via-then-half-gt0+else-is_tentative w ↦
          kept_half h.2 h.1 w.if-half-gt0.true (sym w.is_tentative.ensures ∙ w.if-is_tentative.false)
      | else-half-gt0-via-else-half-gt0 w ↦
          let z : c.args.count / 2 ≡ 0 = omega (arith, w.if-half-gt0.false) in
          rw z (kept-none h.2 h.1 z)
    ]
