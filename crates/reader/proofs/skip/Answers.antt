-- `skip` meets its contract: a step takes one off (`skip_on`), and at the end nothing moves (`skip_end`). A refused reader stays.
use native.Mathlib.Omega.{arith}
use native.Mathlib.Nat.{sub-zero}
use Prim.Native.Nat.{◌+◌, ◌-◌}
use mathlib.Core.Path.{◌≡◌, sym, ◌∙◌}
use Rattle.reader.proofs.Reading.{skip_on, skip_none, skip_end, stays, skips}
use Rattle.reader.proofs.skip.Goals as goal

pub returns-then-number-ne0 : goal.returns-then-number-ne0
returns-then-number-ne0 c =
    let a = c.args in
    stays a.words.now a.place a.number a.count c.if-number-ne0.true

pub loop-init : goal.loop-init
loop-init c = rw (sub-zero c.args.count)

pub returns-in_default : goal.returns-in_default
returns-in_default c =
    let a = c.args in
    let l = c.loop in
    let e = skip_end (a.count - l.counter) a.words.now l.here (sym c.step_from.ensures ∙ c.in_default.is) in
    skips a.words.now a.place l.here a.number a.count c.if-number-ne0.false (sym e ∙ l.invariant)

pub loop-preserved : goal.loop-preserved
loop-preserved c =
    let a = c.args in
    let l = c.loop in
    let e = sym c.step_from.ensures ∙ c.in-Some.is in
    let fewer : a.count - (l.counter + 1) ≡ a.count - l.counter - 1 = omega arith in
    rw fewer (sym (skip_on (a.count - l.counter) a.words.now l.here (omega (arith, c.loop-test.true)) e) ∙ l.invariant)

pub returns : goal.returns
returns c =
    let a = c.args in
    let l = c.loop in
    let e = skip_none (a.count - l.counter) a.words.now l.here (omega (arith, c.loop-test.false)) in
    skips a.words.now a.place l.here a.number a.count c.if-number-ne0.false (sym e ∙ l.invariant)
