-- `mend_all` meets its contract: the loop keeps `Mending`. A turn is `mends_on`, and `at-segment` has the bounds of the segment's place.
use native.Mathlib.Omega.{arith}
use native.Mathlib.Nat.{sub-zero}
use Prim.Native.Nat.{◌+◌, ◌-◌, ◌<◌}
use mathlib.Core.Path.{◌≡◌, refl}
use Rattle.meaning.specs.Words.{highest}
use Rattle.chain.proofs.Links.{Next}
use Rattle.mending.proofs.Onward.{mends, mended-over, at-segment, mends_on}
use Rattle.mending.proofs.anew.mend_all.Goals.{In-loop}
use Rattle.mending.proofs.anew.mend_all.Goals as goal

-- in a turn the segment at hand lies in the directory
left : (i : In-loop) → 0 < highest i.args.d.now - i.loop.counter
left i = omega (arith, i.loop-test.true)

at_hand : (i : In-loop) → Next (highest i.args.d.now - i.loop.counter) i.args.d.now i.loop.number
at_hand i =
    let a = i.args in
    at-segment a.v a.firsts.now a.d.now a.t.now i.requires.0 i.loop.invariant (left i)

pub loop-init : goal.loop-init
loop-init c =
    let a = c.args in
    rw sub-zero (mends a.v a.firsts.now a.d.now a.t.now c.requires.0 _ c.requires.1 c.requires.3 refl refl)

pub renew_segment-laid-requires : goal.renew_segment-laid-requires
renew_segment-laid-requires c =
    let x = at_hand (goal.at.renew_segment-laid-requires c).In-loop in
    let l = c.loop.invariant in
    (l.size, x.inside, x.low, x.most, omega arith, omega (arith, c.requires.0.extra), c.requires.2, omega (arith, l.low, c.requires.2))

pub overflow_sub-number : goal.overflow_sub-number
overflow_sub-number c = (at_hand (goal.at.overflow_sub-number c).In-loop).low

pub overflow_mul-number : goal.overflow_mul-number
overflow_mul-number c = omega (arith, (at_hand (goal.at.overflow_mul-number c).In-loop).most)

pub overflow_add-number : goal.overflow_add-number
overflow_add-number c = omega (arith, (at_hand (goal.at.overflow_add-number c).In-loop).most)

pub offset_bounds-d-number : goal.offset_bounds-d-number
offset_bounds-d-number c = omega (arith, (at_hand (goal.at.offset_bounds-d-number c).In-loop).most)

pub bounds-d-number : goal.bounds-d-number
bounds-d-number c =
    let x = at_hand (goal.at.bounds-d-number c).In-loop in
    omega (arith, x.inside, x.low)

pub loop-preserved : goal.loop-preserved
loop-preserved c =
    let a = c.args in
    let i = (goal.at.loop-preserved c).In-loop in
    let r = c.renew_segment-laid in
    let less : highest a.d.now - (c.loop.counter + 1) ≡ highest a.d.now - c.loop.counter - 1 = omega arith in
    rw less
    (mends_on a.v a.firsts.now a.d.now a.t.now c.requires.0 c.loop.invariant (left i) _ r.result _ r.ensures c.min.ensures refl)

pub returns : goal.returns
returns c =
    let a = c.args in
    mended-over a.v a.firsts.now a.d.now a.t.now c.requires.0 c.loop.invariant (omega (arith, c.loop-test.false))
