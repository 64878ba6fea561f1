-- `find_entry` meets its contract. The loop's invariant is `Finding`: what is found in the segments still ahead is what is found in
-- all. A turn ends at a place, which the segment holds and so the directory, or passes a segment by (`passes`). Assumes nothing.
use Prim.Native.Nat.{◌+◌, ◌-◌, ◌<◌, ◌≤◌}
use mathlib.Core.Path.{◌≡◌, sym, ◌∙◌}
use native.Mathlib.Omega.{arith}
use lib.ListN.{length}
use Rattle.std.proofs.Common.{Some}
use Rattle.meaning.specs.Words.{highest}
use Rattle.find.proofs.Finding.{starts, turn, turned, passes, found_part, widen}
use Rattle.walks.proofs.Words.{base}
use Rattle.find.proofs.find_entry.Goals as goal

pub loop-init : goal.loop-init
loop-init c =
    let d = c.args.d.now in
    let e : highest d - 0 ≡ highest d = omega arith in
    rw e (starts d c.args.key c.requires)

pub returns-in-Some : goal.returns-in-Some
returns-in-Some c =
    let d = c.args.d.now in
    let l = c.loop in
    let r = c.find_in-found.ensures in
    let ahead : 0 < highest d - l.counter = omega arith in
    let f = found_part c.args.key d l.segment _ r.is in
    let e = turn c.args.key (highest d - l.counter) d l.segment (Some c.in-Some.place) ahead (sym c.in-Some.is ∙ f) in
    let within : base l.segment + 512 ≤ length d = omega arith in
    record { is = sym e ∙ l.invariant.same; inside = widen _ _ _ _ _ c.in-Some.is r.inside within }

pub loop-preserved : goal.loop-preserved
loop-preserved c =
    let d = c.args.d.now in
    let l = c.loop in
    let ahead : 0 < highest d - l.counter = omega arith in
    let f = found_part c.args.key d l.segment _ c.find_in-found.ensures.is in
    let less : highest d - (l.counter + 1) ≡ highest d - l.counter - 1 = omega arith in
    rw less (passes d c.args.key (highest d - l.counter) l.segment c.requires ahead l.invariant (sym c.in_default.is ∙ f))

pub returns : goal.returns
returns c =
    let d = c.args.d.now in
    let l = c.loop in
    let over : highest d - l.counter ≤ 0 = omega arith in
    record { is = sym (turned c.args.key (highest d - l.counter) d l.segment over) ∙ l.invariant.same; inside = tt }
