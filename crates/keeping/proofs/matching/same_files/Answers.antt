-- `same_files` meets its contract: the loop keeps `Matching`, that what is left of both lists is the same as both were.
use mathlib.Core.Path.{sym}
use Rattle.keeping.proofs.Taking.{matching, unlike_length, match_over, match_none, match_on, file-fits, others-fit}
use Rattle.keeping.proofs.matching.same_files.Goals as goal

pub returns-then-files-table : goal.returns-then-files-table
returns-then-files-table c =
    let a = c.args in
    unlike_length a.d.now a.files.now a.w.now a.table.now c.if-files-table.true

pub loop-i-init : goal.loop-i-init
loop-i-init c =
    let a = c.args in
    matching a.d.now a.files.now a.w.now a.table.now (sym c.if-files-table.false) c.requires.0 c.requires.1

pub take_out-requires : goal.take_out-requires
take_out-requires c =
    let m = c.loop-i.invariant in
    (file-fits m c.loop-i-test.true _, others-fit m c.loop-i-test.true (record { first = 0; at = 0 }))

pub returns-then-not-take_out : goal.returns-then-not-take_out
returns-then-not-take_out c =
    match_none c.loop-i.invariant c.loop-i-test.true _ c.take_out.ensures c.if-not-take_out.true

pub loop-i-preserved : goal.loop-i-preserved
loop-i-preserved c =
    match_on c.loop-i.invariant c.loop-i-test.true _ c.take_out.ensures c.if-not-take_out.false

pub returns : goal.returns
returns c = match_over c.loop-i.invariant c.loop-i-test.false
