-- `put_run` meets its contract: its entry is copied word by word, which is one write of it (`pasted`), and the length is set afterwards.
use native.Mathlib.Omega.{arith}
use Rattle.std.proofs.Common.{◌≡◌, ◌≤◌, length}
use Rattle.std.proofs.lemmas.List.Edits.{paste_none, paste_more}
use Rattle.segment.proofs.Writes.{pasted, set-written}
use Rattle.tidy.proofs.tidy.put_run.Goals as goal

pub loop-k-init : goal.loop-k-init
loop-k-init c = paste_none c.args.out.now c.args.place c.args.entry.now.words.now

pub loop-k-preserved : goal.loop-k-preserved
loop-k-preserved c =
    let turn = c.loop-k-test.true in
    rw c.loop-k.invariant (paste_more c.args.out.now c.args.place c.args.entry.now.words.now c.loop-k.k 0 (omega (arith, turn, c.requires)) turn)

pub returns : goal.returns
returns c =
    let words = c.args.entry.now.words.now in
    let seven : 7 ≤ length words = c.args.entry.now.whole in
    let turns : c.loop-k.k ≡ length words = omega (arith, c.loop-k.auto.k-end, c.loop-k-test.false) in
    let copied = pasted c.args.out.now c.loop-k.out words c.args.place c.requires (rw turns at c.loop-k.invariant) in
    set-written c.args.out.now words c.loop-k.out c.args.place _ 4 c.args.sum (omega (arith, c.requires)) (omega arith) copied
