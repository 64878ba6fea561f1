-- `put_even` meets its contract: the loop keeps that the bytes of the words so far are written (law `data_two`).
use native.Mathlib.Omega.{arith}
use Prim.Native.Nat.{◌+◌, ◌-◌, ◌/◌, ◌<◌}
use mathlib.Core.Path.{◌≡◌, ◌∙◌}
use lib.ListN.{drop}
use Rattle.std.proofs.lemmas.List.{get_or-take, get_or-drop, length-take}
use Rattle.loadwrite.proofs.Parts.{no_data, data_more, data_two}
use Rattle.loadwrite.proofs.blocks.put_even.Goals as goal

pub loop-word-init : goal.loop-word-init
loop-word-init c =
    let a = c.args in
    (omega arith, no_data a.words.now a.out.now a.address a.place (omega arith))

pub loop-word-preserved : goal.loop-word-preserved
loop-word-preserved c =
    let l = c.loop-word in
    let a = c.args in
    let p = c.put_word-next.ensures in
    let count : a.address / 2 + a.count / 2 - a.address / 2 ≡ a.count / 2 = omega arith in
    let inside : l.word-index < a.address / 2 + a.count / 2 - a.address / 2 = omega (arith, length-take (a.count / 2) (drop (a.address / 2) a.words.now), rw count at c.loop-word-test.true) in
    let word = get_or-take _ (drop (a.address / 2) a.words.now) l.word-index 0 inside ∙ get_or-drop (a.address / 2) a.words.now l.word-index 0 in
    (omega (arith, p.ends, l.invariant.0), data_two a.words.now a.address l.word-index _ l.invariant.1 c.requires.0 word p)

pub returns-then-count-eq1 : goal.returns-then-count-eq1
returns-then-count-eq1 c =
    let l = c.loop-word in
    let a = c.args in
    data_more a.words.now a.address l.word-index a.count l.invariant.1 (omega arith) c.byte_at.ensures c.put.ensures
