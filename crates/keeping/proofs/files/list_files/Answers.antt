-- `list_files` meets its contract: the loop keeps `Gathering`, that the files in the table and those of the segments ahead are together all.
use Prim.Native.Nat.{◌+◌, ◌-◌, ◌≤◌}
use native.Mathlib.Omega.{arith}
use native.Mathlib.Nat.{sub-zero}
use mathlib.Core.Path.{◌≡◌}
use lib.ListN.{length, length-take, length-drop}
use Rattle.meaning.specs.Words.{highest}
use Rattle.chain.proofs.Links.{Next}
use Rattle.keeping.proofs.Gathering.{gathering, gather_next, gather_room, gather_on, gather_over}
use Rattle.keeping.proofs.files.list_files.Goals.{In-loop, Start}
use Rattle.keeping.proofs.files.list_files.Goals as goal

-- in a turn the segment at hand is one of 1..H, and the table has room for its files
at_hand : (i : In-loop) → let d = i.args.d.now in Next (highest d - i.loop.counter) d i.loop.number
at_hand i = gather_next i.loop.invariant i.requires.0 (omega (arith, i.loop-test.true))

room : (i : In-loop) → i.loop.count + 72 ≤ length i.loop.table
room i = gather_room i.loop.invariant i.requires.0 (omega (arith, i.loop-test.true)) i.requires.1

pub loop-init : goal.loop-init
loop-init c = rw sub-zero (gathering c.args.d.now c.args.table.now c.requires.0)

pub offset_bounds-table-count : goal.offset_bounds-table-count
offset_bounds-table-count c = omega (arith, c.loop.invariant.few)

pub slice_bounds-list_entries-count : goal.slice_bounds-list_entries-count
slice_bounds-list_entries-count c = omega (arith, room c)

pub list_entries-count-requires : goal.list_entries-count-requires
list_entries-count-requires c =
    let i = (goal.at.list_entries-count-requires c).In-loop in
    let n = at_hand i in
    (omega arith, n.low, n.most, n.inside, simp (length-take, length-drop) (omega (arith, room i)))

pub overflow_add-count : goal.overflow_add-count
overflow_add-count c = omega (arith, c.loop.invariant.few, c.list_entries-count.ensures.few)

pub overflow_sub-number : goal.overflow_sub-number
overflow_sub-number c = (at_hand (goal.at.overflow_sub-number c).In-loop).low

pub overflow_mul-number : goal.overflow_mul-number
overflow_mul-number c = omega (arith, (at_hand (goal.at.overflow_mul-number c).In-loop).most)

pub overflow_add-number : goal.overflow_add-number
overflow_add-number c = omega (arith, (at_hand (goal.at.overflow_add-number c).In-loop).most)

pub offset_bounds-d-number : goal.offset_bounds-d-number
offset_bounds-d-number c = omega (arith, (at_hand (goal.at.offset_bounds-d-number c).In-loop).most)

pub bounds-d-number : goal.bounds-d-number
bounds-d-number c =
    let n = at_hand (goal.at.bounds-d-number c).In-loop in
    omega (arith, n.low, n.inside)

pub loop-preserved : goal.loop-preserved
loop-preserved c =
    let i = (goal.at.loop-preserved c).In-loop in
    let less : highest c.args.d.now - (c.loop.counter + 1) ≡ highest c.args.d.now - c.loop.counter - 1 = omega arith in
    rw less (gather_on c.loop.invariant c.requires.0 (omega (arith, i.loop-test.true)) c.requires.1 c.list_entries-count.ensures)

pub returns : goal.returns
returns c = gather_over c.loop.invariant (omega (arith, c.loop-test.false))
