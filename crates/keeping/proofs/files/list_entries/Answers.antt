-- `list_entries` meets its contract: the loop keeps `Listing`, that the files in the table and those ahead are together all.
use Prim.Native.Nat.{◌+◌, ◌*◌, ◌-◌, ◌≤◌}
use native.Mathlib.Omega.{arith}
use mathlib.Core.Path.{sym, ◌∙◌}
use Rattle.meaning.specs.Words.{blocks}
use Rattle.chain.proofs.Links.{part-is}
use Rattle.keeping.proofs.Listing.{listing, list_over, room_here, entry_inside, block_small, list-stop, list_past, list_on}
use Rattle.keeping.proofs.files.list_entries.Goals.{In-Some, then-is_permanent, else-is_permanent}
use Rattle.keeping.proofs.files.list_entries.Goals as goal

-- in a turn there is room for a file, and the entry at hand lies in the segment
pub loop-entry-init : goal.loop-entry-init
loop-entry-init c =
    let a = c.args in
    rw (c.into_iter-entry-iterator.ensures.into_iter_gives, c.entries_of-entry-items.ensures.left, part-is a.d.now a.number)
    (listing a.d.now a.width a.number a.table.now c.requires.0 c.requires.1 (omega (arith, c.type_inv.d (512 * (a.number - 1) + 4))))

pub returns-then-is_unreadable : goal.returns-then-is_unreadable
returns-then-is_unreadable c =
    list-stop c.loop-entry.invariant c.in-Some.entry.words.now _ c.in-Some.ensures.steps
    (rw c.status-status.ensures at (sym c.is_unreadable.ensures ∙ c.if-is_unreadable.true))

pub offset_bounds-table-count : goal.offset_bounds-table-count
offset_bounds-table-count c =
    let r = room_here c.loop-entry.invariant c.in-Some.entry.words.now _ c.in-Some.ensures.steps in
    omega arith

pub bounds-table-count : goal.bounds-table-count
bounds-table-count c =
    let r = room_here c.loop-entry.invariant c.in-Some.entry.words.now _ c.in-Some.ensures.steps in
    omega (arith, c.loop-entry.invariant.size)

pub overflow_add-count : goal.overflow_add-count
overflow_add-count c =
    let r = room_here c.loop-entry.invariant c.in-Some.entry.words.now _ c.in-Some.ensures.steps in
    omega arith

pub overflow_add-at-in-loop-entry : goal.overflow_add-at-in-loop-entry
overflow_add-at-in-loop-entry c =
    let r = entry_inside c.loop-entry.invariant c.in-Some.entry.words.now _ c.in-Some.ensures.steps in
    omega arith

pub overflow_add-first-in-loop-entry : goal.overflow_add-first-in-loop-entry
overflow_add-first-in-loop-entry c =
    let r = block_small c.loop-entry.invariant c.in-Some.entry.words.now _ c.in-Some.ensures.steps in
    omega (arith, c.blocks-in-loop-entry.type_inv)

pub loop-entry-preserved : goal.loop-entry-preserved
loop-entry-preserved c =
    let i = c.loop-entry.invariant in
    let e = c.in-Some.entry.words.now in
    let known = rw c.status-status.ensures at (sym c.is_unreadable.ensures ∙ c.if-is_unreadable.false) in
    let small : c.blocks-in-loop-entry.result ≤ 65535 = omega (arith, c.blocks-in-loop-entry.type_inv) in
    let few : blocks e ≤ 65535 = rw c.blocks-in-loop-entry.ensures at small in
    elim c.if-is_permanent.branch [
      | then-is_permanent w ↦
          rw (w.table-is, w.count-is, c.blocks-in-loop-entry.ensures)
          (list_on i e _ c.in-Some.ensures.steps known few c.requires.0
          (rw c.status-status.ensures at (sym c.is_permanent.ensures ∙ w.if-is_permanent.true)) (sym i.size) c.requires.4 c.requires.3)
      | else-is_permanent w ↦
          rw (w.table-is, w.count-is, c.blocks-in-loop-entry.ensures)
          (list_past i e _ c.in-Some.ensures.steps known few c.requires.0
          (rw c.status-status.ensures at (sym c.is_permanent.ensures ∙ w.if-is_permanent.false)))
    ]

pub returns : goal.returns
returns c = list_over c.loop-entry.invariant c.in-None.ensures.steps.0
