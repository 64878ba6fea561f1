-- `serve_sound` meets its contract: the record's kind says which request is made, and that routine's contract says the rest. A lookup is lent
-- the words to read alone, so they are as they were; a signed field comes back from the machine's word as it was.
use borrow.Author.Rules.{rules}
use mathlib.Core.Path.{sym}
use mir.Syntax.{w32}
use mir.Val.{SFits}
use mir.ValLaws.{to_z-of_z}
use Rattle.meaning.specs.declared.Op.TheVariants.{Lookup, Enter, Close, Abandon, Delete, Rename, Protect, Unprotect}
use Rattle.meaning.specs.Requests.{protect, unprotect}
use Rattle.engine.proofs.Tested.{looked_up, serves}
use Rattle.engine.proofs.serve_sound.Goals as goal

pub returns-in-Lookup : goal.returns-in-Lookup
returns-in-Lookup c =
    let a = c.args in
    rw (serves a.v a.d.now a.request Lookup c.in-Lookup.is)
    (record { answer = c.lookup_sound.ensures; words = sym (looked_up a.v a.d.now a.request.name) })

pub returns-in-Enter : goal.returns-in-Enter
returns-in-Enter c =
    let a = c.args in
    let fits : SFits w32 a.request.size = search rules in
    rw (serves a.v a.d.now a.request Enter c.in-Enter.is) (rw (to_z-of_z w32 a.request.size fits) at c.enter_sound.ensures)

pub returns-in-Close : goal.returns-in-Close
returns-in-Close c =
    let a = c.args in
    let fits : SFits w32 a.request.final_length = search rules in
    rw (serves a.v a.d.now a.request Close c.in-Close.is) (rw (to_z-of_z w32 a.request.final_length fits) at c.close_sound.ensures)

pub returns-in-Abandon : goal.returns-in-Abandon
returns-in-Abandon c = rw (serves c.args.v c.args.d.now c.args.request Abandon c.in-Abandon.is) c.abandon_sound.ensures

pub returns-in-Delete : goal.returns-in-Delete
returns-in-Delete c = rw (serves c.args.v c.args.d.now c.args.request Delete c.in-Delete.is) c.delete_sound.ensures

pub returns-in-Rename : goal.returns-in-Rename
returns-in-Rename c = rw (serves c.args.v c.args.d.now c.args.request Rename c.in-Rename.is) c.rename_sound.ensures

pub returns-in-Protect : goal.returns-in-Protect
unfolding protect
returns-in-Protect c = rw (serves c.args.v c.args.d.now c.args.request Protect c.in-Protect.is) c.restate_sound.ensures

pub returns-in-Unprotect : goal.returns-in-Unprotect
unfolding unprotect
returns-in-Unprotect c = rw (serves c.args.v c.args.d.now c.args.request Unprotect c.in-Unprotect.is) c.restate_sound-in-Unprotect.ensures
