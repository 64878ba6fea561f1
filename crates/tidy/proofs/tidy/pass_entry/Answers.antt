-- `pass_entry` meets its contract: an empty entry lets nothing out (`area-out`), and any other the run and then itself (`other_out`).
use native.Mathlib.Omega.{arith}
use mathlib.Core.Path.{◌≡◌, sym, ◌∙◌}
use Prim.Native.Nat.{◌≤◌}
use lib.ListN.{length, length-append}
use Rattle.meaning.specs.Enter.{is_area}
use Rattle.segment.proofs.Writes.{none_written, both_written}
use Rattle.tidy.specs.OpenRun.{run_of, left_of}
use Rattle.tidy.proofs.Runs.{area-out, other_out}
use Rattle.tidy.proofs.tidy.pass_entry.Goals.{After-is_empty}
use Rattle.tidy.proofs.tidy.pass_entry.Goals as goal

-- what the code asks is whether the entry is an area
told : (c : After-is_empty) → c.is_empty.result ≡ is_area c.args.entry.now.words.now
told c = rw (← c.status.ensures) c.is_empty.ensures

pub returns-then-is_empty : goal.returns-then-is_empty
returns-then-is_empty c =
    let a = c.args in
    let area = sym (told (goal.at.returns-then-is_empty c).After-is_empty) ∙ c.if-is_empty.true in
    rw (area-out (run_of a.run) a.entry.now.words.now area) (none_written a.out.now a.place)

pub flush-next-requires : goal.flush-next-requires
flush-next-requires c =
    let a = c.args in
    let other = sym (told (goal.at.flush-next-requires c).After-is_empty) ∙ c.if-is_empty.false in
    let fits = rw (other_out (run_of a.run) a.entry.now.words.now other) at c.requires in
    omega (arith, fits, length-append (left_of (run_of a.run)) a.entry.now.words.now)

pub put_words-requires : goal.put_words-requires
put_words-requires c =
    let a = c.args in
    let other = sym (told (goal.at.put_words-requires c).After-is_empty) ∙ c.if-is_empty.false in
    let fits = rw (other_out (run_of a.run) a.entry.now.words.now other) at c.requires in
    omega (arith, fits, length-append (left_of (run_of a.run)) a.entry.now.words.now, c.flush-next.ensures.next, c.flush-next.ensures.long)

pub returns : goal.returns
returns c =
    let a = c.args in
    let other = sym (told (goal.at.returns c).After-is_empty) ∙ c.if-is_empty.false in
    let fits = rw (other_out (run_of a.run) a.entry.now.words.now other) at c.requires in
    let low : a.place ≤ length a.out.now = omega (arith, fits) in
    rw (other_out (run_of a.run) a.entry.now.words.now other)
    (both_written a.out.now (left_of (run_of a.run)) _ a.entry.now.words.now _ a.place _ _ low c.flush-next.ensures c.put_words.ensures)
