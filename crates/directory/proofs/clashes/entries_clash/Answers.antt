-- `entries_clash` meets its contract: the entries listed are those that can clash.
use native.Mathlib.Omega.{arith}
use mathlib.Core.Path.{refl, ◌∙◌}
use borrow.Author.Tests.{lt-leb}
use lib.Seq.{length-take-le}
use Rattle.directory.proofs.Placed.{listed-places, listed-clashes, few-listed}
use Rattle.directory.proofs.clashes.entries_clash.Goals as goal

pub invariant_of-listed : goal.invariant_of-listed
invariant_of-listed c =
    let l = c.list_chain-count.ensures in
    let long = length-take-le c.list_chain-count.result c.list_chain-count.new.places (omega arith) in
    record { keyed = listed-places c.requires refl l.same (omega arith) }

pub returns-then-count-ge2 : goal.returns-then-count-ge2
returns-then-count-ge2 c = c.clash.ensures ∙ listed-clashes c.requires refl c.list_chain-count.ensures.same

pub returns-else-count-ge2 : goal.returns-else-count-ge2
returns-else-count-ge2 c =
    let long = length-take-le c.list_chain-count.result c.list_chain-count.new.places (omega arith) in
    lt-leb 2 _ c.if-count-ge2.false ∙ few-listed c.requires refl c.list_chain-count.ensures.same (omega arith)
