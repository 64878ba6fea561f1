-- `pass_entries` meets its contract: for the segment's words and for the list the loop keeps `Walking`, that what is written so far, with the
-- words of the entries ahead, is what all make.
use Rattle.segment.specs.Entries.{ahead}
use Rattle.packing.specs.Packs.{packed_words, list_words}
use Rattle.packing.proofs.Walks.{Walking}
use Rattle.packing.proofs.entries.pass_entries.Given as goal

abbrev pub invariant-loop-entry : goal.invariant-loop-entry
invariant-loop-entry l =
    let it = l.entry-iterator in
    let es = ahead it.width it.rest.now in
    let x = l.initial.so_far in
    record {
      entries : Walking (packed_words l.width) l.width l.segment l.stands x.free l.initial.out x.at es l.block l.so_far.free l.out l.so_far.at;
      moves : Walking list_words l.width l.segment l.stands x.free l.initial.list x.listed es l.block l.so_far.free l.list l.so_far.listed;
    }
