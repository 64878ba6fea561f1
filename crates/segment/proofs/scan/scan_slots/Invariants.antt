-- `scan_slots` meets its contract: the loop keeps `Scanning`, that the slots still ahead give what all slots give.
use mathlib.Core.Path.{◌≡◌}
use Rattle.segment.proofs.Scanning.{Scanning}
use Rattle.segment.proofs.scan.scan_slots.Given as goal

abbrev pub invariant-loop-words : goal.invariant-loop-words
invariant-loop-words l = record {
  size : l.words-iterator.size ≡ l.width;
  scanning : Scanning l.segment l.width l.words-iterator.rest.now l.count l.blocks l.owed;
}
