-- `sum_lengths` meets its contract. The loop's invariant: the sum so far and the lengths ahead are the whole sum.
use mathlib.Core.Path.{◌≡◌}
use Rattle.render.proofs.Counting.{Summing}
use Rattle.render.proofs.measure.sum_lengths.Given as goal

abbrev pub invariant-loop-words : goal.invariant-loop-words
invariant-loop-words l = record {
  size : l.words-iterator.size ≡ l.width;
  summing : Summing l.segment l.width l.count l.words-iterator.rest.now l.sum;
}
