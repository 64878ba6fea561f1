-- `measure` meets its contract. The loop's invariant is `Measuring`: what the segments still ahead give is what the chain gives.
use Rattle.chain.proofs.Measuring.{Measuring}
use Rattle.chain.proofs.measure.Given as goal

abbrev pub invariant-loop : goal.invariant-loop
invariant-loop l = Measuring l.v l.d l.counter l.segment l.block l.joined
