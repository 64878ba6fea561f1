-- `feed_pieces`: each turn reads on from where the one before it ended.
use Rattle.cases.specs.Runs.{Further}
use Rattle.loadcases.proofs.feeding.feed_pieces.Given as goal

abbrev pub invariant-loop : goal.invariant-loop
invariant-loop g l = Further g.R.Read.remaining l.initial.file l.file
