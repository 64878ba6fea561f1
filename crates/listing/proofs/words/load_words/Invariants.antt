-- `load_words` meets its contract: the loop keeps that as many words as it has passed are loaded (laws `load_none`, `load_more`,
-- `load_all`).
use Rattle.listing.proofs.Loaded.{Loading}
use Rattle.listing.proofs.words.load_words.Given as goal

abbrev pub invariant-loop-i : goal.invariant-loop-i
invariant-loop-i l = Loading l.first l.file l.initial.words l.words l.count l.i
