-- `load_words` meets its contract: the loop keeps that as many words as it has passed are loaded (laws `load_none`, `load_more`,
-- `load_all`).
use native.Mathlib.Omega.{arith}
use Rattle.listing.proofs.Loaded.{load_none, load_more, load_all}
use Rattle.listing.proofs.words.load_words.Goals as goal

pub loop-i-init : goal.loop-i-init
loop-i-init c =
    let a = c.args in
    load_none a.first a.file.now a.words.now (omega arith) (omega arith)

pub loop-i-preserved : goal.loop-i-preserved
loop-i-preserved c = load_more c.loop-i.invariant c.loop-i-test.true c.word_at.ensures.is

pub returns : goal.returns
returns c = load_all c.loop-i.invariant c.loop-i-test.false
