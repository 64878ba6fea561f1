-- `plain_segment` meets its contract: header, words and marker written into zeros.
use native.Mathlib.Omega.{arith}
use Rattle.render.specs.Anew.{rendered_words}
use Rattle.render.proofs.Anew.{segment-written}
use Rattle.render.proofs.plain_segment.Goals as goal

pub returns : goal.returns
unfolding rendered_words
returns c =
    segment-written 512 (omega arith) c.put_words-start.ensures c.put_words-next.ensures
