-- `volume_in` meets its contract: V is the word at byte 5.
use Rattle.meaning.specs.Listing.{volume_in}
use Rattle.listing.proofs.head.volume_in.Goals as goal

pub returns : goal.returns
unfolding volume_in
returns c = record { is = c.word_at.ensures.is; small = c.word_at.ensures.small }
