-- Each entry routine is determined by its contract: two outcomes that its contract allows for the same arguments have the same answer, and leave the
-- same memory. The contract is the one that the checker reads off the routine, its `Post`; each part of it is one equation, so the two are joined
-- through its right side. Assumes nothing.
use mathlib.Core.Path.{◌≡◌, sym, ◌∙◌}
use Rattle.pieces.proofs.reading.begin.Reads as begin
use Rattle.pieces.proofs.reading.feed.Reads as feed
use Rattle.pieces.proofs.reading.finish.Reads as finish
use Rattle.pieces.proofs.reading.answer_of.Reads as answer_of

pub begin_determined : (κs : _) (a : _) (r r' : _) (s s' : _) → begin.Post κs a r s → begin.Post κs a r' s' → r ≡ r'
begin_determined κs a r r' s s' p q = p ∙ sym q

pub feed_determined : (κs : _) (a : _) (r r' : _) (s s' : _) → feed.Post κs a r s → feed.Post κs a r' s' → (r ≡ r') × (s.1.1.0.now ≡ s'.1.1.0.now)
feed_determined κs a r r' s s' p q = (p.0 ∙ sym q.0, p.1 ∙ sym q.1)

pub finish_determined : (κs : _) (a : _) (r r' : _) (s s' : _) → finish.Post κs a r s → finish.Post κs a r' s' → r ≡ r'
finish_determined κs a r r' s s' p q = p ∙ sym q

pub answer_of_determined : (κs : _) (a : _) (r r' : _) (s s' : _) → answer_of.Post κs a r s → answer_of.Post κs a r' s' → r ≡ r'
answer_of_determined κs a r r' s s' p q = p ∙ sym q
