-- The entry routine is determined by its contract: for the same file and the same lent room, two outcomes that its contract allows have
-- the same answer and leave the same bytes. The contract is the one that the checker reads off the routine, its `Post`; each part of it
-- is one equation, so the two are joined through its right side. Assumes nothing.
use mathlib.Core.Path.{◌≡◌, sym, ◌∙◌}
use Rattle.listing.proofs.listing.Reads as listing

pub listing_determined : (κs : _) (a : _) (r r' : _) (s s' : _) → listing.Post κs a r s → listing.Post κs a r' s'
    → (r ≡ r') × (s.1.0.now ≡ s'.1.0.now)
listing_determined κs a r r' s s' p q = (p.long ∙ sym q.long, p.text ∙ sym q.text)
