-- `save` is determined by its contract: two outcomes that it allows for the same arguments have the same answer, and leave the same bytes in the
-- lent room. The contract is the one that the checker reads off the routine, its `Post`; each part of it is one equation, so the two are joined
-- through its right side. Assumes nothing.
use mathlib.Core.Path.{◌≡◌, sym, ◌∙◌}
use Rattle.loadwrite.proofs.saving.save.Reads as save

pub save_determined : (κs : _) (a : _) (r r' : _) (s s' : _) → save.Post κs a r s → save.Post κs a r' s'
    → (r ≡ r') × (s.1.1.1.1.0.now ≡ s'.1.1.1.1.0.now)
save_determined κs a r r' s s' p q = (p.0 ∙ sym q.0, p.1 ∙ sym q.1)
