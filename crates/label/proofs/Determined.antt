-- Each entry routine is determined by its contract: two outcomes that its contract allows for the same arguments have the same answer, and
-- leave the same bytes. The contract is the one that the checker reads off the routine, its `Post`; each part of it is one equation, so the
-- two are joined through its right side. Assumes nothing.
use mathlib.Core.Path.{◌≡◌, sym, ◌∙◌}
use Rattle.label.proofs.read_label.Reads as read-label
use Rattle.label.proofs.write_label.Reads as write-label

pub read-label_determined : (κs : _) (a : _) (r r' : _) (s s' : _) → read-label.Post κs a r s → read-label.Post κs a r' s' → r ≡ r'
read-label_determined κs a r r' s s' p q = p ∙ sym q

pub write-label_determined : (κs : _) (a : _) (r r' : _) (s s' : _) → write-label.Post κs a r s → write-label.Post κs a r' s'
    → (r ≡ r') × (s.0.now ≡ s'.0.now)
write-label_determined κs a r r' s s' p q = (p.0 ∙ sym q.0, p.1 ∙ sym q.1)
