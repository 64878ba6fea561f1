-- Each entry routine is determined by its contract: two outcomes that its contract allows for the same arguments have the same answer, and
-- leave the same memory. The contract is the one that the checker reads off the routine, its `Post`; each part of it is one equation, so the
-- two are joined through its right side. Assumes nothing.
use mathlib.Core.Path.{◌≡◌, sym, ◌∙◌}
use Rattle.loadread.proofs.check.Reads as check
use Rattle.loadread.proofs.load.Reads as load

pub check_determined : (κs : _) (a : _) (r r' : _) (s s' : _) → check.Post κs a r s → check.Post κs a r' s' → r ≡ r'
check_determined κs a r r' s s' p q = p ∙ sym q

pub load_determined : (κs : _) (a : _) (r r' : _) (s s' : _) → load.Post κs a r s → load.Post κs a r' s'
    → (r ≡ r') × (s.1.0.now ≡ s'.1.0.now)
load_determined κs a r r' s s' p q = (p.0 ∙ sym q.0, p.1 ∙ sym q.1)
