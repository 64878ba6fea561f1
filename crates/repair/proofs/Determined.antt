-- `accept` and `repair` are determined by their contracts: two outcomes that a contract allows for the same arguments have the same number, and of
-- the tool leave the same words. The contract is the one that the checker reads off the routine, its `Post`.
use mathlib.Core.Path.{◌≡◌, sym, ◌∙◌}
use Rattle.repair.proofs.accept.Reads as accept
use Rattle.repair.proofs.repair.Reads as repair

pub accept_determined : (κs : _) (a : _) (r r' : _) (s s' : _) → accept.Post κs a r s → accept.Post κs a r' s' → r ≡ r'
accept_determined κs a r r' s s' p q = p ∙ sym q

pub repair_determined : (κs : _) (a : _) (r r' : _) (s s' : _) → repair.Post κs a r s → repair.Post κs a r' s'
    → (r ≡ r') × (s.0.now ≡ s'.0.now)
repair_determined κs a r r' s s' p q = (p.number ∙ sym q.number, p.words ∙ sym q.words)
