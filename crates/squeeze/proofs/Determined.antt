-- `squeeze` is determined by its contract: two outcomes that it allows for the same arguments have the same report, and leave the same words in
-- the directory and in the lent list. The contract is the one that the checker reads off the routine, its `Post`; each part of it is one
-- equation, so the two are joined through its right side.
use mathlib.Core.Path.{◌≡◌, sym, ◌∙◌, ap₂}
use Prim.Native.Nat.{ℕ}
use Rattle.squeeze.specs.declared.Report.{Report}
use Rattle.squeeze.proofs.squeeze.Reads as squeeze

one-report : (r r' : Report) → r.number ≡ r'.number → r.count ≡ r'.count → r ≡ r'
one-report r r' n c = ap₂ (λ (x y : ℕ). record { number = x; count = y }) n c

pub squeeze_determined : (κs : _) (a : _) (r r' : _) (s s' : _) → squeeze.Post κs a r s → squeeze.Post κs a r' s'
    → (r ≡ r') × (s.0.now ≡ s'.0.now) × (s.1.1.0.now ≡ s'.1.1.0.now)
squeeze_determined κs a r r' s s' p q = (
  one-report r r' (p.number ∙ sym q.number) (p.count ∙ sym q.count),
  p.after ∙ sym q.after,
  p.listed ∙ sym q.listed,
)
