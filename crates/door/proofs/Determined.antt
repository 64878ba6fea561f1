-- Each entry routine is determined by its contract: for the same arguments, two outcomes that its contract allows have the same answer
-- and the same words. The contract is the one that the checker reads off the routine, its `Post`; each is one equation, or one for the
-- answer and one for the words, so the two are joined through its right side.
use Prim.Native.Nat.{ℕ}
use mathlib.Core.Path.{◌≡◌, sym, ◌∙◌}
use mathlib.Core.List.{List}
use Rattle.meaning.specs.declared.Answer.{Answer}
use Rattle.meaning.specs.Answers.{Outcome, Meets}
use Rattle.door.proofs.volume.fault.Reads as fault
use Rattle.door.proofs.lookup.Reads as lookup
use Rattle.door.proofs.volume.fresh.Reads as fresh
use Rattle.door.proofs.serve.Reads as serve

one-outcome : (r r' : Answer) (w w' : List ℕ) (o : Outcome) → Meets r w o → Meets r' w' o → (r ≡ r') × (w ≡ w')
one-outcome r r' w w' o p q = (p.answer ∙ sym q.answer, p.words ∙ sym q.words)

pub fault_determined : (κs : _) (a : _) (r r' : _) (s s' : _) → fault.Post κs a r s → fault.Post κs a r' s' → r ≡ r'
fault_determined κs a r r' s s' p q = p ∙ sym q

pub lookup_determined : (κs : _) (a : _) (r r' : _) (s s' : _) → lookup.Post κs a r s → lookup.Post κs a r' s' → r ≡ r'
lookup_determined κs a r r' s s' p q = p ∙ sym q

pub fresh_determined : (κs : _) (a : _) (r r' : _) (s s' : _) → fresh.Post κs a r s → fresh.Post κs a r' s'
    → (r ≡ r') × (s.0.now ≡ s'.0.now)
fresh_determined κs a r r' s s' p q = one-outcome r r' _ _ _ p q

pub serve_determined : (κs : _) (a : _) (r r' : _) (s s' : _) → serve.Post κs a r s → serve.Post κs a r' s'
    → (r ≡ r') × (s.0.now ≡ s'.0.now)
serve_determined κs a r r' s s' p q = one-outcome r r' _ _ _ p q
