-- Each entry routine is determined by its contract: for the same arguments, two outcomes that its contract allows have the same answer
-- and the same words. The contract is the one that the checker reads off the routine, its `Post`; each is one equation, or one for the
-- answer and one for the words, so the two are joined through its right side.
use Prim.Native.Nat.{ℕ}
use mathlib.Core.Path.{◌≡◌, sym, ◌∙◌}
use mathlib.Core.List.{List}
use Rattle.meaning.specs.declared.Answer.{Answer}
use Rattle.meaning.specs.Answers.{Outcome, Meets}
use Rattle.requests.proofs.delete.Reads as delete
use Rattle.requests.proofs.rename.Reads as rename
use Rattle.requests.proofs.protect.Reads as protect
use Rattle.requests.proofs.unprotect.Reads as unprotect
use Rattle.requests.proofs.abandon.Reads as abandon
use Rattle.requests.proofs.close.Reads as close
use Rattle.requests.proofs.enter.Reads as enter

one-outcome : (r r' : Answer) (w w' : List ℕ) (o : Outcome) → Meets r w o → Meets r' w' o → (r ≡ r') × (w ≡ w')
one-outcome r r' w w' o p q = (p.answer ∙ sym q.answer, p.words ∙ sym q.words)

pub delete_determined : (κs : _) (a : _) (r r' : _) (s s' : _) → delete.Post κs a r s → delete.Post κs a r' s'
    → (r ≡ r') × (s.0.now ≡ s'.0.now)
delete_determined κs a r r' s s' p q = one-outcome r r' _ _ _ p q

pub rename_determined : (κs : _) (a : _) (r r' : _) (s s' : _) → rename.Post κs a r s → rename.Post κs a r' s'
    → (r ≡ r') × (s.0.now ≡ s'.0.now)
rename_determined κs a r r' s s' p q = one-outcome r r' _ _ _ p q

pub protect_determined : (κs : _) (a : _) (r r' : _) (s s' : _) → protect.Post κs a r s → protect.Post κs a r' s'
    → (r ≡ r') × (s.0.now ≡ s'.0.now)
protect_determined κs a r r' s s' p q = one-outcome r r' _ _ _ p q

pub unprotect_determined : (κs : _) (a : _) (r r' : _) (s s' : _) → unprotect.Post κs a r s → unprotect.Post κs a r' s'
    → (r ≡ r') × (s.0.now ≡ s'.0.now)
unprotect_determined κs a r r' s s' p q = one-outcome r r' _ _ _ p q

pub abandon_determined : (κs : _) (a : _) (r r' : _) (s s' : _) → abandon.Post κs a r s → abandon.Post κs a r' s'
    → (r ≡ r') × (s.0.now ≡ s'.0.now)
abandon_determined κs a r r' s s' p q = one-outcome r r' _ _ _ p q

pub close_determined : (κs : _) (a : _) (r r' : _) (s s' : _) → close.Post κs a r s → close.Post κs a r' s'
    → (r ≡ r') × (s.0.now ≡ s'.0.now)
close_determined κs a r r' s s' p q = one-outcome r r' _ _ _ p q

pub enter_determined : (κs : _) (a : _) (r r' : _) (s s' : _) → enter.Post κs a r s → enter.Post κs a r' s'
    → (r ≡ r') × (s.0.now ≡ s'.0.now)
enter_determined κs a r r' s s' p q = one-outcome r r' _ _ _ p q
