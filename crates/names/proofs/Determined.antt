-- Each entry routine is determined by its contract: two results that its contract allows for the same arguments are equal. The
-- contract is the one that the checker reads off the routine, its `Post`; each is one equation, so the two results are joined
-- through its right side. Assumes nothing.
use mathlib.Core.Path.{◌≡◌, sym, ◌∙◌}
use Rattle.names.proofs.radix.words_of_text.Reads as words-of-text
use Rattle.names.proofs.radix.text_of_words.Reads as text-of-words
use Rattle.names.proofs.radix.is_legal_name.Reads as is-legal-name
use Rattle.names.proofs.text.same_bytes.Reads as same_bytes

pub words_of_text_determined : (κs : _) (a : _) (r r' : _) (s s' : _) → words-of-text.Post κs a r s → words-of-text.Post κs a r' s' → r ≡ r'
words_of_text_determined κs a r r' s s' p q = p ∙ sym q

pub text_of_words_determined : (κs : _) (a : _) (r r' : _) (s s' : _) → text-of-words.Post κs a r s → text-of-words.Post κs a r' s' → r ≡ r'
text_of_words_determined κs a r r' s s' p q = p ∙ sym q

pub is-legal-name_determined : (κs : _) (a : _) (r r' : _) (s s' : _) → is-legal-name.Post κs a r s → is-legal-name.Post κs a r' s' → r ≡ r'
is-legal-name_determined κs a r r' s s' p q = p ∙ sym q

pub same-bytes_determined : (κs : _) (a : _) (r r' : _) (s s' : _) → same_bytes.Post κs a r s → same_bytes.Post κs a r' s' → r ≡ r'
same-bytes_determined κs a r r' s s' p q = p ∙ sym q
