-- Each entry routine is determined by its contract: two results that its contract allows for the same arguments are equal. The
-- contract is the one that the checker reads off the routine, its `Post`; each is one equation, so the two results are joined
-- through its right side. Assumes nothing.
use mathlib.Core.Path.{◌≡◌, sym, ◌∙◌}
use Rattle.dates.proofs.word_of_day.Reads as word-of-day
use Rattle.dates.proofs.day_of_word.Reads as day-of-word
use Rattle.dates.proofs.is_good_date.Reads as is-good-date

pub word_of_day_determined : (κs : _) (a : _) (r r' : _) (s s' : _) → word-of-day.Post κs a r s → word-of-day.Post κs a r' s' → r ≡ r'
word_of_day_determined κs a r r' s s' p q = p ∙ sym q

pub day_of_word_determined : (κs : _) (a : _) (r r' : _) (s s' : _) → day-of-word.Post κs a r s → day-of-word.Post κs a r' s' → r ≡ r'
day_of_word_determined κs a r r' s s' p q = p ∙ sym q

pub is-good-date_determined : (κs : _) (a : _) (r r' : _) (s s' : _) → is-good-date.Post κs a r s → is-good-date.Post κs a r' s' → r ≡ r'
is-good-date_determined κs a r r' s s' p q = p ∙ sym q
