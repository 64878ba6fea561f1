-- The tidy of the directory in place, segment after segment. Each step replaces one segment by its tidied words, which keeps
-- every header and every other segment; so the chain is followed as it was. Each of 1..H comes once in it, so in the end each has
-- its entries tidied once, and the others are as they were. Assumes nothing.
use Prim.Native.Nat.{ℕ, suc, ◌*◌, ◌≤◌, ◌<◌}
use native.Mathlib.Decide.{ℕ_discrete}
use native.Mathlib.Omega.{arith}
use mathlib.Core.Path.{◌≡◌, refl, sym, ap, ◌∙◌}
use mathlib.Core.Bool.{Bool, true, false, cond}
use mathlib.Core.List.{List, [], ◌∷◌}
use lib.ListN.{length, get_or}
use borrow.Author.Tests.{eq-eqb, ne_eqb}
use Rattle.meaning.specs.Words.{segment, slot_words, entries, chain}
use Rattle.meaning.specs.Sound.{times}
use Rattle.meaning.specs.Requests.{render}
use Rattle.meaning.specs.Enter.{tidy, untidy, with_segment, header_of, tidied_at, tidied}
use Rattle.chain.specs.Chained.{Chained}
use Rattle.tidy.specs.Tidied.{tidied_words, TidyKept}
use Rattle.tidy.proofs.Anew.{words-length, words-header, words-entries}
use Rattle.walks.proofs.Words.{segment-length, with_self, with_length, with_own, with_other}
use Rattle.tidy.proofs.Headers.{Framed, framed_self, framed_on, slots_kept, links-kept, chained-kept}
use Rattle.walks.proofs.Linked.{used-once, unused_never, Inside, chain-inside}
use Rattle.walks.specs.Lists.{All}

entries-kept : (d t : List ℕ) (s : ℕ) → Framed d t → segment t s ≡ segment d s → entries t s ≡ entries d s
unfolding entries
entries-kept d t s f e = rw (slots_kept d t f, e)

-- one segment
module _ (d : List ℕ) (s : ℕ) (low : 1 ≤ s) (whole : 512 * s ≤ length d) where
  pub tidied-words : tidied_at d s ≡ with_segment d s (tidied_words (slot_words d) (segment d s))
  unfolding tidied_at tidied_words entries header_of
  tidied-words = go (untidy (entries d s))
    where
      go : (x : Bool)
          → cond x (with_segment d s (render (header_of d s) (tidy (entries d s)))) d
          ≡ with_segment d s (cond x (render (header_of d s) (tidy (entries d s))) (segment d s))
      go true = refl
      go false = sym (with_self d s low)

  long : length (segment d s) ≡ 512
  long = segment-length d s low whole

  words_long : length (tidied_words (slot_words d) (segment d s)) ≡ 512
  words_long = words-length (slot_words d) (segment d s) long (omega arith)

  at_length : length (tidied_at d s) ≡ length d
  at_length = ap length tidied-words ∙ with_length d s (tidied_words (slot_words d) (segment d s)) low whole words_long

  at_own : segment (tidied_at d s) s ≡ tidied_words (slot_words d) (segment d s)
  at_own =
      ap (λ (l : List ℕ). segment l s) tidied-words
      ∙ with_own d s (tidied_words (slot_words d) (segment d s)) low whole words_long

  at_other : (x : ℕ) → 1 ≤ x → (x ≡ s → ⊥) → segment (tidied_at d s) x ≡ segment d x
  at_other x l f =
      ap (λ (l : List ℕ). segment l x) tidied-words
      ∙ with_other d s (tidied_words (slot_words d) (segment d s)) low whole words_long x l f

  by_number : (x k : ℕ) → 1 ≤ x → k < 5 → Dec (x ≡ s) → get_or (segment (tidied_at d s) x) k 0 ≡ get_or (segment d x) k 0
  by_number x k l h (yes e) =
      rw (e, at_own) (words-header (slot_words d) (segment d s) long (omega arith) k h)
  by_number x k l h (no f) = ap (λ (g : List ℕ). get_or g k 0) (at_other x l f)

  pub at_framed : Framed d (tidied_at d s)
  at_framed = record { long = at_length; headers = λ x k l h. by_number x k l h (ℕ_discrete x s) }

  pub at-entries : entries (tidied_at d s) s ≡ tidy (entries d s)
  unfolding entries
  at-entries =
      rw (slots_kept d (tidied_at d s) at_framed, at_own) (words-entries (slot_words d) (segment d s) long (omega arith))

  pub at_others : (x : ℕ) → 1 ≤ x → (x ≡ s → ⊥) → entries (tidied_at d s) x ≡ entries d x
  at_others x l f = entries-kept d (tidied_at d s) x at_framed (at_other x l f)

-- several segments
within_on : (d : List ℕ) (s : ℕ) (ss : List ℕ) → All (Inside (length d)) (s ∷ ss) → All (Inside (length (tidied_at d s))) ss
within_on d s ss h = rw (at_framed d s h.0.0 h.0.1).long h.1

all_framed : (ss d : List ℕ) → All (Inside (length d)) ss → Framed d (tidied d ss)
unfolding tidied
all_framed [] d h = framed_self d
all_framed (s ∷ ss) d h =
    framed_on d (tidied_at d s) (tidied (tidied_at d s) ss) (at_framed d s h.0.0 h.0.1)
    (all_framed ss (tidied_at d s) (within_on d s ss h))

all_other : (ss d : List ℕ) (x : ℕ) → All (Inside (length d)) ss → 1 ≤ x → times x ss ≡ 0 → segment (tidied d ss) x ≡ segment d x
unfolding tidied times
all_other [] d x h l f = refl
all_other (s ∷ ss) d x h l f = go (ℕ_discrete s x) (all_other ss (tidied_at d s) x (within_on d s ss h) l)
  where
    go : Dec (s ≡ x)
        → (times x ss ≡ 0 → segment (tidied (tidied_at d s) ss) x ≡ segment (tidied_at d s) x)
        → segment (tidied (tidied_at d s) ss) x ≡ segment d x
    go (yes e) i = let o : suc (times x ss) ≡ 0 = rw (eq-eqb s x e) at f in absurd (omega arith)
    go (no e) i = i (rw (ne_eqb s x e) at f) ∙ at_other d s h.0.0 h.0.1 x l (λ q. e (sym q))

all-entries : (ss d : List ℕ) (x : ℕ) → All (Inside (length d)) ss → 1 ≤ x → times x ss ≡ 1
    → entries (tidied d ss) x ≡ tidy (entries d x)
unfolding tidied times
all-entries [] d x h l f = absurd (omega arith)
all-entries (s ∷ ss) d x h l f = go (ℕ_discrete s x) (all-entries ss (tidied_at d s) x (within_on d s ss h) l)
  where
    go : Dec (s ≡ x)
        → (times x ss ≡ 1 → entries (tidied (tidied_at d s) ss) x ≡ tidy (entries (tidied_at d s) x))
        → entries (tidied (tidied_at d s) ss) x ≡ tidy (entries d x)
    go (yes e) i =
        let o : suc (times x ss) ≡ 1 = rw (eq-eqb s x e) at f in
        let w = within_on d s ss h in
        entries-kept (tidied_at d s) (tidied (tidied_at d s) ss) x (all_framed ss (tidied_at d s) w)
        (all_other ss (tidied_at d s) x w l (omega arith))
        ∙ rw (sym e) (at-entries d s h.0.0 h.0.1)
    go (no e) i = i (rw (ne_eqb s x e) at f) ∙ rw (at_others d s h.0.0 h.0.1 x l (λ q. e (sym q)))

pub tidied-kept : (d : List ℕ) → Chained d → TidyKept d (tidied d (chain d))
tidied-kept d c = record {
  long = framed.long;
  headers = framed.headers;
  chained = chained-kept d (tidied d (chain d)) framed c;
  links = links-kept d (tidied d (chain d)) framed c;
  used = λ s l h. all-entries (chain d) d s inside l (used-once d c.links s l h);
  unused = λ s l. all_other (chain d) d s inside (omega arith) (unused_never d c.links s l);
}
  where
    inside : All (Inside (length d)) (chain d)
    inside = chain-inside d c.whole c.links

    framed : Framed d (tidied d (chain d))
    framed = all_framed (chain d) d inside
