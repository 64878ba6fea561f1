-- One segment of a sound directory, rendered again with its own header and other entries. If these are such as a segment can have and their
-- lengths add up to the same, the chain stays, the other segments stay, and the directory is sound if no key comes twice.
use Prim.Native.Nat.{ℕ, ◌*◌, ◌≤◌, ◌<◌}
use mathlib.Core.Path.{◌≡◌, refl, sym, ◌∙◌}
use mathlib.Core.Logic.{◌≢◌}
use mathlib.Core.Bool.{true}
use mathlib.Core.List.{List, [], ◌∷◌, ◌++◌, append-nil}
use native.Mathlib.Omega.{arith}
use native.Mathlib.Decide.{ℕ_discrete}
use lib.ListN.{length, get_or}
use Rattle.meaning.specs.Words.{segment, extra_bytes_of, first_of, highest, slot_words, Entry, entries, total, chain}
use Rattle.meaning.specs.Requests.{render}
use Rattle.meaning.specs.Enter.{with_segment, header_of}
use Rattle.meaning.specs.declared.Key.{Key}
use Rattle.meaning.specs.Keys.{holds, once}
use Rattle.rules.proofs.Rule5.{rule1-holds, rule2-holds}
use Rattle.rules.proofs.Soundness.{Sound}
use Rattle.walks.proofs.Words.{header, header-length, header_word, with_length, with_own, with_other}
use Rattle.walks.proofs.Flat.{render-length}
use Rattle.laws.proofs.Rendered.{Body, body, Written, written}
use Rattle.laws.proofs.Living.{Live, living, living_of, counted}
use Rattle.laws.proofs.Way.{shape_of, Stop, entries_in, Like}
use Rattle.laws.proofs.Anew.{stop-at, Change, Anew, anew}

-- a segment in use stands in the directory
pub used-within : (v : ℕ) (d : List ℕ) → Sound v d → (s : ℕ) → s ≤ highest d → 512 * s ≤ length d
used-within v d sd s h = omega (arith, h, (rule1-holds v d sd.size).whole, (rule2-holds d sd.header).within)

-- its entries
pub used-body : (v : ℕ) (d : List ℕ) → Sound v d → (s : ℕ) → 1 ≤ s → s ≤ highest d → Body (slot_words d) (entries d s)
unfolding entries
used-body v d sd s low high =
    body (slot_words d) d s low (used-within v d sd s high) (stop-at v d sd s low high).readable

pub record Rewritten (v : ℕ) (d : List ℕ) (s : ℕ) (out : List Entry) (D : List ℕ) : Type 0 where
  pub size : length D ≡ length d
  pub extra : extra_bytes_of D ≡ extra_bytes_of d
  pub highest : highest D ≡ highest d
  pub chain : chain D ≡ chain d
  pub own : entries D s ≡ out
  pub first : first_of (segment D s) ≡ first_of (segment d s)
  pub others : (z : ℕ) → 1 ≤ z → z ≢ s → entries D z ≡ entries d z
  pub before : List Live
  pub after : List Live
  pub living_was : living_of d ≡ before ++ (living (first_of (segment d s)) (entries d s) ++ after)
  pub living_is : living_of D ≡ before ++ (living (first_of (segment d s)) out ++ after)
  pub sound : ((k : Key) → once k ≡ true → counted (holds k) (living_of D) ≤ 1) → Sound v D

module _ (v : ℕ) (d : List ℕ) (sd : Sound v d) (s : ℕ) (low : 1 ≤ s) (high : s ≤ highest d) (out : List Entry)
    (bd : Body (slot_words d) out) (sum : total out ≡ total (entries d s)) where
  abbrev w : ℕ
  w = slot_words d

  abbrev g : List ℕ
  g = render (header_of d s) out

  abbrev D : List ℕ
  D = with_segment d s g

  inside : 512 * s ≤ length d
  inside = used-within v d sd s high

  wr : Written w (header_of d s) out g
  wr = written w (header_of d s) out (omega arith) (header-length d s low inside) bd

  own_is : segment D s ≡ g
  own_is = with_own d s g low inside (render-length (header_of d s) out)

  other_is : (z : ℕ) → 1 ≤ z → z ≢ s → segment D z ≡ segment d z
  other_is z l ne = with_other d s g low inside (render-length (header_of d s) out) z l ne

  size_is : length D ≡ length d
  size_is = with_length d s g low inside (render-length (header_of d s) out)

  word : (j : ℕ) → j < 5 → get_or (segment D s) j 0 ≡ get_or (segment d s) j 0
  word j l = rw own_is (wr.heads j l ∙ header_word d s j l)

  entries_in_lem : entries_in w D s ≡ out
  entries_in_lem = rw own_is wr.entries

  stop : Stop (shape_of d) d s (first_of (segment d s))
  stop = stop-at v d sd s low high

  top : highest D ≡ highest d
  top = sym (header D 1 2 (omega arith)) ∙ first (ℕ_discrete 1 s) ∙ header d 1 2 (omega arith)
    where
      first : Dec (1 ≡ s) → get_or (segment D 1) 2 0 ≡ get_or (segment d 1) 2 0
      first (yes e) = rw e (word 2 (omega arith))
      first (no e) = rw (other_is 1 (omega arith) e)

  change : Change d D s (highest d) (s ∷ [])
  change =
      record {
        low = low;
        high = high;
        size = size_is;
        more = omega arith;
        fits = (rule2-holds d sd.header).within;
        top = top;
        many = omega arith;
        others = λ z l h ne. same z (other_is z l ne);
        way = (
          refl,
          record {
            low = low;
            high = high;
            total = word 0 (omega arith) ∙ stop.total;
            extra = word 3 (omega arith) ∙ stop.extra;
            first = word 4 (omega arith);
            readable = rw own_is wr.readable;
          },
          (word 1 (omega arith), rw (entries_in_lem, sum)),
        );
      }
    where
      same : (z : ℕ) → segment D z ≡ segment d z → Like w d D z
      same z e = record { total = rw e; link = rw e; extra = rw e; first = rw e; slots = rw e }

  an : Anew v d D s (s ∷ [])
  an = anew v d D s (highest d) (s ∷ []) sd change

  pub rewritten : Rewritten v d s out (with_segment d s (render (header_of d s) out))
  unfolding entries
  rewritten =
      record {
        size = size_is;
        extra = an.extra;
        highest = top;
        chain = an.chain_is ∙ sym an.chain_was;
        own = rw an.extra entries_in_lem;
        first = word 4 (omega arith);
        others = λ z l ne. rw (an.extra, other_is z l ne);
        before = an.before;
        after = an.after;
        living_was = an.living_was;
        living_is = an.living_is ∙ (rw (append-nil (entries_in w D s), entries_in_lem));
        sound = an.sound;
      }
