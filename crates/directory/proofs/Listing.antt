-- The list of the places of entries that have a key. A place written after n others is a place more at the end of the list. Each loop
-- keeps one equation: the places listed, and then those of the entries still ahead, are all; once for the slots of a segment, and once
-- for the segments of the chain. Assumes nothing.
use Prim.Native.Nat.{ℕ, suc, ◌+◌, ◌*◌, ◌-◌, ◌≤◌, ◌<◌}
use mathlib.Core.Path.{◌≡◌, refl, sym, ap, ◌∙◌}
use mathlib.Core.Bool.{Bool, true, false, cond}
use mathlib.Core.List.{List, [], ◌∷◌, ◌++◌, append_assoc, append-nil}
use native.Mathlib.Omega.{arith}
use native.Mathlib.Nat.{sub-zero, suc-mul}
use native.Mathlib.Numerals.{add-one}
use lib.ListN.{length, take, drop, set, length-set}
use lib.Seq.{take-suc-set}
use Rattle.meaning.specs.Words.{Entry, highest, segment, slot_words, slots, upto, entries, chain_from, chain}
use Rattle.walks.proofs.Words.{base}
use Rattle.walks.proofs.Slots.{entries-count, most-slots}
use Rattle.walks.proofs.Lists.{chain-over}
use Rattle.segment.proofs.Ahead.{slots-room}
use Rattle.chain.specs.Chained.{Chained}
use Rattle.chain.proofs.Links.{part-is, link_at, chain_next, Here, here-first, here-next, one-less}
use Rattle.directory.specs.Candidates.{has_key, places_of, places_in, Grown, AllListed}

-- one entry more, which has a key or not
module _ {ps : List ℕ} {n : ℕ} (w p : ℕ) (e : Entry) (long : length ps ≡ 2233) where
  pub listed-entry : n < 2232 → has_key e ≡ true → Grown ps n (set ps n p) (n + 1) 1 (places_of w p (e ∷ []))
  unfolding places_of
  listed-entry h c = record {
    long = length-set ps n p ∙ long;
    grown = omega arith;
    same = rw (c, add-one n) (take-suc-set ps n p (omega arith));
  }

  pub passed_entry : has_key e ≡ false → Grown ps n ps n 1 (places_of w p (e ∷ []))
  unfolding places_of
  passed_entry c = record { long = long; grown = omega arith; same = rw c (sym (append-nil (take n ps))) }

-- the places of an entry and of those after it
places-cons : (w p : ℕ) (e : Entry) (es : List Entry) → places_of w p (e ∷ es) ≡ places_of w p (e ∷ []) ++ places_of w (p + w) es
unfolding places_of
places-cons w p e es = go (has_key e)
  where
    go : (t : Bool)
        → cond t (p ∷ places_of w (p + w) es) (places_of w (p + w) es) ≡ cond t (p ∷ []) [] ++ places_of w (p + w) es
    go true = refl
    go false = refl

-- the loop over the entries of the segment g, which begins at word b of the directory: the entries es are ahead, from place p on; the
-- list ps₀ of n₀ places has become ps of n
pub record Slots (g : List ℕ) (b w : ℕ) (ps₀ : List ℕ) (n₀ : ℕ) (ps : List ℕ) (n : ℕ) (es : List Entry) (p : ℕ) : Type 0 where
  pub long : length ps ≡ 2233
  pub few : n + length es ≤ n₀ + 72
  pub room : p + length es * w ≤ b + 512
  pub same : take n ps ++ places_of w p es ≡ take n₀ ps₀ ++ places_of w (b + 5) (upto (slots w g))

pub slots-start : (g : List ℕ) (b w : ℕ) {ps : List ℕ} {n : ℕ} → 7 ≤ w → length ps ≡ 2233 → Slots g b w ps n ps n (upto (slots w g)) (b + 5)
slots-start g b w h l =
    let few = entries-count w g in
    record {
      long = l;
      few = omega (arith, few, most-slots w h);
      room = omega (arith, slots-room (length (upto (slots w g))) w few);
      same = refl;
    }

module _ {g : List ℕ} {b w : ℕ} {ps₀ : List ℕ} {n₀ : ℕ} {ps : List ℕ} {n : ℕ} {es : List Entry} {p : ℕ}
    (l : Slots g b w ps₀ n₀ ps n es p) where
  pub slots-done : es ≡ [] → Grown ps₀ n₀ ps n 72 (places_of w (b + 5) (upto (slots w g)))
  unfolding places_of
  slots-done e = record {
    long = l.long;
    grown = omega (arith, l.few);
    same = sym (append-nil (take n ps)) ∙ (rw e at l.same);
  }

  -- where the entry e is the next
  module _ {e : Entry} {others : List Entry} (next : es ≡ e ∷ others) where
    more : length es ≡ suc (length others)
    more = ap length next

    pub slot-room : (p + w ≤ b + 512) × (n < n₀ + 72)
    slot-room = (omega (arith, l.room, ap (λ (i : ℕ). i * w) more, suc-mul (length others) w), omega (arith, l.few, more))

    pub slots_next : {after : List ℕ} {r : ℕ} → Grown ps n after r 1 (places_of w p (e ∷ [])) → Slots g b w ps₀ n₀ after r others (p + w)
    slots_next t = record {
      long = t.long;
      few = omega (arith, l.few, t.grown, more);
      room = omega (arith, l.room, ap (λ (i : ℕ). i * w) more, suc-mul (length others) w);
      same = rw (t.same, append_assoc, ← places-cons w p e others) (rw next at l.same);
    }

-- the places of the chain's next segment, and of those after it
places-next : (n : ℕ) (d : List ℕ) (s : ℕ) → 0 < n
    → places_in d (chain_from n d s)
    ≡ places_of (slot_words d) (base s + 5) (upto (slots (slot_words d) (segment d s))) ++ places_in d (chain_from (n - 1) d (link_at d s))
unfolding places_in entries
places-next n d s h = rw (chain_next n d s h)

no-places : (n : ℕ) (d : List ℕ) (s : ℕ) → n ≤ 0 → places_in d (chain_from n d s) ≡ []
unfolding places_in
no-places n d s h = rw (chain-over n d s h)

-- the loop over the chain: k segments have passed, and s is next
pub record Segments (d ps : List ℕ) (n k s : ℕ) : Type 0 where
  pub long : length ps ≡ 2233
  pub here : Here d k s
  pub room : n ≤ 72 * k
  pub same : take n ps ++ places_in d (chain_from (highest d - k) d s) ≡ places_in d (chain d)

pub segments-start : {d ps : List ℕ} → Chained d → length ps ≡ 2233 → Segments d ps 0 0 1
unfolding chain
segments-start {d = d} c h = record { long = h; here = here-first c; room = omega arith; same = rw (sub-zero (highest d)) }

module _ {d ps : List ℕ} {n k s : ℕ} (g : Segments d ps n k s) (c : Chained d) where
  pub segments-done : k ≤ highest d → highest d ≤ k → AllListed d ps n
  segments-done i h = record {
    long = g.long;
    few = omega (arith, g.room, c.whole, c.few);
    same = sym (append-nil (take n ps)) ∙ (rw (no-places (highest d - k) d s (omega arith)) at g.same);
  }

  pub segments-next : k < highest d → {w : ℕ} {after : List ℕ} {r : ℕ} → w ≡ slot_words d
      → Grown ps n after r 72 (places_of w (base s + 5) (upto (slots w (take (base s + 512 - base s) (drop (base s) d)))))
      → Segments d after r (k + 1) (link_at d s)
  segments-next h e t = record {
    long = t.long;
    here = here-next c g.here h;
    room = omega (arith, t.grown, g.room);
    same = rw (one-less (highest d) k, t.same, e, part-is d s, append_assoc) (rw (places-next (highest d - k) d s (omega arith)) at g.same);
  }
