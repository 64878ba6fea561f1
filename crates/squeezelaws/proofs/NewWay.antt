-- The way along the new directory. Each segment of the chain keeps its header but for the start, and is read back as it was written: its files and
-- what is left over. Where it ends, the next one starts; and the last one ends at V. So the new directory is sound if the old one is.
use Prim.Native.Nat.{ℕ, ◌+◌, ◌-◌, ◌≤◌, ◌<◌}
use mathlib.Core.Path.{◌≡◌, refl, sym, ap, ◌∙◌}
use mathlib.Core.Logic.{◌≢◌}
use mathlib.Core.Bool.{false}
use mathlib.Core.List.{List, [], ◌∷◌, ◌++◌}
use native.Mathlib.Nat.{add-zero}
use native.Mathlib.Omega.{arith}
use lib.ListN.{length, get_or, set, length-set}
use lib.Seq.{get_or-set_same, get_or-set_other}
use borrow.Author.Tests.{ltb-false}
use Rattle.bools.proofs.Bools.{neither}
use Rattle.meaning.specs.declared.Key.{Key}
use Rattle.meaning.specs.Words.{first_data, segment, total_of, link_of, extra_bytes_of, highest, slot_words, capacity, Entry}
use Rattle.meaning.specs.Words.{entries, total, chain, all_entries}
use Rattle.meaning.specs.Keys.{holds}
use Rattle.meaning.specs.Sound.{any, bad1}
use Rattle.meaning.specs.Requests.{render}
use Rattle.meaning.specs.Enter.{header_of}
use Rattle.walks.specs.Lists.{All}
use Rattle.walks.proofs.Lists.{chain_length}
use Rattle.walks.proofs.Linked.{once, Inside}
use Rattle.walks.proofs.Words.{header, header-length, header_word}
use Rattle.walks.proofs.Flat.{Wide}
use Rattle.rules.specs.Sound.{Rule2}
use Rattle.rules.proofs.Keys.{empty_holds, count, count-append}
use Rattle.rules.proofs.Rule5.{rule2-holds, rule2-tested}
use Rattle.rules.proofs.Soundness.{Sound, chain-within}
use Rattle.rules.proofs.Fine.{free, Fine}
use Rattle.laws.proofs.Rendered.{body, Written, written}
use Rattle.laws.proofs.Way.{shape_of, entries_in, spread, Stop, Way, all-spread, sound-way, way-blocks, way-chain, way-sound}
use Rattle.laws.proofs.Rewritten.{used-within}
use Rattle.squeezed.specs.Squeeze.{free_up_to, left_over, packed_entries, last_over, parts, new_parts, squeezed, overfull}
use Rattle.squeezed.proofs.Steps.{Gap, over}
use Rattle.squeezed.proofs.Along.{free-bounds}
use Rattle.squeezelaws.proofs.Packing.{over-total, packed-total, packed-wide, packed-fine, packed-count}
use Rattle.squeezelaws.proofs.Rewriting.{Within, segs, Own, Rewrote, rewritten-is}

-- a segment of the new directory, with t after its packed entries
pub record Fresh (d D : List ℕ) (x b p : ℕ) (t : List Entry) : Type 0 where
  pub stop : Stop (shape_of d) D x p
  pub link : link_of (segment D x) ≡ link_of (segment d x)
  pub entries : entries_in (slot_words d) D x ≡ packed_entries (slot_words d) b p (entries_in (slot_words d) d x) ++ t
  pub top : get_or (segment D x) 2 0 ≡ get_or (segment d x) 2 0

-- what stands last in a segment after which the segments xs come: nothing, or what is left over at the end
abbrev pub tail : ℕ → ℕ → List ℕ → ℕ → List Entry
tail v w xs q = last_over xs (left_over w q v)

pub tailed : (P : List Entry → Type 0) (v w : ℕ) (xs : List ℕ) (q : ℕ) → 7 ≤ w → q ≤ v
    → P [] → ((g : Entry) → Gap w (v - q) g → P (g ∷ [])) → P (tail v w xs q)
tailed P v w [] q l h a b = over P w q v l h (λ e. a) b
tailed P v w (x ∷ xs) q l h a b = a

-- along the chain: the old segments stand from block b on, the new ones from block p on
abbrev pub Freshly : ℕ → List ℕ → List ℕ → List ℕ → ℕ → ℕ → Type 0
Freshly v d D [] b p = Unit {0}
Freshly v d D (x ∷ xs) b p =
    Stop (shape_of d) d x b
    × (p ≤ b)
    × (free_up_to b p (entries_in (slot_words d) d x) ≤ v)
    × Fresh d D x b p (tail v (slot_words d) xs (free_up_to b p (entries_in (slot_words d) d x)))
    × Freshly v d D xs (b + total (entries_in (slot_words d) d x)) (free_up_to b p (entries_in (slot_words d) d x))

-- the first segment keeps the words that the whole directory is read by
record Headed (d D : List ℕ) (s : ℕ) : Type 0 where
  total : total_of (segment D s) ≡ total_of d
  extra : extra_bytes_of (segment D s) ≡ extra_bytes_of d
  highest : get_or (segment D s) 2 0 ≡ get_or (segment d s) 2 0

module _ (v : ℕ) (d : List ℕ) (sd : Sound v d) (D : List ℕ) where
  abbrev w : ℕ
  w = slot_words d

  wide_enough : 7 ≤ w
  wide_enough = omega arith

  fresh : (x b p : ℕ) (t : List Entry) → Stop (shape_of d) d x b → p ≤ b → Wide w t → Fine false t
      → length (packed_entries w b p (entries_in w d x) ++ t) ≤ capacity d
      → segment D x ≡ render (set (header_of d x) 4 p) (packed_entries w b p (entries_in w d x) ++ t)
      → Fresh d D x b p t
  unfolding capacity
  fresh x b p t y h wt ft room is =
      let inside = used-within v d sd x y.high in
      let old = body w d x y.low inside y.readable in
      let hl = header-length d x y.low inside in
      let hs = set (header_of d x) 4 p in
      let es = packed_entries w b p (entries_in w d x) ++ t in
      let some = old.room in
      let wr : Written w hs es (render hs es) =
      written w hs es wide_enough (length-set (header_of d x) 4 p ∙ hl)
      (record {
        fine = packed-fine w wide_enough (entries_in w d x) t b p h false old.fine ft;
        wide = packed-wide w wide_enough (entries_in w d x) t b p h old.wide wt;
        room = omega arith;
      }) in
      let word : (j : ℕ) → j < 5 → j ≢ 4 → get_or (segment D x) j 0 ≡ get_or (segment d x) j 0 =
      λ j l ne. rw is (wr.heads j l ∙ get_or-set_other (header_of d x) 4 j p 0 ne ∙ header_word d x j l) in
      record {
        stop =
            record {
              low = y.low;
              high = y.high;
              total = word 0 (omega arith) (λ e. omega arith) ∙ y.total;
              extra = word 3 (omega arith) (λ e. omega arith) ∙ y.extra;
              first = rw is (wr.heads 4 (omega arith) ∙ get_or-set_same (header_of d x) 4 p 0 (omega arith));
              readable = rw is wr.readable;
            };
        link = word 1 (omega arith) (λ e. omega arith);
        entries = rw is wr.entries;
        top = word 2 (omega arith) (λ e. omega arith);
      }

  freshly : (ss : List ℕ) (s b p : ℕ) → Way (shape_of d) d ss s b 0 v → p ≤ b → All (Own D d) (parts v d p ss)
      → overfull (capacity d) (parts v d p ss) ≡ false → Freshly v d D ss b p
  unfolding parts overfull any entries
  freshly [] s b p y h o f = tt
  freshly (x ∷ xs) s b p y h o f =
      let es = entries_in w d x in
      let u = rw y.1.first at o.0 in
      let n = neither _ _ (rw y.1.first at f) in
      let q = free_up_to b p es in
      let bounds = free-bounds es b p h in
      let whole = way-blocks (shape_of d) d xs _ _ 0 v y.2 in
      let small : q ≤ v = omega arith in (
        y.1,
        h,
        small,
        fresh x b p (tail v w xs q) y.1 h
            (tailed (Wide w) v w xs q wide_enough small tt (λ g z. (z.wide, tt)))
            (tailed (Fine false) v w xs q wide_enough small refl (λ g z. (free z.kind, rw z.kind)))
            (ltb-false _ _ n.0) u,
        freshly xs _ (b + total es) q y.2 bounds.1 (rw y.1.first at o.1) n.1,
      )

  new_way : (ss : List ℕ) (s b p : ℕ) → 1 ≤ length ss → Way (shape_of d) d ss s b 0 v → Freshly v d D ss b p → Way (shape_of d) D ss s p 0 v
  unfolding total
  new_way [] s b p l y f = absurd (omega arith)
  new_way (x ∷ []) s b p l y f =
      let es = entries_in w d x in
      let q = free_up_to b p es in
      let i = packed-total w wide_enough es (left_over w q v) b p f.1 in
      let j = over-total w q v wide_enough f.2 in
      (y.0, f.3.stop, (f.3.link ∙ y.2.0, rw f.3.entries (i ∙ j)))
  new_way (x ∷ z ∷ xs) s b p l y f =
      let es = entries_in w d x in
      let q = free_up_to b p es in
      let e : p + total (entries_in w D x) ≡ q = rw f.3.entries (packed-total w wide_enough es [] b p f.1 ∙ add-zero q) in
      (y.0, f.3.stop, rw (f.3.link, e) (new_way (z ∷ xs) _ (b + total es) q (omega arith) y.2 f.4))

  first_headed : (ss : List ℕ) (s b p : ℕ) → 1 ≤ length ss → Way (shape_of d) d ss s b 0 v → Freshly v d D ss b p → Headed d D s
  first_headed [] s b p l y f = absurd (omega arith)
  first_headed (x ∷ xs) s b p l y f =
      rw y.0 (record { total = f.3.stop.total; extra = f.3.stop.extra; highest = f.3.top })

  new_count : (k : Key) (ss : List ℕ) (b p : ℕ) → Freshly v d D ss b p → count (holds k) (spread w D ss) ≤ count (holds k) (spread w d ss)
  unfolding count
  new_count k [] b p f = omega arith
  new_count k (x ∷ xs) b p f =
      let es = entries_in w d x in
      let q = free_up_to b p es in
      let i = new_count k xs _ _ f.4 in
      let c = packed-count w wide_enough es (tail v w xs q) b p f.1 k in
      let t = tailed (λ l. count (holds k) l ≡ 0) v w xs q wide_enough f.2 refl (λ g z. rw (empty_holds k g z.kind)) in
      let a = count-append (holds k) (packed_entries w b p es ++ tail v w xs q) (spread w D xs) in
      let o = count-append (holds k) es (spread w d xs) in
      rw f.3.entries (omega arith)

-- the segments of the parts are those of the chain
parts-segs : (v : ℕ) (d : List ℕ) (ss : List ℕ) (p : ℕ) → segs (parts v d p ss) ≡ ss
unfolding parts
parts-segs v d [] p = refl
parts-segs v d (s ∷ ss) p = ap {B = List ℕ} (λ l. s ∷ l) (parts-segs v d ss _)

pub parts-inside : (v : ℕ) (d : List ℕ) (ss : List ℕ) (p : ℕ) → All (Inside (length d)) ss → All (Within d) (parts v d p ss)
unfolding parts
parts-inside v d [] p a = tt
parts-inside v d (s ∷ ss) p a = (a.0, parts-inside v d ss _ a.1)

-- the chain has H segments, and so at least one
pub chain-many : (d : List ℕ) → length (chain d) ≡ highest d
unfolding chain
chain-many d = chain_length (highest d) d 1

pub chain-some : (v : ℕ) (d : List ℕ) → Sound v d → 1 ≤ length (chain d)
chain-some v d sd = omega (arith, chain-many d, (rule2-holds d sd.header).used)

-- the new directory
module _ (v : ℕ) (d : List ℕ) (sd : Sound v d) (room : overfull (capacity d) (new_parts v d) ≡ false) where
  abbrev E : List ℕ
  E = squeezed v d

  pub rewrote : Rewrote d (new_parts v d) (squeezed v d)
  unfolding squeezed new_parts chain
  rewrote =
      rewritten-is (new_parts v d) d
      (parts-inside v d (chain d) (first_data d) (chain-within v d sd))
      (λ k. rw (parts-segs v d (chain d) (first_data d)) (once d k (highest d) 1 sd.links))

  pub along : Freshly v d (squeezed v d) (chain d) (first_data d) (first_data d)
  unfolding new_parts
  along = freshly v d sd E (chain d) 1 (first_data d) (first_data d) (sound-way v d sd) (omega arith) rewrote.own room

  h2 : Rule2 d
  h2 = rule2-holds d sd.header

  way_then : Way (shape_of d) (squeezed v d) (chain d) 1 (first_data d) 0 v
  way_then = new_way v d sd E (chain d) 1 (first_data d) (first_data d) (chain-some v d sd) (sound-way v d sd) along

  heads : Headed d E 1
  heads =
      first_headed v d sd E (chain d) 1 (first_data d) (first_data d) (chain-some v d sd) (sound-way v d sd) along

  pub size-kept : length (squeezed v d) ≡ length d
  size-kept = rewrote.size

  total_kept : total_of (squeezed v d) ≡ total_of d
  total_kept = sym (header E 1 0 (omega arith)) ∙ heads.total

  pub extra-kept : extra_bytes_of (squeezed v d) ≡ extra_bytes_of d
  extra-kept = sym (header E 1 3 (omega arith)) ∙ heads.extra

  pub highest-kept : highest (squeezed v d) ≡ highest d
  highest-kept = sym (header E 1 2 (omega arith)) ∙ heads.highest ∙ header d 1 2 (omega arith)

  own-way : Way (shape_of E) E (chain d) 1 (first_data E) 0 v
  own-way = rw (total_kept, extra-kept, highest-kept, size-kept) way_then

  pub chain-kept : chain (squeezed v d) ≡ chain d
  chain-kept = way-chain v E (chain d) (chain-many d ∙ sym highest-kept) own-way

  pub entries_then : all_entries (squeezed v d) ≡ spread (slot_words d) (squeezed v d) (chain d)
  entries_then = all-spread E ∙ (rw (extra-kept, chain-kept))

  squeezed-keys : (k : Key) → count (holds k) (all_entries (squeezed v d)) ≤ count (holds k) (all_entries d)
  squeezed-keys k =
      rw (entries_then, all-spread d) (new_count v d sd E k (chain d) (first_data d) (first_data d) along)

  pub squeezed-sound : Sound v (squeezed v d)
  unfolding bad1
  squeezed-sound =
      way-sound v E (chain d) (chain-many d ∙ sym highest-kept) own-way (rw size-kept sd.size)
      (rule2-tested E
      (record {
        total = rw (total_kept, size-kept) h2.total;
        used = rw highest-kept h2.used;
        within = rw (highest-kept, size-kept) h2.within;
        even = rw extra-kept h2.even;
        few = rw extra-kept h2.few;
      }))
      (λ k o. let a = squeezed-keys k in let b = sd.keys k o in omega arith)
