-- The directory written anew in place and its moves listed, segment after segment. The loop keeps that the segments ahead are as they were, and
-- that these, written anew from here on, give the squeezed directory. A segment that is written is not met again: from it more segments are
-- left.
use Prim.Native.Nat.{ℕ, zero, suc, ◌+◌, ◌*◌, ◌-◌, ◌≤◌, ◌<◌}
use mathlib.Core.Path.{◌≡◌, refl, sym, ap, ◌∙◌}
use mathlib.Core.Bool.{true, false}
use mathlib.Core.List.{List, ◌∷◌, ◌++◌}
use native.Mathlib.Omega.{arith}
use lib.ListN.{length, get_or, drop, set}
use borrow.Author.Tests.{eq-eqb, ne_eqb, ltb-false}
use borrow.Rule.Slice.PartMut.{put_mid}
use Rattle.bools.proofs.Bools.{neither}
use Rattle.meaning.specs.Words.{first_data, segment, link_of, first_of, highest, slot_words, capacity, slots, upto, entries, total, chain_from, chain}
use Rattle.meaning.specs.Sound.{any}
use Rattle.meaning.specs.Requests.{render}
use Rattle.meaning.specs.Enter.{with_segment, header_of}
use Rattle.walks.specs.Links.{linked}
use Rattle.walks.proofs.Linked.{visit, left_is}
use Rattle.walks.proofs.Words.{header, with_length, with_other}
use Rattle.walks.proofs.Flat.{render-length}
use Rattle.rules.proofs.Rule5.{rule1-holds}
use Rattle.rules.proofs.Soundness.{Sound}
use Rattle.laws.proofs.Way.{entries_in}
use Rattle.segment.proofs.Ahead.{some-slot}
use Rattle.chain.proofs.Links.{part-is, link_at}
use Rattle.chain.proofs.Replaced.{part_of, part-put}
use Rattle.segment.specs.Written.{Written}
use Rattle.squeezed.specs.Squeeze.{free_up_to, moves, left_over, packed_entries, last_over, parts, new_parts, rewritten, squeezed, overfull, move_words}
use Rattle.tally.specs.Walks.{next_free}
use Rattle.packing.specs.Anew.{last_block, new_entries, moves_in, Packable, PackedTo}
use Rattle.packing.proofs.Listing.{Listing, lists, list-room, lists_on, listed-all}
use Rattle.tally.proofs.Onward.{Within, Onward, Here, onward, here, within}

-- the directory d₀ has become d and the list list₀ has become list; left segments are ahead, the next of them s
pub record Renewing (v : ℕ) (d₀ list₀ d : List ℕ) (left s p : ℕ) (list : List ℕ) (at : ℕ) : Type 0 where
  pub block : ℕ
  pub on : Onward v d₀ left s block p
  pub place : Within d₀ left s
  pub long : length d ≡ length d₀
  pub links : linked left d₀ s ≡ true
  pub same : (m z : ℕ) → m ≤ left → linked m d₀ z ≡ true → 1 ≤ m → segment d z ≡ segment d₀ z
  pub fits : overfull (capacity d₀) (parts v d₀ p (chain_from left d₀ s)) ≡ false
  pub words : rewritten d (parts v d₀ p (chain_from left d₀ s)) ≡ squeezed v d₀
  pub moves : Listing d₀ list₀ (chain_from left d₀ s) block p list at

pub renews : {v : ℕ} {d : List ℕ} (list : List ℕ) → Sound v d → overfull (capacity d) (new_parts v d) ≡ false
    → Renewing v d list d (highest d) 1 (first_data d) list 0
unfolding chain new_parts squeezed
renews {v} {d} list sd room =
    record {
      block = first_data d;
      on = onward sd;
      place = within sd (onward sd);
      long = refl;
      links = sd.links;
      same = λ m z l h o. refl;
      fits = room;
      words = refl;
      moves = lists d list;
    }

-- what is left over last, by how many segments are left
last-is : (w n q v : ℕ) (d : List ℕ) (z : ℕ) → last_over (chain_from n d z) (left_over w q v) ≡ left_over w q (last_block (suc n) q v)
unfolding chain_from left_over
last-is w zero q v d z = refl
last-is w (suc n) q v d z = rw (ne_eqb (suc (suc n)) 1 (λ e. omega arith), eq-eqb q q refl) refl

module _ {v : ℕ} {d₀ : List ℕ} (sd : Sound v d₀) (list₀ : List ℕ) where
  module _ (n : ℕ) {d : List ℕ} {s p : ℕ} {list : List ℕ} {at : ℕ} (i : Renewing v d₀ list₀ d (suc n) s p list at) where
    abbrev g₀ : List ℕ
    g₀ = segment d₀ s

    at_hand : Here v d₀ (suc n) s i.block p
    at_hand = here sd (omega arith) i.on

    own : segment d s ≡ segment d₀ s
    own = i.same (suc n) s (omega arith) i.links (omega arith)

    -- the entries of the part are those that code makes
    entries-are : packed_entries (slot_words d₀) (first_of g₀) p (entries d₀ s)
        ++ last_over (chain_from n d₀ (link_of g₀)) (left_over (slot_words d₀) (free_up_to (first_of g₀) p (entries d₀ s)) v)
        ≡ new_entries v (slot_words d₀) (suc n) p g₀
    unfolding new_entries entries
    entries-are =
        ap (λ (l : List (List ℕ)). packed_entries (slot_words d₀) (first_of g₀) p (upto (slots (slot_words d₀) g₀)) ++ l)
        (last-is (slot_words d₀) n (next_free (slot_words d₀) p g₀) v d₀ (link_of g₀))

    room : (length (new_entries v (slot_words d₀) (suc n) p g₀) ≤ capacity d₀)
        × (overfull (capacity d₀) (parts v d₀ (next_free (slot_words d₀) p g₀) (chain_from n d₀ (link_of g₀))) ≡ false)
    unfolding chain_from parts overfull any entries
    room =
        let a = neither _ _ i.fits in
        (rw (← entries-are) (ltb-false _ _ a.0), a.1)

    ready : Packable v (slot_words d₀) (suc n) p g₀
    unfolding capacity
    ready =
        let k = at_hand.walk in
        record {
          walk = k;
          high = at_hand.end;
          small = (rule1-holds v d₀ sd.size).wide;
          fits = omega (arith, room.0, some-slot (slot_words d₀) k.wide k.narrow);
        }

    whole : 512 * s ≤ length d
    whole = rw i.long at_hand.inside

    -- the moves of this segment, and of those after it
    moves_here : Listing d₀ list₀ (s ∷ chain_from n d₀ (link_of g₀)) (first_of g₀) p list at
    unfolding chain_from
    moves_here = rw at_hand.first i.moves

    list_ready : length (move_words (moves d₀)) ≤ length list₀ → at + length (moves_in (slot_words d₀) p g₀) ≤ length list
    list_ready h = list-room moves_here h

    -- with the segment written anew
    module _ {g : List ℕ} {r : ℕ} (t : PackedTo v (slot_words d₀) (suc n) p (segment d s) g r) where
      made : g ≡ render (set (header_of d s) 4 p) (new_entries v (slot_words d₀) (suc n) p g₀)
      unfolding header_of
      made = rw (← own) t.words

      long_made : length g ≡ 512
      long_made = ap length made ∙ render-length (set (header_of d s) 4 p) (new_entries v (slot_words d₀) (suc n) p g₀)

      free-made : r ≡ next_free (slot_words d₀) p g₀
      free-made = rw (← own) t.free

      words_then : rewritten (with_segment d s g) (parts v d₀ r (chain_from n d₀ (link_of g₀))) ≡ squeezed v d₀
      unfolding chain_from parts rewritten entries
      words_then = rw (made, free-made, ← entries-are) i.words

      same_then : (m z : ℕ) → m ≤ n → linked m d₀ z ≡ true → 1 ≤ m → segment (with_segment d s g) z ≡ segment d₀ z
      same_then m z l h o =
          with_other d s g at_hand.low whole long_made z (low_of m z o h)
          (λ e. omega (arith, left_is m (suc n) d₀ s (rw e at h) i.links))
          ∙ i.same m z (omega arith) h o
        where
          low_of : (m z : ℕ) → 1 ≤ m → linked m d₀ z ≡ true → 1 ≤ z
          low_of zero z o h = absurd (omega arith)
          low_of (suc m) z o h = (visit m d₀ z h).low

      renewed : {after : List ℕ} {z : ℕ} → Written list at (moves_in (slot_words d₀) p (segment d s)) after z
          → Renewing v d₀ list₀ (with_segment d s g) n (link_of g₀) r after z
      renewed {after} {z} u =
          let k : suc n - 1 ≡ n = omega arith in
          let e : link_at d₀ s ≡ link_of g₀ = sym (header d₀ s 1 (omega arith)) in
          let first = at_hand.first in
          let on = rw (k, e) at at_hand.rest in
          record {
            block = i.block + total (entries_in (slot_words d₀) d₀ s);
            on = rw free-made on;
            place = within sd on;
            long = with_length d s g at_hand.low whole long_made ∙ i.long;
            links = (visit n d₀ s i.links).rest;
            same = same_then;
            fits = rw free-made room.1;
            words = words_then;
            moves = rw (free-made, ← first) (lists_on moves_here (rw own at u));
          }

  -- as code counts the segments ahead
  module _ {left : ℕ} {d : List ℕ} {s p : ℕ} {list : List ℕ} {at : ℕ} where
    pub packable : 0 < left → Renewing v d₀ list₀ d left s p list at → length (move_words (moves d₀)) ≤ length list₀
        → Packable v (slot_words d₀) left p (part_of d s) × (at + length (moves_in (slot_words d₀) p (part_of d s)) ≤ length list)
    packable h i room = go left h i
      where
        go : (m : ℕ) → 0 < m → Renewing v d₀ list₀ d m s p list at
            → Packable v (slot_words d₀) m p (part_of d s) × (at + length (moves_in (slot_words d₀) p (part_of d s)) ≤ length list)
        go zero h i = absurd (omega arith)
        go (suc n) h i = rw (part-is d s, own n i) (ready n i, list_ready n i room)

    pub renews_on : 0 < left → Renewing v d₀ list₀ d left s p list at → {g : List ℕ} {r : ℕ} {after : List ℕ} {z : ℕ}
        → PackedTo v (slot_words d₀) left p (part_of d s) g r × Written list at (moves_in (slot_words d₀) p (part_of d s)) after z
        → Renewing v d₀ list₀ (put_mid (512 * (s - 1)) (512 * (s - 1) + 512 - 512 * (s - 1)) d g) (left - 1) (get_or d (512 * (s - 1) + 1) 0) r after z
    renews_on h i {g} {r} {after} {z} t = go left h i t
      where
        go : (m : ℕ) → 0 < m → Renewing v d₀ list₀ d m s p list at
            → PackedTo v (slot_words d₀) m p (part_of d s) g r × Written list at (moves_in (slot_words d₀) p (part_of d s)) after z
            → Renewing v d₀ list₀ (put_mid (512 * (s - 1)) (512 * (s - 1) + 512 - 512 * (s - 1)) d g) (m - 1) (get_or d (512 * (s - 1) + 1) 0) r after z
        go zero h i t = absurd (omega arith)
        go (suc n) h i t =
            let k : suc n - 1 ≡ n = omega arith in
            let e : get_or d (512 * (s - 1) + 1) 0 ≡ link_of (segment d₀ s) = sym (header d s 1 (omega arith)) ∙ ap link_of (own n i) in
            rw (k, e, part-put d g s (at_hand n i).low) (renewed n i (rw (part-is d s) at t.0) (rw (part-is d s) at t.1))

    pub renewed_all : left ≤ 0 → Renewing v d₀ list₀ d left s p list at
        → (d ≡ squeezed v d₀) × (list ≡ move_words (moves d₀) ++ drop (length (move_words (moves d₀))) list₀)
    unfolding chain_from parts rewritten
    renewed_all h i = go left h i
      where
        go : (m : ℕ) → m ≤ 0 → Renewing v d₀ list₀ d m s p list at
            → (d ≡ squeezed v d₀) × (list ≡ move_words (moves d₀) ++ drop (length (move_words (moves d₀))) list₀)
        go zero h i = (i.words, listed-all i.moves)
        go (suc n) h i = absurd (omega arith)
