-- A directory in which one segment is written anew, or split in two. Rule 3 brings the chain to that segment once; so the way before it
-- and the way after it are as they were, and with the new way between them they are the way of the whole. The directory is sound if no
-- key comes twice; and its living entries are those before but for the ones of the segment.
use Prim.Native.Nat.{ℕ, suc, ◌+◌, ◌≤◌}
use mathlib.Core.Path.{◌≡◌, refl, sym, ap, ◌∙◌, subst}
use mathlib.Core.Logic.{◌≢◌}
use mathlib.Core.Bool.{Bool, true, false, cond}
use mathlib.Core.List.{List, [], ◌∷◌, ◌++◌, append_assoc}
use native.Mathlib.Omega.{arith}
use lib.ListN.{length, get_or, take, drop, length-append}
use lib.Seq.{split_at}
use lib.Dec.{eqb}
use borrow.Author.Tests.{eq-eqb}
use Rattle.meaning.specs.Words.{segments, first_data, segment, total_of, link_of, extra_bytes_of, first_of, highest, slot_words, Entry}
use Rattle.meaning.specs.Words.{entries, total, chain, all_entries}
use Rattle.meaning.specs.Sound.{bad1, bad2, bad3, times}
use Rattle.walks.proofs.Lists.{chain_length, chain-at}
use Rattle.walks.proofs.Linked.{bad3-walk}
use Rattle.meaning.specs.declared.Key.{Key}
use Rattle.meaning.specs.Keys.{holds, once}
use Rattle.rules.specs.Sound.{Rule2, VisitedOnce}
use Rattle.rules.proofs.Rule3.{reached-once, rule3-holds}
use Rattle.rules.proofs.Rule5.{rule2-holds, rule2-tested}
use Rattle.rules.proofs.Soundness.{Sound}
use Rattle.walks.proofs.Words.{header}
use Rattle.laws.proofs.Living.{Live, living, living_of, living-append, counted, count-living}
use Rattle.laws.proofs.Way.{Shape, shape_of, raised, spread, entries_in, Stop, Way, way-join, Cut, way_cut, way-blocks, Like, Along}
use Rattle.laws.proofs.Way.{way_along}
use Rattle.laws.proofs.Way.{all-spread, sound-way, way-chain, way-sound}

-- a segment that is in use is visited once
pub visited : (v : ℕ) (d : List ℕ) → Sound v d → (s : ℕ) → 1 ≤ s → s ≤ highest d → VisitedOnce d s
visited v d sd s a b =
    let h : bad3 d ≡ false = bad3-walk d ∙ (rw sd.links) in
    (rule3-holds d h).each s a b

pub visited_times : (d : List ℕ) (s : ℕ) → VisitedOnce d s → times s (chain d) ≡ 1
unfolding chain
visited_times d s o = reached-once d s (highest d) 1 o.at o.within o.there o.only

times-append : (k : ℕ) (xs ys : List ℕ) → times k (xs ++ ys) ≡ times k xs + times k ys
unfolding times
times-append k [] ys = omega arith
times-append k (x ∷ xs) ys = go (eqb x k) (times-append k xs ys)
  where
    go : (z : Bool) → times k (xs ++ ys) ≡ times k xs + times k ys
        → cond z (suc (times k (xs ++ ys))) (times k (xs ++ ys)) ≡ cond z (suc (times k xs)) (times k xs) + times k ys
    go true i = omega arith
    go false i = i

-- the chain about it: what comes before and after does not come to it
record Around (d : List ℕ) (s : ℕ) : Type 0 where
  front : List ℕ
  back : List ℕ
  are : chain d ≡ front ++ s ∷ back
  apart_front : times s front ≡ 0
  apart_back : times s back ≡ 0

around : (d : List ℕ) (s : ℕ) → VisitedOnce d s → Around d s
unfolding chain times
around d s o =
    record {
      front = take o.at (chain d);
      back = drop (suc o.at) (chain d);
      are = split;
      apart_front = omega (arith, counts);
      apart_back = omega (arith, counts);
    }
  where
    split : chain d ≡ take o.at (chain d) ++ s ∷ drop (suc o.at) (chain d)
    split =
        let l = o.within in
        let n = chain_length (highest d) d 1 in
        let e : get_or (chain d) o.at 0 ≡ s = chain-at (highest d) d 1 o.at l ∙ o.there in
        split_at (chain d) o.at 0 (omega arith) ∙ (rw e)

    counts : times s (take o.at (chain d)) + suc (times s (drop (suc o.at) (chain d))) ≡ 1
    counts =
        let t = times-append s (take o.at (chain d)) (s ∷ drop (suc o.at) (chain d)) in
        let u = visited_times d s o in
        let x : times s (take o.at (chain d) ++ s ∷ drop (suc o.at) (chain d)) ≡ 1 = subst (λ (l : List ℕ). times s l ≡ 1) split u in
        rw (eq-eqb s s refl) at (sym t ∙ x)

-- D is d with segment s replaced by the segments ms, and with H now h
pub record Change (d D : List ℕ) (s h : ℕ) (ms : List ℕ) : Type 0 where
  pub low : 1 ≤ s
  pub high : s ≤ highest d
  pub size : length D ≡ length d
  pub more : highest d ≤ h
  pub fits : h ≤ segments d
  pub top : highest D ≡ h
  pub many : length ms + highest d ≡ h + 1
  pub others : (z : ℕ) → 1 ≤ z → z ≤ highest d → z ≢ s → Like (slot_words d) d D z
  pub way : Way (raised (shape_of d) h) D ms s (first_of (segment d s)) (link_of (segment d s)) (first_of (segment d s) + total (entries d s))

-- what follows for the chain, the living entries and soundness
pub record Anew (v : ℕ) (d D : List ℕ) (s : ℕ) (ms : List ℕ) : Type 0 where
  pub extra : extra_bytes_of D ≡ extra_bytes_of d
  pub front : List ℕ
  pub back : List ℕ
  pub chain_was : chain d ≡ front ++ s ∷ back
  pub chain_is : chain D ≡ front ++ (ms ++ back)
  pub before : List Live
  pub after : List Live
  pub living_was : living_of d ≡ before ++ (living (first_of (segment d s)) (entries d s) ++ after)
  pub living_is : living_of D ≡ before ++ (living (first_of (segment d s)) (spread (slot_words d) D ms) ++ after)
  pub sound : ((k : Key) → once k ≡ true → counted (holds k) (living_of D) ≤ 1) → Sound v D

spread-append : (w : ℕ) (d xs ys : List ℕ) → spread w d (xs ++ ys) ≡ spread w d xs ++ spread w d ys
spread-append w d [] ys = refl
spread-append w d (x ∷ xs) ys = rw (spread-append w d xs ys) (sym (append_assoc (entries_in w d x) (spread w d xs) (spread w d ys)))

living-three : (b : ℕ) (xs ys zs : List Entry)
    → living b (xs ++ (ys ++ zs)) ≡ living b xs ++ (living (b + total xs) ys ++ living (b + total xs + total ys) zs)
living-three b xs ys zs = rw (living-append xs (ys ++ zs) b, living-append ys zs (b + total xs))

first-stop : (c : Shape) (d xs : List ℕ) (s b t e : ℕ) → 1 ≤ length xs → Way c d xs s b t e → Stop c d s b
first-stop c d [] s b t e l y = absurd (omega arith)
first-stop c d (x ∷ xs) s b t e l y = rw y.0 y.1

-- the way cut at segment s, and what is asked of that segment
cut_at : (v : ℕ) (d : List ℕ) → Sound v d → (s : ℕ) (o : Around d s) → Cut (shape_of d) d o.front (s ∷ o.back) 1 (first_data d) 0 v
cut_at v d sd s o =
    way_cut (shape_of d) d o.front (s ∷ o.back) 1 (first_data d) 0 v
    (subst (λ (l : List ℕ). Way (shape_of d) d l 1 (first_data d) 0 v) o.are (sound-way v d sd))

pub stop-at : (v : ℕ) (d : List ℕ) → Sound v d → (s : ℕ) → 1 ≤ s → s ≤ highest d → Stop (shape_of d) d s (first_of (segment d s))
stop-at v d sd s low high =
    let p = (cut_at v d sd s (around d s (visited v d sd s low high))).back.1 in
    record {
      low = low;
      high = high;
      total = p.total;
      extra = p.extra;
      first = refl;
      readable = p.readable;
    }

chain-long : (d : List ℕ) → length (chain d) ≡ highest d
unfolding chain
chain-long d = chain_length (highest d) d 1

module _ (v : ℕ) (d D : List ℕ) (s h : ℕ) (ms : List ℕ) (sd : Sound v d) (x : Change d D s h ms) where
  abbrev w : ℕ
  w = slot_words d

  abbrev b : ℕ
  b = first_of (segment d s)

  abbrev c : Shape
  c = shape_of d

  o : Around d s
  o = around d s (visited v d sd s x.low x.high)

  abbrev xs : List ℕ
  xs = o.front

  abbrev ys : List ℕ
  ys = o.back

  cut : Cut c d xs (s ∷ ys) 1 (first_data d) 0 v
  cut = cut_at v d sd s o

  to_is : cut.to ≡ s
  to_is = cut.back.0

  block-is : cut.block ≡ b
  block-is = sym cut.back.1.first

  first : Along c (raised c h) d D xs 1 (first_data d) cut.to cut.block
  first = way_along c h d D s x.more x.others xs 1 (first_data d) cut.to cut.block o.apart_front cut.front

  last : Along c (raised c h) d D ys (link_of (segment d s)) (cut.block + total (entries_in w d s)) 0 v
  last = way_along c h d D s x.more x.others ys _ _ 0 v o.apart_back cut.back.2

  -- the way of the whole
  abbrev ss : List ℕ
  ss = xs ++ (ms ++ ys)

  whole : Way (raised c h) D ss 1 (first_data d) 0 v
  unfolding entries
  whole =
      way-join (raised c h) D xs (ms ++ ys) 1 (first_data d) s b 0 v (rw (to_is, block-is) at first.way)
      (way-join (raised c h) D ms ys s b (link_of (segment d s)) (b + total (entries d s)) 0 v x.way (rw block-is at last.way))

  length-is : length ss ≡ h
  length-is =
      let l1 = length-append xs (ms ++ ys) in
      let l2 = length-append ms ys in
      let l3 = length-append xs (s ∷ ys) in
      let l4 : length (xs ++ s ∷ ys) ≡ highest d = ap length (sym o.are) ∙ chain-long d in
      let m = x.many in
      omega arith

  -- its words
  h2 : Rule2 d
  h2 = rule2-holds d sd.header

  stop : Stop (raised c h) D 1 (first_data d)
  stop = first-stop (raised c h) D ss 1 (first_data d) 0 v (omega (arith, length-is, x.more, h2.used)) whole

  total-same : total_of D ≡ total_of d
  total-same = sym (header D 1 0 (omega arith)) ∙ stop.total

  extra-same : extra_bytes_of D ≡ extra_bytes_of d
  extra-same = sym (header D 1 3 (omega arith)) ∙ stop.extra

  full-way : Way (shape_of D) D ss 1 (first_data D) 0 v
  full-way = rw (total-same, extra-same, x.top, x.size) whole

  many_is : length ss ≡ highest D
  many_is = length-is ∙ sym x.top

  header-same : bad2 D ≡ false
  header-same =
      rule2-tested D
      (record {
        total = rw (total-same, x.size) h2.total;
        used = rw x.top (omega (arith, x.more, h2.used));
        within = rw (x.top, x.size) x.fits;
        even = rw extra-same h2.even;
        few = rw extra-same h2.few;
      })

  chain_now : chain D ≡ ss
  chain_now = way-chain v D ss many_is full-way

  -- its entries
  entries-was : all_entries d ≡ spread w d xs ++ (entries d s ++ spread w d ys)
  unfolding entries
  entries-was = all-spread d ∙ ap (spread w d) o.are ∙ spread-append w d xs (s ∷ ys)

  entries-is : all_entries D ≡ spread w d xs ++ (spread w D ms ++ spread w d ys)
  entries-is =
      all-spread D
      ∙ (rw (extra-same, chain_now, spread-append w D xs (ms ++ ys), spread-append w D ms ys, first.entries, last.entries))

  start : first_data d + total (spread w d xs) ≡ b
  start = way-blocks c d xs 1 (first_data d) cut.to cut.block cut.front ∙ block-is

  sum : b + total (spread w D ms) ≡ b + total (entries d s)
  sum = way-blocks (raised c h) D ms s b (link_of (segment d s)) (b + total (entries d s)) x.way

  pub anew : Anew v d D s ms
  unfolding bad1
  anew =
      record {
        extra = extra-same;
        front = xs;
        back = ys;
        chain_was = o.are;
        chain_is = chain_now;
        before = living (first_data d) (spread w d xs);
        after = living (b + total (entries d s)) (spread w d ys);
        living_was = rw (entries-was, living-three (first_data d) (spread w d xs) (entries d s) (spread w d ys), start);
        living_is =
            rw (entries-is, x.size, living-three (first_data d) (spread w d xs) (spread w D ms) (spread w d ys), start, sum);
        sound =
            λ f.
            way-sound v D ss many_is full-way size_same header-same
            (λ k. rw (← (count-living k (all_entries D) (first_data D))) (f k));
      }
    where
      size_same : bad1 v D ≡ false
      size_same = rw x.size sd.size
