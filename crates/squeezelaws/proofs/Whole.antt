-- A volume with no FILE.BAD, squeezed. Before a file nothing is left over, so every entry is a file but for what is left over last, in the chain's
-- last segment; and as there are as many free blocks as before, it has all of them. It is a run by itself, since a file stands before it or
-- nothing; so enter's law on room finds it long enough.
use Prim.Native.Nat.{ℕ, suc, ◌+◌, ◌-◌, ◌≤◌, ◌<◌}
use mathlib.Core.Path.{◌≡◌, refl, sym, ap, ◌∙◌}
use mathlib.Core.Bool.{Bool, true, false, cond}
use mathlib.Core.List.{List, [], ◌∷◌, ◌++◌, append_assoc, append-nil}
use native.Mathlib.Nat.{add-zero}
use native.Mathlib.Omega.{arith}
use lib.IntN.{ℤ, pos, negsuc}
use lib.ListN.{length, get_or}
use lib.Dec.{leb}
use borrow.Author.Tests.{ne_eqb}
use Rattle.meaning.specs.Kinds.{is_empty}
use Rattle.meaning.specs.Words.{first_data, highest, slot_words, Entry, kind, blocks, entries, total, chain, all_entries}
use Rattle.meaning.specs.Requests.{empty_entry}
use Rattle.meaning.specs.Enter.{exact, wrong, size_of, at_least}
use Rattle.meaning.specs.Listing.{blocks_of}
use Rattle.walks.specs.Lists.{All}
use Rattle.walks.proofs.Lists.{chain-at}
use Rattle.walks.proofs.Alls.{all_left, all_right_lem, all_append}
use Rattle.rules.specs.Sound.{visit}
use Rattle.rules.proofs.Fine.{flag}
use Rattle.rules.proofs.Soundness.{faultless}
use Rattle.laws.specs.Room.{LongRun}
use Rattle.laws.proofs.Way.{entries_in, spread, all-spread}
use Rattle.laws.proofs.Runs.{ends_area}
use Rattle.laws.proofs.RunPlaces.{PlacedRun, piece-run}
use Rattle.laws.proofs.EnterLaws.{enter_laws}
use Rattle.squeezed.specs.Squeeze.{is_file, is_bad, new_place, free_up_to, left_over, packed_entries, squeezed}
use Rattle.squeezed.proofs.Steps.{file-kind, Gap, over}
use Rattle.squeezelaws.specs.Laws.{free_blocks, NoBad, NotEleven, OneArea, AllFree}
use Rattle.squeezed.proofs.Walk.{walk}
use Rattle.squeezelaws.proofs.NewWay.{Freshly, along, chain-many, chain-some, highest-kept, extra-kept, chain-kept}
use Rattle.squeezelaws.proofs.NewWay.{entries_then, squeezed-sound}
use Rattle.squeezelaws.proofs.Content.{Done, done, words_are}
use Rattle.squeezelaws.proofs.Again.{over_nothing}
use Rattle.squeezelaws.proofs.Kept.{blocks-append, freed}

abbrev File : Entry → Type 0
File e = is_file e ≡ true

abbrev NotBad : Entry → Type 0
NotBad e = is_file e ≡ true → is_bad e ≡ false

-- where no file is FILE.BAD, only files are packed
packed-files : (w : ℕ) (es : List Entry) (b p : ℕ) → p ≤ b → All NotBad es → All File (packed_entries w b p es)
unfolding new_place
packed-files w es b p h n =
    rw append-nil at
    (walk w [] (λ b p es out. All NotBad es → All File out) (λ b p n. tt) (λ b p e es out f i n. i n.1)
    (λ b p e es out f l i n. rw (n.0 f, over_nothing w p) (f, i n.1))
    es b p h n)

-- files have no free blocks, and none of them is an area
files-used : (es : List Entry) → All File es → free_blocks es ≡ 0
unfolding blocks_of
files-used [] a = refl
files-used (e ∷ es) a = rw (file-kind e a.0) (omega (arith, files-used es a.1))

files-end : (es : List Entry) → All File es → ends_area false es ≡ false
files-end [] a = refl
files-end (e ∷ es) a = rw (file-kind e a.0) (files-end es a.1)

-- the chain's last segment, with its place in the chain; all that stands before what is left over last
record Ends (v w : ℕ) (D ss : List ℕ) : Type 0 where
  at : ℕ
  within : at < length ss
  ahead : List Entry
  own : List Entry
  free : ℕ
  small : free ≤ v
  ahead_files : All File ahead
  own_files : All File own
  there : entries_in w D (get_or ss at 0) ≡ own ++ left_over w free v
  are : spread w D ss ≡ ahead ++ (own ++ left_over w free v)

ends : (v : ℕ) (d D ss : List ℕ) (b p : ℕ) → 1 ≤ length ss → Freshly v d D ss b p → All NotBad (spread (slot_words d) d ss) → Ends v (slot_words d) D ss
ends v d D [] b p l f n = absurd (omega arith)
ends v d D (x ∷ []) b p l f n =
    let w = slot_words d in
    let es = entries_in w d x in
    record {
      at = 0;
      within = omega arith;
      ahead = [];
      own = packed_entries w b p es;
      free = free_up_to b p es;
      small = f.2;
      ahead_files = tt;
      own_files = packed-files w es b p f.1 (all_left NotBad es [] n);
      there = f.3.entries;
      are = append-nil (entries_in w D x) ∙ f.3.entries;
    }
ends v d D (x ∷ z ∷ xs) b p l f n =
    let w = slot_words d in
    let es = entries_in w d x in
    let ms = packed_entries w b p es in
    let rest = spread w d (z ∷ xs) in
    let i = ends v d D (z ∷ xs) _ _ (omega arith) f.4 (all_right_lem NotBad es rest n) in
    record {
      at = suc i.at;
      within = omega (arith, i.within);
      ahead = ms ++ i.ahead;
      own = i.own;
      free = i.free;
      small = i.small;
      ahead_files = all_append File ms i.ahead (packed-files w es b p f.1 (all_left NotBad es rest n)) i.ahead_files;
      own_files = i.own_files;
      there = i.there;
      are = rw (f.3.entries, append-nil ms, i.are) (sym (append_assoc ms i.ahead (i.own ++ left_over w i.free v)));
    }

-- what is left over, where it has n free blocks
record Left (w n : ℕ) (es : List Entry) : Type 0 where
  area : Entry
  are : es ≡ area ∷ []
  gap : Gap w n area

left : (w q v n : ℕ) → 7 ≤ w → q ≤ v → 1 ≤ n → free_blocks (left_over w q v) ≡ n → Left w n (left_over w q v)
unfolding blocks_of
left w q v n enough h some e =
    over (λ l. free_blocks l ≡ n → Left w n l) w q v enough h (λ z e. absurd (omega arith))
    (λ g z e.
    let s : v - q ≡ n = let b = z.blocks in let f : blocks g + 0 ≡ n = rw z.kind at e in omega arith in
    record { area = g; are = refl; gap = rw s at z })
    e

-- all that an enter of n blocks or of the longest area asks for is n blocks
at_most : (n : ℕ) → 1 ≤ n → at_least (size_of (pos n)) ≤ n
unfolding size_of at_least
at_most n h = rw (ne_eqb n 0 (λ e. omega arith)) (go (leb n 65535))
  where
    go : (z : Bool) → at_least (cond z (exact n) wrong) ≤ n
    go true = omega arith
    go false = h

module _ (v : ℕ) (d : List ℕ) (x : Done v d) (none : NoBad d) (some : 1 ≤ free_blocks (all_entries d)) where
  abbrev n : ℕ
  n = free_blocks (all_entries d)

  abbrev w : ℕ
  w = slot_words d

  abbrev E : List ℕ
  E = squeezed v d

  last : Ends v w E (chain d)
  last =
      ends v d E (chain d) (first_data d) (first_data d) (chain-some v d x.sound) (along v d x.sound x.room) (rw (all-spread d) at none)

  entries-are : all_entries E ≡ last.ahead ++ (last.own ++ left_over w last.free v)
  entries-are = entries_then v d x.sound x.room ∙ last.are

  free-blocks : free_blocks (left_over w last.free v) ≡ n
  free-blocks =
      let a = files-used last.ahead last.ahead_files in
      let b = files-used last.own last.own_files in
      let c = blocks-append is_empty last.ahead (last.own ++ left_over w last.free v) in
      let e = blocks-append is_empty last.own (left_over w last.free v) in
      let f : free_blocks (last.ahead ++ (last.own ++ left_over w last.free v)) ≡ n = rw entries-are at (freed v d x) in
      omega arith

  over_last : Left w n (left_over w last.free v)
  over_last = left w last.free v n (omega arith) last.small some free-blocks

  abbrev at : ℕ
  at = last.at

  used : at < highest E
  used = rw (highest-kept v d x.sound x.room) (omega (arith, last.within, chain-many d))

  visited : visit E at ≡ get_or (chain d) at 0
  unfolding chain
  visited = sym (chain-at (highest E) E 1 at used) ∙ ap (λ (l : List ℕ). get_or l at 0) (chain-kept v d x.sound x.room)

  there : entries E (visit E at) ≡ last.own ++ over_last.area ∷ []
  unfolding entries
  there = rw (visited, extra-kept v d x.sound x.room) (last.there ∙ ap (λ (l : List Entry). last.own ++ l) over_last.are)

  area-run : PlacedRun (entries E (visit E at)) n (flag false last.own)
  unfolding total
  area-run =
      piece-run (entries E (visit E at)) n (flag false last.own)
      (record {
        piece =
            record {
              before = last.own;
              run = over_last.area ∷ [];
              after = [];
              are = there;
              areas = (rw over_last.gap.kind refl, tt);
              some = omega arith;
              calm_before = files-end last.own last.own_files;
              calm_after = refl;
            };
        sum = add-zero _ ∙ over_last.gap.blocks;
        flag = refl;
      })

  long_run : (m : ℕ) → m ≤ n → LongRun E m
  long_run m l =
      record {
        at = at;
        used = used;
        start = area-run.start;
        count = area-run.count;
        run = area-run.run;
        long = omega (arith, area-run.sum);
      }

  not_eleven : (size : ℤ) → at_least (size_of size) ≤ n → NotEleven v E size
  not_eleven size l name job channel date e =
      ((enter_laws v E (faultless v E (squeezed-sound v d x.sound x.room))).room name size job channel date).eleven e
      (long_run (at_least (size_of size)) l)

  one_area : OneArea v n E
  unfolding size_of at_least
  one_area =
      record {
        files = last.ahead ++ last.own;
        permanent = all_append File last.ahead last.own last.ahead_files last.own_files;
        are =
            entries-are
            ∙ (rw (extra-kept v d x.sound x.room, over_last.are, over_last.gap.is)
            (sym (append_assoc last.ahead last.own (empty_entry w n ∷ []))));
        whole = not_eleven (pos n) (at_most n some);
        longest = not_eleven (negsuc 0) some;
      }

pub all-free : (v : ℕ) (d room : List ℕ) → AllFree v d room
all-free v d room h none some = rw (words_are v d room h) (one_area v d (done v d room h) none some)
