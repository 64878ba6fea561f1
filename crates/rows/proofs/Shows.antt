-- The rows of a sound directory, as the listing shows them. A segment that rule 4 lets stand has fewer entries than slots, and a name
-- that spells in each entry that is not empty; so there are at most 2,201 rows, and each can be shown. A walk with the cursor keeps
-- that the text written, and that of the rows ahead, are together the text of all rows. Assumes nothing.
use Prim.Native.Nat.{ℕ, ◌+◌, ◌*◌, ◌-◌, ◌≤◌}
use mathlib.Core.Path.{◌≡◌, refl, sym, ap, ◌∙◌}
use mathlib.Core.Bool.{Bool, false, ◌||◌, true≢false}
use mathlib.Core.List.{List, [], ◌∷◌, ◌++◌, append_assoc, append-nil, map}
use native.Mathlib.Omega.{arith}
use lib.ListN.{length, get_or, length-append}
use lib.Dec.{ltb}
use borrow.Author.Tests.{ltb-false}
use Rattle.bools.proofs.Bools.{neither}
use Rattle.meaning.specs.Kinds.{is_empty}
use Rattle.meaning.specs.Words.{segment, first_of, highest, slot_words, Entry, name_word, name2_word, extension_word, kind, blocks}
use Rattle.meaning.specs.Words.{entries, chain, Row, rows_in, segment_rows, rows_of, rows}
use Rattle.meaning.specs.Sound.{long_name, fault}
use Rattle.meaning.specs.Listing.{row_text, rows_text}
use Rattle.walks.proofs.Lists.{chain_length}
use Rattle.walks.specs.Scan.{long_named}
use Rattle.walks.specs.Lists.{All}
use Rattle.walks.proofs.Alls.{all_append}
use Rattle.walks.proofs.Slots.{length-slots, most-slots, slots_of}
use Rattle.rules.proofs.Soundness.{Readable, sound}
use Rattle.rules.proofs.Fine.{Okay, free, used, Fine, slots-fine}
use Rattle.cursor.specs.Cursor.{seen_of}
use Rattle.cursor.specs.declared.Seen.{Seen}
use Rattle.chain.proofs.Chains.{fault-chained}
use Rattle.cursor.proofs.Walking.{begins, from_start}
use Rattle.rows.proofs.Ahead.{Small, small-rows, no_rows, headed}
use Rattle.lines.specs.Wrote.{Wrote, WroteAtMost}
use Rattle.lines.specs.Bounds.{Spelled}
use Rattle.rows.specs.Rows.{IsSound, Shown, seen_text}
use Rattle.lines.proofs.Writes.{none, both}
use Rattle.lines.proofs.Parts.{row_by_lem}

-- the name of an entry that may stand spells
abbrev Named : Entry → Type 0
Named e = Spelled (kind e) (get_or e name_word 0) (get_or e name2_word 0) (get_or e extension_word 0)

short-name : (e : Entry) → long_named e ≡ false → Named e
unfolding long_name
short-name e h =
    let a = ltb 63999 (get_or e name_word 0) in
    let b = ltb 63999 (get_or e name2_word 0) in
    let c = ltb 63999 (get_or e extension_word 0) in
    let p = neither (a || b) c h in
    let q = neither a b p.0 in
    record {
      first = λ _. ltb-false 63999 (get_or e name_word 0) q.0;
      second = λ _. ltb-false 63999 (get_or e name2_word 0) q.1;
      extension = λ _. ltb-false 63999 (get_or e extension_word 0) p.1;
    }

okay_named : {p : Bool} (e : Entry) → Okay p e → Named e
okay_named e (used h i j) = short-name e j
okay_named e (free h) =
    let no : (is_empty (kind e) ≡ false → ⊥) = λ f. true≢false (sym (ap is_empty h) ∙ f) in
    record { first = λ f. absurd (no f); second = λ f. absurd (no f); extension = λ f. absurd (no f) }

-- and so do those of the rows
abbrev RowNamed : Row → Type 0
RowNamed r = Named r.entry

named_in : (w s k a b : ℕ) (es : List Entry) (p : Bool) → Fine p es → All RowNamed (rows_in w s k a b es)
unfolding rows_in
named_in w s k a b [] p f = tt
named_in w s k a b (e ∷ es) p f = (okay_named e f.0, named_in w s (k + 1) (a + w) (b + blocks e) es _ f.1)

rows_long : (w s k a b : ℕ) (es : List Entry) → length (rows_in w s k a b es) ≡ length es
unfolding rows_in
rows_long w s k a b [] = refl
rows_long w s k a b (e ∷ es) = let i = rows_long w s (k + 1) (a + w) (b + blocks e) es in omega arith

-- of segments that rule 4 lets stand, and so of the chain of a sound directory
module _ (d : List ℕ) where
  named_of : (ss : List ℕ) → All (Readable d) ss → All RowNamed (rows_of d ss)
  unfolding rows_of segment_rows entries
  named_of [] h = tt
  named_of (s ∷ ss) h =
      all_append RowNamed (segment_rows d s) (rows_of d ss)
      (named_in (slot_words d) s 1 _ _ (entries d s) false (slots-fine (slots_of d s) false h.0).0)
      (named_of ss h.1)

  few_of : (ss : List ℕ) → All (Readable d) ss → length (rows_of d ss) ≤ 71 * length ss
  unfolding rows_of segment_rows entries
  few_of [] h = omega arith
  few_of (s ∷ ss) h =
      let i = few_of ss h.1 in
      let f = (slots-fine (slots_of d s) false h.0).1 in
      let l = rows_long (slot_words d) s 1 (512 * (s - 1) + 5) (first_of (segment d s)) (entries d s) in
      let n = length-slots (slot_words d) (segment d s) in
      let m = most-slots (slot_words d) (omega arith) in
      simp length-append (omega arith)

  few-rows : (v : ℕ) → fault v d ≡ 0 → length (rows d) ≤ 2201
  unfolding rows chain
  few-rows v h =
      let k = fault-chained v d h in
      let f = few_of (chain d) (sound v d h).readable in
      omega (arith, chain_length (highest d) d 1, k.whole, k.few)

  named-rows : (v : ℕ) → fault v d ≡ 0 → All RowNamed (rows d)
  unfolding rows
  named-rows v h = named_of (chain d) (sound v d h).readable

-- the walk: a text has been written into b from the place p on, which made it m, and the entries ss are ahead, which are those of the rows rs
pub record Showing (d b : List ℕ) (p : ℕ) (m : List ℕ) (ss : List Seen) (next : ℕ) : Type 0 where
  pub rs : List Row
  pub are : ss ≡ map seen_of rs
  pub text : List ℕ
  pub wrote : Wrote b p text m next
  pub same : text ++ rows_text rs ≡ rows_text (rows d)
  pub room : next + 36 * length rs ≤ p + 79236
  pub named : All RowNamed rs
  pub small : All Small rs

pub show_none : (d b : List ℕ) (p : ℕ) → IsSound d → p + 79236 ≤ length b → {ss : List Seen} → ss ≡ map seen_of (rows d)
    → Showing d b p b ss p
show_none d b p s h e = record {
  rs = rows d;
  are = e;
  text = [];
  wrote = none b p (omega arith);
  same = refl;
  room = omega (arith, few-rows d s.v s.sound);
  named = named-rows d s.v s.sound;
  small = small-rows (rows d) (begins s.v d s.sound) (from_start s.v d s.sound);
}

-- no more entries are ahead, or the next, whose row can be shown and is
module _ {d b : List ℕ} {p : ℕ} {m : List ℕ} {ss : List Seen} {next : ℕ} (g : Showing d b p m ss next) where
  pub show_all : ss ≡ [] → WroteAtMost 79236 b p (rows_text (rows d)) m next
  unfolding rows_text
  show_all e =
      let z = rw (no_rows g.rs (sym g.are ∙ e), append-nil g.text) at g.same in
      record { wrote = rw (← z) g.wrote; short = omega (arith, g.room) }

  module _ {seen : Seen} {others : List Seen} (e : ss ≡ seen ∷ others) where
    pub shown : p + 79236 ≤ length b → Shown seen × (next + 36 ≤ length m)
    shown h =
        let w = headed g.rs (sym g.are ∙ e) in
        let a = rw w.is at g.named in
        let o = rw w.is at g.small in
        let r = rw w.is at g.room in
        (rw w.seen_is (record { spelled = a.0; small = o.0 }), omega (arith, g.wrote.long))

    pub show_more : {k : List ℕ} {y : ℕ} → WroteAtMost 36 m next (seen_text seen) k y → Showing d b p k others y
    unfolding rows_text
    show_more u =
        let w = headed g.rs (sym g.are ∙ e) in
        let a = rw w.is at g.named in
        let o = rw w.is at g.small in
        let r = rw w.is at g.room in
        let t : seen_text seen ≡ row_text w.row = ap seen_text w.seen_is ∙ sym (row_by_lem w.row) in
        let s = rw w.is at g.same in
        record {
          rs = w.rest;
          are = w.others_are;
          text = g.text ++ seen_text seen;
          wrote = both g.wrote u.wrote;
          same = rw (t, append_assoc) s;
          room = omega (arith, u.short);
          named = a.1;
          small = o.1;
        }
