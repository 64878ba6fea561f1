-- Close, carried out. The row behind the place is the tentative entry that was found, so its words stand in the directory, its next slot
-- lies in it, and the sum fits a word (law `closable`); the four writes and the old file's one are made one after the other.
use Prim.Native.Nat.{ℕ, ◌+◌, ◌-◌, ◌≤◌, ◌<◌}
use mathlib.Core.Path.{◌≡◌, refl, sym, ap, ◌∙◌}
use mathlib.Core.Bool.{true, false}
use mathlib.Core.List.{List, [], ◌∷◌, ◌++◌}
use mathlib.Core.Option.{Option, none, some}
use native.Mathlib.Omega.{arith}
use lib.ListN.{length, get_or, take, drop, set}
use Rattle.meaning.specs.declared.Name.{Name}
use Rattle.meaning.specs.Kinds.{permanent_status}
use Rattle.meaning.specs.Words.{Row, slot_words, status_word, length_word, channel_word, name_of, blocks, date_of}
use Rattle.meaning.specs.Sound.{fault}
use Rattle.meaning.specs.Answers.{refuse, success, Write, put, write, open_on}
use Rattle.meaning.specs.Requests.{emptying, replacing, gives_way, over_protected, closing}
use Rattle.meaning.specs.declared.Key.TheVariants.{Open}
use Rattle.segment.specs.declared.finder.Place.{Place}
use Rattle.std.proofs.Common.{Some, None}
use Rattle.segment.specs.Finder.{Found, found_of, Inside}
use Rattle.walks.proofs.Words.{word}
use Rattle.rules.proofs.Grown.{closable}
use Rattle.find.specs.Find.{FitsWords, answer_with}
use Rattle.find.proofs.Behind.{place-small}
use Rattle.channels.specs.Closing.{replacing_at, Opened, closed_at, closed_on}

-- writes one after the other
pub write-append : (d : List ℕ) (xs ys : List Write) → write d (xs ++ ys) ≡ write (write d xs) ys
unfolding write
write-append d [] ys = refl
write-append d (x ∷ xs) ys = write-append (set d (x.place + x.word) x.value) xs ys

-- the old file, as it was found
pub replaced : (o : Option Row) (f : Found) → f ≡ found_of o → replacing_at f ≡ replacing o
unfolding replacing emptying
replaced none f e = rw e
replaced (some r) f e = rw e

-- what is known of the place p at which close works, and of the row r behind it
pub record Ready (d : List ℕ) (p : Place) (r : Row) : Type 0 where
  pub at : r.at ≡ p.at
  pub length' : blocks r.entry ≡ p.length
  pub first : r.first ≡ p.first
  pub date : date_of r.entry ≡ p.date
  pub seg : r.seg ≡ p.seg
  pub slot : r.slot ≡ p.slot
  pub word : (k : ℕ) → k < 7 → get_or d (p.at + k) 0 ≡ get_or r.entry k 0
  pub room : p.at + slot_words d + slot_words d ≤ length d
  pub fits : p.length + get_or d (p.at + slot_words d + length_word) 0 ≤ 65535
  pub small : FitsWords p

pub ready : (v : ℕ) (d : List ℕ) → fault v d ≡ 0 → (x : ℕ) (p : Place) (o : Opened d x p) → Ready d p o.row
unfolding open_on
ready v d h x p o =
    let r = o.row in
    let c = closable v d h x r o.is in
    let a : r.at ≡ p.at = ap (λ (q : Place). q.at) o.place in
    let l : blocks r.entry ≡ p.length = ap (λ (q : Place). q.length) o.place in
    let f : r.first ≡ p.first = ap (λ (q : Place). q.first) o.place in
    record {
      at = a;
      length' = l;
      first = f;
      date = ap (λ (q : Place). q.date) o.place;
      seg = ap (λ (q : Place). q.seg) o.place;
      slot = ap (λ (q : Place). q.slot) o.place;
      word = λ k m. ap (λ (z : ℕ). get_or d (z + k) 0) (sym a) ∙ c.word k m;
      room = rw (← a) c.room;
      fits = rw (← a, ← l) c.fits;
      small = place-small v d h (Open x) p (ap found_of o.is ∙ ap Some o.place);
    }

-- the name that stands at the place is the entry's
pub name-there : (d : List ℕ) (p : Place) (r : Row) → Ready d p r → (w : ℕ) → 7 ≤ w
    → name_of (take w (drop p.at d)) ≡ name_of r.entry
name-there d p r q w l =
    rw (
      word d p.at w 1 (omega arith),
      word d p.at w 2 (omega arith),
      word d p.at w 3 (omega arith),
      q.word 1 (omega arith),
      q.word 2 (omega arith),
      q.word 3 (omega arith),
    )

-- so the old file is looked for by the entry's name
pub old-key : (d : List ℕ) (p : Place) (r : Row) → Ready d p r → (w : ℕ) → 7 ≤ w → (n : Name) (f : Found)
    → n ≡ name_of (take w (drop p.at d)) → f ≡ found_of (gives_way d n) → f ≡ found_of (gives_way d (name_of r.entry))
old-key d p r q w l n f g e = e ∙ ap (λ (m : Name). found_of (gives_way d m)) (g ∙ name-there d p r q w l)

-- the words after both steps are those of the close
pub closed-words : (d : List ℕ) (p : Place) (r : Row) (n : ℕ) (f : Found) → Ready d p r
    → f ≡ found_of (gives_way d (name_of r.entry))
    → write
    (write d
    (put p.at status_word permanent_status
    ∷ put p.at length_word n
    ∷ put p.at channel_word 0
    ∷ put (p.at + slot_words d) length_word (get_or d (p.at + slot_words d + length_word) 0 + (get_or d (p.at + length_word) 0 - n))
    ∷ []))
    (replacing_at f)
    ≡ write d (closing d r n)
unfolding closing
closed-words d p r n f q e =
    let o = gives_way d (name_of r.entry) in
    let b : get_or d (p.at + length_word) 0 ≡ blocks r.entry = q.word 4 (omega arith) in
    rw (replaced o f e, b, q.at)
    (sym
    (write-append d
    (put p.at status_word permanent_status
    ∷ put p.at length_word n
    ∷ put p.at channel_word 0
    ∷ put (p.at + slot_words d) length_word (get_or d (p.at + slot_words d + length_word) 0 + (blocks r.entry - n))
    ∷ [])
    (replacing o)))

-- the close at a place, refused or carried out
pub closed-over : (d : List ℕ) (x n : ℕ) (p : Place) (o : Opened d x p) → over_protected d (name_of o.row.entry) ≡ true
    → closed_on d x n ≡ refuse 20 d
unfolding closed_on closed_at
closed-over d x n p o u = rw (o.is, u)

pub closed_on_lem : (d : List ℕ) (x n : ℕ) (p : Place) (o : Opened d x p) → Ready d p o.row
    → over_protected d (name_of o.row.entry) ≡ false
    → closed_on d x n ≡ record { answer = answer_with p n; words = write d (closing d o.row n) }
unfolding closed_on closed_at success
closed_on_lem d x n p o q u = rw (o.is, u, q.first, q.date, q.seg, q.slot)
