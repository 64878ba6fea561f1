-- What lookup answers in a sound directory is told by the row that it finds. So after good writes it answers as before for each
-- file whose key is not named, 13 for a file that goes, and for a file that is made what stands in its entry, from the block
-- where that was; and as before for a file whose status alone is another.
use Prim.Native.Nat.{ℕ}
use mathlib.Core.Path.{◌≡◌, refl, sym, ap, ◌∙◌}
use mathlib.Core.Bool.{Bool, true, false}
use mathlib.Core.List.{List}
use mathlib.Core.Option.{Option, none, some, map, none-ne-some}
use native.Mathlib.Omega.{arith}
use lib.ListN.{set}
use lib.Seq.{get_or-set_other}
use Rattle.meaning.specs.declared.Name.{Name}
use Rattle.meaning.specs.declared.Answer.{Answer}
use Rattle.meaning.specs.Words.{status_word, length_word, date_word, blocks, date_of, Row, rows}
use Rattle.meaning.specs.Sound.{fault}
use Rattle.meaning.specs.Answers.{refusal, granted, position_of, refuse, success, unless, on_row, find, file_of, Write, write}
use Rattle.meaning.specs.Requests.{legal, success_with, lookup}
use Rattle.meaning.specs.declared.Key.{Key}
use Rattle.meaning.specs.declared.Key.TheVariants.{File}
use Rattle.meaning.specs.Keys.{holds, once}
use Rattle.laws.specs.Kept.{with_status, SameFile}
use Rattle.walks.specs.Lists.{All}
use Rattle.rules.proofs.Soundness.{sound, faultless}
use Rattle.laws.proofs.Living.{Live, face}
use Rattle.laws.proofs.Keeps.{After, nothing, reread, stays_sound, found_other, found_from, found_nowhere}
use Rattle.laws.proofs.Good.{Good, Made, Stated}
use Rattle.laws.proofs.Deeds.{file-key}

abbrev pub seen : Bool → Option Row → Answer
seen false o = refusal 7
seen true none = refusal 13
seen true (some r) = granted r.first (blocks r.entry) (date_of r.entry) (position_of r)

pub lookup-seen : (v : ℕ) (d : List ℕ) → fault v d ≡ 0 → (n : Name) → (lookup v d n).answer ≡ seen (legal n) (file_of d n)
unfolding lookup success_with success refuse
lookup-seen v d h n = rw h (go (legal n) (file_of d n))
  where
    go : (x : Bool) (o : Option Row) → (unless 7 x d λ _. on_row 13 o d λ r. success_with r d).answer ≡ seen x o
    go false o = refl
    go true none = refl
    go true (some r) = refl

-- where the same first block and the same entry are found, wherever they are, the same file is told
pub same_seen : (b : Bool) (o p : Option Row) → map face o ≡ map face p → SameFile (seen b o) (seen b p)
same_seen false o p h = record { number = refl; first = refl; length = refl; date = refl }
same_seen true none none h = record { number = refl; first = refl; length = refl; date = refl }
same_seen true none (some r) h = absurd (none-ne-some (face r) h)
same_seen true (some r) none h = absurd (none-ne-some (face r) (sym h))
same_seen true (some r) (some s) h =
    let f : face r ≡ face s = cc in
    record {
      number = refl;
      first = ap (λ (l : Live). l.first) f;
      length = ap (λ (l : Live). blocks l.entry) f;
      date = ap (λ (l : Live). date_of l.entry) f;
    }

module _ (v : ℕ) (d : List ℕ) (h : fault v d ≡ 0) (C : Key → Type 0) (ws : List Write) (g : Good d C ws) where
  abbrev d' : List ℕ
  d' = write d ws

  pub good-sound : fault v (write d ws) ≡ 0
  good-sound = faultless v d' (stays_sound v C g.fall d d' (sound v d h) g.move g.sources)

  pub others-seen : (n : Name) → (C (File n) → ⊥) → (lookup v (write d ws) n).answer ≡ (lookup v d n).answer
  others-seen n out =
      let f = found_other v C g.fall d d' (sound v d h) g.move (File n) out in
      let e = file-key d' n ∙ f ∙ sym (file-key d n) in
      lookup-seen v d' good-sound n ∙ ap (seen (legal n)) e ∙ sym (lookup-seen v d h n)

  pub gone-seen : (n : Name) → All (After d (write d ws) (File n) nothing) (rows d) → legal n ≡ true
      → (lookup v (write d ws) n).answer ≡ refusal 13
  gone-seen n a l =
      rw (
        lookup-seen v d' good-sound n,
        l,
        file-key d' n,
        found_nowhere v C g.fall d d' (sound v d h) g.move (File n) a,
      )

  found-made : (k l : Key) → All (After d (write d ws) l (holds k)) (rows d) → (r : Row) → find (holds k) (rows d) ≡ some r
      → find (holds l) (rows d') ≡ some (reread d d' r)
  found-made k l m r e =
      found_from v C g.fall d d' (sound v d h) g.move l k m ∙ ap (map (reread d d')) e

pub made-seen : (v : ℕ) (d : List ℕ) → fault v d ≡ 0 → (r : Row) (k : Key) (name : Name) (n : ℕ) (ws : List Write)
    → Made d r k (File name) n ws → find (holds k) (rows d) ≡ some r → once (File name) ≡ true → legal name ≡ true
    → (lookup v (write d ws) name).answer ≡ granted r.first n (date_of r.entry) (position_of r)
made-seen v d h r k name n ws m e o l =
    rw (
      lookup-seen v (write d ws) (good-sound v d h _ ws m.good) name,
      l,
      file-key (write d ws) name,
      found-made v d h _ ws m.good k (File name) (m.made o) r e,
      m.length,
      m.date,
    )

-- the file with another status is found where it was
pub stated-found : (v : ℕ) (d : List ℕ) → fault v d ≡ 0 → (r : Row) (name : Name) (status : ℕ) (ws : List Write)
    → Stated d r (File name) (set r.entry status_word status) ws → file_of d name ≡ some r → file_of (write d ws) name ≡ some (with_status r status)
stated-found v d h r name status ws m e =
    rw (
      file-key (write d ws) name,
      found-made v d h _ ws m.good (File name) (File name) m.same r (sym (file-key d name) ∙ e),
      m.entry,
    )

-- and is answered as before
status-seen : (b : Bool) (r : Row) (status : ℕ) → seen b (some (with_status r status)) ≡ seen b (some r)
status-seen false r status = refl
status-seen true r status =
    rw (
      get_or-set_other r.entry status_word length_word status 0 (λ z. omega arith),
      get_or-set_other r.entry status_word date_word status 0 (λ z. omega arith),
    )

pub stated-seen : (v : ℕ) (d : List ℕ) → fault v d ≡ 0 → (r : Row) (name : Name) (status : ℕ) (ws : List Write)
    → Stated d r (File name) (set r.entry status_word status) ws → file_of d name ≡ some r
    → (lookup v (write d ws) name).answer ≡ (lookup v d name).answer
stated-seen v d h r name status ws m e =
    rw (
      lookup-seen v (write d ws) (good-sound v d h _ ws m.good) name,
      lookup-seen v d h name,
      stated-found v d h r name status ws m e,
      e,
    )
    (status-seen (legal name) r status)
