-- The words of one entry: a slot has its first seven, so what a request's writes make of it is computed word by word. And a
-- legal name has no word above 63,999.
use Prim.Native.Nat.{ℕ, ◌≤◌}
use mathlib.Core.Path.{◌≡◌, refl}
use mathlib.Core.Bool.{true, false, ◌&&◌}
use mathlib.Core.List.{List, [], ◌∷◌}
use native.Mathlib.Omega.{arith}
use lib.ListN.{length, set}
use borrow.Author.Tests.{leb-true, le-ltb}
use Rattle.names.specs.Radix.{spells, legal_text, text_of, legal_name}
use Rattle.bools.proofs.Bools.{both}
use Rattle.meaning.specs.declared.Kind.TheVariants.{Empty, Permanent}
use Rattle.meaning.specs.declared.Name.{Name}
use Rattle.meaning.specs.Kinds.{empty_status, permanent_status, kind_of}
use Rattle.meaning.specs.Words.{slot_words, Entry, status_word, name_word, name2_word, extension_word, length_word, channel_word}
use Rattle.meaning.specs.Words.{kind, name_of, blocks, date_of}
use Rattle.meaning.specs.Sound.{long_name}
use Rattle.meaning.specs.Requests.{legal}
use Rattle.walks.specs.Scan.{long_named}
use Rattle.rules.proofs.Keys.{IsFile}
use Rattle.rules.proofs.Grid.{entry_at, length_at}
use Rattle.rules.proofs.Rows.{Slot}

pub data Seven : Entry → Type 0 where
  seven : (x0 x1 x2 x3 x4 x5 x6 : ℕ) (xs : List ℕ) → Seven (x0 ∷ x1 ∷ x2 ∷ x3 ∷ x4 ∷ x5 ∷ x6 ∷ xs)

pub view : (e : Entry) → 7 ≤ length e → Seven e
view [] h = absurd (omega arith)
view (a ∷ []) h = absurd (omega arith)
view (a ∷ b ∷ []) h = absurd (omega arith)
view (a ∷ b ∷ c ∷ []) h = absurd (omega arith)
view (a ∷ b ∷ c ∷ d ∷ []) h = absurd (omega arith)
view (a ∷ b ∷ c ∷ d ∷ e ∷ []) h = absurd (omega arith)
view (a ∷ b ∷ c ∷ d ∷ e ∷ f ∷ []) h = absurd (omega arith)
view (a ∷ b ∷ c ∷ d ∷ e ∷ f ∷ g ∷ xs) h = seven a b c d e f g xs

pub slot-seven : (d : List ℕ) (p : ℕ) → Slot d p → Seven (entry_at d (slot_words d) p)
slot-seven d p s = let l = length_at d (slot_words d) p s.room in view (entry_at d (slot_words d) p) (omega arith)

-- the status set to empty
pub record Cleared (e e' : Entry) : Type 0 where
  pub kind : kind e' ≡ Empty
  pub blocks : blocks e' ≡ blocks e

pub cleared : (e : Entry) → Seven e → Cleared e (set e status_word empty_status)
unfolding kind_of
cleared e (seven x0 x1 x2 x3 x4 x5 x6 xs) = record { kind = refl; blocks = refl }

-- the status set to that of a permanent entry
pub record Restated (status : ℕ) (e e' : Entry) : Type 0 where
  pub file : kind_of status ≡ Permanent → IsFile (name_of e) e'
  pub blocks : blocks e' ≡ blocks e
  pub date : date_of e' ≡ date_of e

pub restated : (e : Entry) (status : ℕ) → Seven e → Restated status e (set e status_word status)
restated e status (seven x0 x1 x2 x3 x4 x5 x6 xs) =
    record { file = λ h. record { permanent = h; name = refl }; blocks = refl; date = refl }

-- the name words set
pub record Renamed (n : Name) (e e' : Entry) : Type 0 where
  pub file : kind e ≡ Permanent → IsFile n e'
  pub blocks : blocks e' ≡ blocks e
  pub date : date_of e' ≡ date_of e

pub renamed : (e : Entry) (n : Name) → Seven e
    → Renamed n e (set (set (set e name_word n.first) name2_word n.second) extension_word n.extension)
renamed e n (seven x0 x1 x2 x3 x4 x5 x6 xs) =
    record { file = λ h. record { permanent = h; name = refl }; blocks = refl; date = refl }

-- status, length and channel word set as by a close
pub record Closed (n : ℕ) (e e' : Entry) : Type 0 where
  pub file : IsFile (name_of e) e'
  pub blocks : blocks e' ≡ n
  pub date : date_of e' ≡ date_of e

pub closed : (e : Entry) (n : ℕ) → Seven e → Closed n e (set (set (set e status_word permanent_status) length_word n) channel_word 0)
unfolding kind_of
closed e n (seven x0 x1 x2 x3 x4 x5 x6 xs) =
    record { file = record { permanent = refl; name = refl }; blocks = refl; date = refl }

-- the length set
pub record Grown (n : ℕ) (e e' : Entry) : Type 0 where
  pub kind : kind e' ≡ kind e
  pub blocks : blocks e' ≡ n

pub grown : (e : Entry) (n : ℕ) → Seven e → Grown n e (set e length_word n)
grown e n (seven x0 x1 x2 x3 x4 x5 x6 xs) = record { kind = refl; blocks = refl }

-- names
pub legal-short : (n : Name) → legal n ≡ true → long_name n ≡ false
unfolding legal_name spells long_name
legal-short n h =
    let a = n.first in
    let b = n.second in
    let c = n.extension in
    let p = both (spells a && spells b && spells c) (legal_text (text_of a b c)) h in
    let q = both (spells a && spells b) (spells c) p.0 in
    let r = both (spells a) (spells b) q.0 in
    rw (
      le-ltb 63999 a (leb-true a 63999 r.0),
      le-ltb 63999 b (leb-true b 63999 r.1),
      le-ltb 63999 c (leb-true c 63999 q.1),
    )

pub file-short : (n : Name) (e : Entry) → IsFile n e → long_name n ≡ false → long_named e ≡ false
file-short n e f h = rw f.name h
