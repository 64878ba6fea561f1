-- Enter and a request record on a sound directory, test by test: each refusal where the tests before it have passed, and what is done where
-- all have. Each is read off the definition with the tests' answers. And a fault refuses whatever is asked.
use Prim.Native.Nat.{ℕ, zero, suc, ◌<◌}
use mathlib.Core.Path.{◌≡◌, refl, sym}
use mathlib.Core.Bool.{Bool, true, false}
use mathlib.Core.Logic.{⊎_elim}
use mathlib.Core.List.{List}
use mathlib.Core.Option.{Option, none, some}
use lib.IntN.{ℤ}
use Rattle.dates.specs.Dates.{good_date}
use Rattle.meaning.specs.declared.Op.{Op}
use Rattle.meaning.specs.declared.Op.TheVariants.{Lookup, Enter, Close, Abandon, Delete, Rename, Protect, Unprotect}
use Rattle.meaning.specs.declared.Name.{Name}
use Rattle.meaning.specs.declared.Request.{Request}
use Rattle.meaning.specs.Words.{Row}
use Rattle.meaning.specs.Keys.{spared}
use Rattle.meaning.specs.Sound.{fault}
use Rattle.meaning.specs.Answers.{Outcome, refuse, success, passed, unless, on_row, is_none, file_of, open_on}
use Rattle.meaning.specs.Requests.{legal, good_channel, word_of, success_with, lookup, delete, restate, protect, unprotect, abandon, rename, over_protected, close}
use Rattle.meaning.specs.Enter.{Size, size_of, good_size, enter}
use Rattle.meaning.specs.Batch.{serve_by, serve}
use Rattle.std.proofs.Common.{Some, None}
use Rattle.std.specs.Option.{is_some}
use Rattle.segment.specs.Finder.{Found}
use Rattle.segment.specs.declared.finder.Place.{Place}
use Rattle.files.specs.Unprotected.{name_refusal}
use Rattle.files.proofs.Tested as names
use Rattle.enter.specs.Entering.{entering}
use Rattle.engine.specs.Named.{entering_named}

-- an enter that is asked for, on a sound directory
pub record Call : Type 0 where
  pub v : ℕ
  pub d : List ℕ
  pub sound : fault v d ≡ 0
  pub name : Name
  pub size : ℤ
  pub job : ℕ
  pub channel : ℕ
  pub date : ℕ

abbrev pub outcome : Call → Outcome
outcome q = enter q.v q.d q.name q.size q.job q.channel q.date

-- the tests that its name has passed; and all that it has passed, up to the date's
pub record Named (q : Call) : Type 0 where
  pub lawful : legal q.name ≡ true
  pub plain : spared q.name ≡ false

pub record Passed (q : Call) : Type 0 where
  pub named : Named q
  pub channelled : good_channel q.job q.channel ≡ true
  pub sized : good_size (size_of q.size) ≡ true
  pub dated : good_date q.date ≡ true

module _ (q : Call) where
  name_wrong : legal q.name ≡ false → outcome q ≡ refuse 7 q.d
  unfolding enter
  name_wrong e = rw (q.sound, e)

  name-spared : legal q.name ≡ true → spared q.name ≡ true → outcome q ≡ refuse 19 q.d
  unfolding enter
  name-spared l e = rw (q.sound, l, e)

  -- a name that does not pass its tests
  pub name-bad : (k : ℕ) → (k ≡ name_refusal q.name) × (0 < k) → outcome q ≡ refuse k q.d
  name-bad k p = ⊎_elim (λ e. rw e.0 (name_wrong e.1)) (λ e. rw e.0 (name-spared e.1 e.2)) (names.name-bad k q.name p)

  pub channel_wrong : Named q → good_channel q.job q.channel ≡ false → outcome q ≡ refuse 8 q.d
  unfolding enter
  channel_wrong n e = rw (q.sound, n.lawful, n.plain, e)

  pub size_wrong_lem : Named q → good_channel q.job q.channel ≡ true → good_size (size_of q.size) ≡ false → outcome q ≡ refuse 9 q.d
  unfolding enter
  size_wrong_lem n c e = rw (q.sound, n.lawful, n.plain, c, e)

  pub date_wrong : Named q → good_channel q.job q.channel ≡ true → good_size (size_of q.size) ≡ true
      → good_date q.date ≡ false → outcome q ≡ refuse 9 q.d
  unfolding enter
  date_wrong n c s e = rw (q.sound, n.lawful, n.plain, c, s, e)

  pub in_use : Passed q → is_none (open_on q.d (word_of q.job q.channel)) ≡ false → outcome q ≡ refuse 10 q.d
  unfolding enter
  in_use p e = rw (q.sound, p.named.lawful, p.named.plain, p.channelled, p.sized, p.dated, e)

  pub let_in : Passed q → open_on q.d (word_of q.job q.channel) ≡ none
      → outcome q ≡ entering_named q.d q.name (size_of q.size) (word_of q.job q.channel) q.date
  unfolding enter entering_named entering
  let_in p e = rw (q.sound, p.named.lawful, p.named.plain, p.channelled, p.sized, p.dated, e)

-- something was found at a place
pub some_place : (f : Found) → is_some f ≡ true → (p : Place) × (f ≡ Some p)
some_place None e = absurd cc
some_place (Some p) e = (p, refl)

-- a protected file of the name refuses it; else what is left is the room
pub name-protected : (d : List ℕ) (name : Name) (size : Size) (x date : ℕ) → over_protected d name ≡ true
    → entering_named d name size x date ≡ refuse 20 d
unfolding entering_named
name-protected d name size x date e = rw e

pub name_free : (d : List ℕ) (name : Name) (size : Size) (x date : ℕ) → over_protected d name ≡ false
    → entering_named d name size x date ≡ entering d name size x date
unfolding entering_named
name_free d name size x date e = rw e

-- a lookup changes nothing
pub looked_up : (v : ℕ) (d : List ℕ) (n : Name) → (lookup v d n).words ≡ d
unfolding lookup success_with success refuse
looked_up v d n = go (fault v d) (legal n) (file_of d n)
  where
    go : (k : ℕ) (t : Bool) (o : Option Row) → (passed k d (λ _. unless 7 t d λ _. on_row 13 o d λ r. success_with r d)).words ≡ d
    go (suc k) t o = refl
    go zero false o = refl
    go zero true none = refl
    go zero true (some r) = refl

-- which request a record makes
pub serves : (v : ℕ) (d : List ℕ) (q : Request) (op : Op) → q.op ≡ op → serve v d q ≡ serve_by op v d q
unfolding serve
serves v d q op e = rw e

-- a fault refuses every request
refused_by : (op : Op) (v : ℕ) (d : List ℕ) (q : Request) (n : ℕ) → fault v d ≡ suc n → serve_by op v d q ≡ refuse (suc n) d
unfolding lookup enter close abandon delete rename protect unprotect restate
refused_by Lookup v d q n e = rw e
refused_by Enter v d q n e = rw e
refused_by Close v d q n e = rw e
refused_by Abandon v d q n e = rw e
refused_by Delete v d q n e = rw e
refused_by Rename v d q n e = rw e
refused_by Protect v d q n e = rw e
refused_by Unprotect v d q n e = rw e

pub faulty : (v : ℕ) (d : List ℕ) (q : Request) (n : ℕ) → n ≡ fault v d → (n ≡ 0 → ⊥) → serve v d q ≡ refuse n d
unfolding serve
faulty v d q zero e h = absurd (h refl)
faulty v d q (suc n) e h = refused_by q.op v d q n (sym e)

pub lookup_faulty : (v : ℕ) (d : List ℕ) (name : Name) (n : ℕ) → n ≡ fault v d → (n ≡ 0 → ⊥) → lookup v d name ≡ refuse n d
unfolding lookup
lookup_faulty v d name zero e h = absurd (h refl)
lookup_faulty v d name (suc n) e h = rw (sym e)
