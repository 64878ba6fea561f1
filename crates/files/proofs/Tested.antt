-- The requests on a file by the tests that led to an answer: each is one way through the meaning's refusals, on a sound directory. What was
-- found is the row behind its place, so the answer and the writes are said of the place.
use Prim.Native.Nat.{ℕ, zero, suc, ◌<◌}
use native.Mathlib.Omega.{arith}
use mathlib.Core.Path.{◌≡◌, refl, ap, ◌∙◌}
use mathlib.Core.Logic.{◌⊎◌, inl, inr}
use mathlib.Core.Bool.{Bool, true, false, cond, not}
use mathlib.Core.List.{List, [], ◌∷◌}
use mathlib.Core.Option.{Option, none, some}
use lib.Dec.{eqb}
use Rattle.meaning.specs.declared.Name.{Name}
use Rattle.meaning.specs.declared.Refusal.{Refusal}
use Rattle.meaning.specs.Told.{number_of}
use Rattle.meaning.specs.declared.Key.TheVariants.{File}
use Rattle.meaning.specs.Kinds.{empty_status, protected_status}
use Rattle.meaning.specs.Words.{status_word, name_word, name2_word, extension_word, protected, Row, rows}
use Rattle.meaning.specs.Keys.{holds, spared}
use Rattle.meaning.specs.Sound.{fault}
use Rattle.meaning.specs.Answers.{Outcome, refuse, success, passed, unless, on_row, is_none, find, file_of, put, write}
use Rattle.meaning.specs.Requests.{legal, success_with, emptying, renaming, lookup, delete, restate, rename}
use Rattle.segment.specs.declared.finder.Place.{Place}
use Rattle.std.proofs.Common.{Some, None}
use Rattle.std.specs.Option.{is_some}
use Rattle.segment.specs.Finder.{Found, place_of, found_of}
use Rattle.find.specs.Find.{answer_at, restated}
use Rattle.find.proofs.Behind.{Behind, file-found, file-none}
use Rattle.files.specs.Unprotected.{name_refusal, deleted, renamed}

-- the tests of a name, one after the other, and as one number
by_name : (d : List ℕ) (n : Name) (next : Unit {0} → Outcome)
    → (unless 7 (legal n) d λ _. unless 19 (not (spared n)) d next) ≡ passed (name_refusal n) d next
unfolding name_refusal
by_name d n next = go (legal n) (spared n)
  where
    go : (x y : Bool) → (unless 7 x d λ _. unless 19 (not y) d next) ≡ passed (cond x (cond y 19 0) 7) d next
    go false y = refl
    go true true = refl
    go true false = refl

-- which test refuses a name
pub name-bad : (k : ℕ) (n : Name) → (k ≡ name_refusal n) × (0 < k)
    → ((k ≡ 7) × (legal n ≡ false)) ⊎ ((k ≡ 19) × (legal n ≡ true) × (spared n ≡ true))
unfolding name_refusal
name-bad k n p = go (legal n) (spared n) refl refl p
  where
    go : (x y : Bool) → legal n ≡ x → spared n ≡ y → (k ≡ cond x (cond y 19 0) 7) × (0 < k)
        → ((k ≡ 7) × (legal n ≡ false)) ⊎ ((k ≡ 19) × (legal n ≡ true) × (spared n ≡ true))
    go false y a b q = inl (q.0, a)
    go true true a b q = inr (q.0, a, b)
    go true false a b q = absurd (omega (arith, q.0, q.1))

-- a number that is not 0 refuses
refuses : (k m : ℕ) (d : List ℕ) (next : Unit {0} → Outcome) → (k ≡ m) × (0 < k) → passed m d next ≡ refuse k d
refuses zero m d next p = absurd (omega (arith, p.1))
refuses (suc k) m d next p = rw (← p.0)

module _ (v : ℕ) (d : List ℕ) (h : fault v d ≡ 0) (n : Name) where
  pub lookup-illegal : legal n ≡ false → lookup v d n ≡ refuse 7 d
  unfolding lookup
  lookup-illegal l = rw (h, l)

  pub lookup-none : legal n ≡ true → found_of (find (holds (File n)) (rows d)) ≡ None → lookup v d n ≡ refuse 13 d
  unfolding lookup
  lookup-none l e = rw (h, l, file-none d n e)

  pub lookup-at : (p : Place) → legal n ≡ true → found_of (find (holds (File n)) (rows d)) ≡ Some p
      → (lookup v d n).answer ≡ answer_at p
  unfolding lookup file_of success_with success
  lookup-at p l e = rw (h, l) (go (find (holds (File n)) (rows d)) e)
    where
      go : (o : Option Row) → found_of o ≡ Some p → (on_row 13 o d (λ r. success_with r d)).answer ≡ answer_at p
      go none q = absurd (let z : ◌≡◌ {A = ℕ} 0 1 = cc in omega arith)
      go (some r) q = let m : place_of r ≡ p = cc in rw (← m)

  -- delete, protect and unprotect: the two tests of the name give one number
  delete-named : delete v d n ≡ passed (name_refusal n) d λ _. deleted d n
  unfolding delete deleted
  delete-named = rw h (by_name d n (λ _. deleted d n))

  pub delete-bad : (e : Refusal) → (number_of e ≡ name_refusal n) × (0 < number_of e) → delete v d n ≡ refuse (number_of e) d
  delete-bad e p = delete-named ∙ refuses (number_of e) (name_refusal n) d (λ _. deleted d n) p

  pub delete-good : (legal n ≡ true) × (spared n ≡ false) → delete v d n ≡ deleted d n
  unfolding delete deleted
  delete-good p = rw (h, p.0, p.1)

  restate-named : (status : ℕ) → restate v d n status ≡ passed (name_refusal n) d λ _. restated d (File n) 13 status
  unfolding restate restated file_of
  restate-named status = rw h (by_name d n (λ _. restated d (File n) 13 status))

  pub restate-bad : (status : ℕ) (e : Refusal) → (number_of e ≡ name_refusal n) × (0 < number_of e)
      → restate v d n status ≡ refuse (number_of e) d
  restate-bad status e p = restate-named status ∙ refuses (number_of e) (name_refusal n) d (λ _. restated d (File n) 13 status) p

  pub restate-good : (status : ℕ) → (legal n ≡ true) × (spared n ≡ false) → restate v d n status ≡ restated d (File n) 13 status
  unfolding restate restated file_of
  restate-good status p = rw (h, p.0, p.1)

  pub rename-old-illegal : (new : Name) → legal n ≡ false → rename v d n new ≡ refuse 7 d
  unfolding rename
  rename-old-illegal new l = rw (h, l)

  pub rename-new-illegal : (new : Name) → legal n ≡ true → legal new ≡ false → rename v d n new ≡ refuse 7 d
  unfolding rename
  rename-new-illegal new l m = rw (h, l, m)

  pub rename-old-spared : (new : Name) → legal n ≡ true → legal new ≡ true → spared n ≡ true → rename v d n new ≡ refuse 19 d
  unfolding rename
  rename-old-spared new l m s = rw (h, l, m, s)

  pub rename-new-spared : (new : Name) → legal n ≡ true → legal new ≡ true → spared n ≡ false → spared new ≡ true
      → rename v d n new ≡ refuse 19 d
  unfolding rename
  rename-new-spared new l m s t = rw (h, l, m, s, t)

  pub rename-legal : (new : Name) → legal n ≡ true → legal new ≡ true → spared n ≡ false → spared new ≡ false
      → rename v d n new ≡ renamed d n new
  unfolding rename renamed
  rename-legal new l m s t = rw (h, l, m, s, t)

pub deleted-none : (d : List ℕ) (n : Name) → found_of (find (holds (File n)) (rows d)) ≡ None → deleted d n ≡ refuse 13 d
unfolding deleted
deleted-none d n e = rw (file-none d n e)

pub renamed-none : (d : List ℕ) (old new : Name) → found_of (find (holds (File old)) (rows d)) ≡ None → renamed d old new ≡ refuse 13 d
unfolding renamed
renamed-none d old new e = rw (file-none d old e)

-- a name is taken where something was found by it, and free where nothing was
any_taken : (o : Option Row) → is_some (found_of o) ≡ true → is_none o ≡ false
any_taken none e = cc
any_taken (some r) e = refl

name_taken : (d : List ℕ) (n : Name) → is_some (found_of (find (holds (File n)) (rows d))) ≡ true → is_none (file_of d n) ≡ false
unfolding file_of
name_taken d n e = any_taken (find (holds (File n)) (rows d)) e

pub not_some : (f : Found) → is_some f ≡ false → f ≡ None
not_some None e = refl
not_some (Some p) e = cc

-- the file of the name is there: what is left is the test of its status, and for a rename that of the new name
module _ (d : List ℕ) (n : Name) (p : Place) (e : found_of (find (holds (File n)) (rows d)) ≡ Some p) where
  behind : Behind (file_of d n) p
  behind = file-found d n p e

  status-is : protected behind.row.entry ≡ eqb p.status protected_status
  unfolding protected
  status-is = ap (λ (q : Place). eqb q.status protected_status) behind.place

  pub deleted-protected : eqb p.status protected_status ≡ true → deleted d n ≡ refuse 20 d
  unfolding deleted
  deleted-protected t = rw (behind.is, status-is ∙ t)

  pub deleted-at : eqb p.status protected_status ≡ false
      → deleted d n ≡ record { answer = answer_at p; words = write d (put p.at status_word empty_status ∷ []) }
  unfolding deleted success_with success emptying
  deleted-at t =
      rw (behind.is, status-is ∙ t)
      (ap (λ (q : Place). record { answer = answer_at q; words = write d (put q.at status_word empty_status ∷ []) }) behind.place)

  pub renamed-protected : (new : Name) → eqb p.status protected_status ≡ true → renamed d n new ≡ refuse 20 d
  unfolding renamed
  renamed-protected new t = rw (behind.is, status-is ∙ t)

  pub renamed_taken : (new : Name) → eqb p.status protected_status ≡ false → is_some (found_of (find (holds (File new)) (rows d))) ≡ true
      → renamed d n new ≡ refuse 14 d
  unfolding renamed
  renamed_taken new t f = rw (behind.is, status-is ∙ t, name_taken d new f)

  pub renamed-at : (new : Name) → eqb p.status protected_status ≡ false → found_of (find (holds (File new)) (rows d)) ≡ None
      → renamed d n new ≡ record {
        answer = answer_at p;
        words = write d (put p.at name_word new.first ∷ put p.at name2_word new.second ∷ put p.at extension_word new.extension ∷ []);
      }
  unfolding renamed success_with success renaming
  renamed-at new t f =
      rw (behind.is, status-is ∙ t, file-none d new f)
      (ap
      (λ (q : Place). record {
        answer = answer_at q;
        words = write d (put q.at name_word new.first ∷ put q.at name2_word new.second ∷ put q.at extension_word new.extension ∷ []);
      })
      behind.place)
