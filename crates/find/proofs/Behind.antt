-- What was found, and the row behind it: a place that was found is that of a row of the directory, so its numbers fit words. Each is by
-- the cases of what was found.
use Prim.Native.Nat.{ℕ}
use native.Mathlib.Omega.{arith}
use mathlib.Core.Path.{◌≡◌, refl, sym, ◌∙◌, subst}
use mathlib.Core.Bool.{Bool}
use mathlib.Core.List.{List, [], ◌∷◌}
use mathlib.Core.Option.{Option, none, some}
use Rattle.meaning.specs.Words.{Entry, status_word, protected, Row, rows}
use Rattle.meaning.specs.Sound.{fault}
use Rattle.meaning.specs.Answers.{Meets, refuse, success, on_row, is_protected, find, file_of, open_on, put, write}
use Rattle.meaning.specs.Requests.{success_with, restating, gives_way, over_protected}
use Rattle.meaning.specs.declared.Name.{Name}
use Rattle.meaning.specs.declared.Key.{Key}
use Rattle.meaning.specs.declared.Key.TheVariants.{File, Open}
use Rattle.meaning.specs.Keys.{holds}
use Rattle.segment.specs.declared.finder.Place.{Place}
use Rattle.std.proofs.Common.{Some, None, Result, Ok, Err}
use Rattle.std.specs.Option.{ok_or}
use Rattle.std.specs.declared.option.Option as maybe
use Rattle.meaning.specs.declared.Granted.{Granted}
use Rattle.meaning.specs.declared.Refusal.{Refusal}
use Rattle.meaning.specs.Told.{number_of, told}
use Rattle.segment.specs.Finder.{Found, place_of, found_of}
use Rattle.rules.proofs.Soundness.{sound}
use Rattle.rules.proofs.Rows.{find-some}
use Rattle.rules.proofs.Grown.{row_ends}
use Rattle.rules.proofs.Standing.{RowStands, rows-stand, stands_small}
use Rattle.find.specs.Find.{protected_at, FitsWords, answer_at, told_by, restated}

-- what is told at the exit of a `?`: the refusal that it met, and no word is changed
pub passed-on : (r : Result Granted Refusal) (y f : Refusal) (d : List ℕ) → r ≡ Err y → y ≡ f → Meets (told r) d (refuse (number_of f) d)
unfolding refuse
passed-on r y f d p q = rw (p, q) (record { answer = refl; words = refl })

-- what is told where nothing was found, by `o.ok_or(e)?`: e, and no word is changed
pub unfound : {T : Type 0} (r : Result Granted Refusal) (y f e : Refusal) {o : maybe.Option T} (d : List ℕ) → r ≡ Err y → y ≡ f
    → ◌≡◌ {A = Result T Refusal} (Err f) (ok_or o e) → o ≡ None
    → Meets (told r) d (refuse (number_of e) d)
unfolding refuse
unfound r y f e d p q t n = let z : r ≡ Err e = grind arith in rw z (record { answer = refl; words = refl })

-- a row behind a place that was found
pub record Behind (o : Option Row) (p : Place) : Type 0 where
  pub row : Row
  pub is : o ≡ some row
  pub place : place_of row ≡ p

pub found_some : (o : Option Row) (p : Place) → found_of o ≡ Some p → Behind o p
found_some none p e = absurd (let z : ◌≡◌ {A = ℕ} 0 1 = cc in omega arith)
found_some (some r) p e = record { row = r; is = refl; place = cc }

pub found_none : (o : Option Row) → found_of o ≡ None → o ≡ none
found_none none e = refl
found_none (some r) e = absurd (let z : ◌≡◌ {A = ℕ} 0 1 = cc in omega arith)

-- a place that was found in a sound directory has numbers that fit words
row_small : (v : ℕ) (d : List ℕ) → fault v d ≡ 0 → (t : Entry → Bool) (r : Row) → find t (rows d) ≡ some r → FitsWords (place_of r)
row_small v d h t r e =
    let s = sound v d h in
    let l = row_ends v d h t r e in
    let x = (find-some (RowStands d) t (rows d) r (rows-stand v d s) e).0 in
    let m = stands_small v d s r.seg r.slot r.first r.entry x in
    record { first = omega arith; seg = omega (arith, m.0); slot = omega (arith, m.1) }

pub place-small : (v : ℕ) (d : List ℕ) → fault v d ≡ 0 → (key : Key) (p : Place) → found_of (find (holds key) (rows d)) ≡ Some p → FitsWords p
place-small v d h key p e =
    let b = found_some (find (holds key) (rows d)) p e in
    subst FitsWords b.place (row_small v d h (holds key) b.row b.is)

-- the file of a name, and the tentative entry on a channel word, as they were looked for
pub file-found : (d : List ℕ) (n : Name) (p : Place) → found_of (find (holds (File n)) (rows d)) ≡ Some p → Behind (file_of d n) p
unfolding file_of
file-found d n p e = found_some (find (holds (File n)) (rows d)) p e

pub file-none : (d : List ℕ) (n : Name) → found_of (find (holds (File n)) (rows d)) ≡ None → file_of d n ≡ none
unfolding file_of
file-none d n e = found_none (find (holds (File n)) (rows d)) e

pub open_found : (d : List ℕ) (x : ℕ) (p : Place) → found_of (find (holds (Open x)) (rows d)) ≡ Some p → Behind (open_on d x) p
unfolding open_on
open_found d x p e = found_some (find (holds (Open x)) (rows d)) p e

pub open_none : (d : List ℕ) (x : ℕ) → found_of (find (holds (Open x)) (rows d)) ≡ None → open_on d x ≡ none
unfolding open_on
open_none d x e = found_none (find (holds (Open x)) (rows d)) e

-- a protected file was found just where the row behind it is one
protected-found : (o : Option Row) (f : Found) → f ≡ found_of o → protected_at f ≡ is_protected o
unfolding protected
protected-found none f e = rw e
protected-found (some r) f e = rw e

-- so a new file would come over a protected one just where that is found in its place
pub over-protected : (d : List ℕ) (n : Name) (f : Found) (t : Bool) → f ≡ found_of (gives_way d n) → t ≡ protected_at f → over_protected d n ≡ t
unfolding over_protected
over-protected d n f t e g = sym (g ∙ protected-found (gives_way d n) f e)

-- abandon, protect and unprotect, by what was found
pub restated-at : (d : List ℕ) (key : Key) (missing status : ℕ) (p : Place) → found_of (find (holds key) (rows d)) ≡ Some p
    → restated d key missing status ≡ record { answer = answer_at p; words = write d (put p.at status_word status ∷ []) }
unfolding restated success_with success restating
restated-at d key missing status p e = go (find (holds key) (rows d)) e
  where
    go : (o : Option Row) → found_of o ≡ Some p
        → on_row missing o d (λ r. success_with r (write d (restating r status)))
        ≡ record { answer = answer_at p; words = write d (put p.at status_word status ∷ []) }
    go none q = absurd (let z : ◌≡◌ {A = ℕ} 0 1 = cc in omega arith)
    go (some r) q = let l : place_of r ≡ p = cc in rw (← l)

pub restated-none : (d : List ℕ) (key : Key) (missing status : ℕ) → found_of (find (holds key) (rows d)) ≡ None
    → restated d key missing status ≡ refuse missing d
unfolding restated
restated-none d key missing status e = rw (found_none (find (holds key) (rows d)) e)

-- a result whose refusals have the numbers of the requests is told by them
pub told-by-number : (r : Result Granted Refusal) → told_by number_of r ≡ told r
told-by-number (Ok e) = refl
told-by-number (Err f) = refl
