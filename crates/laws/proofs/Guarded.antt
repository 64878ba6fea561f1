-- A protected file stays where it is: no request that may name it is carried out but an unprotect. A request whose key is another leaves all
-- rows of its name; a delete, a rename or a close that has found it is refused, since it found the one file of the name, which is protected;
-- and a protect writes the status that it has. Of FILE.BAD, which may stand more than once, every one stays.
use Prim.Native.Nat.{ℕ, ◌+◌, ◌≤◌}
use native.Mathlib.Omega.{arith}
use mathlib.Core.Path.{◌≡◌, refl, sym, ap, ◌∙◌, subst}
use mathlib.Core.Logic.{◌⊎◌, inl, inr, ⊎_elim}
use mathlib.Core.Bool.{Bool, true, false, cond, true≢false}
use mathlib.Core.List.{List, [], ◌∷◌, map}
use mathlib.Core.Option.{Option, none, some, none-ne-some}
use lib.ListN.{length, get_or}
use borrow.Author.Tests.{eqb-true}
use Rattle.meaning.specs.declared.Name.{Name}
use Rattle.meaning.specs.declared.Key.{Key}
use Rattle.meaning.specs.declared.Key.TheVariants.{File, Open}
use Rattle.meaning.specs.Kinds.{permanent_status, protected_status, kind_of}
use Rattle.meaning.specs.Words.{Entry, status_word, name_of, protected, Row, rows}
use Rattle.meaning.specs.Keys.{holds, file_bad, spared, once}
use Rattle.meaning.specs.Sound.{fault}
use Rattle.meaning.specs.Answers.{is_protected, file_of, Write, write}
use Rattle.meaning.specs.Requests.{legal, lookup, word_of, over_protected, closing}
use Rattle.laws.specs.Kept.{Present, AllStay, SameFile}
use Rattle.laws.specs.Order.{every}
use Rattle.rules.proofs.Keys.{once-file, spared-is, old-file, same_key_lem, file-holds, file≢open, count}
use Rattle.rules.proofs.Soundness.{Sound, sound}
use Rattle.rules.proofs.Rows.{entry_of, few-rows}
use Rattle.laws.proofs.Keeps.{first_of, find_first, every_other}
use Rattle.laws.proofs.Good.{Good, One, Two}
use Rattle.laws.proofs.Living.{face}
use Rattle.laws.proofs.Stays.{stays}
use Rattle.laws.proofs.Plans.{Plan, delete_plan, restate_plan, abandon_plan, rename_plan, close_plan}
use Rattle.laws.proofs.Deeds.{file-key, file-made, stated-already, open_at, AbandonNames}
use Rattle.laws.proofs.Deeds.{Refused, DeleteDone, delete_view, RestateDone, restate_view, RenameDone, rename_view, CloseDone, close_view}
use Rattle.laws.proofs.Deeds.{delete-good, restate-good, abandon-good, rename-good}
use Rattle.laws.proofs.Served.{protected-permanent, plain-permanent}
use Rattle.laws.proofs.Lookups.{lookup-seen, same_seen}

-- a protected entry is a file of its name
protected-status : (e : Entry) → protected e ≡ true → get_or e status_word 0 ≡ protected_status
unfolding protected
protected-status e s = eqb-true _ _ s

pub protected-file : (e : Entry) → protected e ≡ true → holds (File (name_of e)) e ≡ true
protected-file e s =
    file-holds (name_of e) e (record { permanent = ap kind_of (protected-status e s) ∙ protected-permanent; name = refl })

-- an entry among rows is among those that pass a test which it passes, and the other way round
present-every : (p : Entry → Bool) (rs : List Row) (first : ℕ) (e : Entry) → p e ≡ true → Present rs first e → Present (every p rs) first e
unfolding every
present-every p [] first e h x = x
present-every p (r ∷ rs) first e h x = go (p r.entry) refl x (present-every p rs first e h)
  where
    go : (b : Bool) → p r.entry ≡ b → Present (r ∷ rs) first e → (Present rs first e → Present (every p rs) first e)
        → Present (cond b (r ∷ every p rs) (every p rs)) first e
    go true g (inl y) i = inl y
    go true g (inr y) i = inr (i y)
    go false g (inl y) i = absurd (true≢false (sym h ∙ ap p (sym y.1) ∙ g))
    go false g (inr y) i = i y

every-present : (p : Entry → Bool) (rs : List Row) (first : ℕ) (e : Entry) → Present (every p rs) first e → Present rs first e
unfolding every
every-present p [] first e x = x
every-present p (r ∷ rs) first e x = go (p r.entry) x (every-present p rs first e)
  where
    go : (b : Bool) → Present (cond b (r ∷ every p rs) (every p rs)) first e → (Present (every p rs) first e → Present rs first e)
        → Present (r ∷ rs) first e
    go true (inl y) i = inl y
    go true (inr y) i = inr (i y)
    go false y i = inr (i y)

-- what stays is there
stay-present : (rs ss : List Row) (first : ℕ) (e : Entry) → AllStay rs ss → Present rs first e → Present ss first e
stay-present [] ss first e a x = absurd x
stay-present (r ∷ rs) [] first e a x = absurd a
stay-present (r ∷ rs) (s ∷ ss) first e (inl a) (inl y) = inl (sym a.0 ∙ y.0, sym a.1 ∙ y.1)
stay-present (r ∷ rs) (s ∷ ss) first e (inl a) (inr y) = inr (stay-present rs ss first e a.2 y)
stay-present (r ∷ rs) (s ∷ ss) first e (inr a) y = inr (stay-present (r ∷ rs) ss first e a y)

pub of_name : (n : Name) (rs ss : List Row) (first : ℕ) (e : Entry) → holds (File n) e ≡ true
    → AllStay (every (holds (File n)) rs) (every (holds (File n)) ss) → Present rs first e → Present ss first e
of_name n rs ss first e h a x =
    every-present (holds (File n)) ss first e
    (stay-present (every (holds (File n)) rs) (every (holds (File n)) ss) first e a (present-every (holds (File n)) rs first e h x))

-- of a key that may stand once the entry that is there is the one found
every-count : (p : Entry → Bool) (rs : List Row) → length (every p rs) ≡ count p (map entry_of rs)
unfolding every count
every-count p [] = refl
every-count p (r ∷ rs) = go (p r.entry) (every-count p rs)
  where
    go : (b : Bool) → length (every p rs) ≡ count p (map entry_of rs)
        → length (cond b (r ∷ every p rs) (every p rs)) ≡ cond b 1 0 + count p (map entry_of rs)
    go true i = omega arith
    go false i = omega arith

record TheOne (o : Option Row) (first : ℕ) (e : Entry) : Type 0 where
  row : Row
  found : o ≡ some row
  from : row.first ≡ first
  entry : row.entry ≡ e

single : (rs : List Row) (first : ℕ) (e : Entry) → length rs ≤ 1 → Present rs first e → TheOne (first_of rs) first e
unfolding first_of
single [] first e l x = absurd x
single (r ∷ []) first e l (inl x) = record { row = r; found = refl; from = x.0; entry = x.1 }
single (r ∷ []) first e l (inr x) = absurd x
single (r ∷ s ∷ rs) first e l x = absurd (omega arith)

module _ (v : ℕ) (d : List ℕ) (h : fault v d ≡ 0) (first : ℕ) (e : Entry) (there : Present (rows d) first e) (safe : protected e ≡ true) where
  abbrev k : Key
  k = File (name_of e)

  s : Sound v d
  s = sound v d h

  found-there : once (File (name_of e)) ≡ true → TheOne (file_of d (name_of e)) first e
  found-there o =
      let c = every-count (holds k) (rows d) in
      let f = few-rows v d s k o in
      rw (file-key d (name_of e), find_first (holds k) (rows d))
      (single (every (holds k) (rows d)) first e (omega arith) (present-every (holds k) (rows d) first e (protected-file e safe) there))

  -- so what is found by its name is this entry, and is protected
  by_name : (m : Name) → k ≡ File m → once (File m) ≡ true → TheOne (file_of d m) first e
  by_name m q o =
      let n : name_of e ≡ m = cc in
      subst (λ (z : Name). TheOne (file_of d z) first e) n (found-there (rw (← n) at o))

  is_this : (m : Name) → k ≡ File m → once (File m) ≡ true → (r : Row) → file_of d m ≡ some r → r.entry ≡ e
  is_this m q o r g =
      let x = by_name m q o in
      let i = x.found in
      let y : r ≡ x.row = cc in
      ap entry_of y ∙ x.entry

  never_free : (m : Name) → k ≡ File m → once (File m) ≡ true → (r : Row) → file_of d m ≡ some r → protected r.entry ≡ false → ⊥
  never_free m q o r g f = true≢false (sym safe ∙ ap protected (sym (is_this m q o r g)) ∙ f)

  never_over : (m : Name) → k ≡ File m → spared m ≡ false → over_protected d m ≡ false → ⊥
  unfolding over_protected
  never_over m q t f =
      let x = by_name m q (once-file m t) in
      let i = old-file d m t ∙ sym (file-key d m) ∙ x.found in
      never_free m q (once-file m t) x.row x.found (sym (ap is_protected i) ∙ f)

  -- writes for other keys, and no writes
  others : (C : Key → Type 0) (ws : List Write) → Good d C ws → (C (File (name_of e)) → ⊥) → Present (rows (write d ws)) first e
  others C ws g out =
      every-present (holds k) (rows (write d ws)) first e
      (subst (λ (l : List Row). Present l first e) (sym (every_other v C g.fall d (write d ws) s g.move k out))
      (present-every (holds k) (rows d) first e (protected-file e safe) there))

  unwritten : (p : Plan) → Refused p → Present (rows (write d p.writes)) first e
  unfolding write
  unwritten p r = rw r.plan there

  pub by_delete_lem : (name : Name) → Present (rows (write d (delete_plan d name).writes)) first e
  by_delete_lem name = go (same_key_lem k (File name)) (delete_view d name)
    where
      go : Dec (k ≡ File name) → Refused (delete_plan d name) ⊎ DeleteDone d name
          → Present (rows (write d (delete_plan d name).writes)) first e
      go (no q) x = others (One (File name)) _ (delete-good v d s name) q
      go (yes q) (inl r) = unwritten _ r
      go (yes q) (inr x) = absurd (never_free name q x.single x.row x.old x.free)

  pub by_rename_lem : (old new : Name) → Present (rows (write d (rename_plan d old new).writes)) first e
  by_rename_lem old new = go (same_key_lem k (File old)) (same_key_lem k (File new)) (rename_view d old new)
    where
      go : Dec (k ≡ File old) → Dec (k ≡ File new) → Refused (rename_plan d old new) ⊎ RenameDone d old new
          → Present (rows (write d (rename_plan d old new).writes)) first e
      go x y (inl r) = unwritten _ r
      go (yes q) y (inr x) = absurd (never_free old q x.single_old x.row x.was x.free)
      go (no q) (yes p) (inr x) =
          let z = by_name new p x.single_new in
          absurd (none-ne-some z.row (sym x.none_new ∙ z.found))
      go (no q) (no p) (inr x) = others (Two (File old) (File new)) _ (rename-good v d s old new) (⊎_elim q p)

  pub by_abandon_lem : (job ch : ℕ) → Present (rows (write d (abandon_plan d job ch).writes)) first e
  by_abandon_lem job ch = others (AbandonNames (word_of job ch) (open_at d job ch)) _ (abandon-good v d s job ch) (no-file (open_at d job ch))
    where
      no-file : (o : Option Row) → AbandonNames (word_of job ch) o k → ⊥
      no-file none n = n
      no-file (some r) n = file≢open (name_of e) (word_of job ch) n

  pub by_close_lem : (job ch : ℕ) (final : Option ℕ) → Present (rows (write d (close_plan d job ch final).writes)) first e
  by_close_lem job ch final = ⊎_elim (unwritten _) (λ x. rw x.plan (made x (same_key_lem k (File (name_of x.row.entry))))) (close_view d job ch final)
    where
      good : (x : CloseDone d job ch final)
          → Good d (Two (Open (word_of job ch)) (File (name_of x.row.entry))) (closing d x.row x.n)
      good x = (file-made v d s (word_of job ch) x.row x.old x.n x.least).good

      over : (x : CloseDone d job ch final) → k ≡ File (name_of x.row.entry) → (b : Bool) → spared (name_of x.row.entry) ≡ b
          → Present (rows (write d (closing d x.row x.n))) first e
      over x q false t = absurd (never_over (name_of x.row.entry) q t x.free)
      over x q true t =
          let n : name_of e ≡ name_of x.row.entry = cc in
          let g = good x in
          of_name file_bad (rows d) _ first e
          (subst (λ (z : Name). holds (File z) e ≡ true) (n ∙ spared-is _ t) (protected-file e safe))
          (stays v _ g.fall d _ s g.move)
          there

      made : (x : CloseDone d job ch final) → Dec (k ≡ File (name_of x.row.entry))
          → Present (rows (write d (closing d x.row x.n))) first e
      made x (yes q) = over x q (spared (name_of x.row.entry)) refl
      made x (no q) = others _ _ (good x) (⊎_elim (file≢open (name_of e) (word_of job ch)) q)

  pub by_protect-again : (name : Name) → Present (rows (write d (restate_plan d name protected_status).writes)) first e
  by_protect-again name = go (same_key_lem k (File name)) (restate_view d name protected_status)
    where
      go : Dec (k ≡ File name) → Refused (restate_plan d name protected_status) ⊎ RestateDone d name protected_status
          → Present (rows (write d (restate_plan d name protected_status).writes)) first e
      go (no q) x = others (One (File name)) _ (restate-good v d s name protected_status protected-permanent) q
      go (yes q) (inl r) = unwritten _ r
      go (yes q) (inr x) =
          let a = is_this name q x.single x.row x.old in
          let g = stated-already v d s name x.row x.old protected_status (ap (λ (z : Entry). get_or z status_word 0) a ∙ protected-status e safe) in
          rw x.plan (subst (λ (l : List ℕ). Present (rows l) first e) (sym g) there)

  pub by_unprotect_other : (name : Name) → (name ≡ name_of e → ⊥) → Present (rows (write d (restate_plan d name permanent_status).writes)) first e
  by_unprotect_other name ne =
      others (One (File name)) _ (restate-good v d s name permanent_status plain-permanent) (λ q. ne (let n : name_of e ≡ name = cc in sym n))

-- lookup answers by what it finds, so a file that is still there is answered as before, wherever it is
pub same_answer : (v : ℕ) (d d' : List ℕ) → fault v d ≡ 0 → fault v d' ≡ 0 → (first : ℕ) (e : Entry) → protected e ≡ true
    → once (File (name_of e)) ≡ true → Present (rows d) first e → Present (rows d') first e
    → SameFile (lookup v d' (name_of e)).answer (lookup v d (name_of e)).answer
same_answer v d d' h h' first e safe o p p' =
    let n = name_of e in
    let x = found-there v d h first e p safe o in
    let y = found-there v d' h' first e p' safe o in
    let f : face y.row ≡ face x.row = rw (y.from, y.entry, x.from, x.entry) in
    rw (lookup-seen v d' h' n, lookup-seen v d h n, x.found, y.found) (same_seen (legal n) (some y.row) (some x.row) (ap some f))
