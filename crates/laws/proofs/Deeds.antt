-- The writes of each request are good for the keys that it names, whether it is refused or not. A plan is a refusal, without
-- writes, or a record says what the request has found; then the entry found is emptied, renamed, given another status or closed
-- (OneEntry, Closing).
use Prim.Native.Nat.{ℕ, suc, ◌+◌, ◌≤◌}
use mathlib.Core.Path.{◌≡◌, refl, sym, ap, ◌∙◌, subst}
use mathlib.Core.Logic.{◌⊎◌, inl, inr, ⊎_elim}
use mathlib.Core.Bool.{Bool, true, false, cond, ◌&&◌, ◌||◌, true≢false}
use native.Mathlib.Omega.{arith}
use lib.ListN.{get_or, set}
use lib.Seq.{set-get_or}
use mathlib.Core.List.{List}
use mathlib.Core.Option.{Option, none, some, none-ne-some}
use lib.Dec.{leb}
use borrow.Author.Tests.{leb-true, not-true}
use Rattle.bools.proofs.Bools.{both, neither}
use Rattle.meaning.specs.declared.Name.{Name}
use Rattle.meaning.specs.declared.Kind.TheVariants.{Permanent}
use Rattle.meaning.specs.Kinds.{kind_of}
use Rattle.meaning.specs.Words.{slot_words, Entry, status_word, name_of, protected, blocks, Row, rows}
use Rattle.meaning.specs.Answers.{find, file_of, open_on, write}
use Rattle.meaning.specs.Requests.{legal, emptying, restating, good_channel, word_of, renaming, gives_way, over_protected, closing}
use Rattle.meaning.specs.declared.Key.{Key}
use Rattle.meaning.specs.declared.Key.TheVariants.{File, Open}
use Rattle.meaning.specs.Keys.{holds, spared, once}
use Rattle.laws.specs.Order.{OnFound}
use Rattle.walks.specs.Lists.{All}
use Rattle.walks.proofs.Alls.{all_map}
use Rattle.rules.proofs.Keys.{once-file, once_open, no_old, old-file}
use Rattle.rules.proofs.Grid.{word_at_lem}
use Rattle.rules.proofs.Soundness.{Sound}
use Rattle.rules.proofs.Rows.{Stand, standing, few-rows, find-some, Fails, find_none, Only, find-only}
use Rattle.laws.proofs.Entries.{legal-short}
use Rattle.laws.proofs.Good.{Good, One, Two, Gone, Made, Stated, nothing_good}
use Rattle.laws.proofs.OneEntry.{clearing, stating, giving}
use Rattle.laws.proofs.Closing.{Replaced, making}
use Rattle.laws.proofs.Plans.{Plan, refused, done, delete_plan, restate_plan, abandon_plan, rename_plan, close_plan}

-- what is found by a key
pub file-key : (d : List ℕ) (n : Name) → file_of d n ≡ find (holds (File n)) (rows d)
unfolding file_of
file-key d n = refl

pub open_key : (d : List ℕ) (x : ℕ) → open_on d x ≡ find (holds (Open x)) (rows d)
unfolding open_on
open_key d x = refl

-- the file that gives way to a new one is found by its name, which may stand once; and of such a name it is what is found
old-is : (d : List ℕ) (n : Name) (r : Row) → gives_way d n ≡ some r → (find (holds (File n)) (rows d) ≡ some r) × (once (File n) ≡ true)
old-is d n r e = go (spared n) refl
  where
    go : (b : Bool) → spared n ≡ b → (find (holds (File n)) (rows d) ≡ some r) × (once (File n) ≡ true)
    go true s = absurd (none-ne-some r (sym (no_old d n s) ∙ e))
    go false s = (sym (old-file d n s) ∙ e, once-file n s)

old-once : (d : List ℕ) (n : Name) → once (File n) ≡ true → find (holds (File n)) (rows d) ≡ gives_way d n
unfolding once
old-once d n o = sym (old-file d n (not-true (spared n) o))

pub record FoundBy (d : List ℕ) (k : Key) (r : Row) : Type 0 where
  pub stand : Stand d r
  pub has : holds k r.entry ≡ true
  pub only : once k ≡ true → All (Only (holds k) r.at) (rows d)

pub found_by : (v : ℕ) (d : List ℕ) → Sound v d → (k : Key) (r : Row) → find (holds k) (rows d) ≡ some r → FoundBy d k r
found_by v d s k r e =
    let x = find-some (Stand d) (holds k) (rows d) r (standing v d s) e in
    record { stand = x.0; has = x.1; only = λ o. find-only (holds k) (rows d) r (few-rows v d s k o) e }

-- what the writes make of the keys
module _ (v : ℕ) (d : List ℕ) (s : Sound v d) where
  abbrev st : All (Stand d) (rows d)
  st = standing v d s

  emptied : (k : Key) → once k ≡ true → (r : Row) → find (holds k) (rows d) ≡ some r → Gone d r k (emptying r)
  emptied k o r e =
      let f = found_by v d s k r e in
      clearing d st r f.stand k o f.has (f.only o)

  pub file-gone : (n : Name) → once (File n) ≡ true → (r : Row) → file_of d n ≡ some r → Gone d r (File n) (emptying r)
  file-gone n o r e = emptied (File n) o r (sym (file-key d n) ∙ e)

  pub open_gone : (x : ℕ) (r : Row) → open_on d x ≡ some r → Gone d r (Open x) (emptying r)
  open_gone x r e = emptied (Open x) (once_open x) r (sym (open_key d x) ∙ e)

  pub file-stated : (name : Name) → once (File name) ≡ true → (r : Row) → file_of d name ≡ some r → legal name ≡ true
      → (status : ℕ) → kind_of status ≡ Permanent → Stated d r (File name) (set r.entry status_word status) (restating r status)
  file-stated name o r e l status perm =
      let f = found_by v d s (File name) r (sym (file-key d name) ∙ e) in
      stating d st r f.stand name o f.has (f.only o) (legal-short name l) status perm

  -- a status that the file has already changes nothing
  pub stated-already : (name : Name) (r : Row) → file_of d name ≡ some r → (status : ℕ) → get_or r.entry status_word 0 ≡ status
      → write d (restating r status) ≡ d
  unfolding restating write
  stated-already name r e status g =
      let f = found_by v d s (File name) r (sym (file-key d name) ∙ e) in
      let x : get_or d (r.at + status_word) 0 ≡ status =
      sym (word_at_lem d (slot_words d) r.at status_word (omega arith)) ∙ ap (λ (z : Entry). get_or z status_word 0) (sym f.stand.is) ∙ g in
      rw (← x) (set-get_or d (r.at + status_word) 0)

  pub name-made : (old new : Name) → once (File old) ≡ true → (r : Row) → file_of d old ≡ some r → file_of d new ≡ none
      → legal new ≡ true → Made d r (File old) (File new) (blocks r.entry) (renaming r new)
  name-made old new o r e e' l =
      let g = sym (file-key d old) ∙ e in
      let g' = sym (file-key d new) ∙ e' in
      let f = found_by v d s (File old) r g in
      giving d st r f.stand old new o f.has (f.only o) (find_none (holds (File new)) (rows d) g')
      (λ q. none-ne-some r (sym g' ∙ ap (λ (k : Key). find (holds k) (rows d)) (sym q) ∙ g))
      (legal-short new l)

  one_replaced : (k : Key) → once k ≡ true → (o : Option Row) → find (holds k) (rows d) ≡ o
      → All (λ (x : Row). holds k x.entry ≡ true → Replaced o x) (rows d)
  one_replaced k one none e =
      all_map (Fails (holds k)) (λ (x : Row). holds k x.entry ≡ true → ⊥) (λ x g z. true≢false (sym z ∙ g)) (rows d)
      (find_none (holds k) (rows d) e)
  one_replaced k one (some r) e = (found_by v d s k r e).only one

  pub file-made : (y : ℕ) (r : Row) → open_on d y ≡ some r → (n : ℕ) → n ≤ blocks r.entry
      → Made d r (Open y) (File (name_of r.entry)) n (closing d r n)
  unfolding closing
  file-made y r e n l =
      let k = File (name_of r.entry) in
      let f = found_by v d s (Open y) r (sym (open_key d y) ∙ e) in
      making d st r f.stand y f.has (f.only (once_open y)) n l (gives_way d (name_of r.entry))
      (λ x g.
      let i = old-is d (name_of r.entry) x g in
      let z = found_by v d s k x i.0 in
      (z.stand, z.has, i.1))
      (λ o. one_replaced k o (gives_way d (name_of r.entry)) (old-once d (name_of r.entry) o))

-- the channel of a request, where it is a channel and is open; what a close and an abandon name
abbrev pub open_at : List ℕ → ℕ → ℕ → Option Row
open_at d job ch = cond (good_channel job ch) (open_on d (word_of job ch)) none

abbrev pub CloseNames : ℕ → Option Row → Key → Type 0
CloseNames x o k = OnFound o (λ r. (k ≡ Open x) ⊎ (k ≡ File (name_of r.entry)))

abbrev pub AbandonNames : ℕ → Option Row → Key → Type 0
AbandonNames x o k = OnFound o (λ r. k ≡ Open x)

pub open_at_lem : (d : List ℕ) (job ch : ℕ) (r : Row) → good_channel job ch ≡ true → open_on d (word_of job ch) ≡ some r
    → open_at d job ch ≡ some r
open_at_lem d job ch r i e = rw (i, e)

-- a plan is a refusal, or what a request that succeeds has found tells it
pub record Refused (p : Plan) : Type 0 where
  pub less : ℕ
  pub plan : p ≡ refused (suc less)

-- (a file that is deleted or renamed has a name that may stand once, and is not protected)
pub record DeleteDone (d : List ℕ) (name : Name) : Type 0 where
  pub row : Row
  pub legal : legal name ≡ true
  pub single : once (File name) ≡ true
  pub old : file_of d name ≡ some row
  pub free : protected row.entry ≡ false
  pub plan : delete_plan d name ≡ done row (blocks row.entry) (emptying row)

pub delete_view : (d : List ℕ) (name : Name) → Refused (delete_plan d name) ⊎ DeleteDone d name
unfolding delete_plan
delete_view d name = go (legal name) refl (spared name) refl (file_of d name) refl
  where
    at : legal name ≡ true → spared name ≡ false → (r : Row) → file_of d name ≡ some r → (z : Bool) → protected r.entry ≡ z
        → Refused (delete_plan d name) ⊎ DeleteDone d name
    at i j r e true g = inl (record { less = 19; plan = rw (i, j, e, g) })
    at i j r e false g =
        inr (record { row = r; legal = i; single = once-file name j; old = e; free = g; plan = rw (i, j, e, g) })

    go : (x : Bool) → legal name ≡ x → (y : Bool) → spared name ≡ y → (o : Option Row) → file_of d name ≡ o
        → Refused (delete_plan d name) ⊎ DeleteDone d name
    go false i y j o e = inl (record { less = 6; plan = rw i })
    go true i true j o e = inl (record { less = 18; plan = rw (i, j) })
    go true i false j none e = inl (record { less = 12; plan = rw (i, j, e) })
    go true i false j (some r) e = at i j r e (protected r.entry) refl

pub record RestateDone (d : List ℕ) (name : Name) (status : ℕ) : Type 0 where
  pub row : Row
  pub legal : legal name ≡ true
  pub single : once (File name) ≡ true
  pub old : file_of d name ≡ some row
  pub plan : restate_plan d name status ≡ done row (blocks row.entry) (restating row status)

pub restate_view : (d : List ℕ) (name : Name) (status : ℕ) → Refused (restate_plan d name status) ⊎ RestateDone d name status
unfolding restate_plan
restate_view d name status = go (legal name) refl (spared name) refl (file_of d name) refl
  where
    go : (x : Bool) → legal name ≡ x → (y : Bool) → spared name ≡ y → (o : Option Row) → file_of d name ≡ o
        → Refused (restate_plan d name status) ⊎ RestateDone d name status
    go false i y j o e = inl (record { less = 6; plan = rw i })
    go true i true j o e = inl (record { less = 18; plan = rw (i, j) })
    go true i false j none e = inl (record { less = 12; plan = rw (i, j, e) })
    go true i false j (some r) e = inr (record { row = r; legal = i; single = once-file name j; old = e; plan = rw (i, j, e) })

pub record AbandonDone (d : List ℕ) (job ch : ℕ) : Type 0 where
  pub row : Row
  pub good : good_channel job ch ≡ true
  pub old : open_on d (word_of job ch) ≡ some row
  pub plan : abandon_plan d job ch ≡ done row (blocks row.entry) (emptying row)

pub abandon_view : (d : List ℕ) (job ch : ℕ) → Refused (abandon_plan d job ch) ⊎ AbandonDone d job ch
unfolding abandon_plan
abandon_view d job ch = go (good_channel job ch) refl (open_on d (word_of job ch)) refl
  where
    go : (x : Bool) → good_channel job ch ≡ x → (o : Option Row) → open_on d (word_of job ch) ≡ o
        → Refused (abandon_plan d job ch) ⊎ AbandonDone d job ch
    go false i o e = inl (record { less = 7; plan = rw i })
    go true i none e = inl (record { less = 14; plan = rw (i, e) })
    go true i (some r) e = inr (record { row = r; good = i; old = e; plan = rw (i, e) })

pub record RenameDone (d : List ℕ) (old new : Name) : Type 0 where
  pub row : Row
  pub legal_old : legal old ≡ true
  pub legal_new : legal new ≡ true
  pub single_old : once (File old) ≡ true
  pub single_new : once (File new) ≡ true
  pub was : file_of d old ≡ some row
  pub free : protected row.entry ≡ false
  pub none_new : file_of d new ≡ none
  pub plan : rename_plan d old new ≡ done row (blocks row.entry) (renaming row new)

pub rename_view : (d : List ℕ) (old new : Name) → Refused (rename_plan d old new) ⊎ RenameDone d old new
unfolding rename_plan
rename_view d old new = go (legal old && legal new) refl (spared old || spared new) refl (file_of d old) refl
  where
    at : legal old && legal new ≡ true → spared old || spared new ≡ false → (r : Row) → file_of d old ≡ some r
        → (z : Bool) → protected r.entry ≡ z → (o : Option Row) → file_of d new ≡ o → Refused (rename_plan d old new) ⊎ RenameDone d old new
    at i j r e true g o f = inl (record { less = 19; plan = rw (i, j, e, g) })
    at i j r e false g (some r') f = inl (record { less = 13; plan = rw (i, j, e, g, f) })
    at i j r e false g none f =
        let l = both (legal old) (legal new) i in
        let n = neither (spared old) (spared new) j in
        inr
        (record {
          row = r;
          legal_old = l.0;
          legal_new = l.1;
          single_old = once-file old n.0;
          single_new = once-file new n.1;
          was = e;
          free = g;
          none_new = f;
          plan = rw (i, j, e, f, g);
        })

    go : (x : Bool) → legal old && legal new ≡ x → (y : Bool) → spared old || spared new ≡ y → (o : Option Row) → file_of d old ≡ o
        → Refused (rename_plan d old new) ⊎ RenameDone d old new
    go false i y j o e = inl (record { less = 6; plan = rw i })
    go true i true j o e = inl (record { less = 18; plan = rw (i, j) })
    go true i false j none e = inl (record { less = 12; plan = rw (i, j, e) })
    go true i false j (some r) e = at i j r e (protected r.entry) refl (file_of d new) refl

-- the final length is n
pub record CloseDone (d : List ℕ) (job ch : ℕ) (final : Option ℕ) : Type 0 where
  pub row : Row
  pub n : ℕ
  pub good : good_channel job ch ≡ true
  pub old : open_on d (word_of job ch) ≡ some row
  pub least : n ≤ blocks row.entry
  pub free : over_protected d (name_of row.entry) ≡ false
  pub plan : close_plan d job ch final ≡ done row n (closing d row n)

pub close_view : (d : List ℕ) (job ch : ℕ) (final : Option ℕ) → Refused (close_plan d job ch final) ⊎ CloseDone d job ch final
unfolding close_plan
close_view d job ch final = go (good_channel job ch) refl (open_on d (word_of job ch)) refl final refl
  where
    at : (r : Row) → good_channel job ch ≡ true → open_on d (word_of job ch) ≡ some r → (n : ℕ) → final ≡ some n
        → (y : Bool) → leb n (blocks r.entry) ≡ y → (z : Bool) → over_protected d (name_of r.entry) ≡ z
        → Refused (close_plan d job ch final) ⊎ CloseDone d job ch final
    at r i e n g false j z k = inl (record { less = 15; plan = rw (i, e, g, j) })
    at r i e n g true j true k = inl (record { less = 19; plan = rw (i, e, g, j, k) })
    at r i e n g true j false k =
        inr
        (record {
          row = r;
          n = n;
          good = i;
          old = e;
          least = leb-true n (blocks r.entry) j;
          free = k;
          plan = rw (i, e, g, j, k);
        })

    go : (x : Bool) → good_channel job ch ≡ x → (o : Option Row) → open_on d (word_of job ch) ≡ o → (n : Option ℕ) → final ≡ n
        → Refused (close_plan d job ch final) ⊎ CloseDone d job ch final
    go false i o e n g = inl (record { less = 7; plan = rw i })
    go true i none e n g = inl (record { less = 14; plan = rw (i, e) })
    go true i (some r) e none g = inl (record { less = 15; plan = rw (i, e, g) })
    go true i (some r) e (some n) g = at r i e n g (leb n (blocks r.entry)) refl (over_protected d (name_of r.entry)) refl

-- the writes are good
module _ (v : ℕ) (d : List ℕ) (s : Sound v d) where
  refused-good : (C : Key → Type 0) (p : Plan) → Refused p → Good d C p.writes
  refused-good C p r = rw r.plan (nothing_good d (standing v d s) C)

  pub delete-good : (name : Name) → Good d (One (File name)) (delete_plan d name).writes
  delete-good name =
      ⊎_elim (refused-good (One (File name)) (delete_plan d name))
      (λ x. rw x.plan (file-gone v d s name x.single x.row x.old).good)
      (delete_view d name)

  pub restate-stated : (name : Name) (status : ℕ) → kind_of status ≡ Permanent → (x : RestateDone d name status)
      → Stated d x.row (File name) (set x.row.entry status_word status) (restating x.row status)
  restate-stated name status perm x = file-stated v d s name x.single x.row x.old x.legal status perm

  pub restate-good : (name : Name) (status : ℕ) → kind_of status ≡ Permanent → Good d (One (File name)) (restate_plan d name status).writes
  restate-good name status perm =
      ⊎_elim (refused-good (One (File name)) (restate_plan d name status))
      (λ x. rw x.plan (restate-stated name status perm x).good)
      (restate_view d name status)

  pub abandon-good : (job ch : ℕ) → Good d (AbandonNames (word_of job ch) (open_at d job ch)) (abandon_plan d job ch).writes
  abandon-good job ch =
      ⊎_elim (refused-good (AbandonNames (word_of job ch) (open_at d job ch)) (abandon_plan d job ch))
      (λ x.
      rw x.plan
      (subst (λ (o : Option Row). Good d (AbandonNames (word_of job ch) o) (emptying x.row))
      (sym (open_at_lem d job ch x.row x.good x.old))
      (open_gone v d s (word_of job ch) x.row x.old).good))
      (abandon_view d job ch)

  pub rename-made : (old new : Name) (x : RenameDone d old new)
      → Made d x.row (File old) (File new) (blocks x.row.entry) (renaming x.row new)
  rename-made old new x = name-made v d s old new x.single_old x.row x.was x.none_new x.legal_new

  pub rename-good : (old new : Name) → Good d (Two (File old) (File new)) (rename_plan d old new).writes
  rename-good old new =
      ⊎_elim (refused-good (Two (File old) (File new)) (rename_plan d old new))
      (λ x. rw x.plan (rename-made old new x).good)
      (rename_view d old new)

  pub close-good : (job ch : ℕ) (final : Option ℕ)
      → Good d (CloseNames (word_of job ch) (open_at d job ch)) (close_plan d job ch final).writes
  close-good job ch final =
      ⊎_elim (refused-good (CloseNames (word_of job ch) (open_at d job ch)) (close_plan d job ch final))
      (λ x.
      rw x.plan
      (subst (λ (o : Option Row). Good d (CloseNames (word_of job ch) o) (closing d x.row x.n))
      (sym (open_at_lem d job ch x.row x.good x.old))
      (file-made v d s (word_of job ch) x.row x.old x.n x.least).good))
      (close_view d job ch final)
