-- Where the entry is. Writes in place leave each row in its segment and slot, so that the row that a request found is where it was, read
-- anew; a lookup leaves the words; an enter's new entry and a fresh start's area stand where the meaning says. Each request by its plan.
use Prim.Native.Nat.{ℕ, zero, suc, ◌-◌}
use native.Mathlib.Omega.{arith}
use mathlib.Core.Path.{◌≡◌, refl, sym, ap, ◌∙◌}
use mathlib.Core.Bool.{Bool, true, false}
use mathlib.Core.List.{List}
use mathlib.Core.Option.{Option, none, some}
use lib.IntN.{ℤ}
use lib.ListN.{set}
use lib.Seq.{get_or-set_other}
use Rattle.meaning.specs.declared.Op.{Op}
use Rattle.meaning.specs.declared.Op.TheVariants.{Lookup, Enter, Close, Abandon, Delete, Rename, Protect, Unprotect}
use Rattle.meaning.specs.declared.Kind.TheVariants.{Permanent}
use Rattle.meaning.specs.declared.Key.{Key}
use Rattle.meaning.specs.declared.Key.TheVariants.{File, Open}
use Rattle.meaning.specs.declared.Name.{Name}
use Rattle.meaning.specs.declared.Request.{Request}
use Rattle.meaning.specs.Kinds.{empty_status, permanent_status, protected_status, kind_of}
use Rattle.meaning.specs.Words.{slot_words, Entry, status_word, length_word, date_word, name_of, blocks, date_of, Row, rows}
use Rattle.meaning.specs.Keys.{key_of, holds}
use Rattle.meaning.specs.Sound.{fault}
use Rattle.meaning.specs.Answers.{granted, position_of, refuse, find, file_of, open_on, Write, write}
use Rattle.meaning.specs.Requests.{legal, lookup, delete, restate, protect, unprotect, word_of, abandon, rename, final_length, close}
use Rattle.meaning.specs.Enter.{enter}
use Rattle.meaning.specs.Batch.{serve_by, serve}
use Rattle.walks.specs.Lists.{All}
use Rattle.walks.proofs.Alls.{all_mapped}
use Rattle.walks.proofs.Keyed.{has-key}
use Rattle.rules.specs.Standing.{StandsAt}
use Rattle.rules.proofs.Grid.{entry_at}
use Rattle.rules.proofs.Soundness.{Sound, sound}
use Rattle.rules.proofs.Rows.{Stand, standing, find-some}
use Rattle.rules.proofs.Standing.{RowStands, rows-stand}
use Rattle.rules.proofs.Touch.{shifted, live_still}
use Rattle.laws.specs.Order.{OnFound}
use Rattle.laws.specs.Points.{Points, Concerned, Pointed}
use Rattle.laws.proofs.Move.{rows-moved}
use Rattle.laws.proofs.Keeps.{stays_sound}
use Rattle.laws.proofs.Good.{Good, Made}
use Rattle.laws.proofs.Plans.{delete_plan, restate_plan, abandon_plan, rename_plan, close_plan, delete-is, restate-is, abandon-is, rename-is, close-is}
use Rattle.laws.proofs.Deeds.{file-key, open_key, file-gone, open_gone, file-made, restate-stated, rename-made}
use Rattle.laws.proofs.Deeds.{delete_view, restate_view, abandon_view, rename_view, close_view}
use Rattle.laws.proofs.Served.{protected-permanent, plain-permanent}
use Rattle.laws.proofs.Lookups.{seen, lookup-seen}
use Rattle.laws.proofs.KeptByRequests.{succeeds}
use Rattle.laws.proofs.Kept.{lookup-words}
use Rattle.laws.proofs.KeptByFresh.{points_by_fresh}
use Rattle.laws.proofs.EnterKept.{enter_points}

-- writes in place
module _ (v : ℕ) (d : List ℕ) (h : fault v d ≡ 0) (C : Key → Type 0) (ws : List Write) (g : Good d C ws) (k : Key) (r : Row)
    (found : find (holds k) (rows d) ≡ some r) where
  abbrev d' : List ℕ
  d' = write d ws

  abbrev f' : ℕ → Entry
  f' p = entry_at (write d ws) (slot_words d) p

  sd : Sound v d
  sd = sound v d h

  -- the row that was found is where it was, read anew
  stands_anew : StandsAt (write d ws) r.seg r.slot r.first (entry_at (write d ws) (slot_words d) r.at)
  stands_anew =
      let s' = stays_sound v C g.fall d d' sd g.move g.sources in
      let a : All (RowStands d') (rows d') = rows-stand v d' s' in
      let b = all_mapped (RowStands d') (shifted g.fall f') (rows d) (rw (rows-moved C g.fall d d' g.move) at a) in
      let x = find-some (Stand d) (holds k) (rows d) r (standing v d sd) found in
      let z = live_still k (g.move.at r.at x.0.slot.on).touch (rw x.0.is at x.1) in
      let y : r.first - g.fall r.at ≡ r.first = omega arith in
      rw y at (find-some (λ (q : Row). RowStands d' (shifted g.fall f' q)) (holds k) (rows d) r b found).0

  points : (n : ℕ) (P : Entry → Type 0) → blocks (f' r.at) ≡ n → date_of (f' r.at) ≡ date_of r.entry → P (f' r.at)
      → Points (write d ws) (granted r.first n (date_of r.entry) (position_of r)) P
  points n P l t p = record { entry = f' r.at; stands = stands_anew; length = l; date = t; concerned = p }

  -- with another status
  points_status : (status : ℕ) → f' r.at ≡ set r.entry status_word status
      → Points (write d ws) (granted r.first (blocks r.entry) (date_of r.entry) (position_of r)) (λ e. e ≡ set r.entry status_word status)
  points_status status e =
      points (blocks r.entry) (λ (z : Entry). z ≡ set r.entry status_word status)
      (ap blocks e ∙ get_or-set_other r.entry status_word length_word status 0 (λ z. omega arith))
      (ap date_of e ∙ get_or-set_other r.entry status_word date_word status 0 (λ z. omega arith))
      e

module _ (v : ℕ) (d : List ℕ) (h : fault v d ≡ 0) where
  sd₁ : Sound v d
  sd₁ = sound v d h

  -- a file that is made of an entry
  points_made : (r : Row) (k : Key) (name : Name) (n : ℕ) (ws : List Write) → Made d r k (File name) n ws → find (holds k) (rows d) ≡ some r
      → Points (write d ws) (granted r.first n (date_of r.entry) (position_of r)) (λ e. key_of e ≡ some (File name))
  points_made r k name n ws m e =
      points v d h _ ws m.good k r e n (λ (z : Entry). key_of z ≡ some (File name)) m.length m.date (has-key (File name) _ m.key)

  by_lookup : (name : Name) → (lookup v d name).answer.number ≡ 0
      → Points (lookup v d name).words (lookup v d name).answer (λ e. key_of e ≡ some (File name))
  by_lookup name = rw (lookup-words v d h name, lookup-seen v d h name) (go (legal name) (file_of d name) (sym (file-key d name)))
    where
      go : (b : Bool) (o : Option Row) → find (holds (File name)) (rows d) ≡ o → (seen b o).number ≡ 0
          → Points d (seen b o) (λ e. key_of e ≡ some (File name))
      go false o e z = absurd (omega arith)
      go true none e z = absurd (omega arith)
      go true (some r) e z =
          let x = find-some (RowStands d) (holds (File name)) (rows d) r (rows-stand v d sd₁) e in
          record { entry = r.entry; stands = x.0; length = refl; date = refl; concerned = has-key (File name) r.entry x.1 }

  by_delete_lem : (name : Name) → (delete v d name).answer.number ≡ 0
      → Points (delete v d name).words (delete v d name).answer
      (λ e. OnFound (file_of d name) λ r. e ≡ set r.entry status_word empty_status)
  by_delete_lem name z =
      let x = succeeds (delete_plan d name) (rw (delete-is v d h name) at z) (delete_view d name) in
      let m = file-gone v d sd₁ name x.single x.row x.old in
      rw (delete-is v d h name, x.plan, x.old)
      (points_status v d h _ _ m.good (File name) x.row (sym (file-key d name) ∙ x.old) empty_status m.entry)

  by_abandon_lem : (job ch : ℕ) → (abandon v d job ch).answer.number ≡ 0
      → Points (abandon v d job ch).words (abandon v d job ch).answer
      (λ e. OnFound (open_on d (word_of job ch)) λ r. e ≡ set r.entry status_word empty_status)
  by_abandon_lem job ch z =
      let x = succeeds (abandon_plan d job ch) (rw (abandon-is v d h job ch) at z) (abandon_view d job ch) in
      let m = open_gone v d sd₁ (word_of job ch) x.row x.old in
      rw (abandon-is v d h job ch, x.plan, x.old)
      (points_status v d h _ _ m.good (Open (word_of job ch)) x.row (sym (open_key d (word_of job ch)) ∙ x.old) empty_status m.entry)

  by_status : (name : Name) (status : ℕ) → kind_of status ≡ Permanent → (restate v d name status).answer.number ≡ 0
      → Points (restate v d name status).words (restate v d name status).answer
      (λ e. OnFound (file_of d name) λ r. e ≡ set r.entry status_word status)
  by_status name status perm z =
      let x = succeeds (restate_plan d name status) (rw (restate-is v d h name status) at z) (restate_view d name status) in
      let m = restate-stated v d sd₁ name status perm x in
      rw (restate-is v d h name status, x.plan, x.old)
      (points_status v d h _ _ m.good (File name) x.row (sym (file-key d name) ∙ x.old) status m.entry)

  by_rename_lem : (old new : Name) → (rename v d old new).answer.number ≡ 0
      → Points (rename v d old new).words (rename v d old new).answer (λ e. key_of e ≡ some (File new))
  by_rename_lem old new z =
      let x = succeeds (rename_plan d old new) (rw (rename-is v d h old new) at z) (rename_view d old new) in
      let m = rename-made v d sd₁ old new x in
      rw (rename-is v d h old new, x.plan)
      (points_made x.row (File old) new (blocks x.row.entry) _ m (sym (file-key d old) ∙ x.was))

  by_close_lem : (job ch : ℕ) (final : ℤ) → (close v d job ch final).answer.number ≡ 0
      → Points (close v d job ch final).words (close v d job ch final).answer
      (λ e. OnFound (open_on d (word_of job ch)) λ r. key_of e ≡ some (File (name_of r.entry)))
  by_close_lem job ch final z =
      let x =
      succeeds (close_plan d job ch (final_length final)) (rw (close-is v d h job ch final) at z)
      (close_view d job ch (final_length final)) in
      let m = file-made v d sd₁ (word_of job ch) x.row x.old x.n x.least in
      rw (close-is v d h job ch final, x.plan, x.old)
      (points_made x.row (Open (word_of job ch)) (name_of x.row.entry) x.n _ m (sym (open_key d (word_of job ch)) ∙ x.old))

  by_op : (op : Op) (q : Request) → (serve_by op v d q).answer.number ≡ 0
      → Points (serve_by op v d q).words (serve_by op v d q).answer (Concerned op d q)
  unfolding protect unprotect
  by_op Lookup q = by_lookup q.name
  by_op Enter q = enter_points v d h q.name q.size q.job q.channel q.date
  by_op Close q = by_close_lem q.job q.channel q.final_length
  by_op Abandon q = by_abandon_lem q.job q.channel
  by_op Delete q = by_delete_lem q.name
  by_op Rename q = by_rename_lem q.name q.new_name
  by_op Protect q = by_status q.name protected_status protected-permanent
  by_op Unprotect q = by_status q.name permanent_status plain-permanent

-- a request that succeeds has met a sound directory
faulty : (op : Op) (v : ℕ) (d : List ℕ) (q : Request) (n : ℕ) → fault v d ≡ suc n → (serve_by op v d q).answer.number ≡ suc n
unfolding lookup enter close abandon delete rename protect unprotect restate refuse
faulty Lookup v d q n h = rw h
faulty Enter v d q n h = rw h
faulty Close v d q n h = rw h
faulty Abandon v d q n h = rw h
faulty Delete v d q n h = rw h
faulty Rename v d q n h = rw h
faulty Protect v d q n h = rw h
faulty Unprotect v d q n h = rw h

pub pointed : (v : ℕ) (d : List ℕ) → Pointed v d
unfolding serve
pointed v d = record { requests = λ q. go q (fault v d) refl; starts = λ extra. points_by_fresh v d extra }
  where
    go : (q : Request) (n : ℕ) → fault v d ≡ n → (serve_by q.op v d q).answer.number ≡ 0
        → Points (serve_by q.op v d q).words (serve_by q.op v d q).answer (Concerned q.op d q)
    go q zero h z = by_op v d h q.op q z
    go q (suc n) h z = absurd (let e = faulty q.op v d q n h in omega arith)
