-- Demand 2, *Kept*: delete, abandon, rename, protect, unprotect and close by their plans, enter by its own laws, and a fresh start by the
-- words that it writes. Lookup changes nothing. So every request of a batch leaves a sound directory sound, and a protected file stays.
use Prim.Native.Nat.{ℕ}
use mathlib.Core.Path.{◌≡◌, refl}
use mathlib.Core.Bool.{Bool, true, false}
use mathlib.Core.List.{List, [], ◌∷◌}
use mathlib.Core.Option.{Option, none, some}
use Rattle.meaning.specs.declared.Op.{Op}
use Rattle.meaning.specs.declared.Op.TheVariants.{Lookup, Enter, Close, Abandon, Delete, Rename, Protect, Unprotect}
use Rattle.meaning.specs.declared.Name.{Name}
use Rattle.meaning.specs.declared.Request.{Request}
use Rattle.meaning.specs.Kinds.{permanent_status, protected_status}
use Rattle.meaning.specs.Words.{Entry, name_of, protected, Row, rows}
use Rattle.meaning.specs.Keys.{file_bad}
use Rattle.meaning.specs.Sound.{fault}
use Rattle.meaning.specs.Answers.{refuse, success, unless, on_row, file_of}
use Rattle.meaning.specs.Requests.{legal, success_with, lookup, protect, unprotect, final_length}
use Rattle.meaning.specs.Batch.{serve_by, serve, words_after}
use Rattle.laws.specs.Kept.{KeptByStatus, Present, BadStays, Unprotects, ProtectedStays, Kept}
use Rattle.laws.specs.Order.{files_of}
use Rattle.walks.specs.Lists.{All}
use Rattle.rules.proofs.Keys.{once_other}
use Rattle.laws.proofs.Stays.{all_stay}
use Rattle.laws.proofs.Served.{plan, protected-permanent, plain-permanent, serve-words, plan_stays}
use Rattle.laws.proofs.KeptByRequests.{kept_by_delete, kept_by_abandon, kept_by_rename, kept_by_status, kept_by_close}
use Rattle.laws.proofs.KeptByFresh.{kept_by_fresh}
use Rattle.laws.proofs.EnterKept.{enter_kept, enter_stays}
use Rattle.laws.proofs.Guarded.{protected-file, of_name, by_delete_lem, by_rename_lem, by_abandon_lem, by_close_lem, by_protect-again}
use Rattle.laws.proofs.Guarded.{by_unprotect_other, same_answer}

pub lookup-words : (v : ℕ) (d : List ℕ) → fault v d ≡ 0 → (n : Name) → (lookup v d n).words ≡ d
unfolding lookup success_with success refuse
lookup-words v d h n = rw h (go (legal n) (file_of d n))
  where
    go : (x : Bool) (o : Option Row) → (unless 7 x d λ _. on_row 13 o d λ r. success_with r d).words ≡ d
    go false o = refl
    go true none = refl
    go true (some r) = refl

by_protect_lem : (v : ℕ) (d : List ℕ) → fault v d ≡ 0 → (name : Name) → KeptByStatus v d name protected_status (protect v d name)
unfolding protect
by_protect_lem v d h name = kept_by_status v d h name protected_status protected-permanent

by_unprotect_lem : (v : ℕ) (d : List ℕ) → fault v d ≡ 0 → (name : Name) → KeptByStatus v d name permanent_status (unprotect v d name)
unfolding unprotect
by_unprotect_lem v d h name = kept_by_status v d h name permanent_status plain-permanent

sound_by : (op : Op) (v : ℕ) (d : List ℕ) → fault v d ≡ 0 → (q : Request) → fault v (serve_by op v d q).words ≡ 0
sound_by Lookup v d h q = rw (lookup-words v d h q.name) h
sound_by Enter v d h q = (enter_kept v d h q.name q.size q.job q.channel q.date).sound
sound_by Close v d h q = (kept_by_close v d h q.job q.channel q.final_length).sound
sound_by Abandon v d h q = (kept_by_abandon v d h q.job q.channel).sound
sound_by Delete v d h q = (kept_by_delete v d h q.name).sound
sound_by Rename v d h q = (kept_by_rename v d h q.name q.new_name).sound
sound_by Protect v d h q = (by_protect_lem v d h q.name).sound
sound_by Unprotect v d h q = (by_unprotect_lem v d h q.name).sound

pub serve-sound : (v : ℕ) (d : List ℕ) → fault v d ≡ 0 → (q : Request) → fault v (serve v d q).words ≡ 0
unfolding serve
serve-sound v d h q = sound_by q.op v d h q

-- a protected file stays: a lookup changes nothing, an enter keeps all files, and the others by their plans
there_by : (op : Op) (v : ℕ) (d : List ℕ) → fault v d ≡ 0 → (q : Request) → q.op ≡ op → (first : ℕ) (e : Entry) → Present (rows d) first e
    → protected e ≡ true → (Unprotects (name_of e) q → ⊥) → Present (rows (serve v d q).words) first e
unfolding serve plan
there_by Lookup v d h q o first e p s u = rw (o, lookup-words v d h q.name) p
there_by Enter v d h q o first e p s u =
    let k = enter_stays v d h q.name q.size q.job q.channel q.date (name_of e) in
    rw o (of_name (name_of e) (rows d) _ first e (protected-file e s) k p)
there_by Close v d h q o first e p s u =
    rw (serve-words v d q (rw o tt) h, o) (by_close_lem v d h first e p s q.job q.channel (final_length q.final_length))
there_by Abandon v d h q o first e p s u = rw (serve-words v d q (rw o tt) h, o) (by_abandon_lem v d h first e p s q.job q.channel)
there_by Delete v d h q o first e p s u = rw (serve-words v d q (rw o tt) h, o) (by_delete_lem v d h first e p s q.name)
there_by Rename v d h q o first e p s u = rw (serve-words v d q (rw o tt) h, o) (by_rename_lem v d h first e p s q.name q.new_name)
there_by Protect v d h q o first e p s u = rw (serve-words v d q (rw o tt) h, o) (by_protect-again v d h first e p s q.name)
there_by Unprotect v d h q o first e p s u =
    rw (serve-words v d q (rw o tt) h, o) (by_unprotect_other v d h first e p s q.name (λ z. u (o, z)))

-- every FILE.BAD stays: writes in place keep it, and so does an enter
bads_by : (op : Op) (v : ℕ) (d : List ℕ) → fault v d ≡ 0 → (q : Request) → q.op ≡ op → BadStays d (serve v d q).words
unfolding serve
bads_by Lookup v d h q o = rw (o, lookup-words v d h q.name) (all_stay (files_of d file_bad))
bads_by Enter v d h q o = rw o (enter_stays v d h q.name q.size q.job q.channel q.date file_bad)
bads_by Close v d h q o = plan_stays v d h q (rw o tt)
bads_by Abandon v d h q o = plan_stays v d h q (rw o tt)
bads_by Delete v d h q o = plan_stays v d h q (rw o tt)
bads_by Rename v d h q o = plan_stays v d h q (rw o tt)
bads_by Protect v d h q o = plan_stays v d h q (rw o tt)
bads_by Unprotect v d h q o = plan_stays v d h q (rw o tt)

-- a protected file stays, request by request
there-after : (v : ℕ) (qs : List Request) (d : List ℕ) → fault v d ≡ 0 → (first : ℕ) (e : Entry) → Present (rows d) first e
    → protected e ≡ true → All (λ (q : Request). Unprotects (name_of e) q → ⊥) qs
    → (fault v (words_after v d qs) ≡ 0) × Present (rows (words_after v d qs)) first e
unfolding words_after
there-after v [] d h first e p s a = (h, p)
there-after v (q ∷ qs) d h first e p s a =
    there-after v qs (serve v d q).words (serve-sound v d h q) first e (there_by q.op v d h q refl first e p s a.0) s a.1

protected_stays : (v : ℕ) (d : List ℕ) → fault v d ≡ 0 → ProtectedStays v d
protected_stays v d h qs first e p s a =
    let x = there-after v qs d h first e p s a in
    record {
      present = x.1;
      answer = λ b. same_answer v d (words_after v d qs) h x.0 first e s (once_other (name_of e) b) p x.1;
    }

pub kept_laws : (v : ℕ) → Kept v
kept_laws v =
    record {
      deletes = λ d h. kept_by_delete v d h;
      abandons = λ d h. kept_by_abandon v d h;
      renames = λ d h. kept_by_rename v d h;
      protects = λ d h. by_protect_lem v d h;
      unprotects = λ d h. by_unprotect_lem v d h;
      closes = λ d h. kept_by_close v d h;
      requests = serve-sound v;
      bads = λ d h q. bads_by q.op v d h q refl;
      guarded = λ d h. protected_stays v d h;
      starts = kept_by_fresh v;
    }
