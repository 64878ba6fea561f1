-- Delete, abandon, rename, protect, unprotect and close keep a sound directory sound, and what lookup answers after each. Each is its plan
-- carried out; where it succeeds its writes tell what became of its own keys, and the other keys are found as before.
use Prim.Native.Nat.{ℕ, suc}
use native.Mathlib.Omega.{arith}
use mathlib.Core.Path.{◌≡◌, sym, ap, ◌∙◌, subst}
use mathlib.Core.Logic.{◌⊎◌, inl, inr, ⊎_elim}
use mathlib.Core.Bool.{Bool, true, false, cond}
use mathlib.Core.List.{List}
use mathlib.Core.Option.{Option, none, some}
use lib.IntN.{ℤ}
use lib.ListN.{get_or}
use Rattle.meaning.specs.declared.Name.{Name}
use Rattle.meaning.specs.declared.Kind.TheVariants.{Permanent}
use Rattle.meaning.specs.Kinds.{kind_of}
use Rattle.meaning.specs.Words.{status_word, name_of, Row}
use Rattle.meaning.specs.Keys.{file_bad}
use Rattle.meaning.specs.Sound.{fault}
use Rattle.meaning.specs.Answers.{file_of, open_on, write}
use Rattle.meaning.specs.Requests.{legal, lookup, restating, restate, rename, close, closing, final_length, good_channel, word_of}
use Rattle.meaning.specs.declared.Key.TheVariants.{File, Open}
use Rattle.laws.specs.Kept.{KeptByDelete, KeptByAbandon, KeptByRename, with_status, KeptByStatus, KeptByClose}
use Rattle.rules.proofs.Keys.{once_other, same_key_lem, file≢open}
use Rattle.rules.proofs.Soundness.{sound}
use Rattle.laws.proofs.Good.{Good, One, Two, Made}
use Rattle.laws.proofs.Plans.{Plan, delete_plan, restate_plan, rename_plan, close_plan, delete-is, restate-is, abandon-is, rename-is, close-is}
use Rattle.laws.proofs.Deeds.{file-key, open_key, file-gone, stated-already, file-made, restate-stated, rename-made, open_at, CloseNames}
use Rattle.laws.proofs.Deeds.{AbandonNames, Refused, delete_view, RestateDone, restate_view, RenameDone, rename_view, CloseDone, close_view}
use Rattle.laws.proofs.Deeds.{delete-good, restate-good, abandon-good, rename-good, close-good}
use Rattle.laws.proofs.Lookups.{good-sound, others-seen, gone-seen, made-seen, lookup-seen, stated-found, stated-seen}

-- a plan of number 0 is no refusal
pub succeeds : {A : Type 0} (p : Plan) → p.answer.number ≡ 0 → Refused p ⊎ A → A
succeeds p n (inl r) = absurd (let z : p.answer.number ≡ suc r.less = rw r.plan in omega arith)
succeeds p n (inr a) = a

same_name : (n m : Name) → File n ≡ File m → n ≡ m
same_name n m e = cc

module _ (v : ℕ) (d : List ℕ) (h : fault v d ≡ 0) where
  pub kept_by_delete : (name : Name) → KeptByDelete v d name
  kept_by_delete name =
      record {
        sound = rw (delete-is v d h name) (good-sound v d h _ _ (delete-good v d (sound v d h) name));
        gone =
            λ z.
            let x = succeeds (delete_plan d name) (rw (delete-is v d h name) at z) (delete_view d name) in
            let g = file-gone v d (sound v d h) name x.single x.row x.old in
            rw (delete-is v d h name, x.plan) (gone-seen v d h _ _ g.good name g.gone x.legal);
        others =
            λ n ne.
            rw (delete-is v d h name)
            (others-seen v d h _ _ (delete-good v d (sound v d h) name) n (λ e. ne (same_name n name e)));
      }

  pub kept_by_abandon : (job ch : ℕ) → KeptByAbandon v d job ch
  kept_by_abandon job ch =
      record {
        sound = rw (abandon-is v d h job ch) (good-sound v d h _ _ (abandon-good v d (sound v d h) job ch));
        all =
            λ n.
            rw (abandon-is v d h job ch)
            (others-seen v d h _ _ (abandon-good v d (sound v d h) job ch) n (no-file n (open_at d job ch)));
      }
    where
      no-file : (n : Name) (o : Option Row) → AbandonNames (word_of job ch) o (File n) → ⊥
      no-file n none e = e
      no-file n (some r) e = file≢open n (word_of job ch) e

  pub kept_by_rename : (old new : Name) → KeptByRename v d old new
  kept_by_rename old new =
      record {
        sound = rw (rename-is v d h old new) (good-sound v d h _ _ good);
        given =
            λ z.
            let x = done z in
            let m = rename-made v d (sound v d h) old new x in
            rw (rename-is v d h old new, x.plan)
            (made-seen v d h x.row (File old) new _ _ m (sym (file-key d old) ∙ x.was) x.single_new x.legal_new
            ∙ sym (rw (lookup-seen v d h old, x.legal_old, x.was)));
        gone =
            λ z.
            let x = done z in
            let m = rename-made v d (sound v d h) old new x in
            rw (rename-is v d h old new, x.plan) (gone-seen v d h _ _ m.good old m.gone x.legal_old);
        others =
            λ n ne ne'.
            rw (rename-is v d h old new)
            (others-seen v d h _ _ good n (⊎_elim (λ e. ne (same_name n old e)) (λ e. ne' (same_name n new e))));
      }
    where
      good : Good d (Two (File old) (File new)) (rename_plan d old new).writes
      good = rename-good v d (sound v d h) old new

      done : (rename v d old new).answer.number ≡ 0 → RenameDone d old new
      done z = succeeds (rename_plan d old new) (rw (rename-is v d h old new) at z) (rename_view d old new)

  pub kept_by_status : (name : Name) (status : ℕ) → kind_of status ≡ Permanent → KeptByStatus v d name status (restate v d name status)
  unfolding write
  kept_by_status name status perm =
      record {
        sound = rw (restate-is v d h name status) (good-sound v d h _ _ good);
        all = λ n. rw (restate-is v d h name status) (seen_as n (same_key_lem (File n) (File name)) (restate_view d name status));
        stated =
            λ r e z.
            let x = succeeds (restate_plan d name status) (rw (restate-is v d h name status) at z) (restate_view d name status) in
            rw (restate-is v d h name status, x.plan)
            (subst (λ (y : Row). file_of (write d (restating x.row status)) name ≡ some (with_status y status))
            (same_row x.row r x.old e)
            (stated-found v d h x.row name status _ (restate-stated v d (sound v d h) name status perm x) x.old));
        already = λ r e g. rw (restate-is v d h name status) (unchanged r e g (restate_view d name status));
      }
    where
      good : Good d (One (File name)) (restate_plan d name status).writes
      good = restate-good v d (sound v d h) name status perm

      same_row : (r r' : Row) → file_of d name ≡ some r → file_of d name ≡ some r' → r ≡ r'
      same_row r r' e e' = cc

      seen_as : (n : Name) → Dec (File n ≡ File name) → Refused (restate_plan d name status) ⊎ RestateDone d name status
          → (lookup v (write d (restate_plan d name status).writes) n).answer ≡ (lookup v d n).answer
      seen_as n (no q) x = others-seen v d h _ _ good n q
      seen_as n (yes q) (inl x) = rw x.plan
      seen_as n (yes q) (inr x) =
          rw (x.plan, same_name n name q)
          (stated-seen v d h x.row name status _ (restate-stated v d (sound v d h) name status perm x) x.old)

      unchanged : (r : Row) → file_of d name ≡ some r → get_or r.entry status_word 0 ≡ status
          → Refused (restate_plan d name status) ⊎ RestateDone d name status → write d (restate_plan d name status).writes ≡ d
      unchanged r e g (inl x) = rw x.plan
      unchanged r e g (inr x) =
          rw x.plan
          (stated-already v d (sound v d h) name x.row x.old status (ap (λ (y : Row). get_or y.entry status_word 0) (same_row x.row r x.old e) ∙ g))

  pub kept_by_close : (job ch : ℕ) (final : ℤ) → KeptByClose v d job ch final
  kept_by_close job ch final =
      record {
        sound = rw (close-is v d h job ch final) (good-sound v d h _ _ good);
        made =
            λ r e z l b.
            let x = done z in
            subst MadeOf (same_row x.row r x.old e) (made_of x) l b;
        others =
            λ r e n ne.
            rw (close-is v d h job ch final) (others-seen v d h _ _ good n (λ k. ne (of_row r e n (good_channel job ch) k)));
      }
    where
      good : Good d (CloseNames (word_of job ch) (open_at d job ch)) (close_plan d job ch (final_length final)).writes
      good = close-good v d (sound v d h) job ch (final_length final)

      done : (close v d job ch final).answer.number ≡ 0 → CloseDone d job ch (final_length final)
      done z =
          succeeds (close_plan d job ch (final_length final)) (rw (close-is v d h job ch final) at z)
          (close_view d job ch (final_length final))

      file_of : (x : CloseDone d job ch (final_length final))
          → Made d x.row (Open (word_of job ch)) (File (name_of x.row.entry)) x.n (closing d x.row x.n)
      file_of x = file-made v d (sound v d h) (word_of job ch) x.row x.old x.n x.least

      MadeOf : Row → Type 0
      MadeOf r =
          legal (name_of r.entry) ≡ true → (name_of r.entry ≡ file_bad → ⊥)
          → (lookup v (close v d job ch final).words (name_of r.entry)).answer ≡ (close v d job ch final).answer

      made_of : (x : CloseDone d job ch (final_length final)) → MadeOf x.row
      made_of x l b =
          rw (close-is v d h job ch final, x.plan)
          (made-seen v d h x.row (Open (word_of job ch)) (name_of x.row.entry) x.n _ (file_of x)
          (sym (open_key d (word_of job ch)) ∙ x.old)
          (once_other (name_of x.row.entry) b)
          l)

      same_row : (r r' : Row) → open_on d (word_of job ch) ≡ some r → open_on d (word_of job ch) ≡ some r' → r ≡ r'
      same_row r r' e e' = cc

      of_row : (r : Row) → open_on d (word_of job ch) ≡ some r → (n : Name) (t : Bool)
          → CloseNames (word_of job ch) (cond t (open_on d (word_of job ch)) none) (File n) → n ≡ name_of r.entry
      of_row r e n false k = absurd k
      of_row r e n true k =
          ⊎_elim (λ q. absurd (file≢open n (word_of job ch) q)) (λ q. same_name n (name_of r.entry) q)
          (subst (λ (o : Option Row). CloseNames (word_of job ch) o (File n)) e k)
