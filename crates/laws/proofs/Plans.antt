-- What a delete, rename, close, abandon, protect or unprotect does in a sound directory: an answer and a list of writes, both computed from what it
-- finds. Each line of the request becomes a line of its plan, so the request is its plan carried out.
use Prim.Native.Nat.{ℕ}
use mathlib.Core.Path.{◌≡◌, refl}
use mathlib.Core.Bool.{Bool, true, false, ◌&&◌, ◌||◌, not}
use mathlib.Core.List.{List, []}
use mathlib.Core.Option.{Option, none, some}
use lib.IntN.{ℤ}
use lib.Dec.{leb}
use Rattle.meaning.specs.declared.Name.{Name}
use Rattle.meaning.specs.declared.Answer.{Answer}
use Rattle.meaning.specs.Words.{name_of, protected, blocks, date_of, Row}
use Rattle.meaning.specs.Keys.{spared}
use Rattle.meaning.specs.Sound.{fault}
use Rattle.meaning.specs.Answers.{Outcome, refusal, granted, position_of, refuse, success, unless, on_row, is_none, file_of, open_on, Write, write}
use Rattle.meaning.specs.Requests.{legal, success_with, emptying, delete, restating, restate, good_channel, word_of, abandon, renaming, rename}
use Rattle.meaning.specs.Requests.{over_protected, closing, final_length, closed, close}

pub record Plan : Type 0 where
  pub answer : Answer
  pub writes : List Write

abbrev pub carried : List ℕ → Plan → Outcome
carried d p = record { answer = p.answer; words = write d p.writes }

abbrev pub refused : ℕ → Plan
refused n = record { answer = refusal n; writes = [] }

abbrev pub done : Row → ℕ → List Write → Plan
done r n ws = record { answer = granted r.first n (date_of r.entry) (position_of r); writes = ws }

-- refusal n unless a test holds, or unless an entry is found
abbrev pub testing : ℕ → Bool → Plan → Plan
testing n true p = p
testing n false p = refused n

abbrev pub finding : ℕ → Option Row → (Row → Plan) → Plan
finding n none p = refused n
finding n (some r) p = p r

unfoldable pub delete_plan : List ℕ → Name → Plan
delete_plan d name =
    testing 7 (legal name)
    (testing 19 (not (spared name))
    (finding 13 (file_of d name) (λ r. testing 20 (not (protected r.entry)) (done r (blocks r.entry) (emptying r)))))

unfoldable pub restate_plan : List ℕ → Name → ℕ → Plan
restate_plan d name status =
    testing 7 (legal name)
    (testing 19 (not (spared name)) (finding 13 (file_of d name) (λ r. done r (blocks r.entry) (restating r status))))

unfoldable pub abandon_plan : List ℕ → ℕ → ℕ → Plan
abandon_plan d job ch =
    testing 8 (good_channel job ch) (finding 15 (open_on d (word_of job ch)) (λ r. done r (blocks r.entry) (emptying r)))

unfoldable pub rename_plan : List ℕ → Name → Name → Plan
rename_plan d old new =
    testing 7 (legal old && legal new)
    (testing 19 (not (spared old || spared new))
    (finding 13 (file_of d old)
    (λ r.
    testing 20 (not (protected r.entry)) (testing 14 (is_none (file_of d new)) (done r (blocks r.entry) (renaming r new))))))

abbrev pub closed_plan : List ℕ → Row → Option ℕ → Plan
closed_plan d r none = refused 16
closed_plan d r (some n) =
    testing 16 (leb n (blocks r.entry)) (testing 20 (not (over_protected d (name_of r.entry))) (done r n (closing d r n)))

unfoldable pub close_plan : List ℕ → ℕ → ℕ → Option ℕ → Plan
close_plan d job ch n = testing 8 (good_channel job ch) (finding 15 (open_on d (word_of job ch)) (λ r. closed_plan d r n))

-- line by line
refused-is : (d : List ℕ) (n : ℕ) → refuse n d ≡ carried d (refused n)
unfolding refuse write
refused-is d n = refl

testing-is : (d : List ℕ) (n : ℕ) (t : Bool) (next : Unit {0} → Outcome) (p : Plan) → next tt ≡ carried d p
    → unless n t d next ≡ carried d (testing n t p)
testing-is d n true next p h = h
testing-is d n false next p h = refused-is d n

finding-is : (d : List ℕ) (n : ℕ) (o : Option Row) (next : Row → Outcome) (p : Row → Plan) → ((r : Row) → next r ≡ carried d (p r))
    → on_row n o d next ≡ carried d (finding n o p)
finding-is d n none next p h = refused-is d n
finding-is d n (some r) next p h = h r

success-is : (d : List ℕ) (r : Row) (ws : List Write) → success_with r (write d ws) ≡ carried d (done r (blocks r.entry) ws)
unfolding success_with success
success-is d r ws = refl

module _ (v : ℕ) (d : List ℕ) (h : fault v d ≡ 0) where
  pub delete-is : (name : Name) → delete v d name ≡ carried d (delete_plan d name)
  unfolding delete delete_plan
  delete-is name =
      rw h
      (testing-is d 7 (legal name) _ _
      (testing-is d 19 (not (spared name)) _ _
      (finding-is d 13 (file_of d name) _ (λ r. testing 20 (not (protected r.entry)) (done r (blocks r.entry) (emptying r)))
      (λ r. testing-is d 20 (not (protected r.entry)) _ _ (success-is d r (emptying r))))))

  pub restate-is : (name : Name) (status : ℕ) → restate v d name status ≡ carried d (restate_plan d name status)
  unfolding restate restate_plan
  restate-is name status =
      rw h
      (testing-is d 7 (legal name) _ _
      (testing-is d 19 (not (spared name)) _ _
      (finding-is d 13 (file_of d name) _ (λ r. done r (blocks r.entry) (restating r status))
      (λ r. success-is d r (restating r status)))))

  pub abandon-is : (job ch : ℕ) → abandon v d job ch ≡ carried d (abandon_plan d job ch)
  unfolding abandon abandon_plan
  abandon-is job ch =
      rw h
      (testing-is d 8 (good_channel job ch) _ _
      (finding-is d 15 (open_on d (word_of job ch)) _ (λ r. done r (blocks r.entry) (emptying r))
      (λ r. success-is d r (emptying r))))

  pub rename-is : (old new : Name) → rename v d old new ≡ carried d (rename_plan d old new)
  unfolding rename rename_plan
  rename-is old new =
      rw h
      (testing-is d 7 (legal old && legal new) _ _
      (testing-is d 19 (not (spared old || spared new)) _ _
      (finding-is d 13 (file_of d old) _
      (λ r.
      testing 20 (not (protected r.entry)) (testing 14 (is_none (file_of d new)) (done r (blocks r.entry) (renaming r new))))
      (λ r.
      testing-is d 20 (not (protected r.entry)) _ _
      (testing-is d 14 (is_none (file_of d new)) _ _ (success-is d r (renaming r new)))))))

  closed_is : (r : Row) (n : Option ℕ) → closed d r n ≡ carried d (closed_plan d r n)
  unfolding success
  closed_is r none = refused-is d 16
  closed_is r (some n) =
      testing-is d 16 (leb n (blocks r.entry)) _ _ (testing-is d 20 (not (over_protected d (name_of r.entry))) _ _ refl)

  pub close-is : (job ch : ℕ) (final : ℤ) → close v d job ch final ≡ carried d (close_plan d job ch (final_length final))
  unfolding close close_plan
  close-is job ch final =
      rw h
      (testing-is d 8 (good_channel job ch) _ _
      (finding-is d 15 (open_on d (word_of job ch)) _ (λ r. closed_plan d r (final_length final))
      (λ r. closed_is r (final_length final))))
