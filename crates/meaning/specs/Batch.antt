-- The batch (document 01, "Requests"): request records in slice order, each answered in its place.
use Rattle.std.specs.Prelude.{ℕ, Bool, true, false, List, [], ◌∷◌, length, eqb}
use Rattle.meaning.specs.declared.Op.{Op}
use Rattle.meaning.specs.declared.Op.TheVariants.{Lookup, Enter, Close, Abandon, Delete, Rename, Protect, Unprotect}
use Rattle.meaning.specs.declared.Request.{Request}
use Rattle.meaning.specs.declared.Answer.{Answer}
use Rattle.meaning.specs.Answers.{Outcome}
use Rattle.meaning.specs.Requests.{lookup, delete, protect, unprotect, abandon, rename, close}
use Rattle.meaning.specs.Enter.{enter}

-- what each kind of request record asks for
abbrev pub serve_by : Op → ℕ → List ℕ → Request → Outcome
serve_by Lookup v d q = lookup v d q.name
serve_by Enter v d q = enter v d q.name q.size q.job q.channel q.date
serve_by Close v d q = close v d q.job q.channel q.final_length
serve_by Abandon v d q = abandon v d q.job q.channel
serve_by Delete v d q = delete v d q.name
serve_by Rename v d q = rename v d q.name q.new_name
serve_by Protect v d q = protect v d q.name
serve_by Unprotect v d q = unprotect v d q.name

unfoldable pub serve : ℕ → List ℕ → Request → Outcome
serve v d q = serve_by q.op v d q

-- the records one after the other, refused or not: each request meets the words that the one before it left
unfoldable pub words_after : ℕ → List ℕ → List Request → List ℕ
words_after v d [] = d
words_after v d (q ∷ qs) = words_after v (serve v d q).words qs

unfoldable pub answers_to : ℕ → List ℕ → List Request → List Answer
answers_to v d [] = []
answers_to v d (q ∷ qs) = (serve v d q).answer ∷ answers_to v (serve v d q).words qs

-- what a batch leaves: its number, the words, and the slice for answers
pub record Batched : Type 0 where
  pub number : ℕ
  pub words : List ℕ
  pub answers : List Answer

abbrev pub batch_by : Bool → ℕ → List ℕ → List Request → List Answer → Batched
batch_by true v d qs room = record { number = 0; words = words_after v d qs; answers = answers_to v d qs }
batch_by false v d qs room = record { number = 18; words = d; answers = room }

-- 18, and nothing is touched, where there are not as many places for answers as requests; else the batch is run
unfoldable pub batch : ℕ → List ℕ → List Request → List Answer → Batched
batch v d qs room = batch_by (eqb (length qs) (length room)) v d qs room
