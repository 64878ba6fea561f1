-- What follows for the reader of pieces (proofs/Laws.antt).
use Rattle.std.specs.Prelude.{ℕ, ◌<◌, ◌≡◌, true, List, [], ◌∷◌, length}
use Rattle.loads.specs.Memory.{limit}
use Rattle.loads.specs.Reading.{load_answer, load_memory}
use Rattle.loadsteps.specs.Step.{decided}
use Rattle.loadsteps.specs.Run.{read, fill, whole_input, ended, answer_now}
use Rattle.loadsteps.specs.Whole.{report, stored_from, until_end, loaded_of, in_counters}
use Rattle.loadsteps.specs.declared.Reader.{Reader}

-- calls of `feed`, one for each piece, each with what the one before left: by its contract they make r' and m' of the reader r and the memory m
pub data FedAll : Reader → List ℕ → List (List ℕ) → Reader → List ℕ → Type 0 where
  none : {r : Reader} {m : List ℕ} → FedAll r m [] r m
  more : {r : Reader} {m : List ℕ} (p : List ℕ) {ps : List (List ℕ)} (r' : Reader) (m' : List ℕ) {r'' : Reader} {m'' : List ℕ}
      → r' ≡ read (limit m) r p → m' ≡ fill (limit m) r p m → FedAll r' m' ps r'' m'' → FedAll r m (p ∷ ps) r'' m''

-- the pieces ps, fed from the first state on, made the reader r and the memory m' of the memory m
pub record PieceLaws (ps : List (List ℕ)) (m : List ℕ) (r : Reader) (m' : List ℕ) : Type 0 where
  -- "For every way of cutting, number and transfer address equal those of Req 10"
  pub number : loaded_of (answer_now (ended r)) ≡ load_answer (whole_input ps) m
  -- "and after success the memory"
  pub success : (load_answer (whole_input ps) m).number ≡ 0 → m' ≡ load_memory (whole_input ps) m
  -- what a refusal reports; and until the end block is accepted the answer is provisional
  pub final : answer_now (ended r) ≡ in_counters (report (limit m) (whole_input ps))
  pub before_end : answer_now r ≡ until_end (in_counters (report (limit m) (whole_input ps)))
  -- "Refused memory holds exactly those stores, however the input was cut", and so does any memory on the way
  pub stores : m' ≡ stored_from (limit m) 0 (whole_input ps) m
  -- the counters don't reach their limit in an input of fewer bytes
  pub exact : length (whole_input ps) < 18446744073709551615 → in_counters (report (limit m) (whole_input ps)) ≡ report (limit m) (whole_input ps)

-- a reader that is decided, and one that was told that the input has ended
pub record FinalLaws (l : ℕ) (r : Reader) (p m : List ℕ) : Type 0 where
  -- "Later pieces change nothing."
  pub later : decided r ≡ true → (read l r p ≡ r) × (fill l r p m ≡ m)
  -- after success, as after a refusal, the end of the input changes nothing
  pub stays : decided r ≡ true → ended r ≡ r
  -- said twice it is as said once, and no piece changes anything after it
  pub twice : ended (ended r) ≡ ended r
  pub closed : (read l (ended r) p ≡ ended r) × (fill l (ended r) p m ≡ m)
