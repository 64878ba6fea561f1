-- A load file read byte by byte, in pieces (document 02, Req 11: "a form that takes its state and the next piece, of any length, 0 included").
use Rattle.std.specs.Prelude.{ℕ, cond, List, [], ◌∷◌, ◌++◌}
use Rattle.loadsteps.specs.Step.{role_of, decided, kept_by, next}
use Rattle.loadsteps.specs.declared.Phase.TheVariants.{Start, Refused}
use Rattle.loadsteps.specs.declared.Role.{Role}
use Rattle.loadsteps.specs.declared.Role.TheVariants.{Passing, Storing}
use Rattle.loadsteps.specs.declared.Role.TheVariants as roles
use Rattle.loadsteps.specs.declared.Reader.{Reader}
use Rattle.loadsteps.specs.declared.Answer.{Answer}
use Rattle.loadsteps.specs.declared.Answer.TheVariants as answers

-- the reader before any byte
unfoldable pub begin : Reader
begin = record { phase = Start; sum = 0; stored = 0; offset = 0 }

-- the reader r after the bytes of a piece, over a memory of l bytes
unfoldable pub read : ℕ → Reader → List ℕ → Reader
read l r [] = r
read l r (b ∷ bs) = read l (next l r b) bs

-- the memory m after them
unfoldable pub fill : ℕ → Reader → List ℕ → List ℕ → List ℕ
fill l r [] m = m
fill l r (b ∷ bs) m = fill l (next l r b) bs (kept_by l (role_of r.phase) b m)

-- all bytes of the pieces
unfoldable pub whole_input : List (List ℕ) → List ℕ
whole_input [] = []
whole_input (p ∷ ps) = p ++ whole_input ps

-- "Refusal 30 is given only when the caller says that the input has ended."
unfoldable pub ended : Reader → Reader
ended r = cond (decided r) r (record { phase = Refused 30; sum = r.sum; stored = r.stored; offset = r.offset })

-- "Until the end block is accepted the answer is provisional; a refusal reports how many data bytes were stored [..] and the offset of the byte that
-- showed it"
abbrev pub answer_by : Role → ℕ → ℕ → Answer
answer_by Passing t o = answers.Provisional
answer_by (Storing a n) t o = answers.Provisional
answer_by (roles.Accepted a) t o = answers.Accepted a
answer_by (roles.Refused k) t o = answers.Refused k t o

unfoldable pub answer_now : Reader → Answer
answer_now r = answer_by (role_of r.phase) r.stored r.offset
