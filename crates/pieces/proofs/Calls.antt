-- The laws of `loadsteps` hold of the routines themselves. A call of `feed`, by the contract that the checker reads off it (its `Post`), is one step of
-- `FedAll`; so calls of `begin`, of `feed` for each piece, of `finish` and of `answer_of` answer what the whole input reports.
use Prim.Native.Nat.{ℕ}
use mathlib.Core.Path.{◌≡◌, ap, ◌∙◌}
use mathlib.Core.List.{List, ◌∷◌}
use Rattle.loads.specs.Memory.{limit}
use Rattle.loads.specs.Reading.{load_answer}
use Rattle.loadsteps.specs.Run.{whole_input, ended, answer_now}
use Rattle.loadsteps.specs.Whole.{report, loaded_of, in_counters}
use Rattle.loadsteps.specs.Laws.{FedAll, more}
use Rattle.loadsteps.specs.declared.Reader.{Reader}
use Rattle.loadsteps.proofs.Laws.{piece_laws}
use Rattle.pieces.proofs.reading.begin.Reads as begin
use Rattle.pieces.proofs.reading.feed.Reads as feed
use Rattle.pieces.proofs.reading.finish.Reads as finish
use Rattle.pieces.proofs.reading.answer_of.Reads as answer_of

-- a call of `feed`, and then calls for the pieces ps
pub fed : (κs : _) (a : _) (r : _) (s : _) {ps : List (List ℕ)} {r'' : Reader} {m'' : List ℕ} → feed.Post κs a r s → FedAll r s.1.1.0.now ps r'' m''
    → FedAll a.0 a.1.1.0.now (a.1.0.now ∷ ps) r'' m''
fed κs a r s p h = more _ r _ p.0 p.1 h

-- all calls of a run: `begin` gave r₀, calls of `feed` on the pieces ps made r of it, `finish` was lent r and gave r', and `answer_of` was lent r' and gave x
pub answered : (κs₀ : _) (a₀ : _) (r₀ : _) (s₀ : _) (κs₁ : _) (a₁ : _) (r' : _) (s₁ : _) (κs₂ : _) (a₂ : _) (x : _) (s₂ : _) {m : List ℕ}
    {ps : List (List ℕ)} {r : Reader} {m' : List ℕ} → begin.Post κs₀ a₀ r₀ s₀ → FedAll r₀ m ps r m' → finish.Post κs₁ a₁ r' s₁ → a₁.0 ≡ r
    → answer_of.Post κs₂ a₂ x s₂ → a₂.0 ≡ r' → (loaded_of x ≡ load_answer (whole_input ps) m) × (x ≡ in_counters (report (limit m) (whole_input ps)))
answered κs₀ a₀ r₀ s₀ κs₁ a₁ r' s₁ κs₂ a₂ x s₂ {m} {ps} {r} {m'} b h f e g d =
    let laws = piece_laws (rw b at h) in
    let is : x ≡ answer_now (ended r) = g ∙ ap answer_now (d ∙ f ∙ ap ended e) in
    (ap loaded_of is ∙ laws.number, is ∙ laws.final)
