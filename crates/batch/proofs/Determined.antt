-- The batch is determined by its contract: two outcomes that it allows for the same arguments have the same number, words and answers.
-- The contract is the `Post` that the checker reads off it (`run-some_determined`, `run-post_determined`), and of `run` the `ensures` of its clauses
-- too, an assertion (`run_determined`). Assumes nothing.
use Prim.Native.Nat.{ℕ}
use mathlib.Core.Path.{◌≡◌, sym, ◌∙◌}
use mathlib.Core.List.{List}
use seplogic.Ra.Ura.{Ura}
use base.Logic.{SProp, ent, sep, fst∗, snd∗}
use prog.Memory.{Memory}
use prog.Routine.{Routine}
use types.Logic.{Logic}
use contract.Monad.{Fun, fact, fact_i, fact_use}
use Rattle.meaning.specs.declared.Answer.{Answer}
use Rattle.meaning.specs.Batch.{Batched}
use Rattle.batch.specs.Ran.{Ran}
use Rattle.batch.specs.contracts.run as runs
use Rattle.batch.proofs.run.Reads as run-reads
use Rattle.batch.proofs.run_some.Reads as run-some

pub run-some_determined : (κs : _) (a : _) (r r' : _) (s s' : _) → run-some.Post κs a r s → run-some.Post κs a r' s'
    → (r.number ≡ r'.number) × (r.answers ≡ r'.answers) × (s.0.now ≡ s'.0.now)
run-some_determined κs a r r' s s' p q = (p.is ∙ sym q.is, p.answered ∙ sym q.answered, p.after ∙ sym q.after)

pub run-post_determined : (κs : _) (a : _) (r r' : _) (s s' : _) → run-reads.Post κs a r s → run-reads.Post κs a r' s'
    → (r ≡ r') × (s.0.now ≡ s'.0.now) × (s.1.1.1.0.now ≡ s'.1.1.1.0.now)
run-post_determined κs a r r' s s' p q = (p.is ∙ sym q.is, p.after ∙ sym q.after, p.answered ∙ sym q.answered)

module _ {M : Type 1} (𝓤 : Ura M) where
  -- where two outcomes are said to be the batch b, they are said to be equal
  joined : (r r' : ℕ) (d d' : List ℕ) (us us' : List Answer) (b : Batched)
      → ent 𝓤 (sep 𝓤 (fact 𝓤 (Ran r d us b)) (fact 𝓤 (Ran r' d' us' b))) (fact 𝓤 ((r ≡ r') × (d ≡ d') × (us ≡ us')))
  joined r r' d d' us us' b =
      let P = fact 𝓤 (Ran r d us b) in
      let Q = fact 𝓤 (Ran r' d' us' b) in
      fact_use 𝓤 (Ran r d us b) (fst∗ 𝓤 P Q) (λ p. fact_use 𝓤 (Ran r' d' us' b) (snd∗ 𝓤 P Q) (λ q.
      fact_i 𝓤 ((r ≡ r') × (d ≡ d') × (us ≡ us')) (sep 𝓤 P Q)
      (p.is ∙ sym q.is, p.after ∙ sym q.after, p.answered ∙ sym q.answered)))

  module _ (𝓛 : Logic 𝓤) (mem : Memory → SProp 𝓤) (run : Routine → Fun 𝓤) where
    pub run_determined : (κs : _) (a : _) (r r' : _) (s s' : _)
        → ent 𝓤 (sep 𝓤 ((runs.clauses 𝓛 mem run κs a).ensures tt r s) ((runs.clauses 𝓛 mem run κs a).ensures tt r' s'))
        (fact 𝓤 ((r ≡ r') × (s.0.now ≡ s'.0.now) × (s.1.1.1.0.now ≡ s'.1.1.1.0.now)))
    run_determined κs a r r' s s' = joined r r' _ _ _ _ _
