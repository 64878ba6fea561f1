-- Each entry routine is determined by its contract: two results that its contract allows for the same arguments are equal. The
-- contract is the one that the checker reads off the routine: the `Post` of `row`, and of the routines over the struct, which have
-- none, the `ensures` of their `clauses`, an assertion. Each is one equation, so that the two results are joined through its right
-- side, or gives a number and values, which allow one answer. Assumes nothing.
use mathlib.Core.Path.{◌≡◌, sym, ◌∙◌}
use seplogic.Ra.Ura.{Ura}
use base.Logic.{SProp, ent, sep, fst∗, snd∗}
use prog.Memory.{Memory}
use prog.Routine.{Routine}
use types.Logic.{Logic}
use contract.Monad.{Fun, fact, fact_i, fact_use}
use Rattle.reader.proofs.Reading.{answers-same}
use Rattle.reader.specs.contracts.open as opens
use Rattle.reader.specs.contracts.next as next
use Rattle.reader.specs.contracts.moved as moved
use Rattle.reader.proofs.row.Reads as row

pub row_determined : (κs : _) (a : _) (r r' : _) (s s' : _) → row.Post κs a r s → row.Post κs a r' s' → r ≡ r'
row_determined κs a r r' s s' p q = answers-same r r' p q

module _ {M : Type 1} (𝓤 : Ura M) where
  -- where two facts give a third, so they do as assertions
  joined : (P Q R : Type 0) → (P → Q → R) → ent 𝓤 (sep 𝓤 (fact 𝓤 P) (fact 𝓤 Q)) (fact 𝓤 R)
  joined P Q R f =
      let A = fact 𝓤 P in
      let B = fact 𝓤 Q in
      fact_use 𝓤 P (fst∗ 𝓤 A B) (λ p. fact_use 𝓤 Q (snd∗ 𝓤 A B) (λ q. fact_i 𝓤 R (sep 𝓤 A B) (f p q)))

  -- two results that are said to be x are equal
  equal : {X : Type 0} (r r' x : X) → ent 𝓤 (sep 𝓤 (fact 𝓤 (r ≡ x)) (fact 𝓤 (r' ≡ x))) (fact 𝓤 (r ≡ r'))
  equal r r' x = joined (r ≡ x) (r' ≡ x) (r ≡ r') (λ p q. p ∙ sym q)

  module _ (𝓛 : Logic 𝓤) (mem : Memory → SProp 𝓤) (run : Routine → Fun 𝓤) where
    pub open_determined : (κs : _) (a : _) (r r' : _) (s s' : _)
        → ent 𝓤 (sep 𝓤 ((opens.clauses 𝓛 mem run κs a).ensures tt r s) ((opens.clauses 𝓛 mem run κs a).ensures tt r' s'))
        (fact 𝓤 (r ≡ r'))
    open_determined κs a r r' s s' = equal r r' _

    pub next_determined : (κs : _) (a : _) (r r' : _) (s s' : _)
        → ent 𝓤 (sep 𝓤 ((next.clauses 𝓛 mem run κs a).ensures tt r s) ((next.clauses 𝓛 mem run κs a).ensures tt r' s'))
        (fact 𝓤 (r ≡ r'))
    next_determined κs a r r' s s' = joined _ _ (r ≡ r') (answers-same r r')

    pub moved_determined : (κs : _) (a : _) (r r' : _) (s s' : _)
        → ent 𝓤 (sep 𝓤 ((moved.clauses 𝓛 mem run κs a).ensures tt r s) ((moved.clauses 𝓛 mem run κs a).ensures tt r' s'))
        (fact 𝓤 (r ≡ r'))
    moved_determined κs a r r' s s' = equal r r' _
