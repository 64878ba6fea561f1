-- The last two tests of enter, by the survey of the areas; and where both are passed the choice finds an area, since what is wanted is at
-- most the longest eligible length, or is what was tested.
use Prim.Native.Nat.{ℕ}
use mathlib.Core.Path.{◌≡◌, sym, ap, ◌∙◌}
use mathlib.Core.Bool.{true, false}
use mathlib.Core.List.{List}
use mathlib.Core.Option.{Option}
use Rattle.meaning.specs.declared.Name.{Name}
use Rattle.meaning.specs.Answers.{refuse, is_none}
use Rattle.meaning.specs.Enter.{Area, eligibles, wanted, at_least, long_enough}
use Rattle.walks.proofs.Fits.{wanted-fits}
use Rattle.choice.specs.declared.size.Asked.{Asked}
use Rattle.choice.specs.Asks.{size_by, wanted_by}
use Rattle.choice.proofs.Sizes.{wanted_by_lem}
use Rattle.survey.specs.declared.areas.Survey.{Survey}
use Rattle.survey.specs.Surveyed.{lengths, Surveyed}
use Rattle.enter.specs.Entering.{areas_of, Fits, placed_in, entering}

-- an enter that asks for a size, and the survey of the areas by the least length that it takes
pub record Asking : Type 0 where
  pub d : List ℕ
  pub asked : Asked
  pub least : ℕ
  pub is_least : least ≡ at_least (size_by asked)
  pub survey : Survey
  pub areas : Surveyed survey (areas_of d) least

module _ (q : Asking) where
  long-is : q.survey.long ≡ long_enough (at_least (size_by q.asked)) (areas_of q.d)
  long-is = q.areas.long ∙ rw q.is_least

  eligible-is : q.survey.eligible ≡ long_enough (at_least (size_by q.asked)) (eligibles (areas_of q.d))
  eligible-is = q.areas.eligible ∙ rw q.is_least

  pub short : q.survey.long ≡ false → (name : Name) (channel date : ℕ) → entering q.d name (size_by q.asked) channel date ≡ refuse 11 q.d
  unfolding entering
  short f name channel date = rw (sym long-is ∙ f)

  pub slotless : q.survey.long ≡ true → q.survey.eligible ≡ false → (name : Name) (channel date : ℕ)
      → entering q.d name (size_by q.asked) channel date ≡ refuse 12 q.d
  unfolding entering
  slotless f g name channel date = rw (sym long-is ∙ f, sym eligible-is ∙ g)

  -- b blocks are wanted
  module _ (f : q.survey.long ≡ true) (g : q.survey.eligible ≡ true) (b : ℕ) (w : b ≡ wanted_by (size_by q.asked) q.survey.longest q.survey.second) where
    wanted-is : b ≡ wanted (size_by q.asked) (lengths (eligibles (areas_of q.d)))
    wanted-is = w ∙ rw (q.areas.longest, q.areas.second) (wanted_by_lem (size_by q.asked) (lengths (eligibles (areas_of q.d))))

    pub fits : Fits q.d b
    fits =
        let a = wanted-fits (size_by q.asked) (eligibles (areas_of q.d)) (sym eligible-is ∙ g) in
        rw wanted-is (ap (λ (o : Option Area). is_none o) a.1)

    pub roomy : (name : Name) (channel date : ℕ) → entering q.d name (size_by q.asked) channel date ≡ placed_in q.d name b channel date
    unfolding entering
    roomy name channel date = rw (sym long-is ∙ f, sym eligible-is ∙ g, wanted-is)
