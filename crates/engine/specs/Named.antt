-- What is left of an enter behind its first tests.
use Rattle.std.specs.Prelude.{ℕ, not, List}
use Rattle.meaning.specs.declared.Name.{Name}
use Rattle.meaning.specs.Answers.{Outcome, unless}
use Rattle.meaning.specs.Requests.{over_protected}
use Rattle.meaning.specs.Enter.{Size}
use Rattle.enter.specs.Entering.{entering}

-- enter, once nothing but a protected file of its name, or want of room, can refuse it
unfoldable pub entering_named : List ℕ → Name → Size → ℕ → ℕ → Outcome
entering_named d name size channel date =
    unless 20 (not (over_protected d name)) d λ _.
    entering d name size channel date
