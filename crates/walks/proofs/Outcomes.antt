-- The answer of an outcome, as a function: an equation of outcomes gives one of answers.
use Rattle.meaning.specs.declared.Answer.{Answer}
use Rattle.meaning.specs.Answers.{Outcome}

abbrev pub answer_of : Outcome → Answer
answer_of o = o.answer
