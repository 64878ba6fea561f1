-- `is_untidy` meets its contract: what is met among the entries still ahead is what is met among all.
use Rattle.meaning.specs.Kinds.{kind_of}
use Rattle.meaning.specs.Words.{slots, upto}
use Rattle.meaning.specs.Enter.{untidy}
use Rattle.segment.specs.Entries.{ahead}
use Rattle.tidy.proofs.Looking.{Looking}
use Rattle.tidy.proofs.untidy.is_untidy.Given as goal

abbrev pub invariant-loop-entry : goal.invariant-loop-entry
invariant-loop-entry l =
    let it = l.entry-iterator in
    Looking (kind_of l.before) (ahead it.width it.rest.now) (untidy (upto (slots l.width l.segment)))
