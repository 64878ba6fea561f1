-- `text_of_words` meets its contract: a return for a word that is above 63,999, and one with the characters of the three.
use Rattle.std.proofs.Common.{◌≡◌, true, ◌&&◌, arith}
use Rattle.std.proofs.lemmas.Bool.Decides.{nat_tests}
use Rattle.names.specs.Radix.{text_of_words, text_of, spelled, spells}
use Rattle.names.proofs.radix.text_of_words.Goals as goal

pub returns-then-first-gt-LAST_WORD : goal.returns-then-first-gt-LAST_WORD
unfolding text_of_words spells
returns-then-first-gt-LAST_WORD c = grind (arith, nat_tests)

pub returns : goal.returns
unfolding text_of_words text_of spelled spells
returns c =
    let a = c.args in
    let all : spells a.first && spells a.second && spells a.extension ≡ true = grind (arith, nat_tests) in
    rw (all, c.spelled.ensures, c.spelled-2.ensures, c.spelled-3.ensures)
