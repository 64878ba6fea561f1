-- `code_of` meets its contract: by `code_by_lem` a byte's code is told by the run of the alphabet in which it stands, and each
-- return is one run. What is neither space nor digit is a letter.
use Rattle.std.proofs.Common.{sym, ◌∙◌}
use borrow.Author.Tests.{eq-eqb, ne_eqb}
use Rattle.names.proofs.Names.{code_by_lem, letters_from}
use Rattle.names.proofs.radix.code_of.Goals as goal

pub overflow_sub-result-else-is_ascii_digit : goal.overflow_sub-result-else-is_ascii_digit
overflow_sub-result-else-is_ascii_digit c =
    letters_from _ c.requires c.if-b-eq32.false (sym c.is_ascii_digit.ensures.value ∙ c.if-is_ascii_digit.false)

pub returns-then-b-eq32 : goal.returns-then-b-eq32
returns-then-b-eq32 c = code_by_lem _ _ c.requires (rw (eq-eqb _ _ c.if-b-eq32.true))

pub returns-then-is_ascii_digit : goal.returns-then-is_ascii_digit
returns-then-is_ascii_digit c =
    code_by_lem _ _ c.requires (rw (ne_eqb _ _ c.if-b-eq32.false, sym c.is_ascii_digit.ensures.value ∙ c.if-is_ascii_digit.true))

pub returns-else-is_ascii_digit : goal.returns-else-is_ascii_digit
returns-else-is_ascii_digit c =
    code_by_lem _ _ c.requires (rw (ne_eqb _ _ c.if-b-eq32.false, sym c.is_ascii_digit.ensures.value ∙ c.if-is_ascii_digit.false))
