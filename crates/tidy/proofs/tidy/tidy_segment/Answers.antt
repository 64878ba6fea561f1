-- `tidy_segment` meets its contract: what is not untidy stays, and what is becomes the rendered segment, copied back.
use mathlib.Core.Path.{sym, ◌∙◌}
use Rattle.tidy.proofs.Anew.{stays, changed}
use Rattle.tidy.proofs.tidy.tidy_segment.Goals as goal

pub returns-then-not-is_untidy : goal.returns-then-not-is_untidy
returns-then-not-is_untidy c =
    stays c.args.width c.args.segment.now c.requires.whole c.requires.wide
    (sym c.is_untidy.ensures ∙ c.if-not-is_untidy.true)

pub returns : goal.returns
returns c =
    c.copy_from_slice.ensures.after
    ∙ changed c.args.width c.args.segment.now c.requires.whole c.requires.wide _ _
    (sym c.is_untidy.ensures ∙ c.if-not-is_untidy.false) c.write_tidied.ensures c.copy_words.ensures
