-- `key_of` meets its contract: an entry that has a key and isn't tentative is permanent.
use mathlib.Core.Path.{sym, ◌∙◌}
use Rattle.directory.proofs.Clashing.{open_key, file-key}
use Rattle.directory.proofs.clashes.key_of.Goals as goal

pub returns-then-is_tentative : goal.returns-then-is_tentative
returns-then-is_tentative c =
    rw c.channel.ensures
    (open_key c.args.entry.now.words.now (rw c.status.ensures at (sym c.is_tentative.ensures ∙ c.if-is_tentative.true)))

pub returns-else-is_tentative : goal.returns-else-is_tentative
returns-else-is_tentative c =
    rw c.name.ensures
    (file-key c.args.entry.now.words.now (rw c.status.ensures at (sym c.is_tentative.ensures ∙ c.if-is_tentative.false)) c.requires)
