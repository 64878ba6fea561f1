-- `channel_word` meets its contract: a job and a channel that pass their test make a word.
use native.Mathlib.Omega.{arith}
use mathlib.Core.Path.{sym, ◌∙◌}
use Rattle.channels.proofs.Tested.{channel-fits}
use Rattle.channels.proofs.channel_word.Goals as goal

pub overflow_mul-result : goal.overflow_mul-result
overflow_mul-result c =
    let l = channel-fits _ _ (sym c.is_channel.ensures ∙ c.if-not-is_channel.false) in
    omega arith

pub overflow_add-result : goal.overflow_add-result
overflow_add-result c =
    let l = channel-fits _ _ (sym c.is_channel.ensures ∙ c.if-not-is_channel.false) in
    omega arith
