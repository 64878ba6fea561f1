-- `slot_keyed` meets its contract: of the two tests that a key takes the first that fails decides.
use mathlib.Core.Path.{◌≡◌, sym, ◌∙◌}
use mathlib.Core.Bool.{true, false, and-true, and-false}
use Rattle.meaning.specs.Kinds.{is_permanent, is_tentative}
use Rattle.meaning.specs.Words.{kind}
use Rattle.walks.proofs.Keyed.{holds-file, holds_open}
use Rattle.segment.proofs.finder.slot_keyed.Goals as goal

pub returns-then-is_named : goal.returns-then-is_named
returns-then-is_named c =
    let e = c.args.entry.now.words.now in
    let named = sym c.is_named.ensures ∙ c.if-is_named.true in
    rw c.in-File.is (c.is_permanent.ensures ∙ rw c.status.ensures (sym (holds-file c.in-File.name e ∙ rw named (and-true (is_permanent (kind e))))))

pub returns-else-is_named : goal.returns-else-is_named
returns-else-is_named c =
    let e = c.args.entry.now.words.now in
    let other = sym c.is_named.ensures ∙ c.if-is_named.false in
    rw c.in-File.is (c.if-is_named.false ∙ sym (holds-file c.in-File.name e ∙ rw other (and-false (is_permanent (kind e)))))

pub returns-then-is_tentative : goal.returns-then-is_tentative
returns-then-is_tentative c =
    let e = c.args.entry.now.words.now in
    let open_entry : is_tentative (kind e) ≡ true = rw (← c.status-in-Open.ensures) (sym c.is_tentative.ensures ∙ c.if-is_tentative.true) in
    rw c.in-Open.is (rw c.channel.ensures (sym (holds_open c.in-Open.channel e ∙ rw open_entry)))

pub returns-else-is_tentative : goal.returns-else-is_tentative
returns-else-is_tentative c =
    let e = c.args.entry.now.words.now in
    let other : is_tentative (kind e) ≡ false = rw (← c.status-in-Open.ensures) (sym c.is_tentative.ensures ∙ c.if-is_tentative.false) in
    rw c.in-Open.is (c.if-is_tentative.false ∙ sym (holds_open c.in-Open.channel e ∙ rw other))
