-- `read_label` meets its contract: each test decides one of the reader's four ways (laws `no_block`, `no-mark`, `bad-label`, `good-label`).
use mathlib.Core.Path.{◌≡◌, sym, ◌∙◌}
use mathlib.Core.Bool.{true}
use Rattle.names.specs.Text.{bytes}
use Rattle.label.specs.Labels.{system_mark, is_marked, twelve_at, with_label}
use Rattle.label.proofs.Labels.{no_block, no-mark, bad-label, good-label}
use Rattle.label.proofs.read_label.Goals.{Else-not-same_bytes}
use Rattle.label.proofs.read_label.Goals as goal

pub returns-then-block-ne512 : goal.returns-then-block-ne512
returns-then-block-ne512 c = c.no_label.ensures ∙ sym (no_block c.args.block.now c.if-block-ne512.true)

pub returns-then-not-same_bytes : goal.returns-then-not-same_bytes
unfolding is_marked system_mark twelve_at bytes
returns-then-not-same_bytes c =
    let block = c.args.block.now in
    c.no_label-then-not-same_bytes.ensures ∙ sym (no-mark block c.if-block-ne512.false (sym c.same_bytes.ensures ∙ c.if-not-same_bytes.true))

-- the mark is there
marked-at : (c : Else-not-same_bytes) → is_marked c.args.block.now ≡ true
unfolding is_marked system_mark twelve_at bytes
marked-at c = sym c.same_bytes.ensures ∙ c.if-not-same_bytes.false

pub returns-then-not-are_label_bytes : goal.returns-then-not-are_label_bytes
returns-then-not-are_label_bytes c =
    let block = c.args.block.now in
    c.no_label-then-not-are_label_bytes.ensures
    ∙ sym (bad-label block c.if-block-ne512.false (marked-at (goal.at.returns-then-not-are_label_bytes c).Else-not-same_bytes) (sym c.are_label_bytes.ensures ∙ c.if-not-are_label_bytes.true))

pub returns : goal.returns
unfolding with_label
returns c =
    let block = c.args.block.now in
    let label = good-label block c.if-block-ne512.false (marked-at (goal.at.returns c).Else-not-same_bytes) (sym c.are_label_bytes.ensures ∙ c.if-not-are_label_bytes.false) in
    rw (c.twelve_at.ensures, c.twelve_at-2.ensures) (sym label)
