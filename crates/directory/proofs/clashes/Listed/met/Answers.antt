-- `met` meets its contract: a turn ends with a hit, or goes on with the entry before in the bucket, with a law for each.
use mathlib.Core.Path.{ap, ◌∙◌}
use Rattle.meaning.specs.Keys.{holds}
use Rattle.directory.proofs.Buckets.{walk_start, walk_hit, walk_next, walk_less, walk_end}
use Rattle.directory.proofs.clashes.Listed.met.Goals as goal

pub loop-number-init : goal.loop-number-init
loop-number-init c = walk_start c.requires.1

pub returns-then-slot_keyed : goal.returns-then-slot_keyed
returns-then-slot_keyed c =
    walk_hit c.loop-number.invariant c.loop-number-test.true (c.slot_keyed.ensures ∙ ap (holds c.args.key) c.entry.ensures)
    c.if-slot_keyed.true c.is_once.ensures

pub loop-number-smaller : goal.loop-number-smaller
loop-number-smaller c = walk_less c.loop-number.invariant c.requires.0 c.loop-number-test.true

pub loop-number-preserved : goal.loop-number-preserved
loop-number-preserved c =
    walk_next c.loop-number.invariant c.loop-number-test.true (c.slot_keyed.ensures ∙ ap (holds c.args.key) c.entry.ensures)
    c.requires.0 c.if-slot_keyed.false

pub returns : goal.returns
returns c = walk_end c.loop-number.invariant c.loop-number-test.false
