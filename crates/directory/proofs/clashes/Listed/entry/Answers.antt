-- `entry` meets its contract: the words from the entry's place on, as many as a slot has.
use mathlib.Core.Path.{ap, ◌∙◌}
use lib.ListN.{length}
use Rattle.directory.proofs.Buckets.{entry-is}
use Rattle.directory.proofs.clashes.Listed.entry.Goals as goal

pub returns : goal.returns
returns c =
    let s = c.args.self.now in
    ap (λ b. b.now) c.new.ensures ∙ entry-is s.d.now s.width s.places.now (length s.places.now) c.args.number
