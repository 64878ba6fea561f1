-- `links_right` meets its contract. The loop's invariant: the walk from here, over the segments left, is right just where the whole
-- walk is.
use mathlib.Core.Path.{◌≡◌}
use Prim.Native.Nat.{◌-◌}
use Rattle.meaning.specs.Words.{highest}
use Rattle.walks.specs.Links.{linked}
use Rattle.chain.proofs.links_right.Given as goal

abbrev pub invariant-loop : goal.invariant-loop
invariant-loop l = linked (highest l.d - l.counter) l.d l.segment ≡ linked (highest l.d) l.d 1
