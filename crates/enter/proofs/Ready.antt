-- What a sound directory gives to the steps of an enter: its chain can be followed, and each segment's blocks end by V, so that sums of
-- lengths fit words.
use Prim.Native.Nat.{ℕ, ◌≤◌}
use mathlib.Core.Path.{◌≡◌}
use mathlib.Core.List.{List}
use Rattle.meaning.specs.Sound.{fault}
use Rattle.walks.proofs.Heads.{sized}
use Rattle.walks.proofs.Unbroken.{unbroken}
use Rattle.chain.specs.Chained.{Chained}
use Rattle.chain.proofs.Chains.{fault-chained}
use Rattle.tidy.specs.Tidied.{Small}
use Rattle.tidy.proofs.AfterTidy.{sums-small}

module _ (v : ℕ) (d : List ℕ) (h : fault v d ≡ 0) where
  pub volume : v ≤ 65535
  volume = (sized v d (unbroken v d h).size).wide

  pub tidyable : Chained d × Small d
  tidyable = (fault-chained v d h, sums-small v d (fault-chained v d h) volume (unbroken v d h).blocks)
