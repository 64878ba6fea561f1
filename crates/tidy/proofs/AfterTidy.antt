-- The tidied directory, for callers: what rests on the headers is the same, and each sum of lengths too. And the tidy may be done
-- where rule 5 holds: each segment in the chain ends by V, so its sum is no more. Assumes nothing.
use Prim.Native.Nat.{ℕ, ◌+◌, ◌≤◌}
use native.Mathlib.Omega.{arith}
use mathlib.Core.Path.{◌≡◌}
use mathlib.Core.Bool.{false}
use mathlib.Core.List.{List}
use borrow.Author.Tests.{not-false}
use Rattle.meaning.specs.Words.{segments, first_data, segment, first_of, highest, slot_words, capacity}
use Rattle.meaning.specs.Words.{entries, total, chain}
use Rattle.meaning.specs.Sound.{filled, bad5}
use Rattle.walks.proofs.Tidied.{tidy-total, entries-long}
use Rattle.chain.specs.Chained.{Chained}
use Rattle.tidy.specs.Tidied.{Small, TidyKept}
use Rattle.tidy.proofs.Headers.{Framed, highest-kept, slots_kept}
use Rattle.walks.proofs.Linked.{used-once}
use Rattle.walks.proofs.Filled.{filled_within}

module _ (d t : List ℕ) (k : TidyKept d t) where
  framed : Framed d t
  framed = record { long = k.long; headers = k.headers }

  pub highest-same : highest t ≡ highest d
  highest-same = highest-kept d t framed

  pub slots_same : slot_words t ≡ slot_words d
  slots_same = slots_kept d t framed

  pub capacity-same : capacity t ≡ capacity d
  unfolding capacity
  capacity-same = rw slots_same

  pub segments-same : segments t ≡ segments d
  segments-same = rw k.long

  pub first-same : (s : ℕ) → 1 ≤ s → first_of (segment t s) ≡ first_of (segment d s)
  first-same s l = k.headers s 4 l (omega arith)

  pub total-same : Chained d → (s : ℕ) → 1 ≤ s → s ≤ highest d → total (entries t s) ≡ total (entries d s)
  total-same c s l h =
      let w = c.whole in
      rw (k.used s l h) (tidy-total (entries d s) (entries-long d s l (omega arith)))

-- each segment in use ends by V
pub ends_by : (v : ℕ) (d : List ℕ) → Chained d → bad5 v d ≡ false → (s : ℕ) → 1 ≤ s → s ≤ highest d
    → first_of (segment d s) + total (entries d s) ≤ v
unfolding bad5
ends_by v d c h s a b =
    filled_within v d (chain d) (first_data d) s (not-false (filled v d (first_data d) (chain d)) h) (used-once d c.links s a b)

pub sums-small : (v : ℕ) (d : List ℕ) → Chained d → v ≤ 65535 → bad5 v d ≡ false → Small d
sums-small v d c l h s a b = let f = ends_by v d c h s a b in omega arith
