-- The loop along the chain. Segments still ahead, mended from the block and the file that the loop has come to, make of the words so far what all
-- segments make of the words at the beginning.
use Prim.Native.Nat.{ℕ, ◌-◌, ◌≤◌, ◌<◌, min}
use mathlib.Core.Path.{◌≡◌, refl, ◌∙◌}
use mathlib.Core.Bool.{true}
use mathlib.Core.List.{List}
use native.Mathlib.Omega.{arith}
use lib.ListN.{length}
use Rattle.meaning.specs.Words.{first_data, highest, slot_words, chain_from, chain}
use Rattle.walks.specs.Links.{linked}
use Rattle.walks.proofs.Lists.{chain-over}
use Rattle.chain.specs.Chained.{Chained}
use Rattle.chain.proofs.Links.{link_at, Next, next, chain_next}
use Rattle.repaired.specs.Tool.{mended}
use Rattle.mending.specs.declared.LaidTo.{LaidTo}
use Rattle.mending.specs.Mending.{RenewedIn}

-- so many segments are left, from segment s on, where the entries are laid to x; and t₀ has become t
pub record Mending (v : ℕ) (fs d t₀ t : List ℕ) (left s : ℕ) (x : LaidTo) : Type 0 where
  pub links : linked left d s ≡ true
  pub size : length t ≡ length d
  pub low : x.block ≤ v
  pub same : mended v x.block x.firsts.now d t (chain_from left d s) ≡ mended v (first_data d) fs d t₀ (chain d)

module _ (v : ℕ) (fs d t₀ : List ℕ) (c : Chained d) where
  pub mends : (x : LaidTo) → length t₀ ≡ length d → first_data d ≤ v → x.block ≡ first_data d → x.firsts.now ≡ fs
      → Mending v fs d t₀ t₀ (highest d) 1 x
  unfolding chain
  mends x e l b f = record { links = c.links; size = e; low = omega arith; same = rw (b, f) refl }

  module _ {t : List ℕ} {left s : ℕ} {x : LaidTo} (i : Mending v fs d t₀ t left s x) where
    pub mended-over : left ≤ 0 → t ≡ mended v (first_data d) fs d t₀ (chain d)
    unfolding mended
    mended-over h = rw (chain-over left d s h) at i.same

    module _ (h : 0 < left) where
      -- the segment at hand
      pub at-segment : Next left d s
      at-segment = next left d s c h i.links

      pub mends_on : (u : List ℕ) (r y : LaidTo) → RenewedIn v (slot_words d) x s d t u r → y.block ≡ min v r.block → y.firsts.now ≡ r.firsts.now
          → Mending v fs d t₀ u (left - 1) (link_at d s) y
      unfolding mended
      mends_on u r y m b f = record {
        links = at-segment.rest;
        size = m.long ∙ i.size;
        low = omega arith;
        same = rw (b, f, m.block, m.firsts, m.words) (rw (chain_next left d s h) at i.same);
      }
