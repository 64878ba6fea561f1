-- The loop over the chain that tidies each segment in place. It keeps one equation: the segments still ahead, tidied in the
-- directory as it stands, give what all of them give in the directory as it came. The headers stay, so the links ahead do, and
-- each sum of lengths, so each fits a word. Assumes nothing.
use Prim.Native.Nat.{ℕ, zero, suc, ◌+◌, ◌*◌, ◌-◌, ◌≤◌, ◌<◌}
use native.Mathlib.Decide.{ℕ_discrete}
use native.Mathlib.Omega.{arith}
use mathlib.Core.Path.{◌≡◌, refl, sym, ◌∙◌}
use mathlib.Core.Bool.{true}
use mathlib.Core.List.{List}
use lib.ListN.{length, get_or}
use borrow.Rule.Slice.PartMut.{put_mid}
use Rattle.meaning.specs.Words.{segment, link_of, highest, slot_words, entries, total, chain_from, chain}
use Rattle.meaning.specs.Enter.{tidied_at, tidied}
use Rattle.walks.specs.Links.{linked}
use Rattle.walks.proofs.Tidied.{tidy-total, entries-long}
use Rattle.chain.specs.Chained.{Chained}
use Rattle.tidy.specs.Tidied.{Tidyable, tidied_words, Small, TidiedFrom}
use Rattle.chain.proofs.Links.{part-is}
use Rattle.walks.proofs.Words.{header, segment-length}
use Rattle.chain.proofs.Replaced.{part_of, part-put}
use Rattle.tidy.proofs.Headers.{Framed, framed_self, framed_on, linked-kept, chain-kept, highest-kept, slots_kept}
use Rattle.walks.proofs.Linked.{visit}
use Rattle.tidy.proofs.InPlace.{tidied-words, at_framed, at-entries, at_others, tidied-kept}

-- the loop's invariant: the directory d₀ has become d, and left segments are ahead, the next of them s
pub record Going (d₀ d : List ℕ) (left s : ℕ) : Type 0 where
  pub framed : Framed d₀ d
  pub links : linked left d s ≡ true
  pub small : Small d
  pub same : tidied d (chain_from left d s) ≡ tidied d₀ (chain d₀)

pub starts : (d : List ℕ) → Chained d → Small d → Going d d (highest d) 1
unfolding chain
starts d c m = record { framed = framed_self d; links = c.links; small = m; same = refl }

-- a sum of lengths is kept
small-on : (d : List ℕ) (s : ℕ) → 1 ≤ s → 512 * s ≤ length d → Small d → Small (tidied_at d s)
small-on d s low whole m x l h = go (ℕ_discrete x s)
  where
    bound : x ≤ highest d
    bound = let e = highest-kept d (tidied_at d s) (at_framed d s low whole) in omega arith

    go : Dec (x ≡ s) → total (entries (tidied_at d s) x) ≤ 65535
    go (yes e) =
        let i = m s low (let b = bound in omega arith) in
        rw (e, at-entries d s low whole, tidy-total (entries d s) (entries-long d s low whole)) i
    go (no f) = rw (at_others d s low whole x l f) (m x l bound)

module _ (n : ℕ) (d₀ d : List ℕ) (s : ℕ) (c : Chained d₀) (G : Going d₀ d (suc n) s) where
  low : 1 ≤ s
  low = (visit n d s G.links).low

  high : s ≤ highest d
  high = (visit n d s G.links).high

  whole : 512 * s ≤ length d
  whole = let h = high in let e = highest-kept d₀ d G.framed in let l = G.framed.long in let w = c.whole in omega arith

  later : Going d₀ (tidied_at d s) n (link_of (segment d s))
  unfolding tidied chain_from
  later =
      let f = at_framed d s low whole in
      let rest = (visit n d s G.links).rest in
      record {
        framed = framed_on d₀ d (tidied_at d s) G.framed f;
        links = linked-kept d (tidied_at d s) f n (link_of (segment d s)) rest;
        small = small-on d s low whole G.small;
        same = rw (chain-kept d (tidied_at d s) f n (link_of (segment d s)) rest) G.same;
      }

  ready : Tidyable (slot_words d₀) (part_of d s)
  unfolding entries
  ready = record {
    whole = rw (part-is d s) (segment-length d s low whole);
    wide = omega arith;
    narrow = let x = c.extra in omega arith;
    small = rw (part-is d s, ← slots_kept d₀ d G.framed) (G.small s low high);
  }

  written_here : (g : List ℕ) → g ≡ tidied_words (slot_words d₀) (part_of d s)
      → put_mid (512 * (s - 1)) (512 * (s - 1) + 512 - 512 * (s - 1)) d g ≡ tidied_at d s
  written_here g e =
      part-put d g s low
      ∙ rw (e, part-is d s, ← slots_kept d₀ d G.framed) (sym (tidied-words d s low whole))

-- the same as code counts the segments ahead
pub here : {left : ℕ} {d₀ d : List ℕ} {s : ℕ} → 0 < left → Chained d₀ → Going d₀ d left s → (1 ≤ s) × (512 * s ≤ length d)
here {left = zero} {d₀} {d} {s} h c G = absurd (omega arith)
here {left = suc n} {d₀} {d} {s} h c G = (low n d₀ d s c G, whole n d₀ d s c G)

pub tidyable : {left : ℕ} {d₀ d : List ℕ} {s : ℕ} → 0 < left → Chained d₀ → Going d₀ d left s
    → Tidyable (slot_words d₀) (part_of d s)
tidyable {left = zero} {d₀} {d} {s} h c G = absurd (omega arith)
tidyable {left = suc n} {d₀} {d} {s} h c G = ready n d₀ d s c G

pub goes_on_lem : {left : ℕ} {d₀ d : List ℕ} {s : ℕ} → 0 < left → Chained d₀ → Going d₀ d left s
    → {g : List ℕ} → g ≡ tidied_words (slot_words d₀) (part_of d s)
    → Going d₀ (put_mid (512 * (s - 1)) (512 * (s - 1) + 512 - 512 * (s - 1)) d g) (left - 1) (get_or d (512 * (s - 1) + 1) 0)
goes_on_lem {left = zero} {d₀} {d} {s} h c G {g} e = absurd (omega arith)
goes_on_lem {left = suc n} {d₀} {d} {s} h c G {g} e =
    let k : suc n - 1 ≡ n = omega arith in
    rw (k, written_here n d₀ d s c G g e, ← header d s 1 (omega arith)) (later n d₀ d s c G)

pub ends : {left : ℕ} {d₀ d : List ℕ} {s : ℕ} → left ≤ 0 → Chained d₀ → Going d₀ d left s → TidiedFrom d₀ d
unfolding chain_from tidied
ends {left = zero} {d₀} {d} {s} h c G = record { is = G.same; kept = rw G.same (tidied-kept d₀ c) }
ends {left = suc n} {d₀} {d} {s} h c G = absurd (omega arith)
