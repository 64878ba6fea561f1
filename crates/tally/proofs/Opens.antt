-- Whether an entry is tentative. Along the chain the walk keeps one equation: the segments ahead have a tentative entry exactly where all have.
use Prim.Native.Nat.{ℕ, ◌+◌, ◌-◌, ◌≤◌, ◌<◌}
use mathlib.Core.Path.{◌≡◌, refl}
use mathlib.Core.Bool.{Bool, true, false, ◌||◌}
use mathlib.Core.List.{List, [], ◌∷◌}
use native.Mathlib.Nat.{sub-zero}
use native.Mathlib.Omega.{arith}
use Rattle.std.specs.List.{list_any}
use Rattle.meaning.specs.Kinds.{is_tentative}
use Rattle.meaning.specs.Words.{highest, slot_words, Entry, kind, slots, upto, entries, chain_from, chain, entries_of, all_entries}
use Rattle.meaning.specs.Sound.{any}
use Rattle.walks.proofs.Lists.{chain-over}
use Rattle.chain.specs.Chained.{Chained}
use Rattle.chain.proofs.Links.{part-is, link_at, chain_next, Here, here-first, one-less, here-next}
use Rattle.chain.proofs.Replaced.{part_of}
use Rattle.laws.proofs.Room.{any_append}
use Rattle.squeezed.specs.Squeeze.{has_tentative}
use Rattle.tally.specs.Surveyed.{any_open}

-- an entry is tentative
abbrev pub is_open : Entry → Bool
is_open e = is_tentative (kind e)

-- as std has `any`
pub any_is : (test : Entry → Bool) (es : List Entry) → list_any test es ≡ any test es
unfolding any
any_is test [] = refl
any_is test (e ∷ es) = rw (any_is test es) refl

-- along the chain: k segments have passed, and segment s is the next
pub record Seeking (d : List ℕ) (k s : ℕ) : Type 0 where
  pub place : Here d k s
  pub same : any_open (entries_of d (chain_from (highest d - k) d s)) ≡ has_tentative d

pub seeking : (d : List ℕ) → Chained d → Seeking d 0 1
unfolding chain has_tentative all_entries
seeking d c = record { place = here-first c; same = rw (sub-zero (highest d)) refl }

module _ {d : List ℕ} {k s : ℕ} (i : Seeking d k s) where
  pub none_open : highest d ≤ k → false ≡ has_tentative d
  unfolding entries_of any
  none_open h = rw (chain-over (highest d - k) d s (omega arith)) at i.same

  -- one segment more, and r whether it has one
  module _ (h : k < highest d) (r : Bool) (e : r ≡ any_open (upto (slots (slot_words d) (part_of d s)))) where
    one_more : r || any_open (entries_of d (chain_from (highest d - (k + 1)) d (link_at d s))) ≡ has_tentative d
    unfolding entries_of entries
    one_more =
        rw (one-less (highest d) k, e, part-is d s, ← any_append is_open (entries d s) (entries_of d (chain_from (highest d - k - 1) d (link_at d s))))
        (rw (chain_next (highest d - k) d s (omega arith)) at i.same)

    pub open_here : r ≡ true → true ≡ has_tentative d
    open_here f = rw f at one_more

    pub seek-on : Chained d → r ≡ false → Seeking d (k + 1) (link_at d s)
    seek-on c f = record { place = here-next c i.place h; same = rw f at one_more }
