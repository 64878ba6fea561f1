-- The areas along the chain: those of the first segment, and those of the rest from where it links to. Two tests of room that agree on
-- the costs of areas give the same areas, so code may test against a number of free slots. Assumes nothing.
use Prim.Native.Nat.{ℕ, ◌+◌, ◌-◌, ◌≤◌, ◌<◌}
use mathlib.Core.Path.{◌≡◌, refl}
use mathlib.Core.Bool.{Bool, false}
use mathlib.Core.List.{List, [], ◌∷◌, ◌++◌}
use Rattle.meaning.specs.Kinds.{is_tentative}
use Rattle.meaning.specs.Words.{Entry, kind, blocks, segment, first_of, entries, chain_from}
use Rattle.meaning.specs.Enter.{Area, cost_after, has_room, areas_in, areas}
use Rattle.walks.proofs.Lists.{chain-over}
use Rattle.walks.proofs.Fits.{cost-some, cost-small}
use Rattle.chain.proofs.Links.{link_at, chain_next}

pub areas-same : (r q : ℕ → Bool) → ((c : ℕ) → 1 ≤ c → c ≤ 2 → r c ≡ q c) → (s k b : ℕ) (p : Bool) (es : List Entry)
    → areas_in r s k b p es ≡ areas_in q s k b p es
unfolding areas_in
areas-same r q f s k b p [] = refl
areas-same r q f s k b p (e ∷ es) =
    rw (
      f (cost_after p) (cost-some p) (cost-small p),
      areas-same r q f s (k + 1) (b + blocks e) (is_tentative (kind e)) es,
    )

-- the areas of segment s
abbrev pub areas_at : List ℕ → ℕ → List Area
areas_at d s = areas_in (has_room d (entries d s)) s 0 (first_of (segment d s)) false (entries d s)

pub areas-next : (n : ℕ) (d : List ℕ) (s : ℕ) → 0 < n
    → areas d (chain_from n d s) ≡ areas_at d s ++ areas d (chain_from (n - 1) d (link_at d s))
unfolding areas
areas-next n d s h = rw (chain_next n d s h)

pub areas-none : (n : ℕ) (d : List ℕ) (s : ℕ) → n ≤ 0 → areas d (chain_from n d s) ≡ []
unfolding areas
areas-none n d s h = rw (chain-over n d s h)
