-- The tally of a segment, entry by entry. An entry takes the next free block no further than its own end, one move at most and two entries at
-- most. The loop keeps that the tally of the entries ahead, from what is counted so far, is the tally of all.
use Prim.Native.Nat.{ℕ, ◌+◌, ◌*◌, ◌≤◌}
use mathlib.Core.Path.{◌≡◌, refl, ap}
use mathlib.Core.Bool.{Bool, true, false, cond}
use mathlib.Core.List.{List, [], ◌∷◌}
use native.Mathlib.Nat.{div-le_self}
use native.Mathlib.Omega.{arith}
use lib.ListN.{length}
use lib.Dec.{eqb}
use Rattle.meaning.specs.Words.{Entry, blocks, slots, upto, total}
use Rattle.walks.proofs.Slots.{entries-count}
use Rattle.squeezed.specs.Moves.{idle}
use Rattle.squeezed.specs.Squeeze.{is_file, new_place}
use Rattle.squeezed.proofs.Steps.{place-bounds}
use Rattle.tally.specs.declared.tally.Tally.{Tally}
use Rattle.tally.specs.Tallied.{move_count, entry_count, file_tallied, tally_after, tallied, Tallyable, TalliedTo}

pub move-small : (b q n : ℕ) → move_count b q n ≤ 1
move-small b q n = go (idle (record { source = b; to = q; length = n }))
  where
    go : (x : Bool) → cond x 0 1 ≤ 1
    go true = omega arith
    go false = omega arith

pub entry-small : (p q : ℕ) → entry_count p q ≤ 2
entry-small p q = go (eqb p q)
  where
    go : (x : Bool) → cond x 1 2 ≤ 2
    go true = omega arith
    go false = omega arith

-- an entry of n blocks keeps the bounds
record Grown (b : ℕ) (t u : Tally) (n : ℕ) : Type 0 where
  free : u.free ≤ b + n
  moves : u.moves ≤ t.moves + 1
  entries : u.entries ≤ t.entries + 2

grown : (b : ℕ) (t : Tally) (e : Entry) → t.free ≤ b → Grown b t (tally_after b t e) (blocks e)
unfolding tally_after
grown b t e h = go (is_file e)
  where
    go : (x : Bool) → Grown b t (cond x (file_tallied b t (new_place b t.free e) (blocks e)) t) (blocks e)
    go true =
        record {
          free = omega (arith, place-bounds b t.free e h);
          moves = omega (arith, move-small b (new_place b t.free e) (blocks e));
          entries = omega (arith, entry-small t.free (new_place b t.free e));
        }
    go false = record { free = omega arith; moves = omega arith; entries = omega arith }

-- the loop: the entries es are ahead, the first of which stands at block b
pub record Tallying (g : List ℕ) (w b₀ : ℕ) (t₀ : Tally) (es : List Entry) (b : ℕ) (t : Tally) : Type 0 where
  pub low : t.free ≤ b
  pub high : b + total es ≤ 65535
  pub few : t.moves + length es ≤ t₀.moves + 507
  pub many : t.entries + 2 * length es ≤ t₀.entries + 1014
  pub same : tallied b t es ≡ tallied b₀ t₀ (upto (slots w g))

pub tallying : (g : List ℕ) (w b : ℕ) (t : Tally) → Tallyable w g b t → Tallying g w b t (upto (slots w g)) b t
tallying g w b t h =
    let few = entries-count w g in
    let all = div-le_self 507 w in
    record { low = h.walk.low; high = h.walk.high; few = omega arith; many = omega arith; same = refl }

module _ {g : List ℕ} {w b₀ : ℕ} {t₀ : Tally} {es : List Entry} {b : ℕ} {t : Tally} (i : Tallying g w b₀ t₀ es b t) where
  -- no entry is ahead
  pub tally_over : es ≡ [] → TalliedTo w g b₀ t₀ t
  unfolding tallied
  tally_over e = record { is = rw e at i.same; moves = omega (arith, i.few); entries = omega (arith, i.many) }

  -- the entry e is the first of those ahead
  module _ (e : Entry) (others : List Entry) (next : es ≡ e ∷ others) where
    pub tally_high : b + blocks e + total others ≤ 65535
    unfolding total
    tally_high = omega (arith, rw next at i.high)

    pub tally_next : Tallying g w b₀ t₀ others (b + blocks e) (tally_after b t e)
    unfolding tallied
    tally_next =
        let y = grown b t e i.low in
        record {
          low = y.free;
          high = tally_high;
          few = omega (arith, y.moves, i.few, ap length next);
          many = omega (arith, y.entries, i.many, ap length next);
          same = rw next at i.same;
        }
