-- A walk over a segment's entries that writes words for each, one after the other. What is written so far, with the words of the entries
-- ahead, is what all entries make; the step law of these words is all that a walk has to know of them.
use Prim.Native.Nat.{ℕ, ◌+◌, ◌≤◌}
use mathlib.Core.Path.{◌≡◌, refl, sym, ap, ◌∙◌}
use mathlib.Core.Bool.{Bool, true, false, cond}
use mathlib.Core.List.{List, [], ◌∷◌, ◌++◌, append-nil, append_assoc}
use native.Mathlib.Omega.{arith}
use lib.ListN.{length, length-append}
use Rattle.meaning.specs.Words.{Entry, blocks, slots, upto, total}
use Rattle.walks.proofs.Flat.{Proper, entries_proper}
use Rattle.segment.specs.Written.{Written}
use Rattle.segment.proofs.Writes.{none_written, both_written}
use Rattle.squeezed.specs.Squeeze.{is_file, new_place, free_after, free_up_to}
use Rattle.squeezed.proofs.Steps.{place-bounds}
use Rattle.tally.specs.Walks.{Walkable}
use Rattle.packing.specs.Packs.{Passable, Walked}

free_bound : (b p : ℕ) (e : Entry) → p ≤ b → free_after b p e ≤ b + blocks e
unfolding free_after
free_bound b p e h = go (is_file e)
  where
    go : (x : Bool) → cond x (new_place b p e + blocks e) p ≤ b + blocks e
    go true = let y = place-bounds b p e h in omega arith
    go false = omega arith

-- the words W of entries are those that the first lets out, and those of the rest
pub record Stepwise (W : ℕ → ℕ → List Entry → List ℕ) (out : ℕ → ℕ → Entry → List ℕ) : Type 0 where
  pub none : (b p : ℕ) → W b p [] ≡ []
  pub step : (b p : ℕ) (e : Entry) (es : List Entry) → W b p (e ∷ es) ≡ out b p e ++ W (b + blocks e) (free_after b p e) es

-- the loop: the entries es are ahead, the first of which stands at block b
pub record Walking (W : ℕ → ℕ → List Entry → List ℕ) (w : ℕ) (g : List ℕ) (b₀ p₀ : ℕ) (out₀ : List ℕ) (at₀ : ℕ) (es : List Entry) (b p : ℕ)
    (out : List ℕ) (at : ℕ) : Type 0 where
  pub proper : Proper w es
  pub low : p ≤ b
  pub high : b + total es ≤ 65535
  pub done : List ℕ
  pub written : Written out₀ at₀ done out at
  pub words : done ++ W b p es ≡ W b₀ p₀ (upto (slots w g))
  pub free : free_up_to b p es ≡ free_up_to b₀ p₀ (upto (slots w g))

module _ {W : ℕ → ℕ → List Entry → List ℕ} {w : ℕ} {g : List ℕ} {b₀ p₀ : ℕ} {out₀ : List ℕ} {at₀ : ℕ} (ready : Walkable w g b₀ p₀) where
  pub walking : Walking W w g b₀ p₀ out₀ at₀ (upto (slots w g)) b₀ p₀ out₀ at₀
  walking =
      record {
        proper = entries_proper w g ready.whole;
        low = ready.low;
        high = ready.high;
        done = [];
        written = none_written out₀ at₀;
        words = refl;
        free = refl;
      }

  module _ {out_of_lem : ℕ → ℕ → Entry → List ℕ} (stepwise : Stepwise W out_of_lem) (room : at₀ + length (W b₀ p₀ (upto (slots w g))) ≤ length out₀)
      {es : List Entry} {b p : ℕ} {out : List ℕ} {at : ℕ} (i : Walking W w g b₀ p₀ out₀ at₀ es b p out at) where
    pub walk_over : es ≡ [] → Walked W w g b₀ p₀ out₀ at₀ out at p
    unfolding free_up_to
    walk_over e =
        let d : i.done ≡ W b₀ p₀ (upto (slots w g)) =
        sym (append-nil i.done) ∙ ap (λ (l : List ℕ). i.done ++ l) (sym (stepwise.none b p)) ∙ (rw e at i.words) in
        record { written = rw (← d) i.written; free = rw e at i.free }

    -- the entry e is the first of those ahead
    module _ (e : Entry) (others : List Entry) (next : es ≡ e ∷ others) where
      properly : Proper w (e ∷ others)
      properly = rw next at i.proper

      pub walk-length : length e ≡ w
      walk-length = properly.0

      pub walk_high : b + blocks e + total others ≤ 65535
      unfolding total
      walk_high = omega (arith, rw next at i.high)

      pub walk_entry : Passable e b p
      walk_entry = record { narrow = omega (arith, walk-length, ready.narrow); low = i.low; high = omega (arith, walk_high) }

      abbrev rest : List ℕ
      rest = W (b + blocks e) (free_after b p e) others

      next_words : i.done ++ (out_of_lem b p e ++ rest) ≡ W b₀ p₀ (upto (slots w g))
      next_words = ap (λ (l : List ℕ). i.done ++ l) (sym (stepwise.step b p e others)) ∙ (rw next at i.words)

      -- there is room for what it lets out
      pub walk_room : at + length (out_of_lem b p e) ≤ length out
      walk_room =
          let x = length-append i.done (out_of_lem b p e ++ rest) in
          let y = length-append (out_of_lem b p e) rest in
          let z = ap length next_words in
          omega (arith, room, i.written.next, i.written.long)

      pub walk_next : (out' : List ℕ) (at' q : ℕ) → Written out at (out_of_lem b p e) out' at' → q ≡ free_after b p e
          → Walking W w g b₀ p₀ out₀ at₀ others (b + blocks e) q out' at'
      unfolding free_up_to
      walk_next out' at' q u is =
          let f = free_bound b p e i.low in
          record {
            proper = properly.2;
            low = rw is f;
            high = walk_high;
            done = i.done ++ out_of_lem b p e;
            written = both_written out₀ i.done out (out_of_lem b p e) out' at₀ at at' (omega (arith, room)) i.written u;
            words = rw is (append_assoc i.done (out_of_lem b p e) rest ∙ next_words);
            free = rw is (rw next at i.free);
          }
