-- The tally counts what the meaning has: by induction on the entries, its free block is `free_up_to`, its moves are the needed ones of `places`
-- and its entries those of `packed`. So the survey of a segment comes out as the meaning says it.
use Prim.Native.Nat.{ℕ, ◌+◌, ◌-◌}
use native.Mathlib.Nat.{add-zero, zero-add}
use native.Mathlib.Omega.{arith}
use mathlib.Core.Path.{◌≡◌, refl, ◌∙◌}
use mathlib.Core.Bool.{Bool, true, false, cond, ◌||◌}
use mathlib.Core.List.{List, [], ◌∷◌, ◌++◌}
use lib.ListN.{length, length-append}
use lib.Dec.{eqb, ltb}
use Rattle.meaning.specs.Words.{first_of, slot_count, Entry, blocks, slots, upto}
use Rattle.squeezed.specs.Moves.{Move, idle, needed}
use Rattle.squeezed.specs.Squeeze.{is_file, new_place, free_after, free_up_to, places, left_over, packed_entries}
use Rattle.tally.specs.declared.tally.Tally.{Tally}
use Rattle.tally.specs.declared.survey.Survey.{Survey}
use Rattle.tally.specs.Tallied.{entry_count, tally_after, tallied, TalliedTo}
use Rattle.tally.specs.Surveyed.{last_count, survey_after, SurveyedTo}

-- a move counts if it is needed
needed-count : (m : Move) (ms : List Move) → length (needed (m ∷ ms)) ≡ cond (idle m) 0 1 + length (needed ms)
unfolding needed
needed-count m ms = go (idle m)
  where
    go : (x : Bool) → length (cond x (needed ms) (m ∷ needed ms)) ≡ cond x 0 1 + length (needed ms)
    go true = omega arith
    go false = omega arith

-- a file's entry, with what is left over before it
over-count : (w p q : ℕ) (e : Entry) (r : List Entry) → length (left_over w p q ++ e ∷ r) ≡ entry_count p q + length r
unfolding left_over
over-count w p q e r = length-append (left_over w p q) (e ∷ r) ∙ go (eqb p q) _
  where
    go : (x : Bool) (g : Entry) → length (cond x [] (g ∷ [])) + length (e ∷ r) ≡ cond x 1 2 + length r
    go true g = omega arith
    go false g = omega arith

-- the tally t with what the meaning has of entries, the first of which stands at block b
abbrev counted : ℕ → ℕ → Tally → List Entry → Tally
counted w b t es =
    record {
      free = free_up_to b t.free es;
      moves = t.moves + length (needed (places b t.free es));
      entries = t.entries + length (packed_entries w b t.free es);
    }

same_tally : (p m n i j : ℕ) → m ≡ i → n ≡ j
    → ◌≡◌ {A = Tally} (record { free = p; moves = m; entries = n }) (record { free = p; moves = i; entries = j })
same_tally p m n i j f g = rw (f, g)

counted_step : (w b : ℕ) (t : Tally) (e : Entry) (es : List Entry) → counted w (b + blocks e) (tally_after b t e) es ≡ counted w b t (e ∷ es)
unfolding tally_after free_up_to places packed_entries free_after
counted_step w b t e es = go (is_file e) refl
  where
    go : (x : Bool) → is_file e ≡ x → counted w (b + blocks e) (tally_after b t e) es ≡ counted w b t (e ∷ es)
    go true f =
        let q = new_place b t.free e in
        let m = needed-count (record { source = b; to = q; length = blocks e }) (places (b + blocks e) (q + blocks e) es) in
        let n = over-count w t.free q e (packed_entries w (b + blocks e) (q + blocks e) es) in
        rw f (same_tally _ _ _ _ _ (omega arith) (omega arith))
    go false f = rw f refl

tallied-is : (w : ℕ) (es : List Entry) (b : ℕ) (t : Tally) → tallied b t es ≡ counted w b t es
unfolding tallied free_up_to places packed_entries needed
tallied-is w [] b t = rw (add-zero t.moves, add-zero t.entries) refl
tallied-is w (e ∷ es) b t = tallied-is w es (b + blocks e) (tally_after b t e) ∙ counted_step w b t e es

-- the survey of a segment, from a tally that begins with what is known
abbrev begin : Survey → Tally
begin x = record { free = x.free; moves = x.moves; entries = 0 }

pub survey-made : (v w left : ℕ) (g : List ℕ) (x : Survey) (u : Tally) (n : ℕ) (o : Bool) → TalliedTo w g (first_of g) (begin x) u
    → n ≡ last_count left u.free v → o ≡ x.over || ltb (slot_count w - 1) (u.entries + n)
    → SurveyedTo v w left g x (record { free = u.free; moves = u.moves; over = o })
unfolding survey_after
survey-made v w left g x u n o t i j =
    let e = t.is ∙ tallied-is w (upto (slots w g)) (first_of g) (begin x) in
    record { is = rw (j, i, e, zero-add) refl; moves = t.moves }
