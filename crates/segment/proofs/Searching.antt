-- The search in a segment's rows. Its loop keeps one equation: what is found among the entries still ahead, with slot, word and block counted
-- along, is what is found in all. Each turn ends with a hit, or passes one entry by. Assumes nothing.
use Prim.Native.Nat.{ℕ, suc, ◌+◌, ◌*◌, ◌≤◌}
use mathlib.Core.Path.{◌≡◌, refl, sym, ap, ◌∙◌}
use mathlib.Core.Bool.{true, false, cond}
use mathlib.Core.List.{List, [], ◌∷◌}
use mathlib.Core.Option.{some}
use Rattle.std.specs.Prelude.{Some, None}
use native.Mathlib.Nat.{suc-mul, add-mul}
use native.Mathlib.Omega.{arith}
use lib.ListN.{length}
use Rattle.meaning.specs.declared.Key.{Key}
use Rattle.meaning.specs.Words.{Entry, Row, blocks, slot_count, slots, upto, rows_in}
use Rattle.meaning.specs.Keys.{holds}
use Rattle.meaning.specs.Answers.{find}
use Rattle.segment.specs.Finder.{Found, place_of, found_of, Inside, FoundIn}
use Rattle.segment.specs.declared.finder.Place.{Place}
use Rattle.walks.proofs.Slots.{entries-count}
use Rattle.segment.proofs.Ahead.{slots-room}

-- the row of an entry: slot k of segment s, at word a of the directory, with first block b
abbrev pub row_at : ℕ → ℕ → ℕ → ℕ → Entry → Row
row_at s k a b e = record { seg = s; slot = k; at = a; first = b; entry = e }

-- the search among the entries es, the first of them as above
abbrev pub searching : Key → ℕ → ℕ → ℕ → ℕ → ℕ → List Entry → Found
searching key w s k a b es = found_of (find (holds key) (rows_in w s k a b es))

search_step : (key : Key) (w s k a b : ℕ) (e : Entry) (es : List Entry) → searching key w s k a b (e ∷ es)
    ≡ found_of (cond (holds key e) (some (row_at s k a b e)) (find (holds key) (rows_in w s (k + 1) (a + w) (b + blocks e) es)))
unfolding find rows_in
search_step key w s k a b e es = refl

search_none : (key : Key) (w s k a b : ℕ) → searching key w s k a b [] ≡ None
unfolding find rows_in
search_none key w s k a b = refl

-- the loop's invariant: the entries es are ahead. The next is in slot k, at word a of the directory, its first block b
pub record Searching (g : List ℕ) (w s base first : ℕ) (key : Key) (es : List Entry) (k a b : ℕ) : Type 0 where
  pub few : k + length es ≤ slot_count w + 1
  pub place : a + length es * w ≤ base + 512
  pub small : b ≤ first + 65535 * k
  pub same : searching key w s k a b es ≡ searching key w s 1 (base + 5) first (upto (slots w g))

pub starts : (g : List ℕ) (w s base first : ℕ) (key : Key) → Searching g w s base first key (upto (slots w g)) 1 (base + 5) first
starts g w s base first key =
    let few = entries-count w g in
    record {
      few = omega (arith, few);
      place = omega (arith, slots-room (length (upto (slots w g))) w few);
      small = omega arith;
      same = refl;
    }

-- what each turn gives, where the entry e is the first of those ahead, and the loop's end
module _ {g : List ℕ} {w s base first : ℕ} {key : Key} {es : List Entry} {k a b : ℕ} (v : Searching g w s base first key es k a b) where
  module _ (e : Entry) (others : List Entry) (next : es ≡ e ∷ others) where
    ahead_of : length es ≡ suc (length others)
    ahead_of = ap length next

    -- its slot lies in the segment
    pub fits : a + w + length others * w ≤ base + 512
    fits = omega (arith, v.place, ap (λ (n : ℕ). n * w) ahead_of, suc-mul (length others) w)

    step : searching key w s k a b es
        ≡ found_of (cond (holds key e) (some (row_at s k a b e)) (find (holds key) (rows_in w s (k + 1) (a + w) (b + blocks e) others)))
    step = ap (searching key w s k a b) next ∙ search_step key w s k a b e others

    pub hits : holds key e ≡ true → FoundIn (Some (place_of (row_at s k a b e))) g w s base first key
    hits h = record { is = sym (step ∙ rw h) ∙ v.same; inside = omega (arith, fits) }

    pub passes : holds key e ≡ false → blocks e ≤ 65535 → Searching g w s base first key others (k + 1) (a + w) (b + blocks e)
    passes h small = record {
      few = omega (arith, v.few, ahead_of);
      place = fits;
      small = omega (arith, v.small);
      same = sym (step ∙ rw h) ∙ v.same;
    }

  pub none_left : es ≡ [] → FoundIn None g w s base first key
  none_left e = record { is = sym (ap (searching key w s k a b) e ∙ search_none key w s k a b) ∙ v.same; inside = tt }

-- as code counts, which has passed n entries: slot and word are made of the count
abbrev pub Counted : (g : List ℕ) (w s base first : ℕ) (key : Key) (es : List Entry) (n b : ℕ) → Type 0
Counted g w s base first key es n b = Searching g w s base first key es (n + 1) (base + 5 + n * w) b

pub counted : (g : List ℕ) (w s base first : ℕ) (key : Key) → Counted g w s base first key (upto (slots w g)) 0 first
counted g w s base first key =
    let e : base + 5 ≡ base + 5 + 0 * w = omega arith in
    rw (← e) (starts g w s base first key)

pub counted_on : {g : List ℕ} {w s base first : ℕ} {key : Key} {es : List Entry} {b : ℕ} (n : ℕ) (v : Counted g w s base first key es n b)
    (e : Entry) (others : List Entry) → es ≡ e ∷ others → holds key e ≡ false → blocks e ≤ 65535
    → Counted g w s base first key others (n + 1) (b + blocks e)
counted_on {g} {w} {s} {base} {first} {key} {es} {b} n v e others next h small =
    let k : base + 5 + n * w + w ≡ base + 5 + (n + 1) * w = omega (arith, add-mul n 1 w) in
    rw k at (passes v e others next h small)

-- for callers: where the slot of a place found ends
pub place_inside : (r : Found) (p : Place) (w n : ℕ) → r ≡ Some p → Inside r w n → p.at + w ≤ n
place_inside r p w n e h = rw e at h
