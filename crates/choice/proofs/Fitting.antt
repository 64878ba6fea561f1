-- The first fit in a segment. Its loop keeps one equation: what is chosen among the entries ahead, with entries, words and blocks
-- counted along, is what is chosen among all. Each turn ends with a fit, or passes one entry by. A fit stands where the counts
-- say: after k entries, and so in the slot that begins at word 5 + k * w. Assumes nothing.
use Prim.Native.Nat.{ℕ, suc, ◌+◌, ◌*◌, ◌-◌, ◌≤◌}
use mathlib.Core.Path.{◌≡◌, refl, sym, ap, ◌∙◌}
use mathlib.Core.Bool.{Bool, true, false, cond, ◌&&◌}
use mathlib.Core.List.{List, [], ◌∷◌}
use Rattle.std.specs.Prelude.{Option, Some, None}
use native.Mathlib.Nat.{add-mul}
use native.Mathlib.Omega.{arith}
use lib.ListN.{length, get_or, take, drop}
use lib.Seq.{drop-drop}
use Rattle.std.proofs.lemmas.List.{get_or-drop}
use lib.Dec.{leb}
use borrow.Author.Tests.{leb-true}
use Rattle.bools.proofs.Bools.{both}
use Rattle.meaning.specs.declared.Kind.{Kind}
use Rattle.meaning.specs.Kinds.{is_tentative, is_empty}
use Rattle.meaning.specs.Words.{Entry, first_of, kind, blocks, slot_count, slots, upto, total}
use Rattle.meaning.specs.Enter.{Area, cost_after, areas_in, eligibles, first_fit}
use Rattle.walks.proofs.Words.{word}
use Rattle.walks.proofs.Slots.{entries-count, entry_at}
use Rattle.choice.specs.Choice.{place_of_area, chosen_of}
use Rattle.choice.specs.Room.{Cost, room_for, eligible_by}
use Rattle.choice.specs.Judged.{area_from, fitting, FitIn}
use Rattle.choice.specs.declared.choose.AreaPlace.{AreaPlace}
use Rattle.segment.proofs.Ahead.{slots-room, few-slots}

-- what is chosen among entries of segment s, after k others, from block b on; t: a tentative entry stands directly before
abbrev pub fits : ℕ → ℕ → ℕ → ℕ → ℕ → ℕ → Bool → List Entry → Option AreaPlace
fits w s free m k b t es = chosen_of w (first_fit m (eligibles (areas_in (room_for free) s k b t es)))

-- by the tests of an entry: x it is an area, y it is eligible, z it is long enough
by_tests : (w m : ℕ) (x y z : Bool) (a : Area) (r : List Area) → a.eligible ≡ y → leb m a.size ≡ z
    → chosen_of w (first_fit m (eligibles (cond x (a ∷ r) r)))
    ≡ cond (x && (y && z)) (Some (place_of_area w a)) (chosen_of w (first_fit m (eligibles r)))
unfolding eligibles first_fit
by_tests w m true true true a r e f = rw (e, f)
by_tests w m true true false a r e f = rw (e, f)
by_tests w m true false z a r e f = rw e
by_tests w m false y z a r e f = refl

fits-none : (w s free m k b : ℕ) (t : Bool) → None ≡ fits w s free m k b t []
unfolding areas_in eligibles first_fit
fits-none w s free m k b t = refl

fits_step : (w s free m k b : ℕ) (t : Bool) (e : Entry) (es : List Entry)
    → fits w s free m k b t (e ∷ es)
    ≡ cond (fitting m free t (kind e) (blocks e)) (Some (place_of_area w (area_from free s k b t e)))
    (fits w s free m (k + 1) (b + blocks e) (is_tentative (kind e)) es)
unfolding areas_in fitting eligible_by
fits_step w s free m k b t e es =
    by_tests w m (is_empty (kind e)) (leb 1 (blocks e) && room_for free (cost_after t)) (leb m (blocks e))
    (area_from free s k b t e)
    (areas_in (room_for free) s (k + 1) (b + blocks e) (is_tentative (kind e)) es) refl refl

-- what a fit's tests say: its length, and that there is free for its cost
fitting-is : (m free : ℕ) (t : Bool) (κ : Kind) (n : ℕ) → fitting m free t κ n ≡ true
    → (1 ≤ n) × (m ≤ n) × (room_for free (cost_after t) ≡ true)
unfolding fitting eligible_by
fitting-is m free t κ n h =
    let a = (both (is_empty κ) ((leb 1 n && room_for free (cost_after t)) && leb m n) h).1 in
    let b = both (leb 1 n && room_for free (cost_after t)) (leb m n) a in
    let c = both (leb 1 n) (room_for free (cost_after t)) b.0 in
    (leb-true 1 n c.0, leb-true m n b.1, c.1)

-- the loop's invariant: the entries es are ahead, after k others; the next begins at word a of the directory, and at block b
pub record Fitting (g : List ℕ) (w s free m : ℕ) (es : List Entry) (k a b : ℕ) (t : Bool) : Type 0 where
  pub rest : es ≡ drop k (upto (slots w g))
  pub count : k + length es ≡ length (upto (slots w g))
  pub place : a ≡ 512 * (s - 1) + 5 + k * w
  pub small : b ≤ 65535 + 65535 * k
  pub sum : b + total es ≡ first_of g + total (upto (slots w g))
  pub same : fits w s free m k b t es ≡ fits w s free m 0 (first_of g) false (upto (slots w g))

pub starts : (g : List ℕ) (w s free m : ℕ) → first_of g ≤ 65535
    → Fitting g w s free m (upto (slots w g)) 0 (512 * (s - 1) + 5) (first_of g) false
starts g w s free m l = record {
  rest = refl;
  count = omega arith;
  place = omega arith;
  small = omega arith;
  sum = refl;
  same = refl;
}

-- the first of those left behind k others, and the rest
first_dropped : (k : ℕ) (xs : List Entry) (e : Entry) (es : List Entry) → e ∷ es ≡ drop k xs → (e ≡ get_or xs k []) × (es ≡ drop (k + 1) xs)
first_dropped k xs e es h =
    let here : k + 0 ≡ k = omega arith in (
      ap (λ (l : List Entry). get_or l 0 []) h ∙ get_or-drop k xs 0 [] ∙ ap (λ (i : ℕ). get_or xs i []) here,
      ap (λ (l : List Entry). drop 1 l) h ∙ drop-drop 1 k xs,
    )

-- what each turn gives, where the entry e is the first of those ahead, and the loop's end
module _ {g : List ℕ} {w s free m : ℕ} {es : List Entry} {k a b : ℕ} {t : Bool} (v : Fitting g w s free m es k a b t) where
  pub no_fit_left : es ≡ [] → FitIn None g w s (room_for free) m
  no_fit_left e = record { is = fits-none w s free m k b t ∙ ap (fits w s free m k b t) (sym e) ∙ v.same; stands = tt }

  module _ (e : Entry) (others : List Entry) (next : es ≡ e ∷ others) where
    ahead_of : length es ≡ suc (length others)
    ahead_of = ap length next

    -- it stands in the slot after k others, which lies in the segment
    pub slot_fits : 5 + k * w + w ≤ 512
    slot_fits =
        let l : k + 1 ≤ slot_count w = omega (arith, v.count, ahead_of, entries-count w g) in
        omega (arith, slots-room (k + 1) w l, add-mul k 1 w)

    pub few : k ≤ 507
    few = omega (arith, v.count, ahead_of, entries-count w g, few-slots w)

    sums : total es ≡ blocks e + total others
    unfolding total
    sums = rw next

    -- its length, as the segment has it
    length-is : 7 ≤ w → blocks e ≡ get_or g (5 + k * w + 4) 0
    unfolding slots
    length-is wide =
        let at : e ≡ take w (drop (k * w) (drop 5 g)) =
        (first_dropped k (upto (slots w g)) e others (sym next ∙ v.rest)).0 ∙ entry_at (slot_count w) w (drop 5 g) k (omega (arith, v.count, ahead_of)) in
        ap blocks at ∙ rw (drop-drop (k * w) 5 g) (word g (5 + k * w) w 4 (omega arith))

    step : fits w s free m k b t es
        ≡ cond (fitting m free t (kind e) (blocks e)) (Some (place_of_area w (area_from free s k b t e)))
        (fits w s free m (k + 1) (b + blocks e) (is_tentative (kind e)) others)
    step = ap (fits w s free m k b t) next ∙ fits_step w s free m k b t e others

    pub fit_miss : fitting m free t (kind e) (blocks e) ≡ false → blocks e ≤ 65535
        → Fitting g w s free m others (k + 1) (a + w) (b + blocks e) (is_tentative (kind e))
    fit_miss f l = record {
      rest = (first_dropped k (upto (slots w g)) e others (sym next ∙ v.rest)).1;
      count = omega (arith, v.count, ahead_of);
      place = omega (arith, v.place, add-mul k 1 w);
      small = omega (arith, v.small);
      sum = omega (arith, v.sum, sums);
      same = sym (step ∙ rw f) ∙ v.same;
    }

    -- a fit, by the numbers that code has counted
    pub fit_hit : fitting m free t (kind e) (blocks e) ≡ true → 7 ≤ w → (cost : ℕ) → Cost cost t
        → FitIn (Some (record { seg = s; before = k; at = a; first = b; size = blocks e; cost = cost })) g w s (room_for free) m
    fit_hit f wide cost c =
        let l = fitting-is m free t (kind e) (blocks e) f in
        let same : Some (record { seg = s; before = k; at = a; first = b; size = blocks e; cost = cost })
        ≡ Some (place_of_area w (area_from free s k b t e)) = rw (v.place, c.is) in
        let back : a - 512 * (s - 1) + 4 ≡ 5 + k * w + 4 = omega (arith, v.place) in
        record {
          is = same ∙ sym (step ∙ rw f) ∙ v.same;
          stands = record {
            seg = refl;
            low = omega (arith, v.place);
            inside = omega (arith, v.place, slot_fits);
            among = omega (arith, v.count, ahead_of);
            word = length-is wide ∙ rw back;
            ends = omega (arith, v.sum, sums);
            long = l.1;
            some = l.0;
            costs = c.some;
            cheap = c.small;
            roomy = rw c.is l.2;
          };
        }
