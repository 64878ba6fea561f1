-- The map part by part: the lines so far, with the map of what is left, are the whole map; and they have at most three bytes for each byte of the
-- stream that was passed, as a block with a line of 20 bytes has at least 8.
use Prim.Native.Nat.{ℕ, zero, suc, ◌+◌, ◌*◌, ◌-◌, ◌/◌, ◌≤◌, ◌<◌}
use native.Mathlib.Numerals.{add-one}
use native.Mathlib.Omega.{arith}
use mathlib.Core.Path.{◌≡◌, refl, sym, ap, ◌∙◌}
use mathlib.Core.Bool.{Bool, true, false, cond, false≢true}
use mathlib.Core.Logic.{⊎_elim}
use mathlib.Core.List.{List, [], ◌∷◌, ◌++◌, append_assoc, append-nil}
use borrow.Author.Tests.{le-leb, lt-leb, leb-true, eqb-true, eqb-false}
use lib.ListN.{length, take, drop, length-drop}
use lib.Dec.{eqb, leb}
use Rattle.bools.proofs.Bools.{either_side}
use Rattle.lines.specs.Wrote.{Wrote}
use Rattle.lines.proofs.Writes.{none, both}
use Rattle.loads.specs.Blocks.{count_of, address_of, data_count, is_end_block, block_number, right_block, block_by, part_of}
use Rattle.loads.specs.Reading.{goes_on, rest_of}
use Rattle.loads.specs.declared.Part.{Part}
use Rattle.loads.specs.declared.Part.TheVariants.{Gap, Block, End, Refused}
use Rattle.loads.specs.declared.Saved.{Saved}
use Rattle.loads.proofs.Laws.{by_fields}
use Rattle.loads.proofs.Parts.{Right, right}
use Rattle.loads.proofs.Streams.{rest-is, passes_here}
use Rattle.maps.specs.Maps.{line_of, map_from, map_text, map_fits, map_answer, map_output}
use Rattle.maps.specs.Bounds.{Mappable, most_of}

-- the room, tested without a product
pub room_by_lem : (n room : ℕ) → 16 ≤ room → leb n ((room - 16) / 3) ≡ map_fits n room
unfolding map_fits
room_by_lem n room h =
    ⊎_elim
    (λ k. rw (lt-leb n ((room - 16) / 3) (omega arith), lt-leb (3 * n + 16) room k))
    (λ k. rw (le-leb n ((room - 16) / 3) (omega arith), le-leb (3 * n + 16) room k))
    (either_side room (3 * n + 16))

pub no_room : (n room : ℕ) → room < 16 → false ≡ map_fits n room
unfolding map_fits
no_room n room h = sym (lt-leb (3 * n + 16) room (omega arith))

-- the bytes of the part before are passed
skip_map : (k : ℕ) (s : List ℕ) → map_from k s ≡ map_from 0 (drop k s)
unfolding map_from
skip_map zero s = refl
skip_map (suc k) [] = refl
skip_map (suc k) (b ∷ s) = skip_map k s

-- a part that goes on, and one that does not
map_on : (s : List ℕ) → goes_on (part_of 65536 s) ≡ true
    → map_from 0 s ≡ line_of (part_of 65536 s) ++ map_from 0 (drop (rest_of (part_of 65536 s) + 1) s)
unfolding map_from part_of
map_on [] h = absurd (false≢true h)
map_on (b ∷ s) h = rw (h, add-one) (ap (λ (r : List ℕ). line_of (part_of 65536 (b ∷ s)) ++ r) (skip_map _ s))

map_last : (s : List ℕ) → goes_on (part_of 65536 s) ≡ false → map_from 0 s ≡ line_of (part_of 65536 s)
unfolding map_from part_of
map_last [] h = refl
map_last (b ∷ s) h = rw h (append-nil (line_of (part_of 65536 (b ∷ s))))

-- a block that is shown has data, and they are below 65,536
shown-right : (s : List ℕ) (t : Bool) → is_end_block s ≡ t → Right 65536 s → Mappable (cond t (End (address_of s)) (Block (address_of s) (data_count s)))
unfolding is_end_block data_count
shown-right s true e r = omega arith
shown-right s false e r = let k = eqb-false (count_of s) 6 e in (omega (arith, r.counted), r.inside e)

shown_by : (n : ℕ) (s : List ℕ) → block_number 65536 s ≡ n → Mappable (block_by n s)
unfolding block_by right_block
shown_by n s e =
    (elim (eqb n 0) as (λ t. eqb n 0 ≡ t → Mappable (cond t (right_block s) (Refused n))) [
      | true ↦ λ f. shown-right s (is_end_block s) refl (right 65536 s (e ∙ eqb-true n 0 f))
      | false ↦ λ f. omega arith
    ])
    refl

shown : (s : List ℕ) → Mappable (part_of 65536 s)
unfolding part_of
shown [] = omega arith
shown (b ∷ s) =
    elim (eqb b 0) as (λ t. Mappable (cond t Gap (block_by (block_number 65536 (b ∷ s)) (b ∷ s)))) [
      | true ↦ omega arith
      | false ↦ shown_by (block_number 65536 (b ∷ s)) (b ∷ s) refl
    ]

-- a line that goes on has at most three bytes for each byte of its part, and a last one 16
line_room : (p : Part) → Mappable p → goes_on p ≡ true → most_of p ≤ 3 * (rest_of p + 1)
line_room Gap h e = omega arith
line_room (Block a n) h e = omega (arith, h.0)
line_room (End t) h e = absurd (false≢true e)
line_room (Refused k) h e = absurd (false≢true e)

last-room : (p : Part) → goes_on p ≡ false → most_of p ≤ 16
last-room Gap e = omega arith
last-room (Block a n) e = absurd (false≢true (sym e))
last-room (End t) e = omega arith
last-room (Refused k) e = omega arith

-- the walk, where r is left of the stream s: the part that r begins with, the lines so far, and the room that they have taken
pub record Mapping (s b o : List ℕ) (p : Part) (r : List ℕ) (next : ℕ) : Type 0 where
  pub part : p ≡ part_of 65536 r
  pub lines : List ℕ
  pub wrote : Wrote b 0 lines o next
  pub left : lines ++ map_from 0 r ≡ map_text s
  pub short : next + 3 * length r ≤ 3 * length s
  pub room : 3 * length s + 16 ≤ length b

pub map_begins : (s b : List ℕ) (p : Part) → map_fits (length s) (length b) ≡ true → p ≡ part_of 65536 s → Mapping s b b p s 0
unfolding map_text map_fits
map_begins s b p h e =
    record {
      part = e;
      lines = [];
      wrote = none b 0 (omega arith);
      left = refl;
      short = omega arith;
      room = leb-true (3 * length s + 16) (length b) h;
    }

pub map_shown : {s b o : List ℕ} {p : Part} {r : List ℕ} {next : ℕ} → Mapping s b o p r next → Mappable p
map_shown {r = r} c = rw c.part (shown r)

pub map_passes : {s b o : List ℕ} {p : Part} {r : List ℕ} {next : ℕ} → Mapping s b o p r next → goes_on p ≡ true → rest_of p + 1 ≤ length r
map_passes {p = p} {r = r} c h = passes_here 65536 r p c.part h

-- there is room for the line of the part, whether it goes on or not
pub map_room : {s b o : List ℕ} {p : Part} {r : List ℕ} {next : ℕ} → Mapping s b o p r next → goes_on p ≡ true → next + most_of p ≤ length o
map_room {p = p} c h =
    omega (arith, c.short, c.room, map_passes c h, line_room p (map_shown c) h, c.wrote.long)

pub map_last_room : {s b o : List ℕ} {p : Part} {r : List ℕ} {next : ℕ} → Mapping s b o p r next → goes_on p ≡ false → next + most_of p ≤ length o
map_last_room {p = p} c h = omega (arith, c.short, c.room, last-room p h, c.wrote.long)

pub map_goes : {s b o : List ℕ} {p : Part} {r : List ℕ} {next : ℕ} (n z : ℕ) (q : Part) (o' : List ℕ) → Mapping s b o p r next → goes_on p ≡ true
    → n ≡ rest_of p + 1 → Wrote o next (line_of p) o' z → z ≤ next + most_of p
    → q ≡ part_of 65536 (take (length r - n) (drop n r)) → Mapping s b o' q (take (length r - n) (drop n r)) z
map_goes {s} {b} {o} {p} {r} {next} n z q o' c h e w k f =
    let n_is : n ≡ rest_of (part_of 65536 r) + 1 = e ∙ ap (λ (x : Part). rest_of x + 1) c.part in
    let on = map_on r (ap goes_on (sym c.part) ∙ h) in
    let rest = drop n r in
    let left : line_of p ++ map_from 0 rest ≡ map_from 0 r = rw (n_is, c.part) (sym on) in
    record {
      part = f;
      lines = c.lines ++ line_of p;
      wrote = both c.wrote w;
      left = rw (rest-is n r) (append_assoc c.lines (line_of p) (map_from 0 rest) ∙ ap (λ (x : List ℕ). c.lines ++ x) left ∙ c.left);
      short = rw (rest-is n r) (omega (arith, e, k, c.short, map_passes c h, line_room p (map_shown c) h, length-drop n r));
      room = c.room;
    }

pub map_ends : {s b o : List ℕ} {p : Part} {r : List ℕ} {next : ℕ} (z : ℕ) (o' : List ℕ) → Mapping s b o p r next → goes_on p ≡ false
    → Wrote o next (line_of p) o' z → Wrote b 0 (map_text s) o' z
map_ends {s = s} {p = p} {r = r} z o' c h w =
    let last : map_from 0 r ≡ line_of p = map_last r (ap goes_on (sym c.part) ∙ h) ∙ ap line_of (sym c.part) in
    let text : c.lines ++ line_of p ≡ map_text s = ap (λ (x : List ℕ). c.lines ++ x) (sym last) ∙ c.left in
    rw (← text) (both c.wrote w)

-- the whole
pub map_refused : (s out : List ℕ) (r : Saved) → map_fits (length s) (length out) ≡ false → (r.number ≡ 24) × (r.count ≡ 0)
    → (r ≡ map_answer s (length out)) × (out ≡ map_output s out) × (r.count ≤ length out)
unfolding map_answer map_output
map_refused s out r h k = (by_fields r 24 0 k ∙ rw h, rw h, omega (arith, k.1))

pub map_made : (s out o : List ℕ) (n : ℕ) → map_fits (length s) (length out) ≡ true → Wrote out 0 (map_text s) o n
    → (◌≡◌ {A = Saved} (record { number = 0; count = n }) (map_answer s (length out))) × (o ≡ map_output s out) × (n ≤ length o)
unfolding map_answer map_output
map_made s out o n h w =
    let e : n ≡ length (map_text s) = omega (arith, w.ends) in
    let z : 0 + length (map_text s) ≡ length (map_text s) = omega arith in
    (rw (h, e), rw (h, ← z) w.is, omega (arith, w.inside, w.long))
