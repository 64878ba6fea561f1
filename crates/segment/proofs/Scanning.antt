-- The scan of a segment's slots. Its loop keeps one equation: what the slots still ahead give after the entries so far is what
-- all slots give. Each turn takes one slot off the front, with one case for each kind; the rest is room for words and sums.
-- Assumes nothing.
use Prim.Native.Nat.{ℕ, suc, ◌+◌, ◌*◌, ◌-◌, ◌/◌, ◌≤◌, ◌<◌}
use mathlib.Core.Path.{◌≡◌, refl, sym, ap, ◌∙◌}
use Rattle.std.specs.Prelude.{Option, Some, None}
use mathlib.Core.Bool.{Bool, true, false, cond, true≢false}
use mathlib.Core.List.{List, [], ◌∷◌, ◌++◌}
use native.Mathlib.Nat.{add-zero, zero-add, div-le_self, div-eq_of_lt, add-div_left}
use native.Mathlib.Omega.{arith}
use lib.ListN.{length, take, drop, length-drop, length-append}
use lib.Seq.{take_at, drop_at, take-length}
use Rattle.meaning.specs.declared.Kind.{Kind}
use Rattle.meaning.specs.declared.Kind.TheVariants.{Tentative, Empty, Permanent, End, Unknown}
use Rattle.meaning.specs.Kinds.{is_tentative, is_empty, is_permanent, is_end}
use Rattle.meaning.specs.Words.{Entry, blocks, kind, slot_count, chunks, slots, upto, total}
use Rattle.walks.specs.Scan.{bad_by, long_named, scan_bad}
use Rattle.segment.specs.Scan.{scan_of, Bounded, Scanned}
use Rattle.segment.specs.Steps.{step_by, slot_step, scan_from}
use Rattle.segment.specs.declared.scan.Step.{Step}
use Rattle.segment.specs.declared.scan.Step.TheVariants.{Bad, Marker, Next}
use Rattle.segment.specs.declared.scan.Sum.{Sum}
use Rattle.walks.proofs.Slots.{chunks_step}

-- what the scan gives where its next slot says s and the slots es come after it
abbrev pub after : Step → List Entry → ℕ → ℕ → Option Sum
after Bad es k t = None
after Marker es k t = Some (record { count = k; blocks = t })
after (Next n p) es k t = scan_from p es (k + 1) (t + n)

abbrev some_sum : ℕ → ℕ → Option Sum
some_sum k t = Some (record { count = k; blocks = t })

-- the count and the sum, with the first entry counted among those ahead and among those so far
regroup : (x : Bool) (k t a l m : ℕ)
    → cond x None (some_sum (k + suc l) (t + (a + m))) ≡ cond x None (some_sum (k + 1 + l) (t + a + m))
regroup x k t a l m =
    let e : k + suc l ≡ k + 1 + l = omega arith in
    let f : t + (a + m) ≡ t + a + m = omega arith in
    rw (e, f)

by_kind : (κ : Kind) (p b : Bool) (e : Entry) (es : List Entry) (k t : ℕ)
    → cond (bad_by κ p b (scan_bad (is_tentative κ) es))
    None
    (some_sum (k + length (cond (is_end κ) [] (e ∷ upto es))) (t + total (cond (is_end κ) [] (e ∷ upto es))))
    ≡ after (step_by κ p b (blocks e)) es k t
unfolding scan_from total
by_kind End true b e es k t = refl
by_kind End false b e es k t = rw (add-zero k, add-zero t)
by_kind Empty p b e es k t = regroup (scan_bad false es) k t (blocks e) (length (upto es)) (total (upto es))
by_kind Permanent true b e es k t = refl
by_kind Permanent false true e es k t = refl
by_kind Permanent false false e es k t = regroup (scan_bad false es) k t (blocks e) (length (upto es)) (total (upto es))
by_kind Tentative true b e es k t = refl
by_kind Tentative false true e es k t = refl
by_kind Tentative false false e es k t = regroup (scan_bad true es) k t (blocks e) (length (upto es)) (total (upto es))
by_kind Unknown p b e es k t = refl

scan_step : (p : Bool) (e : Entry) (es : List Entry) (k t : ℕ) → scan_from p (e ∷ es) k t ≡ after (slot_step p e) es k t
unfolding scan_from slot_step scan_bad upto
scan_step p e es k t = by_kind (kind e) p (long_named e) e es k t

-- the slots that are left of the words l
abbrev pub slots_left : ℕ → List ℕ → List Entry
slots_left w l = chunks (length l / w) w l

module _ (w : ℕ) (e r l : List ℕ) (next : l ≡ e ++ r) (whole : length e ≡ w) (some : 0 < w) where
  count_left : length l / w ≡ length r / w + 1
  count_left =
      let long : length l ≡ w + length r = ap length next ∙ length-append e r ∙ rw whole in
      rw long (add-div_left (length r) some)

  slots_step : slots_left w l ≡ e ∷ slots_left w r
  slots_step =
      let n : length l / w - 1 ≡ length r / w = omega (arith, count_left) in
      chunks_step (length l / w) w l (omega (arith, count_left)) ∙ rw (n, next, take_at e r w whole, drop_at e r w whole)

  -- one turn of the loop, where s is what the slot at hand says
  pub turn : (owed : Bool) (k t : ℕ) (s : Step) → s ≡ slot_step owed e
      → scan_from owed (slots_left w l) k t ≡ after s (slots_left w r) k t
  turn owed k t s h = ap (λ es. scan_from owed es k t) slots_step ∙ scan_step owed e (slots_left w r) k t ∙ rw h

-- no slot is left, and none was the marker
pub no_slots : (w : ℕ) (l : List ℕ) (owed : Bool) (k t : ℕ) → length l < w → None ≡ scan_from owed (slots_left w l) k t
unfolding chunks scan_from scan_bad
no_slots w l owed k t h = rw (div-eq_of_lt h)

scan_start : (es : List Entry) → scan_from false es 0 0 ≡ scan_of es
unfolding scan_from scan_of
scan_start es = rw (zero-add (length (upto es)), zero-add (total (upto es)))

-- the loop's invariant: the slots of the words l are left, after count entries of sum blocks in all
pub record Scanning (g : List ℕ) (w : ℕ) (l : List ℕ) (count sum : ℕ) (owed : Bool) : Type 0 where
  pub few : count + length l / w ≤ slot_count w
  pub small : sum ≤ 65535 * count
  pub same : scan_from owed (slots_left w l) count sum ≡ scan_of (slots w g)

pub starts : (g : List ℕ) (w : ℕ) → length g ≡ 512 → Scanning g w (drop 5 g) 0 0 false
unfolding slots
starts g w h =
    let long : length (drop 5 g) ≡ 507 = length-drop 5 g ∙ omega (arith, h) in
    record {
      few = rw long (omega arith);
      small = omega arith;
      same = rw long (scan_start (chunks (slot_count w) w (drop 5 g)));
    }

-- the words behind the header, as code cuts them
pub started : (g : List ℕ) (w : ℕ) (l : List ℕ) → length g ≡ 512 → l ≡ take (length g - 5) (drop 5 g) → Scanning g w l 0 0 false
started g w l h e = rw (e, ← length-drop 5 g, take-length (drop 5 g)) (starts g w h)

module _ {g : List ℕ} {w : ℕ} {l : List ℕ} {count sum : ℕ} {owed : Bool} (v : Scanning g w l count sum owed) where
  module _ (e r : List ℕ) (next : l ≡ e ++ r) (whole : length e ≡ w) (some : 0 < w) where
    pub bad : Bad ≡ slot_step owed e → Scanned None w g
    bad s = record { is = sym (turn w e r l next whole some owed count sum Bad s) ∙ v.same; bounds = tt }

    -- the marker takes a slot, so that entries are fewer than slots
    pub ends : Marker ≡ slot_step owed e → Scanned (Some (record { count = count; blocks = sum })) w g
    ends s = record {
      is = sym (turn w e r l next whole some owed count sum Marker s) ∙ v.same;
      bounds = (omega (arith, v.few, count_left w e r l next whole some), omega (arith, v.few, v.small, div-le_self 507 w));
    }

    pub goes : (n : ℕ) (t : Bool) → Next n t ≡ slot_step owed e → n ≤ 65535 → Scanning g w r (count + 1) (sum + n) t
    goes n t s h = record {
      few = omega (arith, v.few, count_left w e r l next whole some);
      small = omega (arith, v.small);
      same = sym (turn w e r l next whole some owed count sum (Next n t) s) ∙ v.same;
    }

  pub over : length l < w → Scanned None w g
  over h = record { is = no_slots w l owed count sum h ∙ v.same; bounds = tt }

-- for callers: what the bounds are where the scan has answered a sum
pub sum_bounded : (r : Option Sum) (w : ℕ) (s : Sum) → r ≡ Some s → Bounded r w → (s.count < slot_count w) × (s.blocks ≤ 507 * 65535)
sum_bounded r w s e h = rw e at h

-- where an empty entry is due, a slot that is no entry is bad
pub due-bad : (k : Kind) (b : Bool) (n : ℕ) → is_permanent k ≡ false → is_empty k ≡ false → is_tentative k ≡ false → Bad ≡ step_by k true b n
due-bad Tentative b n p e t = absurd (true≢false t)
due-bad Empty b n p e t = absurd (true≢false e)
due-bad Permanent b n p e t = absurd (true≢false p)
due-bad End b n p e t = refl
due-bad Unknown b n p e t = refl
