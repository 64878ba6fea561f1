-- Rules 4 and 5 along the chain. The walk keeps one equation: what the segments still ahead give, after those so far, is what the
-- whole chain gives. Each turn takes one segment off the front, with a case for each answer of its scan. Assumes nothing.
use Prim.Native.Nat.{ℕ, ◌+◌, ◌*◌, ◌-◌, ◌≤◌, ◌<◌}
use mathlib.Core.Path.{◌≡◌, refl, sym, ◌∙◌}
use mathlib.Core.Bool.{Bool, true, false, cond, ◌&&◌, ◌||◌, not}
use mathlib.Core.List.{List}
use Rattle.std.specs.Prelude.{Option, Some, None}
use native.Mathlib.Omega.{arith}
use native.Mathlib.Nat.{sub-zero}
use lib.ListN.{get_or, take, drop}
use lib.Dec.{eqb}
use Rattle.meaning.specs.Words.{first_data, highest, slot_words, slots, entries, chain_from, chain}
use Rattle.meaning.specs.Sound.{any, bad_slots, bad4, filled, bad5}
use Rattle.walks.specs.Scan.{scan_bad}
use Rattle.walks.proofs.Scanned.{bad_scan}
use Rattle.segment.specs.Scan.{scan_of}
use Rattle.segment.specs.declared.scan.Sum.{Sum}
use Rattle.chain.specs.Chained.{Chained}
use Rattle.chain.specs.Measure.{measure_of}
use Rattle.chain.proofs.Links.{part-is, link_at, chain_next, Here, here-first, here-next, one-less}
use Rattle.walks.proofs.Words.{base, header}
use Rattle.walks.proofs.Lists.{chain-over}
use Rattle.walks.proofs.Slots.{slots_of}

-- the walk's answer with the segments ss still ahead. joined: each segment so far began where it should; b: where the last ended
unfoldable pub measure_from : ℕ → List ℕ → Bool → ℕ → List ℕ → ℕ
measure_from v d joined b ss = cond (any (λ s. bad_slots (slots_of d s)) ss) 4 (cond (not (joined && filled v d b ss)) 5 0)

-- the same where the next segment's scan says r, its first block is f, and the segments ss come after it
abbrev pub after : Option Sum → ℕ → List ℕ → Bool → ℕ → List ℕ → ℕ → ℕ
after None v d joined b ss f = 4
after (Some s) v d joined b ss f = measure_from v d (joined && eqb f b) (b + s.blocks) ss

by_scan : (x joined : Bool) (s : Sum) (v b f : ℕ) (d ss : List ℕ)
    → cond (x || any (λ s. bad_slots (slots_of d s)) ss) 4 (cond (not (joined && (eqb f b && filled v d (b + s.blocks) ss))) 5 0)
    ≡ after (cond x None (Some s)) v d joined b ss f
unfolding measure_from
by_scan true joined s v b f d ss = refl
by_scan false true s v b f d ss = refl
by_scan false false s v b f d ss = refl

-- one turn of the walk, where r is what the scan of segment s says
pub turn : (v n : ℕ) (d : List ℕ) (s : ℕ) (joined : Bool) (b : ℕ) (r : Option Sum) → 0 < n → r ≡ scan_of (slots_of d s)
    → measure_from v d joined b (chain_from n d s)
    ≡ after r v d joined b (chain_from (n - 1) d (link_at d s)) (get_or d (base s + 4) 0)
unfolding measure_from any filled entries scan_of
turn v n d s joined b r h e =
    rw (chain_next n d s h, e, bad_scan (slots_of d s), ← header d s 4 (omega arith))
    (by_scan (scan_bad false (slots_of d s)) joined _ v b _ d _)

-- its end
pub turned : (v n : ℕ) (d : List ℕ) (s : ℕ) (joined : Bool) (b : ℕ) → n ≤ 0
    → measure_from v d joined b (chain_from n d s) ≡ cond (not (joined && eqb b v)) 5 0
unfolding measure_from any filled
turned v n d s joined b h = rw (chain-over n d s h)

-- what the scan of a part of the slice says, of the segment that it is
pub scan_part : (d : List ℕ) (s : ℕ) (r : Option Sum)
    → r ≡ scan_of (slots (slot_words d) (take (base s + 512 - base s) (drop (base s) d)))
    → r ≡ scan_of (slots_of d s)
scan_part d s r e = rw (part-is d s) at e

-- the walk's invariant: k segments have passed, the last of them ended at block b, and segment s is next. Each segment has at most 507
-- lengths of 16 bits, and the first of 31 begins at 6 + 2 * 31
pub record Measuring (v : ℕ) (d : List ℕ) (k s b : ℕ) (joined : Bool) : Type 0 where
  pub here : Here d k s
  pub small : b ≤ 6 + 2 * 31 + 507 * 65535 * k
  pub same : measure_from v d joined b (chain_from (highest d - k) d s) ≡ measure_of v d

pub starts : (v : ℕ) (d : List ℕ) → Chained d → Measuring v d 0 1 (first_data d) true
unfolding measure_from measure_of bad4 bad5 chain
starts v d c = record { here = here-first c; small = omega (arith, c.few); same = rw (sub-zero (highest d)) }

-- what each turn gives, where the scan of the segment at hand says r; and the walk's end
module _ {v : ℕ} {d : List ℕ} {k s b : ℕ} {joined : Bool} (m : Measuring v d k s b joined) where
  module _ (r : Option Sum) (some : k < highest d)
      (scanned : r ≡ scan_of (slots (slot_words d) (take (base s + 512 - base s) (drop (base s) d)))) where
    said : after r v d joined b (chain_from (highest d - k - 1) d (link_at d s)) (get_or d (base s + 4) 0) ≡ measure_of v d
    said = sym (turn v (highest d - k) d s joined b r (omega arith) (scan_part d s r scanned)) ∙ m.same

    pub broken : r ≡ None → 4 ≡ measure_of v d
    broken e = rw e at said

    pub goes : Chained d → (t : Sum) → r ≡ Some t → t.blocks ≤ 507 * 65535
        → Measuring v d (k + 1) (link_at d s) (b + t.blocks) (joined && eqb (get_or d (base s + 4) 0) b)
    goes c t e h = record {
      here = here-next c m.here some;
      small = omega (arith, m.small);
      same = rw (one-less (highest d) k) (rw e at said);
    }

  pub ends : highest d ≤ k → cond (not (joined && eqb b v)) 5 0 ≡ measure_of v d
  ends h = sym (turned v (highest d - k) d s joined b (omega arith)) ∙ m.same
