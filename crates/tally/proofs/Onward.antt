-- A walk along the chain of a sound directory, segment by segment, with the next free block. The way along the chain gives each segment what is
-- presumed of it; its files take the next free block no further than the segment's end, where the next one stands.
use Prim.Native.Nat.{ℕ, zero, suc, ◌+◌, ◌*◌, ◌-◌, ◌≤◌, ◌<◌}
use mathlib.Core.Path.{◌≡◌}
use mathlib.Core.List.{List}
use native.Mathlib.Omega.{arith}
use lib.ListN.{length}
use Rattle.meaning.specs.Words.{first_data, segment, link_of, first_of, highest, slot_words, slots, upto, total, chain_from, chain}
use Rattle.walks.proofs.Words.{header, segment-length}
use Rattle.rules.proofs.Rule5.{rule1-holds, rule2-holds}
use Rattle.rules.proofs.Soundness.{Sound}
use Rattle.laws.proofs.Way.{shape_of, entries_in, Way, way-blocks, sound-way}
use Rattle.laws.proofs.Rewritten.{used-within}
use Rattle.chain.proofs.Links.{link_at}
use Rattle.squeezed.proofs.Along.{free-bounds}
use Rattle.tally.specs.Walks.{next_free, Walkable}

-- where segments are left, the one at hand lies in the directory
pub record Within (d : List ℕ) (left s : ℕ) : Type 0 where
  pub low : 0 < left → 1 ≤ s
  pub most : 0 < left → s ≤ 31
  pub inside : 0 < left → 512 * s ≤ length d

-- so many segments are left, from segment s on, which stands at block b; the next free block p has not passed it
pub record Onward (v : ℕ) (d : List ℕ) (left s b p : ℕ) : Type 0 where
  pub way : Way (shape_of d) d (chain_from left d s) s b 0 v
  pub low : p ≤ b

-- the segment at hand
pub record Here (v : ℕ) (d : List ℕ) (left s b p : ℕ) : Type 0 where
  pub first : first_of (segment d s) ≡ b
  pub low : 1 ≤ s
  pub inside : 512 * s ≤ length d
  pub most : s ≤ 31
  pub walk : Walkable (slot_words d) (segment d s) (first_of (segment d s)) p
  pub end : first_of (segment d s) + total (upto (slots (slot_words d) (segment d s))) ≤ v
  pub rest : Onward v d (left - 1) (link_at d s) (b + total (entries_in (slot_words d) d s)) (next_free (slot_words d) p (segment d s))

module _ {v : ℕ} {d : List ℕ} (sd : Sound v d) where
  pub onward : Onward v d (highest d) 1 (first_data d) (first_data d)
  unfolding chain
  onward = record { way = sound-way v d sd; low = omega arith }

  pub here : {left s b p : ℕ} → 0 < left → Onward v d left s b p → Here v d left s b p
  unfolding chain_from
  here {left = zero} {s} {b} {p} h o = absurd (omega arith)
  here {left = suc n} {s} {b} {p} h o = go o.way
    where
      go : Way (shape_of d) d (chain_from (suc n) d s) s b 0 v → Here v d (suc n) s b p
      go y =
          let st = y.1 in
          let w = slot_words d in
          let es = entries_in w d s in
          let r1 = rule1-holds v d sd.size in
          let r2 = rule2-holds d sd.header in
          let inn = used-within v d sd s st.high in
          let t = way-blocks (shape_of d) d (chain_from n d (link_of (segment d s))) _ _ 0 v y.2 in
          let l : p ≤ first_of (segment d s) = rw st.first o.low in
          let f = free-bounds es (first_of (segment d s)) p l in
          let k : suc n - 1 ≡ n = omega arith in
          let e : link_of (segment d s) ≡ link_at d s = header d s 1 (omega arith) in
          record {
            first = st.first;
            low = st.low;
            inside = inn;
            most = omega (arith, st.high, r1.few, r2.within);
            walk =
                record {
                  whole = segment-length d s st.low inn;
                  wide = omega arith;
                  narrow = omega (arith, r2.few);
                  low = l;
                  high = omega (arith, t, r1.wide, st.first);
                };
            end = omega (arith, t, st.first);
            rest = rw (k, ← e) (record { way = y.2; low = omega (arith, f.1, st.first) });
          }

  pub within : {left s b p : ℕ} → Onward v d left s b p → Within d left s
  within o = record { low = λ h. (here h o).low; most = λ h. (here h o).most; inside = λ h. (here h o).inside }
