-- The whole chain, segment by segment: beside a sound directory that can be reached, the tool's segments meet rules 3 to 5 too, keep the same
-- files at the same blocks, and have no key that the others lack.
use Prim.Native.Nat.{ℕ, ◌+◌, ◌≤◌, min}
use mathlib.Core.Path.{◌≡◌, refl, sym, ◌∙◌}
use mathlib.Core.Bool.{Bool, false, true, cond}
use mathlib.Core.List.{List, [], ◌∷◌, ◌++◌}
use native.Mathlib.Nat.{add-zero, add_assoc}
use native.Mathlib.Omega.{arith}
use lib.ListN.{length}
use Rattle.meaning.specs.declared.Key.{Key}
use Rattle.meaning.specs.Kinds.{is_permanent}
use Rattle.meaning.specs.Words.{segment, link_of, slot_words, Entry, kind, blocks, slots, upto, total}
use Rattle.meaning.specs.Keys.{holds}
use Rattle.walks.specs.Lists.{All}
use Rattle.walks.proofs.Linked.{Inside}
use Rattle.rules.proofs.Keys.{count, count-append}
use Rattle.laws.proofs.Way.{Shape, shape_of, entries_in, spread, Stop, Way, way-blocks}
use Rattle.repaired.specs.Kept.{KeptFile, kept_at, legible, kept_from, kept_in, kept_of}
use Rattle.repaired.specs.Tool.{firsts_of, next_first}
use Rattle.repairlaws.specs.Reachable.{MendedAt}
use Rattle.repairlaws.proofs.Rows.{legible-upto}
use Rattle.repairlaws.proofs.Laying.{firsts, next-within, Mends, lays}
use Rattle.repairlaws.proofs.Segments.{slots-wide, mend_at, AnewAt, AnewAlong}

-- files of two lists of entries, the second from the block where the first ends
files-append : (xs ys : List Entry) (b : ℕ) → kept_from b (xs ++ ys) ≡ kept_from b xs ++ kept_from (b + total xs) ys
unfolding kept_from total
files-append [] ys b = rw (add-zero b)
files-append (x ∷ xs) ys b =
    rw (files-append xs ys (b + blocks x), ← (add_assoc b (blocks x) (total xs)))
    (go (is_permanent (kind x)) (kept_from (b + blocks x + total xs) ys))
  where
    go : (z : Bool) (l : List KeptFile)
        → cond z (kept_at b x ∷ (kept_from (b + blocks x) xs ++ l)) (kept_from (b + blocks x) xs ++ l)
        ≡ cond z (kept_at b x ∷ kept_from (b + blocks x) xs) (kept_from (b + blocks x) xs) ++ l
    go true l = refl
    go false l = refl

-- on a way the stored starts are those reckoned from block b
pub way-files : (c : Shape) (d ss : List ℕ) (s b t e : ℕ) → Way c d ss s b t e → kept_of c.width d ss ≡ kept_from b (spread c.width d ss)
unfolding kept_of kept_in kept_from
way-files c d [] s b t e y = refl
way-files c d (x ∷ xs) s b t e y =
    let l : legible (slots c.width (segment d x)) ≡ entries_in c.width d x = legible-upto false (slots c.width (segment d x)) y.1.readable in
    rw (y.1.first, l, way-files c d xs _ _ t e y.2) (sym (files-append (entries_in c.width d x) (spread c.width d xs) b))

-- what follows for the directory t
pub record Follows (v : ℕ) (d w t ss : List ℕ) (s b : ℕ) : Type 0 where
  pub way : Way (shape_of d) t ss s b 0 v
  pub files : kept_of (slot_words d) t ss ≡ kept_of (slot_words d) w ss
  pub keys : (k : Key) → count (holds k) (spread (slot_words d) t ss) ≤ count (holds k) (spread (slot_words d) w ss)

module _ (v : ℕ) (d w t : List ℕ) where
  -- one segment, and those after it
  put : (x : ℕ) (xs : List ℕ) (s b a : ℕ) (fs : List ℕ) → s ≡ x → Stop (shape_of d) w x a → MendedAt d w x
      → AnewAt v d b fs x (segment t x)
      → Mends v b a fs (spread (slot_words d) w xs) (mend_at v d b fs x) (slots (slot_words d) (segment w x))
      → Follows v d w t xs (link_of (segment w x)) (b + total (upto (mend_at v d b fs x))) → Follows v d w t (x ∷ xs) s b
  unfolding kept_of kept_in
  put x xs s b a fs e p k r g j =
      let link : link_of (segment t x) ≡ link_of (segment w x) = r.heads 1 (omega arith) ∙ sym (k.heads 1 (omega arith)) in
      record {
        way = (
          e,
          record {
            low = p.low;
            high = p.high;
            total = r.heads 0 (omega arith) ∙ sym (k.heads 0 (omega arith)) ∙ p.total;
            extra = r.heads 3 (omega arith) ∙ sym (k.heads 3 (omega arith)) ∙ p.extra;
            first = r.start;
            readable = rw r.slots g.readable;
          },
          rw (link, r.slots) j.way,
        );
        files =
            rw (
              r.start,
              r.slots,
              legible-upto false (mend_at v d b fs x) g.readable,
              p.first,
              legible-upto false (slots (slot_words d) (segment w x)) p.readable,
              g.laid.files,
              j.files,
            );
        keys = λ k.
            let m = count-append (holds k) (entries_in (slot_words d) t x) (spread (slot_words d) t xs) in
            let n = count-append (holds k) (entries_in (slot_words d) w x) (spread (slot_words d) w xs) in
            let o : count (holds k) (entries_in (slot_words d) t x) ≤ count (holds k) (entries_in (slot_words d) w x) = rw r.slots (g.laid.keys k) in
            let q = j.keys k in
            omega arith;
      }

  pub along : (ss : List ℕ) (s b a : ℕ) (fs : List ℕ) → Way (shape_of d) w ss s a 0 v → All (MendedAt d w) ss → All (Inside (length d)) ss
      → AnewAlong v d t b fs ss → fs ≡ firsts a (spread (slot_words d) w ss) → a ≤ b → b ≤ next_first v fs → Follows v d w t ss s b
  unfolding kept_from kept_of firsts_of count
  along [] s b a fs y m i n q l h =
      let z : next_first v fs ≡ v = rw q in
      let e = y.1 in
      record { way = (y.0, omega arith); files = refl; keys = λ k. omega arith }
  along (x ∷ xs) s b a fs y m i n q l h =
      let c = shape_of d in
      let p = y.1 in
      let k = m.0 in
      let r = n.0 in
      let g = lays (slot_words d) (omega arith) v (spread (slot_words d) w xs) k.slots false b a fs
      (slots-wide d (slot_words d) x i.0) p.readable q (way-blocks c w (x ∷ xs) s a 0 v y) l h in
      let o : b + total (upto (mend_at v d b fs x)) ≤ v =
      omega (arith, g.laid.high, next-within v (firsts (a + total (entries_in (slot_words d) w x)) (spread (slot_words d) w xs))) in
      let z : min v (b + total (upto (mend_at v d b fs x))) ≡ b + total (upto (mend_at v d b fs x)) = omega arith in
      put x xs s b a fs y.0 p k r g
      (along xs (link_of (segment w x)) _ _ _ y.2 m.1 i.1 (rw z at n.1) g.laid.left g.laid.low (rw g.laid.left g.laid.high))
