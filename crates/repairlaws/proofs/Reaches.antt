-- The tool makes no other changes than those allowed: slot by slot it does what one of them says. And no change at all is allowed too.
use Prim.Native.Nat.{ℕ, ◌+◌, ◌-◌}
use mathlib.Core.Path.{◌≡◌, refl}
use mathlib.Core.Logic.{inl, inr}
use mathlib.Core.Bool.{false, or-true}
use mathlib.Core.List.{List, [], ◌∷◌}
use lib.ListN.{drop}
use Rattle.meaning.specs.declared.Kind.{Kind}
use Rattle.meaning.specs.declared.Kind.TheVariants.{Tentative, Empty, Permanent, End, Unknown}
use Rattle.meaning.specs.Kinds.{is_end, is_unknown}
use Rattle.meaning.specs.Words.{first_data, segment, slot_words, Entry, kind, blocks, slots, chain}
use Rattle.walks.specs.Lists.{All}
use Rattle.rules.specs.Sound.{IsEntry}
use Rattle.repaired.specs.Tool.{next_first, mend, proposal}
use Rattle.repairlaws.specs.Reachable.{Mended, none, stop, mark, last, stay, turn, MendedAt, Reachable}
use Rattle.repairlaws.proofs.Laying.{mend-end, mend-mark, mend-file, mend-gap}
use Rattle.repairlaws.proofs.Segments.{AnewAlong}
use Rattle.repairlaws.proofs.Frames.{Framed}
use Rattle.repairlaws.proofs.Complete.{dealt, proposal_wrote}

-- the slots
same-slots : (es : List Entry) → Mended es es
same-slots [] = none
same-slots (e ∷ es) = go (kind e) refl (same-slots es)
  where
    go : (k : Kind) → kind e ≡ k → Mended es es → Mended (e ∷ es) (e ∷ es)
    go Tentative k m = stay (inl k) m
    go Empty k m = stay (inr (inl k)) m
    go Permanent k m = stay (inr (inr k)) m
    go End k m = stop (inl k)
    go Unknown k m = stop (inr k)

module _ (v : ℕ) where
  mark-last : (b : ℕ) (fs : List ℕ) (e : Entry) → IsEntry (kind e) → is_end (kind e) ≡ false → Mended (e ∷ []) (mend v b fs (e ∷ []))
  mark-last b fs e k h = rw (mend-mark v b fs e [] h (or-true (is_unknown (kind e)))) (last k)

  mend_reach : (es : List Entry) (b : ℕ) (fs : List ℕ) → Mended es (mend v b fs es)
  unfolding mend
  mend_reach [] b fs = none
  mend_reach (e ∷ es) b fs = go (kind e) refl es (mend_reach es (b + blocks e) (drop 1 fs)) (mend_reach es (b + (next_first v fs - b)) fs)
    where
      go : (k : Kind) → kind e ≡ k → (es : List Entry)
          → Mended es (mend v (b + blocks e) (drop 1 fs) es) → Mended es (mend v (b + (next_first v fs - b)) fs es) → Mended (e ∷ es) (mend v b fs (e ∷ es))
      go End k es i j = rw (mend-end v b fs e es k) (stop (inl k))
      go Unknown k es i j = rw (mend-mark v b fs e es (rw k) (rw k)) (mark k)
      go Permanent k [] i j = mark-last b fs e (inr (inr k)) (rw k)
      go Permanent k (f ∷ es) i j = rw (mend-file v b fs e (f ∷ es) k refl) (stay (inr (inr k)) i)
      go Tentative k [] i j = mark-last b fs e (inl k) (rw k)
      go Tentative k (f ∷ es) i j = rw (mend-gap v b fs e (f ∷ es) (inl k) refl) (turn (next_first v fs - b) (inl k) j)
      go Empty k [] i j = mark-last b fs e (inr (inl k)) (rw k)
      go Empty k (f ∷ es) i j = rw (mend-gap v b fs e (f ∷ es) (inr k) refl) (turn (next_first v fs - b) (inr k) j)

-- the segments of the chain
each_same : (d ss : List ℕ) → All (MendedAt d d) ss
each_same d [] = tt
each_same d (s ∷ ss) =
    (record { heads = λ j l. refl; slots = same-slots (slots (slot_words d) (segment d s)); behind = refl }, each_same d ss)

each-anew : (v : ℕ) (d t ss : List ℕ) (b : ℕ) (fs : List ℕ) → AnewAlong v d t b fs ss → All (MendedAt d t) ss
each-anew v d t [] b fs a = tt
each-anew v d t (s ∷ ss) b fs a = (
  record {
    heads = a.0.heads;
    slots = rw a.0.slots (mend_reach v (slots (slot_words d) (segment d s)) b fs);
    behind = a.0.behind;
  },
  each-anew v d t ss _ _ a.1,
)

-- the directory
pub same_reachable : (d : List ℕ) → Reachable d d
same_reachable d = record { size = refl; each = each_same d (chain d); others = λ k l e. refl }

pub proposal_reachable : (v : ℕ) (d : List ℕ) → Framed v d → Reachable d (proposal v d)
proposal_reachable v d fr =
    let p = proposal_wrote v d fr in
    record { size = p.size; each = each-anew v d (proposal v d) (chain d) (first_data d) (dealt v d fr) p.each; others = p.others }
