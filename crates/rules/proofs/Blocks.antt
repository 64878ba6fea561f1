-- The blocks of the entries of a sound directory. Rule 5 fills the blocks from 6+2N to V segment by segment, and a segment's rows
-- follow each other without a gap: so in chain order each row ends where a later one begins, or before. Then two rows at different
-- places are apart.
use Prim.Native.Nat.{ℕ, suc, ◌+◌, ◌*◌, ◌-◌, ◌≤◌, ◌<◌}
use native.Mathlib.Omega.{arith}
use mathlib.Core.Path.{◌≡◌, refl, sym, ap, ◌∙◌, subst}
use mathlib.Core.Logic.{◌⊎◌, inl, inr}
use mathlib.Core.Bool.{Bool, true, false, cond}
use mathlib.Core.List.{List, [], ◌∷◌}
use mathlib.Core.Option.{some, none-ne-some}
use lib.ListN.{length, get_or}
use Rattle.meaning.specs.declared.Key.{Key}
use Rattle.meaning.specs.Words.{first_data, segment, first_of, slot_words, Entry, blocks, entries, total, chain, Row, rows_in, segment_rows}
use Rattle.meaning.specs.Words.{rows_of, rows}
use Rattle.meaning.specs.Sound.{filled, fault}
use Rattle.meaning.specs.Keys.{holds}
use Rattle.meaning.specs.Answers.{find}
use Rattle.walks.specs.Lists.{All, Pairwise}
use Rattle.rules.specs.Blocks.{no_row, nth_row, end_of_row, BlocksApart, Blocks}
use Rattle.walks.proofs.Alls.{all_map, all_append, all-at, pairwise_append, pairwise_at}
use Rattle.walks.proofs.Filled.{filled_step, filled_le}
use Rattle.rules.proofs.Grid.{tri}
use Rattle.rules.proofs.Keys.{one_key}
use Rattle.rules.proofs.Soundness.{Sound, sound}

-- the blocks of a row lie from block b up to block e
pub record Lies (b e : ℕ) (r : Row) : Type 0 where
  pub from : b ≤ r.first
  pub to : end_of_row r ≤ e

wider : (b b' e e' : ℕ) → b' ≤ b → e ≤ e' → (rs : List Row) → All (Lies b e) rs → All (Lies b' e') rs
wider b b' e e' l m rs a = all_map (Lies b e) (Lies b' e') (λ r h. record { from = omega arith; to = omega arith }) rs a

-- a row ends where another begins, or before
abbrev pub Before : Row → Row → Type 0
Before r s = end_of_row r ≤ s.first

all-before : (r : Row) (m e : ℕ) → end_of_row r ≤ m → (rs : List Row) → All (Lies m e) rs → All (Before r) rs
all-before r m e l rs a = all_map (Lies m e) (Before r) (λ s h. omega arith) rs a

-- of a segment's rows, which begin at block b
lies_in : (w s k a b : ℕ) (es : List Entry) → All (Lies b (b + total es)) (rows_in w s k a b es)
unfolding rows_in total
lies_in w s k a b [] = tt
lies_in w s k a b (e ∷ es) = (
  record { from = omega arith; to = omega arith },
  wider (b + blocks e) b (b + blocks e + total es) (b + (blocks e + total es)) (omega arith) (omega arith)
      (rows_in w s (k + 1) (a + w) (b + blocks e) es)
      (lies_in w s (k + 1) (a + w) (b + blocks e) es),
)

ordered_in : (w s k a b : ℕ) (es : List Entry) → Pairwise Before (rows_in w s k a b es)
unfolding rows_in
ordered_in w s k a b [] = tt
ordered_in w s k a b (e ∷ es) = (
  all-before (record { seg = s; slot = k; at = a; first = b; entry = e }) (b + blocks e) (b + blocks e + total es) (omega arith)
      (rows_in w s (k + 1) (a + w) (b + blocks e) es)
      (lies_in w s (k + 1) (a + w) (b + blocks e) es),
  ordered_in w s (k + 1) (a + w) (b + blocks e) es,
)

-- of the rows of segments that fill the blocks from b to v
module _ (v : ℕ) (d : List ℕ) where
  lies_segment : (b s : ℕ) → first_of (segment d s) ≡ b → All (Lies b (b + total (entries d s))) (segment_rows d s)
  unfolding segment_rows
  lies_segment b s e = rw (← e) (lies_in (slot_words d) s 1 (512 * (s - 1) + 5) (first_of (segment d s)) (entries d s))

  lies_of : (b : ℕ) (ss : List ℕ) → filled v d b ss ≡ true → All (Lies b v) (rows_of d ss)
  unfolding rows_of
  lies_of b [] h = tt
  lies_of b (s ∷ ss) h =
      let p = filled_step v d b s ss h in
      let m = b + total (entries d s) in
      let l = filled_le v d m ss p.1 in
      all_append (Lies b v) (segment_rows d s) (rows_of d ss)
      (wider b b m v (omega arith) l (segment_rows d s) (lies_segment b s p.0))
      (wider m b v v (omega arith) (omega arith) (rows_of d ss) (lies_of m ss p.1))

  ordered_of : (b : ℕ) (ss : List ℕ) → filled v d b ss ≡ true → Pairwise Before (rows_of d ss)
  unfolding rows_of segment_rows
  ordered_of b [] h = tt
  ordered_of b (s ∷ ss) h =
      let p = filled_step v d b s ss h in
      let m = b + total (entries d s) in
      let later = lies_of m ss p.1 in
      pairwise_append Before (segment_rows d s) (rows_of d ss)
      (ordered_in (slot_words d) s 1 (512 * (s - 1) + 5) (first_of (segment d s)) (entries d s))
      (ordered_of m ss p.1)
      (all_map (Lies b m) (λ (r : Row). All (Before r) (rows_of d ss)) (λ r x. all-before r m v x.to (rows_of d ss) later)
      (segment_rows d s)
      (lies_segment b s p.0))

  pub rows_lie : Sound v d → All (Lies (first_data d) v) (rows d)
  unfolding rows
  rows_lie s = lies_of (first_data d) (chain d) s.full

  pub rows-ordered : Sound v d → Pairwise Before (rows d)
  unfolding rows
  rows-ordered s = ordered_of (first_data d) (chain d) s.full

-- a row that is found stands at a place of the rows
pub record Place (rs : List Row) (z r : Row) : Type 0 where
  pub at : ℕ
  pub within : at < length rs
  pub is : get_or rs at z ≡ r

pub find-place : (t : Entry → Bool) (z : Row) (rs : List Row) (r : Row) → find t rs ≡ some r → Place rs z r × (t r.entry ≡ true)
unfolding find
find-place t z [] r h = absurd (none-ne-some r h)
find-place t z (x ∷ rs) r h = go (t x.entry) refl (find-place t z rs r) h
  where
    go : (y : Bool) → t x.entry ≡ y → (find t rs ≡ some r → Place rs z r × (t r.entry ≡ true))
        → cond y (some x) (find t rs) ≡ some r → Place (x ∷ rs) z r × (t r.entry ≡ true)
    go true y i h =
        let e : x ≡ r = cc in
        (record { at = 0; within = omega arith; is = e }, subst (λ (q : Row). t q.entry ≡ true) e y)
    go false y i h =
        let p = i h in
        let l = p.0.within in
        (record { at = suc p.0.at; within = omega arith; is = p.0.is }, p.1)

module _ (v : ℕ) (d : List ℕ) (h : fault v d ≡ 0) where
  apart : (i j : ℕ) → i < length (rows d) → j < length (rows d) → (i ≡ j → ⊥) → BlocksApart (nth_row d i) (nth_row d j)
  apart i j l m ne = go (tri i j)
    where
      in_order : Pairwise Before (rows d)
      in_order = rows-ordered v d (sound v d h)

      go : (i < j) ⊎ ((i ≡ j) ⊎ (j < i)) → BlocksApart (nth_row d i) (nth_row d j)
      go (inl x) = inl (pairwise_at Before (rows d) in_order i j x m _)
      go (inr (inl x)) = absurd (ne x)
      go (inr (inr x)) = inr (pairwise_at Before (rows d) in_order j i x l _)

  found_apart : (k l : Key) → (k ≡ l → ⊥) → (r s : Row) → find (holds k) (rows d) ≡ some r → find (holds l) (rows d) ≡ some s
      → BlocksApart r s
  found_apart k l ne r s e g =
      subst (λ (x : Row). BlocksApart x s) p.0.is
      (subst (BlocksApart (nth_row d p.0.at)) q.0.is
      (apart p.0.at q.0.at p.0.within q.0.within (λ i. ne (one_key k l r.entry p.1 (other i)))))
    where
      p : Place (rows d) no_row r × (holds k r.entry ≡ true)
      p = find-place (holds k) no_row (rows d) r e

      q : Place (rows d) no_row s × (holds l s.entry ≡ true)
      q = find-place (holds l) no_row (rows d) s g

      other : p.0.at ≡ q.0.at → holds l r.entry ≡ true
      other i =
          let same : r ≡ s = sym p.0.is ∙ ap (nth_row d) i ∙ q.0.is in
          rw same q.1

  pub blocks_apart : Blocks v d
  blocks_apart =
      record {
        within = λ i l. let x = all-at (Lies (first_data d) v) (rows d) (rows_lie v d (sound v d h)) i l _ in (x.from, x.to);
        apart = apart;
        keys = found_apart;
      }
