-- A walk with the cursor through a sound directory. A cursor on the way has right links ahead of it, and the blocks from there on
-- fill the volume, so that none is above 65,535. From the start the rows ahead are all rows; a step gives the first row ahead; and
-- past a row the rows ahead are those that followed it. Assumes nothing.
use Prim.Native.Nat.{ℕ, zero, suc, ◌+◌, ◌-◌, ◌≤◌, ◌<◌}
use mathlib.Core.Path.{◌≡◌, refl, sym, ap, ◌∙◌}
use mathlib.Core.Bool.{Bool, true, false}
use mathlib.Core.List.{List, [], ◌∷◌, ◌++◌}
use mathlib.Core.Logic.{⊎_elim}
use native.Mathlib.Nat.{zero-mul}
use native.Mathlib.Omega.{arith}
use borrow.Author.Tests.{eqb-true, not-false}
use Rattle.bools.proofs.Bools.{either_side}
use Rattle.meaning.specs.Words.{Row, first_data, highest, slot_words, slot_count, blocks, entries, total}
use Rattle.meaning.specs.Words.{chain_from, chain, segment_rows, rows_of, rows}
use Rattle.meaning.specs.Sound.{bad5, filled, fault}
use Rattle.walks.specs.Links.{linked}
use Rattle.walks.proofs.Heads.{sized}
use Rattle.chain.specs.Chained.{Chained}
use Rattle.cursor.specs.Cursor.{is_segment, AtEntry, row_in, row_here, on_entry, first_slot, entries_here, rows_here}
use Rattle.cursor.specs.Cursor.{rows_from, rows_at, seen_of, past, first_step, step_at}
use Rattle.cursor.specs.declared.Cursor.{Cursor}
use Rattle.cursor.specs.declared.Seen.{Seen}
use Rattle.std.specs.Prelude.{Some, None}
use Rattle.chain.proofs.Links.{next}
use Rattle.walks.proofs.Words.{header}
use Rattle.walks.proofs.Filled.{filled_step, filled_le}
use Rattle.walks.proofs.Unbroken.{unbroken}
use Rattle.walks.proofs.Lists.{next as link, chain_step}
use Rattle.chain.proofs.Chains.{fault-chained}
use Rattle.cursor.proofs.Stepping.{is-segment, stands, entry-slot, here-none, ahead-some, here-some}

-- the rows of a segment are those from its first slot on
first_rows : (d : List ℕ) (s : ℕ) → rows_here d (first_slot d s) ≡ segment_rows d s
unfolding rows_here first_slot entries_here row_in segment_rows entries
first_rows d s = rw (zero-mul (slot_words d), header d s 4 (omega arith))

first-entries : (d : List ℕ) (s : ℕ) → entries_here d (first_slot d s) ≡ entries d s
unfolding first_slot entries_here entries
first-entries d s = refl

-- a cursor on the way: left segments come after its own
pub record On (v : ℕ) (d : List ℕ) (c : Cursor) : Type 0 where
  pub chained : Chained d
  pub wide : v ≤ 65535
  pub left : ℕ
  pub few : left ≤ 30
  pub links : linked left d (link d c.seg) ≡ true
  pub fills : filled v d (c.first + total (entries_here d c)) (chain_from left d (link d c.seg)) ≡ true
  pub low : 1 ≤ c.seg
  pub high : c.seg ≤ highest d
  pub some : 1 ≤ c.slot
  pub most : c.slot ≤ slot_count (slot_words d) + 1

pub on_stands : {v : ℕ} {d : List ℕ} {c : Cursor} → On v d c → AtEntry d c
on_stands {v} {d} {c} o =
    let f = filled_le v d (c.first + total (entries_here d c)) (chain_from o.left d (link d c.seg)) o.fills in
    record {
      low = o.low;
      high = omega (arith, o.chained.whole);
      some = o.some;
      most = o.most;
      small = omega arith;
    }

-- segment s, with n segments still to visit, itself among them
visit : (n : ℕ) (d : List ℕ) (s : ℕ) → Chained d → 0 < n → linked n d s ≡ true
    → (1 ≤ s) × (s ≤ highest d) × (linked (n - 1) d (link d s) ≡ true)
visit n d s k h e = let x = next n d s k h e in (x.low, x.high, rw (header d s 1 (omega arith)) x.rest)

-- segments are numbered from 1
none-zero : (d : List ℕ) → is_segment d 0 ≡ false
unfolding is_segment
none-zero d = refl

-- with right links, the rows from a cursor on are those of its segment and of the chain behind it
from-chain : {d : List ℕ} (m n : ℕ) (c : Cursor) → Chained d → m < n → linked m d (link d c.seg) ≡ true
    → rows_from n d c ≡ rows_here d c ++ rows_of d (chain_from m d (link d c.seg))
unfolding rows_from rows_of chain_from linked first_slot
from-chain {d} m zero c k h e = absurd (omega arith)
from-chain {d} zero (suc n) c k h e = rw (eqb-true (link d c.seg) 0 e, none-zero d)
from-chain {d} (suc m) (suc n) c k h e =
    let t = link d c.seg in
    let u = visit (suc m) d t k (omega arith) e in
    let f : suc m - 1 ≡ m = omega arith in
    let w = k.whole in
    rw (is-segment d t u.0 (omega arith), from-chain m n (first_slot d t) k (omega arith) (rw f at u.2), first_rows d t)

-- the same for a cursor on the way
ahead : {v : ℕ} {d : List ℕ} {c : Cursor} (o : On v d c)
    → rows_at d c ≡ rows_here d c ++ rows_of d (chain_from o.left d (link d c.seg))
unfolding rows_at
ahead {v} {d} {c} o = from-chain o.left 31 c o.chained (omega arith) o.links

-- the cursor at the first slot of a segment that is visited is on the way, where the blocks from b on are filled
enters : {v : ℕ} {d : List ℕ} (n s b : ℕ) → Chained d → v ≤ 65535 → 0 < n → n ≤ 31 → linked n d s ≡ true
    → filled v d b (chain_from n d s) ≡ true
    → On v d (first_slot d s)
unfolding first_slot
enters {v} {d} n s b k w h f e g =
    let x = visit n d s k h e in
    let ss = chain_from (n - 1) d (link d s) in
    let p = filled_step v d b s ss (rw (chain_step n d s h) at g) in
    record {
      chained = k;
      wide = w;
      left = n - 1;
      few = omega arith;
      links = x.2;
      fills = rw (first-entries d s, ← header d s 4 (omega arith), p.0) p.1;
      low = x.0;
      high = x.1;
      some = omega arith;
      most = omega arith;
    }

-- the walk begins before all rows
pub begins : (v : ℕ) (d : List ℕ) → fault v d ≡ 0 → On v d (first_slot d 1)
unfolding chain bad5
begins v d e =
    let k = fault-chained v d e in
    let u = unbroken v d e in
    let s = sized v d u.size in
    enters (highest d) 1 (first_data d) k s.wide k.some (omega arith) k.links (not-false _ u.blocks)

pub from_start : (v : ℕ) (d : List ℕ) → fault v d ≡ 0 → rows_at d (first_slot d 1) ≡ rows d
unfolding rows_at rows chain rows_of first_slot
from_start v d e =
    let k = fault-chained v d e in
    let x = visit (highest d) d 1 k k.some k.links in
    let l = k.few in
    from-chain (highest d - 1) 31 (first_slot d 1) k (omega arith) x.2
    ∙ rw (first_rows d 1, chain_step (highest d) d 1 k.some)

-- a step gives the first row ahead
pub step_on : {v : ℕ} {d : List ℕ} {c : Cursor} → On v d c → step_at d c ≡ first_step (rows_at d c)
unfolding step_at
step_on {v} {d} {c} o = rw (stands d c (on_stands o))

-- past the first row ahead, the others are ahead
pub record Passed (v : ℕ) (d : List ℕ) (r : Row) (rs : List Row) : Type 0 where
  pub on : On v d (past r)
  pub rest : rows_at d (past r) ≡ rs

-- what a step gives: the first row ahead, and a cursor on the way with the others ahead of it
pub record Went (v : ℕ) (d : List ℕ) (c : Cursor) (seen : Seen) (to : Cursor) : Type 0 where
  pub row : Row
  pub rest : List Row
  pub is : rows_at d c ≡ row ∷ rest
  pub seen_is : seen ≡ seen_of row
  pub on : On v d to
  pub ahead : rows_at d to ≡ rest

module _ {v : ℕ} {d : List ℕ} where
  -- an entry stands at the cursor
  on-past : {c : Cursor} → On v d c → on_entry d c ≡ true → On v d (past (row_here d c))
  unfolding row_in total
  on-past {c} o e =
      let x = ahead-some d c (on_stands o) e in
      let r = row_here d c in
      let m = entry-slot d c (on_stands o) e in
      let y : c.first + blocks r.entry + total (entries_here d (past r)) ≡ c.first + total (entries_here d c) =
      rw x (omega arith) in
      record {
        chained = o.chained;
        wide = o.wide;
        left = o.left;
        few = o.few;
        links = o.links;
        fills = rw y o.fills;
        low = o.low;
        high = o.high;
        some = omega arith;
        most = omega arith;
      }

  here_past : {c : Cursor} → On v d c → on_entry d c ≡ true → rows_at d c ≡ row_here d c ∷ rows_at d (past (row_here d c))
  unfolding row_in rows_at
  here_past {c} o e =
      let b = from-chain o.left 31 (past (row_here d c)) o.chained (omega arith) o.links in
      ahead o ∙ rw (here-some d c (on_stands o) e, b)

  -- none does, and the chain goes on
  on_link : {c : Cursor} (o : On v d c) → 0 < o.left → On v d (first_slot d (link d c.seg))
  on_link {c} o h =
      enters o.left (link d c.seg) (c.first + total (entries_here d c)) o.chained o.wide h (omega arith)
      o.links
      o.fills

  here_link : {c : Cursor} (o : On v d c) → on_entry d c ≡ false → 0 < o.left
      → rows_at d c ≡ rows_at d (first_slot d (link d c.seg))
  unfolding rows_of first_slot rows_at
  here_link {c} o e h =
      let s = link d c.seg in
      let x = visit o.left d s o.chained h o.links in
      let b = from-chain (o.left - 1) 31 (first_slot d s) o.chained (omega arith) x.2 in
      ahead o ∙ rw (here-none d c (on_stands o) e, chain_step o.left d s h, b, first_rows d s)

  -- or it ends
  here_end : {c : Cursor} (o : On v d c) → on_entry d c ≡ false → o.left ≤ 0 → rows_at d c ≡ []
  unfolding chain_from rows_of
  here_end {c} o e h =
      let z : o.left ≡ 0 = omega arith in
      ahead o ∙ rw (here-none d c (on_stands o) e, z)

  left_link : {c : Cursor} (o : On v d c) (h : 0 < o.left) → (on_link o h).left ≡ o.left - 1
  unfolding on_link enters
  left_link o h = refl

  -- one turn: what is left to show is where the link is followed
  turn : {c : Cursor} (o : On v d c) (r : Row) (rs : List Row) → rows_at d c ≡ r ∷ rs
      → (on_entry d c ≡ false → 0 < o.left → Passed v d r rs)
      → Passed v d r rs
  turn {c} o r rs e on = go (on_entry d c) refl
    where
      ends : on_entry d c ≡ false → o.left ≤ 0 → Passed v d r rs
      ends f z =
          let x : [] ≡ r ∷ rs = sym (here_end o f z) ∙ e in
          let y : ◌≡◌ {A = ℕ} 0 1 = cc in
          absurd (omega arith)

      go : (t : Bool) → on_entry d c ≡ t → Passed v d r rs
      go true f =
          let x : row_here d c ∷ rows_at d (past (row_here d c)) ≡ r ∷ rs = sym (here_past o f) ∙ e in
          let i : r ≡ row_here d c = cc in
          let j : rows_at d (past (row_here d c)) ≡ rs = cc in
          rw i (record { on = on-past o f; rest = j })
      go false f = ⊎_elim (on f) (ends f) (either_side 0 o.left)

  -- all turns, at most m
  turns : (m : ℕ) {c : Cursor} (o : On v d c) (r : Row) (rs : List Row) → o.left ≤ m → rows_at d c ≡ r ∷ rs → Passed v d r rs
  turns zero {c} o r rs h e = turn o r rs e (λ f z. absurd (omega arith))
  turns (suc m) {c} o r rs h e =
      turn o r rs e (λ f z. turns m (on_link o z) r rs (omega (arith, left_link o z)) (sym (here_link o f z) ∙ e))

  pub passed : {c : Cursor} (o : On v d c) (r : Row) (rs : List Row) → rows_at d c ≡ r ∷ rs → Passed v d r rs
  passed o r rs e = turns o.left o r rs (omega arith) e

  -- for callers: a step at the end, and a step that gives an entry
  pub ended : {c : Cursor} → On v d c → step_at d c ≡ None → rows_at d c ≡ []
  ended {c} o e = go (rows_at d c) (sym (step_on o) ∙ e)
    where
      go : (rs : List Row) → first_step rs ≡ None → rs ≡ []
      go [] f = refl
      go (r ∷ rs) f = let z : ◌≡◌ {A = ℕ} 0 1 = cc in absurd (omega arith)

  pub went : {c : Cursor} → On v d c → (seen : Seen) (to : Cursor) → step_at d c ≡ Some (seen, to) → Went v d c seen to
  went {c} o seen to e = go (rows_at d c) refl (sym (step_on o) ∙ e)
    where
      go : (rs : List Row) → rows_at d c ≡ rs → first_step rs ≡ Some (seen, to) → Went v d c seen to
      go [] f g = let z : ◌≡◌ {A = ℕ} 0 1 = cc in absurd (omega arith)
      go (r ∷ rs) f g =
          let p = passed o r rs f in
          let same : ◌≡◌ {A = Seen × Cursor} (seen, to) (seen_of r, past r) = cc in
          let i : to ≡ past r = ap (λ x. x.1) same in
          let j : seen ≡ seen_of r = ap (λ x. x.0) same in
          record { row = r; rest = rs; is = f; seen_is = j; on = rw i p.on; ahead = rw i p.rest }
