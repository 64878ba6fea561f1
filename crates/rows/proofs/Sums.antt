-- The totals of a sound directory. The blocks of the entries of one kind are not more than those of all entries, which fill the
-- volume, and so are at most 65,535. A walk with the cursor keeps that the blocks counted, and those of the rows ahead, are together
-- those of all entries. Assumes nothing.
use Prim.Native.Nat.{ℕ, ◌+◌, ◌≤◌}
use mathlib.Core.Path.{◌≡◌, refl, sym, ◌∙◌}
use mathlib.Core.Bool.{Bool, true, false, cond}
use mathlib.Core.List.{List, [], ◌∷◌, map}
use native.Mathlib.Omega.{arith}
use Rattle.meaning.specs.declared.Kind.{Kind}
use Rattle.meaning.specs.declared.Kind.TheVariants.{Tentative, Empty, Permanent, End, Unknown}
use Rattle.meaning.specs.Kinds.{is_tentative, is_empty, is_permanent}
use Rattle.meaning.specs.Words.{Entry, Row, kind, blocks, total, all_entries, rows}
use Rattle.meaning.specs.Sound.{fault}
use Rattle.meaning.specs.Listing.{blocks_of}
use Rattle.rules.proofs.Rule5.{rule1-holds}
use Rattle.rules.proofs.Soundness.{sound, data_blocks}
use Rattle.rules.proofs.Rows.{entry_of, entries-rows}
use Rattle.cursor.specs.Cursor.{seen_of}
use Rattle.cursor.specs.declared.Seen.{Seen}
use Rattle.rows.proofs.Ahead.{no_rows, Headed, headed}
use Rattle.rows.specs.Rows.{IsSound, TotalsAfter, TotalsOf}
use Rattle.rows.specs.declared.Totals.{Totals}

cond-most : (t : Bool) (n : ℕ) → cond t n 0 ≤ n
cond-most true n = omega arith
cond-most false n = omega arith

kind-most : (is : Kind → Bool) (es : List Entry) → blocks_of is es ≤ total es
unfolding blocks_of total
kind-most is [] = omega arith
kind-most is (e ∷ es) =
    let i = kind-most is es in
    let j = cond-most (is (kind e)) (blocks e) in
    omega arith

kind_fits : (v : ℕ) (d : List ℕ) → fault v d ≡ 0 → (is : Kind → Bool) → blocks_of is (all_entries d) ≤ 65535
kind_fits v d h is =
    let s = sound v d h in
    omega (arith, kind-most is (all_entries d), data_blocks v d s, (rule1-holds v d s.size).wide)

-- the totals with one entry more, by its kind
module _ (t : Totals) {k : Kind} (n : ℕ) where
  pub count_open : k ≡ Tentative → TotalsAfter t k n (record { files = t.files; opened = t.opened + n; free = t.free })
  count_open e = rw e (record { files = omega arith; opened = refl; free = omega arith })

  pub count-free : k ≡ Empty → TotalsAfter t k n (record { files = t.files; opened = t.opened; free = t.free + n })
  count-free e = rw e (record { files = omega arith; opened = omega arith; free = refl })

  pub count-file : k ≡ Permanent → TotalsAfter t k n (record { files = t.files + n; opened = t.opened; free = t.free })
  count-file e = rw e (record { files = refl; opened = omega arith; free = omega arith })

  pub count_end : k ≡ End → TotalsAfter t k n t
  count_end e = rw e (record { files = omega arith; opened = omega arith; free = omega arith })

  pub count_unknown : k ≡ Unknown → TotalsAfter t k n t
  count_unknown e = rw e (record { files = omega arith; opened = omega arith; free = omega arith })

-- the walk: some entries are counted in t, and the entries ss are ahead, which are those of the rows rs
pub record Summing (d : List ℕ) (ss : List Seen) (t : Totals) : Type 0 where
  pub v : ℕ
  pub sound : fault v d ≡ 0
  pub rs : List Row
  pub are : ss ≡ map seen_of rs
  pub files : t.files + blocks_of is_permanent (map entry_of rs) ≡ blocks_of is_permanent (all_entries d)
  pub opened : t.opened + blocks_of is_tentative (map entry_of rs) ≡ blocks_of is_tentative (all_entries d)
  pub free : t.free + blocks_of is_empty (map entry_of rs) ≡ blocks_of is_empty (all_entries d)

pub sum-none : (d : List ℕ) → IsSound d → {ss : List Seen} → ss ≡ map seen_of (rows d)
    → Summing d ss (record { files = 0; opened = 0; free = 0 })
sum-none d s e = record {
  v = s.v;
  sound = s.sound;
  rs = rows d;
  are = e;
  files = all is_permanent;
  opened = all is_tentative;
  free = all is_empty;
}
  where
    all : (is : Kind → Bool) → 0 + blocks_of is (map entry_of (rows d)) ≡ blocks_of is (all_entries d)
    all is = rw (entries-rows d) (omega arith)

-- what is counted so far fits; no more entries are ahead, or the next is to be counted
module _ {d : List ℕ} {ss : List Seen} {t : Totals} (g : Summing d ss t) where
  pub sum_fits : (t.files ≤ 65535) × (t.opened ≤ 65535) × (t.free ≤ 65535)
  sum_fits =
      let f = kind_fits g.v d g.sound in
      (omega (arith, f is_permanent), omega (arith, f is_tentative), omega (arith, f is_empty))

  pub sum-all : ss ≡ [] → TotalsOf (all_entries d) t
  unfolding blocks_of
  sum-all e =
      let f = sum_fits in
      record {
        files = all is_permanent t.files g.files;
        opened = all is_tentative t.opened g.opened;
        free = all is_empty t.free g.free;
        few_files = f.0;
        few_opened = f.1;
        few_free = f.2;
      }
    where
      all : (is : Kind → Bool) (n : ℕ) {m : ℕ} → n + blocks_of is (map entry_of g.rs) ≡ m → n ≡ m
      all is n {m} h = let z = rw (no_rows g.rs (sym g.are ∙ e)) at h in omega arith

  pub sum_more : {seen : Seen} {others : List Seen} {u : Totals} → ss ≡ seen ∷ others → TotalsAfter t seen.kind seen.length u
      → Summing d others u
  unfolding blocks_of
  sum_more {seen} {others} {u} e k =
      let w = headed g.rs (sym g.are ∙ e) in
      record {
        v = g.v;
        sound = g.sound;
        rs = w.rest;
        are = w.others_are;
        files = more is_permanent t.files w k.files g.files;
        opened = more is_tentative t.opened w k.opened g.opened;
        free = more is_empty t.free w k.free g.free;
      }
    where
      more : (is : Kind → Bool) (n : ℕ) {m a : ℕ} (w : Headed g.rs seen others) → m ≡ n + cond (is seen.kind) seen.length 0
          → n + blocks_of is (map entry_of g.rs) ≡ a → m + blocks_of is (map entry_of w.rest) ≡ a
      more is n {m} {a} w p q =
          let x = rw w.seen_is at p in
          let y = rw w.is at q in
          omega arith
