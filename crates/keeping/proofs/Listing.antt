-- The files of a segment's entries, listed. The files that the table has, and those among the entries ahead, are together all. A slot that can't be
-- read has no file behind it; any other entry adds its own, or nothing, to the table. Assumes nothing.
use Prim.Native.Nat.{ℕ, zero, suc, ◌+◌, ◌*◌, ◌-◌, ◌≤◌, ◌<◌}
use mathlib.Core.Path.{◌≡◌, refl, sym, ap, ◌∙◌}
use mathlib.Core.Bool.{Bool, true, false, cond, ◌||◌}
use mathlib.Core.List.{List, [], ◌∷◌, ◌++◌, map, map-append, append_assoc, append-nil}
use native.Mathlib.Nat.{suc-mul}
use native.Mathlib.Omega.{arith}
use lib.ListN.{length, get_or, take, drop, set, length-set}
use lib.Seq.{drop-drop, take-take, take-suc-set, get_or-take}
use Rattle.meaning.specs.Kinds.{is_end, is_unknown, is_permanent}
use Rattle.meaning.specs.Words.{Entry, kind, blocks, segment, slot_count, chunks, slots, upto}
use Rattle.walks.specs.Lists.{All}
use Rattle.walks.proofs.Alls.{all_append}
use Rattle.walks.proofs.Words.{base, header, drop-take}
use Rattle.walks.proofs.Slots.{mul_less, most-slots}
use Rattle.segment.proofs.Ahead.{first-room}
use Rattle.repaired.specs.Kept.{KeptFile, legible, kept_at, kept_from, kept_in}
use Rattle.keeping.specs.declared.File.{File}
use Rattle.keeping.specs.Tables.{file_of, Within, Listed}

-- slots that lie in a part are slots of the whole
chunks_cut : (n w m : ℕ) (l : List ℕ) → n * w ≤ m → chunks n w (take m l) ≡ chunks n w l
unfolding chunks
chunks_cut zero w m l h = refl
chunks_cut (suc n) w m l h =
    let k = suc-mul n w in
    rw (take-take w m l (omega arith), drop-take w m l)
    (ap {B = List Entry} (λ r. take w l ∷ r) (chunks_cut n w (m - w) (drop w l) (omega arith)))

-- the slots of segment s, in the directory
slots-there : (d : List ℕ) (s w : ℕ) → slots w (segment d s) ≡ chunks (slot_count w) w (drop (base s + 5) d)
unfolding slots segment
slots-there d s w =
    let r = first-room w in
    let cut = chunks_cut (slot_count w) w 507 (drop (base s + 5) d) (omega arith) in
    let five : drop 5 (take 512 (drop (base s) d)) ≡ take 507 (drop (base s + 5) d) =
    drop-take 5 512 (drop (base s) d) ∙ ap (take 507) (drop-drop 5 (base s) d) in
    rw (five, cut)

-- what can be read of the entries is what can be read of the slots
by_end : (x y : Bool) (e : Entry) (es : List Entry) → legible (upto es) ≡ legible es
    → x ≡ is_end (kind e) → y ≡ is_unknown (kind e)
    → legible (cond x [] (e ∷ upto es)) ≡ cond (x || y) [] (e ∷ legible es)
unfolding legible
by_end true y e es i p q = refl
by_end false y e es i p q = rw (← p, ← q, i) refl

legible-upto : (es : List Entry) → legible (upto es) ≡ legible es
unfolding legible upto
legible-upto [] = refl
legible-upto (e ∷ es) = by_end (is_end (kind e)) (is_unknown (kind e)) e es (legible-upto es) refl refl

-- the first of the entries among left slots from word p on, and those behind it
record Stepped (d : List ℕ) (w left p : ℕ) (e : Entry) (es : List Entry) : Type 0 where
  pub some : 0 < left
  pub here : e ≡ take w (drop p d)
  pub behind : es ≡ upto (chunks (left - 1) w (drop (p + w) d))
  pub entry : is_end (kind e) ≡ false

stepped : (d : List ℕ) (w left p : ℕ) (e : Entry) (es : List Entry) → upto (chunks left w (drop p d)) ≡ e ∷ es → Stepped d w left p e es
unfolding chunks upto
stepped d w zero p e es h = absurd (cc)
stepped d w (suc n) p e es h = go (is_end (kind (take w (drop p d)))) refl h
  where
    go : (x : Bool) → is_end (kind (take w (drop p d))) ≡ x
        → cond x [] (take w (drop p d) ∷ upto (chunks n w (drop w (drop p d)))) ≡ e ∷ es → Stepped d w (suc n) p e es
    go true i k = absurd (cc)
    go false i k =
        let a : take w (drop p d) ≡ e = cc in
        let b : upto (chunks n w (drop w (drop p d))) ≡ es = cc in
        let m : suc n - 1 ≡ n = omega arith in
        record { some = omega arith; here = sym a; behind = sym b ∙ rw (m, drop-drop w p d) refl; entry = rw a at i }

-- the file that is listed of an entry, by the first seven words of its slot
module _ (d : List ℕ) (b p w : ℕ) (wide : 7 ≤ w) where
  file-there : file_of d (record { first = b; at = p }) ≡ kept_at b (take w (drop p d))
  file-there =
      rw (
        get_or-take 7 (drop p d) 0 0 (omega arith),
        get_or-take 7 (drop p d) 1 0 (omega arith),
        get_or-take 7 (drop p d) 2 0 (omega arith),
        get_or-take 7 (drop p d) 3 0 (omega arith),
        get_or-take 7 (drop p d) 4 0 (omega arith),
        get_or-take 7 (drop p d) 6 0 (omega arith),
        get_or-take w (drop p d) 0 0 (omega arith),
        get_or-take w (drop p d) 1 0 (omega arith),
        get_or-take w (drop p d) 2 0 (omega arith),
        get_or-take w (drop p d) 3 0 (omega arith),
        get_or-take w (drop p d) 4 0 (omega arith),
        get_or-take w (drop p d) 6 0 (omega arith),
      )

-- the loop's invariant: the entries es are ahead, the first at word p of the directory and its first block b; n files are listed
pub record Listing (d : List ℕ) (w s room : ℕ) (es : List Entry) (p b : ℕ) (table : List File) (n : ℕ) : Type 0 where
  pub left : ℕ
  pub ahead : es ≡ upto (chunks left w (drop p d))
  pub inside : p + left * w ≤ 512 * s
  pub few : n + left ≤ 72
  pub small : b + left * 65535 ≤ 73 * 65535
  pub size : length table ≡ room
  pub within : All (Within d) (take n table)
  pub lists : map (file_of d) (take n table) ++ kept_from b (legible es) ≡ kept_in w (segment d s)

pub listing : (d : List ℕ) (w s : ℕ) (table : List File) → 7 ≤ w → 1 ≤ s → get_or d (base s + 4) 0 ≤ 65535
    → Listing d w s (length table) (upto (slots w (segment d s))) (base s + 5) (get_or d (base s + 4) 0) table 0
unfolding kept_in
listing d w s table wide low h =
    let m = most-slots w wide in
    record {
      left = slot_count w;
      ahead = ap upto (slots-there d s w);
      inside = omega (arith, first-room w);
      few = omega arith;
      small = omega arith;
      size = refl;
      within = tt;
      lists = rw (legible-upto (slots w (segment d s)), header d s 4 (omega arith)) refl;
    }

module _ {d : List ℕ} {w s room : ℕ} {es : List Entry} {p b : ℕ} {table : List File} {n : ℕ}
    (l : Listing d w s room es p b table n) where
  listed : kept_from b (legible es) ≡ [] → Listed d (kept_in w (segment d s)) room 72 table n
  listed e = record {
    lists = sym (append-nil (map (file_of d) (take n table))) ∙ (rw e at l.lists);
    within = l.within;
    size = l.size;
    few = omega (arith, l.few);
  }

  pub list_over : es ≡ [] → Listed d (kept_in w (segment d s)) room 72 table n
  unfolding legible kept_from
  list_over e = listed (rw e refl)

  module _ (e : Entry) (others : List Entry) (next : es ≡ e ∷ others) where
    step : Stepped d w l.left p e others
    step = stepped d w l.left p e others (sym l.ahead ∙ next)

    -- there is room for its file, and it lies in the segment
    pub room_here : n < 72
    room_here = omega (arith, l.few, step.some)

    pub entry_inside : p + w + (l.left - 1) * w ≤ 512 * s
    entry_inside = omega (arith, l.inside, mul_less l.left w step.some)

    pub block_small : b ≤ 73 * 65535
    block_small = omega (arith, l.small)

    pub list-stop : is_unknown (kind e) ≡ true → Listed d (kept_in w (segment d s)) room 72 table n
    unfolding legible kept_from
    list-stop u = listed (rw (next, step.entry, u) refl)

    module _ (known : is_unknown (kind e) ≡ false) (small : blocks e ≤ 65535) (wide : 7 ≤ w) where
      abbrev rest : List KeptFile
      rest = kept_from (b + blocks e) (legible others)

      ahead-is : (x : Bool) → is_permanent (kind e) ≡ x → kept_from b (legible es) ≡ cond x (kept_at b e ∷ rest) rest
      unfolding legible kept_from
      ahead-is x h = rw (next, step.entry, known, h) refl

      -- no file
      pub list_past : is_permanent (kind e) ≡ false → Listing d w s room others (p + w) (b + blocks e) table n
      list_past h = record {
        left = l.left - 1;
        ahead = step.behind;
        inside = entry_inside;
        few = omega (arith, l.few);
        small = omega (arith, l.small, mul_less l.left 65535 step.some);
        size = l.size;
        within = l.within;
        lists = rw (← ahead-is false h) l.lists;
      }

      pub list_on : is_permanent (kind e) ≡ true → room ≡ length table → 72 ≤ room → 512 * s ≤ length d
          → Listing d w s room others (p + w) (b + blocks e) (set table n (record { first = b; at = p })) (n + 1)
      list_on h size much whole =
          let f : File = record { first = b; at = p } in
          let one : n + 1 ≡ suc n = omega arith in
          let taken = take-suc-set table n f (omega (arith, room_here)) in
          let before : map (file_of d) (take n table) ++ kept_at b e ∷ rest ≡ kept_in w (segment d s) = rw (← ahead-is true h) l.lists in
          let there : file_of d f ≡ kept_at b e = file-there d b p w wide ∙ ap (kept_at b) (sym step.here) in
          rw one (record {
            left = l.left - 1;
            ahead = step.behind;
            inside = entry_inside;
            few = omega (arith, l.few, step.some);
            small = omega (arith, l.small, mul_less l.left 65535 step.some);
            size = length-set table n f ∙ l.size;
            within = rw taken (all_append (Within d) (take n table) (f ∷ []) l.within (omega (arith, entry_inside), tt));
            lists =
                rw (taken, map-append (file_of d) (take n table) (f ∷ []), there)
                (append_assoc (map (file_of d) (take n table)) (kept_at b e ∷ []) rest ∙ before);
          })
