-- The way along the chain, segment by segment, with what rules 3, 4 and 5 ask of each. The way from segment 1 and block 6 + 2N to
-- segment 0 and block V is a directory's soundness but for rules 1, 2 and 6. A way can be cut in two and joined; and it is the way of
-- another directory too, where the two differ in one segment at most that is not on it.
use Prim.Native.Nat.{ℕ, zero, suc, ◌+◌, ◌≤◌}
use mathlib.Core.Path.{◌≡◌, refl, ap, ◌∙◌}
use mathlib.Core.Logic.{◌≢◌}
use mathlib.Core.Bool.{true, false, cond}
use mathlib.Core.List.{List, [], ◌∷◌, ◌++◌}
use native.Mathlib.Nat.{add-zero}
use native.Mathlib.Omega.{arith}
use native.Mathlib.Decide.{ℕ_discrete}
use lib.ListN.{length}
use borrow.Author.Tests.{eqb-true, eq-eqb, ne_eqb, le-leb}
use Rattle.meaning.specs.Words.{first_data, segment, total_of, link_of, extra_bytes_of, first_of, highest, slot_words, Entry, slots, upto}
use Rattle.meaning.specs.Words.{entries, total, chain_from, chain, entries_of, all_entries}
use Rattle.meaning.specs.Sound.{bad1, bad2, filled, times}
use Rattle.walks.specs.Links.{linked}
use Rattle.walks.specs.Scan.{scan_bad}
use Rattle.meaning.specs.declared.Key.{Key}
use Rattle.meaning.specs.Keys.{holds, once}
use Rattle.walks.specs.Lists.{All}
use Rattle.rules.proofs.Keys.{count}
use Rattle.rules.proofs.Soundness.{Readable, Sound}
use Rattle.walks.proofs.Filled.{total-append, filled_step}
use Rattle.walks.proofs.Linked.{visit}

-- what each segment is held to: words of a slot, total, extra bytes, H
pub record Shape : Type 0 where
  pub width : ℕ
  pub total : ℕ
  pub extra : ℕ
  pub highest : ℕ

abbrev pub shape_of : List ℕ → Shape
shape_of d = record { width = slot_words d; total = total_of d; extra = extra_bytes_of d; highest = highest d }

-- the same with another H
abbrev pub raised : Shape → ℕ → Shape
raised c h = record { width = c.width; total = c.total; extra = c.extra; highest = h }

-- the entries of a segment, and of several, with slots of w words
abbrev pub entries_in : ℕ → List ℕ → ℕ → List Entry
entries_in w d s = upto (slots w (segment d s))

abbrev pub spread : ℕ → List ℕ → List ℕ → List Entry
spread w d [] = []
spread w d (s ∷ ss) = entries_in w d s ++ spread w d ss

-- segment s, which begins at block b
pub record Stop (c : Shape) (d : List ℕ) (s b : ℕ) : Type 0 where
  pub low : 1 ≤ s
  pub high : s ≤ c.highest
  pub total : total_of (segment d s) ≡ c.total
  pub extra : extra_bytes_of (segment d s) ≡ c.extra
  pub first : first_of (segment d s) ≡ b
  pub readable : scan_bad false (slots c.width (segment d s)) ≡ false

-- over the segments ss, from segment s and block b to segment t and block e
abbrev pub Way : Shape → List ℕ → List ℕ → ℕ → ℕ → ℕ → ℕ → Type 0
Way c d [] s b t e = (s ≡ t) × (b ≡ e)
Way c d (x ∷ xs) s b t e = (s ≡ x) × Stop c d x b × Way c d xs (link_of (segment d x)) (b + total (entries_in c.width d x)) t e

-- ways joined and cut
pub way-join : (c : Shape) (d xs ys : List ℕ) (s b t e u f : ℕ) → Way c d xs s b t e → Way c d ys t e u f → Way c d (xs ++ ys) s b u f
way-join c d [] ys s b t e u f h k = rw (h.0, h.1) k
way-join c d (x ∷ xs) ys s b t e u f h k = (h.0, h.1, way-join c d xs ys _ _ t e u f h.2 k)

pub record Cut (c : Shape) (d xs ys : List ℕ) (s b t e : ℕ) : Type 0 where
  pub to : ℕ
  pub block : ℕ
  pub front : Way c d xs s b to block
  pub back : Way c d ys to block t e

pub way_cut : (c : Shape) (d xs ys : List ℕ) (s b t e : ℕ) → Way c d (xs ++ ys) s b t e → Cut c d xs ys s b t e
way_cut c d [] ys s b t e h = record { to = s; block = b; front = (refl, refl); back = h }
way_cut c d (x ∷ xs) ys s b t e h =
    let r = way_cut c d xs ys _ _ t e h.2 in
    record { to = r.to; block = r.block; front = (h.0, h.1, r.front); back = r.back }

-- the entries on a way fill its blocks
pub way-blocks : (c : Shape) (d xs : List ℕ) (s b t e : ℕ) → Way c d xs s b t e → b + total (spread c.width d xs) ≡ e
unfolding total
way-blocks c d [] s b t e h = add-zero b ∙ h.1
way-blocks c d (x ∷ xs) s b t e h =
    let i = way-blocks c d xs _ _ t e h.2 in
    let j = total-append (entries_in c.width d x) (spread c.width d xs) in
    omega arith

-- segment z is the same in d and D, but for the word of H
pub record Like (w : ℕ) (d D : List ℕ) (z : ℕ) : Type 0 where
  pub total : total_of (segment D z) ≡ total_of (segment d z)
  pub link : link_of (segment D z) ≡ link_of (segment d z)
  pub extra : extra_bytes_of (segment D z) ≡ extra_bytes_of (segment d z)
  pub first : first_of (segment D z) ≡ first_of (segment d z)
  pub slots : slots w (segment D z) ≡ slots w (segment d z)

-- a way that does not come to segment s, where the others are the same
pub record Along (c c' : Shape) (d D xs : List ℕ) (s b t e : ℕ) : Type 0 where
  pub way : Way c' D xs s b t e
  pub entries : spread c.width D xs ≡ spread c.width d xs

module _ (c : Shape) (h : ℕ) (d D : List ℕ) (k : ℕ) (more : c.highest ≤ h)
    (like : (z : ℕ) → 1 ≤ z → z ≤ c.highest → z ≢ k → Like c.width d D z) where
  pub way_along : (xs : List ℕ) (s b t e : ℕ) → times k xs ≡ 0 → Way c d xs s b t e → Along c (raised c h) d D xs s b t e
  unfolding times
  way_along [] s b t e o y = record { way = y; entries = refl }
  way_along (x ∷ xs) s b t e o y = go (ℕ_discrete x k) (way_along xs _ _ t e)
    where
      p : Stop c d x b
      p = y.1

      go : Dec (x ≡ k)
          → (times k xs ≡ 0 → Way c d xs (link_of (segment d x)) (b + total (entries_in c.width d x)) t e
          → Along c (raised c h) d D xs (link_of (segment d x)) (b + total (entries_in c.width d x)) t e)
          → Along c (raised c h) d D (x ∷ xs) s b t e
      go (yes q) i = absurd (let z : cond true (suc (times k xs)) (times k xs) ≡ 0 = rw (eq-eqb x k q) at o in omega arith)
      go (no q) i = record {
        way = (
          y.0,
          record {
            low = p.low;
            high = omega (arith, p.high);
            total = l.total ∙ p.total;
            extra = l.extra ∙ p.extra;
            first = l.first ∙ p.first;
            readable = rw l.slots p.readable;
          },
          rw (l.link, l.slots) r.way,
        );
        entries = rw (l.slots, r.entries);
      }
        where
          l : Like c.width d D x
          l = like x p.low p.high q

          r : Along c (raised c h) d D xs (link_of (segment d x)) (b + total (entries_in c.width d x)) t e
          r = i (rw (ne_eqb x k q) at o) y.2

-- the entries of a directory are those on its way
entries-spread : (d ss : List ℕ) → entries_of d ss ≡ spread (slot_words d) d ss
unfolding entries_of entries
entries-spread d [] = refl
entries-spread d (s ∷ ss) = ap {B = List Entry} (λ l. entries_in (slot_words d) d s ++ l) (entries-spread d ss)

pub all-spread : (d : List ℕ) → all_entries d ≡ spread (slot_words d) d (chain d)
unfolding all_entries
all-spread d = entries-spread d (chain d)

-- from the rules to the way, and back
to-way : (v : ℕ) (d : List ℕ) (n s b : ℕ) → linked n d s ≡ true → All (Readable d) (chain_from n d s) → filled v d b (chain_from n d s) ≡ true
    → Way (shape_of d) d (chain_from n d s) s b 0 v
unfolding linked chain_from filled entries
to-way v d zero s b h g f = (eqb-true s 0 h, eqb-true b v f)
to-way v d (suc n) s b h g f =
    let p = visit n d s h in
    let e = filled_step v d b s (chain_from n d (link_of (segment d s))) f in (
      refl,
      record { low = p.low; high = p.high; total = p.total; extra = p.extra; first = e.0; readable = g.0 },
      to-way v d n (link_of (segment d s)) (b + total (entries d s)) p.rest g.1 e.1,
    )

pub sound-way : (v : ℕ) (d : List ℕ) → Sound v d → Way (shape_of d) d (chain d) 1 (first_data d) 0 v
unfolding chain
sound-way v d s = to-way v d (highest d) 1 (first_data d) s.links s.readable s.full

-- what the rules say of a way
record Ruled (v : ℕ) (d ss : List ℕ) (s b : ℕ) : Type 0 where
  links : linked (length ss) d s ≡ true
  chain : chain_from (length ss) d s ≡ ss
  readable : All (Readable d) ss
  full : filled v d b ss ≡ true

from-way : (v : ℕ) (d ss : List ℕ) (s b : ℕ) → Way (shape_of d) d ss s b 0 v → Ruled v d ss s b
unfolding linked chain_from filled entries
from-way v d [] s b y = record { links = eq-eqb s 0 y.0; chain = refl; readable = tt; full = eq-eqb b v y.1 }
from-way v d (x ∷ xs) s b y =
    let i = from-way v d xs _ _ y.2 in
    let p = y.1 in
    rw y.0
    (record {
      links =
          rw (
            le-leb 1 x p.low,
            le-leb x (highest d) p.high,
            eq-eqb (total_of (segment d x)) (total_of d) p.total,
            eq-eqb (extra_bytes_of (segment d x)) (extra_bytes_of d) p.extra,
          )
          i.links;
      chain = ap {B = List ℕ} (λ l. x ∷ l) i.chain;
      readable = (p.readable, i.readable);
      full = rw (eq-eqb (first_of (segment d x)) b p.first) i.full;
    })

module _ (v : ℕ) (d ss : List ℕ) (many : length ss ≡ highest d) (way : Way (shape_of d) d ss 1 (first_data d) 0 v) where
  ruled : Ruled v d ss 1 (first_data d)
  ruled = from-way v d ss 1 (first_data d) way

  pub way-chain : chain d ≡ ss
  unfolding chain
  way-chain = rw (← many) ruled.chain

  pub way-sound : bad1 v d ≡ false → bad2 d ≡ false → ((k : Key) → once k ≡ true → count (holds k) (all_entries d) ≤ 1) → Sound v d
  way-sound a b f =
      record {
        size = a;
        header = b;
        links = rw (← many) ruled.links;
        readable = rw way-chain ruled.readable;
        full = rw way-chain ruled.full;
        keys = f;
      }
