-- The entries that a segment can have: a readable segment has such entries, and one that is written from its header and such entries is
-- readable, and is read back as it was written.
use Prim.Native.Nat.{ℕ, ◌*◌, ◌≤◌, ◌<◌}
use mathlib.Core.Path.{◌≡◌}
use mathlib.Core.Bool.{false}
use mathlib.Core.List.{List}
use native.Mathlib.Omega.{arith}
use lib.ListN.{length, get_or}
use Rattle.meaning.specs.Words.{segment, slot_count, Entry, slots, upto}
use Rattle.meaning.specs.Requests.{render}
use Rattle.walks.specs.Scan.{scan_bad}
use Rattle.walks.proofs.Words.{segment-length}
use Rattle.walks.proofs.Slots.{length-slots}
use Rattle.walks.proofs.Flat.{Wide, proper_wide, entries_proper, render-head, slots-render}
use Rattle.rules.proofs.Fine.{Fine, slots-fine, fine-slots, fine-upto}

-- they are fine, and leave a slot for the marker
pub record Body (w : ℕ) (es : List Entry) : Type 0 where
  pub fine : Fine false es
  pub wide : Wide w es
  pub room : length es < slot_count w

-- those of a readable segment that stands in the directory
pub body : (w : ℕ) (d : List ℕ) (s : ℕ) → 1 ≤ s → 512 * s ≤ length d → scan_bad false (slots w (segment d s)) ≡ false
    → Body w (upto (slots w (segment d s)))
body w d s l h b =
    let f = slots-fine (slots w (segment d s)) false b in
    let n = length-slots w (segment d s) in
    record {
      fine = f.0;
      wide = proper_wide w (upto (slots w (segment d s))) (entries_proper w (segment d s) (segment-length d s l h));
      room = omega (arith, f.1);
    }

-- a segment read back
pub record Written (w : ℕ) (h : List ℕ) (es : List Entry) (g : List ℕ) : Type 0 where
  pub heads : (j : ℕ) → j < 5 → get_or g j 0 ≡ get_or h j 0
  pub readable : scan_bad false (slots w g) ≡ false
  pub entries : upto (slots w g) ≡ es

pub written : (w : ℕ) (h : List ℕ) (es : List Entry) → 7 ≤ w → length h ≡ 5 → Body w es → Written w h es (render h es)
written w h es l e b =
    let m = slots-render w h es l e b.wide b.room in
    record {
      heads = λ j i. render-head h es j (omega arith) (omega arith);
      readable = rw m.are (fine-slots es false m.marker m.rest b.fine m.ends);
      entries = rw m.are (fine-upto es false m.marker m.rest b.fine m.ends);
    }
