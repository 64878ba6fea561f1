-- Rules 1 and 2 as numbers: each test is five tests joined, taken apart one by one. Assumes nothing.
use Prim.Native.Nat.{ℕ, ◌*◌, ◌%◌}
use mathlib.Core.Path.{◌≡◌}
use mathlib.Core.Bool.{Bool, true, false, ◌&&◌}
use mathlib.Core.List.{List}
use lib.ListN.{length}
use lib.Dec.{eqb, leb}
use borrow.Author.Tests.{leb-true, eqb-true, le-leb, eq-eqb, not-false}
use Rattle.bools.proofs.Bools.{both}
use Rattle.meaning.specs.Words.{segments, first_data, total_of, highest, extra_bytes_of}
use Rattle.meaning.specs.Sound.{bad1, bad2}
use Rattle.walks.specs.Heads.{Sized, Headed}

-- five tests, all true
all-five : (a b c d e : Bool) → a && b && c && d && e ≡ true → (a ≡ true) × (b ≡ true) × (c ≡ true) × (d ≡ true) × (e ≡ true)
all-five a b c d e h =
    let p = both (a && b && c && d) e h in
    let q = both (a && b && c) d p.0 in
    let r = both (a && b) c q.0 in
    let s = both a b r.0 in
    (s.0, s.1, r.1, q.1, p.1)

pub sized : (v : ℕ) (d : List ℕ) → bad1 v d ≡ false → Sized v d
unfolding bad1
sized v d h =
    let p =
    all-five (leb 1 (segments d)) (leb (segments d) 31) (eqb (length d) (512 * segments d)) (leb (first_data d) v) (leb v 65535)
    (not-false _ h) in
    record {
      some = leb-true 1 (segments d) p.0;
      few = leb-true (segments d) 31 p.1;
      whole = eqb-true (length d) (512 * segments d) p.2;
      room = leb-true (first_data d) v p.3;
      wide = leb-true v 65535 p.4;
    }

pub sized_tested : (v : ℕ) (d : List ℕ) → Sized v d → bad1 v d ≡ false
unfolding bad1
sized_tested v d r =
    rw (
      le-leb 1 (segments d) r.some,
      le-leb (segments d) 31 r.few,
      eq-eqb (length d) (512 * segments d) r.whole,
      le-leb (first_data d) v r.room,
      le-leb v 65535 r.wide,
    )

pub headed : (d : List ℕ) → bad2 d ≡ false → Headed d
unfolding bad2
headed d h =
    let p =
    all-five (eqb (total_of d) (segments d)) (leb 1 (highest d)) (leb (highest d) (segments d)) (eqb (extra_bytes_of d % 2) 0)
    (leb (extra_bytes_of d) 32)
    (not-false _ h) in
    record {
      total = eqb-true (total_of d) (segments d) p.0;
      used = leb-true 1 (highest d) p.1;
      within = leb-true (highest d) (segments d) p.2;
      even = eqb-true (extra_bytes_of d % 2) 0 p.3;
      few = leb-true (extra_bytes_of d) 32 p.4;
    }

pub headed_tested : (d : List ℕ) → Headed d → bad2 d ≡ false
unfolding bad2
headed_tested d r =
    rw (
      eq-eqb (total_of d) (segments d) r.total,
      le-leb 1 (highest d) r.used,
      le-leb (highest d) (segments d) r.within,
      eq-eqb (extra_bytes_of d % 2) 0 r.even,
      le-leb (extra_bytes_of d) 32 r.few,
    )
