-- Rule 3 as a walk meets it.
use Rattle.std.specs.Prelude.{ℕ, zero, suc, Bool, ◌&&◌, List, eqb, leb}
use Rattle.meaning.specs.Words.{segment, total_of, link_of, extra_bytes_of, highest}

-- n more segments from s on, each in 1..H and with segment 1's total and extra bytes, and then 0
unfoldable pub linked : ℕ → List ℕ → ℕ → Bool
linked zero d s = eqb s 0
linked (suc n) d s =
    let g = segment d s in
    let r = linked n d (link_of g) in
    leb 1 s && leb s (highest d) && eqb (total_of g) (total_of d) && eqb (extra_bytes_of g) (extra_bytes_of d) && r
