-- The test by which two files are compared says whether they are the same: each of its parts says so of one part of a file.
use mathlib.Core.Path.{◌≡◌, refl}
use mathlib.Core.Bool.{true, ◌&&◌}
use lib.Dec.{eqb}
use borrow.Author.Tests.{eqb-true, eq-eqb}
use Rattle.bools.proofs.Bools.{both}
use Rattle.meaning.specs.Words.{same_name}
use Rattle.walks.proofs.Keyed.{name-is, name-own}
use Rattle.repaired.specs.Kept.{KeptFile, same_file}

pub same-file : (f g : KeptFile) → same_file f g ≡ true → f ≡ g
unfolding same_file
same-file f g h =
    let s = eqb f.status g.status in
    let n = same_name f.name g.name in
    let l = eqb f.length g.length in
    let d = eqb f.date g.date in
    let p = both (s && n && l && d) (eqb f.first g.first) h in
    let q = both (s && n && l) d p.0 in
    let r = both (s && n) l q.0 in
    let t = both s n r.0 in
    let a = eqb-true f.status g.status t.0 in
    let b = name-is f.name g.name t.1 in
    let c = eqb-true f.length g.length r.1 in
    let e = eqb-true f.date g.date q.1 in
    let i = eqb-true f.first g.first p.1 in
    let o : made f ≡ made g = rw (a, b, c, e, i) in
    o
  where
    made : KeptFile → KeptFile
    made x = record { status = x.status; name = x.name; length = x.length; date = x.date; first = x.first }

pub own-file : (f : KeptFile) → same_file f f ≡ true
unfolding same_file
own-file f =
    rw (
      eq-eqb f.status f.status refl,
      name-own f.name,
      eq-eqb f.length f.length refl,
      eq-eqb f.date f.date refl,
      eq-eqb f.first f.first refl,
    )
