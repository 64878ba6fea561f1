-- `put_octal` meets its contract: the six digits are copied as one text.
use native.Mathlib.Omega.{arith}
use Rattle.maps.specs.Maps.{octal}
use Rattle.maps.proofs.put_octal.Goals as goal

pub returns : goal.returns
unfolding octal
returns c =
    let w = c.put_bytes.ensures in
    rw (← c.digit-6.ensures, ← c.digit-5.ensures, ← c.digit-4.ensures, ← c.digit-3.ensures, ← c.digit-2.ensures, ← c.digit.ensures)
    (record { wrote = w; short = omega (arith, w.ends) })
