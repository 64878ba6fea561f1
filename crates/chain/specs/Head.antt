-- Rule 1 is a rule of the slice's length, and of no word in it.
use Rattle.std.specs.Prelude.{ℕ, ◌+◌, ◌*◌, ◌/◌, Bool, ◌&&◌, not, eqb, leb}

-- rule 1 is broken by V and a slice of this length: `bad1 v d` is `size_wrong v (length d)` (law size-is)
unfoldable pub size_wrong : ℕ → ℕ → Bool
size_wrong v len =
    not
    (leb 1 (len / 512) && leb (len / 512) 31 && eqb len (512 * (len / 512)) && leb (6 + 2 * (len / 512)) v && leb v 65535)
