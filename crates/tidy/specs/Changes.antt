-- The test whether an entry is untidy, as a walk from left to right makes it: by the kind of the entry before.
use Rattle.std.specs.Prelude.{ℕ, Bool, ◌&&◌, ◌||◌, not, eqb}
use Rattle.meaning.specs.declared.Kind.{Kind}
use Rattle.meaning.specs.Kinds.{is_tentative, is_empty}

-- the tidy changes an entry of a kind and n blocks, after one of the kind b
unfoldable pub changes : Kind → Kind → ℕ → Bool
changes b κ n = is_empty κ && (is_empty b || (eqb n 0 && not (is_tentative b)))
