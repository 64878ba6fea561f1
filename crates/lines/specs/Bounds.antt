-- What callers must keep to.
use Rattle.std.specs.Prelude.{ℕ, ◌≤◌, ◌≡◌, false}
use Rattle.meaning.specs.declared.Kind.{Kind}
use Rattle.meaning.specs.Kinds.{is_empty}

-- three words that spell, where the entry has a name to show
pub record Spelled (kind : Kind) (a b c : ℕ) : Type 0 where
  pub first : is_empty kind ≡ false → a ≤ 63999
  pub second : is_empty kind ≡ false → b ≤ 63999
  pub extension : is_empty kind ≡ false → c ≤ 63999
