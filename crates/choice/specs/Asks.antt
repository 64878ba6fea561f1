-- What enter's size asks for, in the meaning's terms.
use Rattle.std.specs.Prelude.{ℕ, ◌+◌, ◌/◌, max, Option, Some, None}
use Rattle.meaning.specs.Enter.{Size, longest, default, wrong, exact}
use Rattle.choice.specs.declared.size.Asked.{Asked}
use Rattle.choice.specs.declared.size.Asked.TheVariants.{Longest, Default, Exact}

-- the meaning's size for each case
abbrev pub size_by : Asked → Size
size_by Longest = longest
size_by Default = default
size_by (Exact n) = exact n

-- and for a size that asks for nothing
abbrev pub asked_by : Option Asked → Size
asked_by None = wrong
asked_by (Some a) = size_by a

-- how many blocks a size comes to, where the longest and the second longest eligible length are given. (`wanted_by_lem`, in proofs/Sizes: it
-- is the meaning's `wanted` where they are those of the eligible lengths)
unfoldable pub wanted_by : Size → ℕ → ℕ → ℕ
wanted_by longest long second = long
wanted_by default long second = max ((long + 1) / 2) second
wanted_by wrong long second = 0
wanted_by (exact n) long second = n
