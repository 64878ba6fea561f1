-- The kind that a test tells: each by the cases of the kind.
use mathlib.Core.Path.{◌≡◌, refl}
use mathlib.Core.Bool.{true, false, false≢true, true≢false}
use Rattle.meaning.specs.declared.Kind.{Kind}
use Rattle.meaning.specs.declared.Kind.TheVariants.{Tentative, Empty, Permanent, End, Unknown}
use Rattle.meaning.specs.Kinds.{is_tentative, is_empty, is_permanent, is_end}

pub tentative-kind : (k : Kind) → is_tentative k ≡ true → k ≡ Tentative
tentative-kind Tentative h = refl
tentative-kind Empty h = absurd (false≢true h)
tentative-kind Permanent h = absurd (false≢true h)
tentative-kind End h = absurd (false≢true h)
tentative-kind Unknown h = absurd (false≢true h)

pub empty-kind : (k : Kind) → is_empty k ≡ true → k ≡ Empty
empty-kind Tentative h = absurd (false≢true h)
empty-kind Empty h = refl
empty-kind Permanent h = absurd (false≢true h)
empty-kind End h = absurd (false≢true h)
empty-kind Unknown h = absurd (false≢true h)

pub permanent-kind : (k : Kind) → is_permanent k ≡ true → k ≡ Permanent
permanent-kind Tentative h = absurd (false≢true h)
permanent-kind Empty h = absurd (false≢true h)
permanent-kind Permanent h = refl
permanent-kind End h = absurd (false≢true h)
permanent-kind Unknown h = absurd (false≢true h)

pub end-kind : (k : Kind) → is_end k ≡ true → k ≡ End
end-kind Tentative h = absurd (false≢true h)
end-kind Empty h = absurd (false≢true h)
end-kind Permanent h = absurd (false≢true h)
end-kind End h = refl
end-kind Unknown h = absurd (false≢true h)

-- a kind that no test tells
pub no_kind : (k : Kind) → is_permanent k ≡ false → is_empty k ≡ false → is_tentative k ≡ false → is_end k ≡ false → k ≡ Unknown
no_kind Tentative p e t m = absurd (true≢false t)
no_kind Empty p e t m = absurd (true≢false e)
no_kind Permanent p e t m = absurd (true≢false p)
no_kind End p e t m = absurd (true≢false m)
no_kind Unknown p e t m = refl
