-- The kind of an entry (document 01, "One segment"), and protected files (document 02, Req 06).
use Rattle.std.specs.Prelude.{ℕ, Bool, true, false, cond, ◌||◌, eqb}
use Rattle.meaning.specs.declared.Kind.{Kind}
use Rattle.meaning.specs.declared.Kind.TheVariants.{Tentative, Empty, Permanent, End, Unknown}

-- the number that the status word has, whole, for each kind
abbrev pub tentative_status : ℕ
tentative_status = 256

abbrev pub empty_status : ℕ
empty_status = 512

abbrev pub permanent_status : ℕ
permanent_status = 1024

abbrev pub end_status : ℕ
end_status = 2048

-- a permanent entry may have later RT-11's protection bit too, octal 100000: 1024 + 32,768 (document 02, Req 06)
abbrev pub protected_status : ℕ
protected_status = 33792

-- a protected entry is a permanent one; any other number is unknown
unfoldable pub kind_of : ℕ → Kind
kind_of status =
    cond (eqb status tentative_status) Tentative
    (cond (eqb status empty_status) Empty
    (cond (eqb status permanent_status || eqb status protected_status) Permanent (cond (eqb status end_status) End Unknown)))

abbrev pub is_tentative : Kind → Bool
is_tentative Tentative = true
is_tentative Empty = false
is_tentative Permanent = false
is_tentative End = false
is_tentative Unknown = false

abbrev pub is_empty : Kind → Bool
is_empty Tentative = false
is_empty Empty = true
is_empty Permanent = false
is_empty End = false
is_empty Unknown = false

abbrev pub is_permanent : Kind → Bool
is_permanent Tentative = false
is_permanent Empty = false
is_permanent Permanent = true
is_permanent End = false
is_permanent Unknown = false

abbrev pub is_end : Kind → Bool
is_end Tentative = false
is_end Empty = false
is_end Permanent = false
is_end End = true
is_end Unknown = false

abbrev pub is_unknown : Kind → Bool
is_unknown Tentative = false
is_unknown Empty = false
is_unknown Permanent = false
is_unknown End = false
is_unknown Unknown = true
