-- The key of an entry: what it is known by, and what may stand once in a directory (document 01, "Sound directories", rule 6, and the
-- requests, which find a permanent file by its name and an open one by its channel).
use Rattle.std.specs.Prelude.{Bool, true, false, ◌&&◌, not, eqb}
use Rattle.std.proofs.Math.Option.{Option, none, some}
use Rattle.meaning.specs.declared.Kind.{Kind}
use Rattle.meaning.specs.declared.Kind.TheVariants.{Tentative, Empty, Permanent, End, Unknown}
use Rattle.meaning.specs.declared.Name.{Name}
use Rattle.meaning.specs.declared.Key.{Key}
use Rattle.meaning.specs.declared.Key.TheVariants.{File, Open}
use Rattle.meaning.specs.Words.{Entry, kind, channel_of, name_of, same_name}

-- a permanent entry is known by its name, a tentative one by its channel word, any other by nothing
abbrev pub key_in : Kind → Entry → Option Key
key_in Permanent e = some (File (name_of e))
key_in Tentative e = some (Open (channel_of e))
key_in Empty e = none
key_in End e = none
key_in Unknown e = none

unfoldable pub key_of : Entry → Option Key
key_of e = key_in (kind e) e

-- two keys are the same
abbrev pub same_key : Key → Key → Bool
same_key (File n) (File m) = same_name n m
same_key (Open x) (Open y) = eqb x y
same_key (File n) (Open y) = false
same_key (Open x) (File m) = false

abbrev pub is_key : Key → Option Key → Bool
is_key k none = false
is_key k (some l) = same_key l k

-- an entry has this key
unfoldable pub holds : Key → Entry → Bool
holds k e = is_key k (key_of e)

-- FILE.BAD, as its three words: RT-11 covers each area of bad blocks with a permanent file of this name (document 02, Req 03)
abbrev pub file_bad : Name
file_bad = record { first = 9972; second = 8000; extension = 3244 }

-- the one name that rule 6 spares
unfoldable pub spared : Name → Bool
spared n = same_name n file_bad

-- a key that no two entries may have: every one but the spared name
unfoldable pub once : Key → Bool
once (File n) = not (spared n)
once (Open x) = true

-- two entries clash where they have the same key, and it may stand once
abbrev pub clash_on : Option Key → Entry → Bool
clash_on none f = false
clash_on (some k) f = once k && holds k f

unfoldable pub clash : Entry → Entry → Bool
clash e f = clash_on (key_of e) f
