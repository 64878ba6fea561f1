-- Rule 4 of one segment's slots, as a scan from left to right meets it: it looks back, by a flag.
use Rattle.std.specs.Prelude.{Bool, true, ◌||◌, List, [], ◌∷◌}
use Rattle.meaning.specs.declared.Kind.{Kind}
use Rattle.meaning.specs.declared.Kind.TheVariants.{Tentative, Empty, Permanent, End, Unknown}
use Rattle.meaning.specs.Kinds.{is_tentative}
use Rattle.meaning.specs.Words.{Entry, kind, name_of}
use Rattle.meaning.specs.Sound.{long_name}

-- whether the slots from here on are bad, by the kind of the first of them. p: a tentative entry stands directly before;
-- b: a name word is above 63,999; r: the slots after are bad
abbrev pub bad_by : Kind → Bool → Bool → Bool → Bool
bad_by End p b r = p
bad_by Empty p b r = r
bad_by Permanent p b r = p || b || r
bad_by Tentative p b r = p || b || r
bad_by Unknown p b r = true

abbrev pub long_named : Entry → Bool
long_named e = long_name (name_of e)

unfoldable pub scan_bad : Bool → List Entry → Bool
scan_bad p [] = true
scan_bad p (e ∷ es) = let r = scan_bad (is_tentative (kind e)) es in bad_by (kind e) p (long_named e) r
