-- Rule 4 of one segment's slots, as a scan from left to right that looks back: a flag says that a tentative entry stands directly
-- before the slots that are left. Slots after such an entry are bad if they do not begin with an empty entry or are bad by
-- themselves; by induction on the slots, with one case for each kind, the scan says just that.
use mathlib.Core.Path.{◌≡◌, refl, sym}
use mathlib.Core.Bool.{Bool, true, false, ◌&&◌, ◌||◌, not}
use mathlib.Core.List.{List, [], ◌∷◌}
use Rattle.meaning.specs.declared.Kind.{Kind}
use Rattle.meaning.specs.declared.Kind.TheVariants.{Tentative, Empty, Permanent, End, Unknown}
use Rattle.meaning.specs.Kinds.{is_unknown}
use Rattle.meaning.specs.Words.{Entry, kind, upto}
use Rattle.walks.specs.Scan.{long_named, scan_bad}
use Rattle.meaning.specs.Sound.{any, unmarked, bad_name, begins_empty, alone, bad_slots}

-- the faults of a slot (p, b as above; x: it is a tentative entry and no empty one follows) and of those after it (u: an unknown
-- status; m: no marker; n: a bad name; a: a tentative entry alone), in the order of the scan and in that of the rule
sorted : (p b x u m n a : Bool) → p || b || (x || (u || m || n || a)) ≡ (p && true) || (u || m || (b || n) || (x || a))
sorted true b x u m n a = refl
sorted false true x true m n a = refl
sorted false true x false true n a = refl
sorted false true x false false n a = refl
sorted false false true true m n a = refl
sorted false false true false true n a = refl
sorted false false true false false true a = refl
sorted false false true false false false a = refl
sorted false false false u m n a = refl

-- the slots es are bad, or they should begin with an empty entry (p) and do not
abbrev after : Bool → List Entry → Bool
after p es = (p && not (begins_empty (upto es))) || bad_slots es

scan_after : (p : Bool) (es : List Entry) → scan_bad p es ≡ after p es
unfolding scan_bad bad_slots unmarked any bad_name alone upto begins_empty
scan_after true [] = refl
scan_after false [] = refl
scan_after p (e ∷ es) = go p (kind e) refl (λ q. scan_after q es)
  where
    u : Bool
    u = any (λ f. is_unknown (kind f)) (upto es)

    m : Bool
    m = unmarked es

    n : Bool
    n = any bad_name (upto es)

    a : Bool
    a = alone (upto es)

    go : (q : Bool) (k : Kind) → kind e ≡ k → ((t : Bool) → scan_bad t es ≡ after t es) → scan_bad q (e ∷ es) ≡ after q (e ∷ es)
    go true End h f = rw h
    go false End h f = rw h
    go true Empty h f = rw (h, h) (f false)
    go false Empty h f = rw (h, h) (f false)
    go q Permanent h f = rw (h, h, f false) (sorted q (long_named e) false u m n a)
    go q Tentative h f = rw (h, h, f true) (sorted q (long_named e) (not (begins_empty (upto es))) u m n a)
    go true Unknown h f = rw (h, h)
    go false Unknown h f = rw (h, h)

pub bad_scan : (es : List Entry) → bad_slots es ≡ scan_bad false es
bad_scan es = sym (scan_after false es)
