-- A segment without an area that is long enough has no fit, whatever room it has: so its free slots need not be counted. Where there is
-- one, the free slots as a number stand for the room.
use Prim.Native.Nat.{ℕ, ◌+◌}
use mathlib.Core.Path.{◌≡◌, refl, sym, ap, ◌∙◌}
use mathlib.Core.Bool.{Bool, true, false, cond, ◌&&◌, false≢true}
use mathlib.Core.List.{List, [], ◌∷◌}
use lib.Dec.{leb}
use Rattle.std.specs.Prelude.{Option, Some, None}
use Rattle.std.specs.List.{list_any}
use Rattle.bools.proofs.Bools.{neither}
use Rattle.meaning.specs.Kinds.{is_tentative, is_empty}
use Rattle.meaning.specs.Words.{Entry, first_of, kind, blocks, slots, upto}
use Rattle.meaning.specs.Sound.{any}
use Rattle.meaning.specs.Enter.{Area, cost_after, areas_in, eligibles, first_fit}
use Rattle.choice.specs.Choice.{chosen_of}
use Rattle.choice.specs.Room.{room_for, room_by, Free}
use Rattle.choice.specs.Judged.{long, long_entry, StandingIn, FitIn}
use Rattle.choice.specs.declared.choose.AreaPlace.{AreaPlace}
use Rattle.choice.proofs.Visits.{areas-same}

-- by the tests of an entry: x it is an area, y it is eligible, z it is long enough, and not both x and z
by_tests : (w m : ℕ) (x y z : Bool) (a : Area) (r : List Area) → a.eligible ≡ y → leb m a.size ≡ z → x && z ≡ false
    → chosen_of w (first_fit m (eligibles (cond x (a ∷ r) r))) ≡ chosen_of w (first_fit m (eligibles r))
unfolding eligibles first_fit
by_tests w m true true true a r e f g = absurd (false≢true (sym g))
by_tests w m true true false a r e f g = rw (e, f)
by_tests w m true false z a r e f g = rw e
by_tests w m false y z a r e f g = refl

none-chosen : (w m : ℕ) → None ≡ chosen_of w (first_fit m (eligibles []))
unfolding eligibles first_fit
none-chosen w m = refl

none-fits : (w m : ℕ) (room : ℕ → Bool) (s k b : ℕ) (p : Bool) (es : List Entry) → any (long_entry m) es ≡ false
    → None ≡ chosen_of w (first_fit m (eligibles (areas_in room s k b p es)))
unfolding any long areas_in
none-fits w m room s k b p [] h = none-chosen w m
none-fits w m room s k b p (e ∷ es) h =
    let n = neither (is_empty (kind e) && leb m (blocks e)) (any (long_entry m) es) h in
    none-fits w m room s (k + 1) (b + blocks e) (is_tentative (kind e)) es n.1
    ∙ sym
    (by_tests w m (is_empty (kind e)) (leb 1 (blocks e) && room (cost_after p)) (leb m (blocks e))
    (record { seg = s; before = k; first = b; size = blocks e; cost = cost_after p; eligible = leb 1 (blocks e) && room (cost_after p) })
    (areas_in room s (k + 1) (b + blocks e) (is_tentative (kind e)) es) refl refl n.0)

pub no-fit : (g : List ℕ) (w s : ℕ) (room : ℕ → Bool) (m : ℕ) → any (long_entry m) (upto (slots w g)) ≡ false
    → FitIn None g w s room m
no-fit g w s room m h = record { is = none-fits w m room s 0 (first_of g) false (upto (slots w g)) h; stands = tt }

-- the same fit, where the free slots stand for the room
stands_by : (r : Option AreaPlace) (g : List ℕ) (w s free : ℕ) (spare : Bool) (n m : ℕ) → Free free w spare n
    → StandingIn r g w s (room_for free) m → StandingIn r g w s (room_by w spare n) m
stands_by None g w s free spare n m q h = tt
stands_by (Some p) g w s free spare n m q h = record {
  seg = h.seg;
  low = h.low;
  inside = h.inside;
  among = h.among;
  word = h.word;
  ends = h.ends;
  long = h.long;
  some = h.some;
  costs = h.costs;
  cheap = h.cheap;
  roomy = sym (q.is p.cost h.costs h.cheap) ∙ h.roomy;
}

pub fit_by : (r : Option AreaPlace) (g : List ℕ) (w s free : ℕ) (spare : Bool) (n m : ℕ) → Free free w spare n
    → FitIn r g w s (room_for free) m → FitIn r g w s (room_by w spare n) m
fit_by r g w s free spare n m q f = record {
  is =
      f.is
      ∙ ap (λ (xs : List Area). chosen_of w (first_fit m (eligibles xs)))
      (areas-same (room_for free) (room_by w spare n) q.is s 0 (first_of g) false (upto (slots w g)));
  stands = stands_by r g w s free spare n m q f.stands;
}

-- one of the entries is long, as code asks
pub any-long : (m : ℕ) (es : List Entry) → list_any (long_entry m) es ≡ any (long_entry m) es
unfolding any
any-long m [] = refl
any-long m (e ∷ es) = rw (any-long m es)
