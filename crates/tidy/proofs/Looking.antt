-- Entries are untidy where a walk meets one that the tidy changes: by induction the walk finds a run that begins with the entry before,
-- a run longer than one, or a zero sum that is dropped. Assumes nothing.
use mathlib.Core.Path.{◌≡◌, refl, sym, ap, ◌∙◌}
use mathlib.Core.Bool.{Bool, true, false, ◌&&◌, ◌||◌, not}
use mathlib.Core.List.{List, [], ◌∷◌}
use lib.Dec.{eqb}
use Rattle.meaning.specs.declared.Kind.{Kind}
use Rattle.meaning.specs.Kinds.{kind_of, is_tentative, is_empty}
use Rattle.meaning.specs.Words.{Entry, kind, blocks}
use Rattle.meaning.specs.Sound.{begins_empty}
use Rattle.meaning.specs.Enter.{has_run, has_zero, untidy}
use Rattle.tidy.specs.Changes.{changes}

-- the tidy changes one of the entries, the first of them after one of the kind b
unfoldable pub meets : Kind → List Entry → Bool
meets b [] = false
meets b (e ∷ es) = let r = meets (kind e) es in changes b (kind e) (blocks e) || r

-- the tests of one entry, put in the meaning's order: e it is empty, b the one before is, q its length is 0, n no tentative entry stands
-- before, f an empty one follows; r and z what is found later
regroup : (e b q n f r z : Bool)
    → (e && (b || (q && n))) || ((e && f) || (r || z)) ≡ (b && e) || (((e && f) || r) || (((e && q) && n) || z))
regroup false true q n f r z = refl
regroup false false q n f r z = refl
regroup true true q n f r z = refl
regroup true false false n true r z = refl
regroup true false false n false r z = refl
regroup true false true true true r z = refl
regroup true false true true false true z = refl
regroup true false true true false false z = refl
regroup true false true false true r z = refl
regroup true false true false false r z = refl

changes-found : (b : Kind) (es : List Entry)
    → meets b es ≡ (is_empty b && begins_empty es) || (has_run es || has_zero (is_tentative b) es)
unfolding meets changes has_run has_zero begins_empty
changes-found b [] = go (is_empty b)
  where
    go : (x : Bool) → false ≡ (x && false) || false
    go true = refl
    go false = refl
changes-found b (e ∷ es) =
    rw (changes-found (kind e) es)
    (regroup (is_empty (kind e)) (is_empty b) (eqb (blocks e) 0) (not (is_tentative b)) (begins_empty es) (has_run es)
    (has_zero (is_tentative (kind e)) es))

-- from the start, where nothing stands before
untidy-found : (es : List Entry) → meets (kind_of 0) es ≡ untidy es
unfolding untidy kind_of
untidy-found es = changes-found (kind_of 0) es

-- the walk: the entries es are ahead, after one of the kind b, and r is what is met among all
pub record Looking (b : Kind) (es : List Entry) (r : Bool) : Type 0 where
  pub same : meets b es ≡ r

pub starts : (es : List Entry) → Looking (kind_of 0) es (untidy es)
starts es = record { same = untidy-found es }

module _ {b : Kind} {es : List Entry} {r : Bool} (v : Looking b es r) where
  pub look_over : es ≡ [] → false ≡ r
  unfolding meets
  look_over e = sym (ap (meets b) e) ∙ v.same

  module _ (e : Entry) (others : List Entry) (next : es ≡ e ∷ others) where
    look_step : changes b (kind e) (blocks e) || meets (kind e) others ≡ r
    unfolding meets
    look_step = sym (ap (meets b) next) ∙ v.same

    pub look_found : changes b (kind e) (blocks e) ≡ true → true ≡ r
    look_found f = rw f at look_step

    pub look_on : changes b (kind e) (blocks e) ≡ false → Looking (kind e) others r
    look_on f = record { same = rw f at look_step }
