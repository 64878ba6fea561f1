-- Test and tool by their tests: damage that is beyond repair has its number; else rules 1 to 3 hold, so that the chain can be walked, and a proposal
-- passes by its length, its fault and its files.
use Prim.Native.Nat.{ℕ}
use mathlib.Core.Path.{◌≡◌, refl, sym, ap, ◌∙◌}
use mathlib.Core.Bool.{Bool, true, false, ◌&&◌, false≢true}
use mathlib.Core.List.{List, [], ◌∷◌, map}
use lib.ListN.{length}
use lib.Dec.{eqb}
use borrow.Author.Tests.{ne_eqb, eqb-true}
use Rattle.meaning.specs.Words.{first_data, chain}
use Rattle.meaning.specs.Sound.{fault}
use Rattle.walks.proofs.Heads.{sized}
use Rattle.chain.proofs.Chains.{chained}
use Rattle.repaired.specs.Kept.{kept_files, same_files, beyond, passes, accepts}
use Rattle.repaired.specs.Tool.{firsts_of, sorted, mended, proposal, repair}
use Rattle.repaired.proofs.Damage.{first_three}
use Rattle.keeping.specs.declared.File.{File}
use Rattle.keeping.specs.Tables.{first_in, file_of}
use Rattle.repair.specs.Repairs.{Reparable, proposed, Gives}

pub reparable : (v : ℕ) (d : List ℕ) → beyond (fault v d) ≡ false → Reparable v d
reparable v d h =
    let r = first_three v d h in
    let s = sized v d r.0 in
    record { chained = chained v d r.0 r.1 r.2; volume = s.wide; room = s.room }

-- whether a proposal passes: x is whether its length and its fault are right
no_fault : (a : Bool) (n : ℕ) → a && eqb n 0 ≡ true → n ≡ 0
no_fault true n h = eqb-true n 0 h
no_fault false n h = absurd (false≢true h)

if_right : (a b c x r : Bool) → x ≡ a && b → x ≡ true → r ≡ c → r ≡ a && b && c
if_right true true c x r e t h = h
if_right true false c x r e t h = absurd (cc)
if_right false b c x r e t h = absurd (cc)

if_wrong : (a b c x : Bool) → x ≡ a && b → x ≡ false → x ≡ a && b && c
if_wrong true true c x e t = absurd (cc)
if_wrong true false c x e t = e
if_wrong false b c x e t = e

module _ (v : ℕ) (d w : List ℕ) where
  abbrev pub right : Bool
  right = eqb (length w) (length d) && eqb (fault v w) 0

  module _ {x : Bool} (e : x ≡ right) where
    pub sound-fault : x ≡ true → fault v w ≡ 0
    sound-fault t = no_fault (eqb (length w) (length d)) (fault v w) (sym e ∙ t)

    pub by_files : x ≡ true → {r : Bool} → r ≡ same_files (kept_files d) (kept_files w) → r ≡ passes v d w
    unfolding passes
    by_files t {r} h = if_right (eqb (length w) (length d)) (eqb (fault v w) 0) (same_files (kept_files d) (kept_files w)) x r e t h

    pub not_right : x ≡ false → x ≡ passes v d w
    unfolding passes
    not_right t = if_wrong (eqb (length w) (length d)) (eqb (fault v w) 0) (same_files (kept_files d) (kept_files w)) x e t

  -- the test
  pub test_beyond : beyond (fault v d) ≡ true → fault v d ≡ accepts v d w
  unfolding accepts
  test_beyond b = rw b

  pub test_passes : beyond (fault v d) ≡ false → passes v d w ≡ true → 0 ≡ accepts v d w
  unfolding accepts
  test_passes b p = rw (b, p)

  pub test_fails : beyond (fault v d) ≡ false → passes v d w ≡ false → 22 ≡ accepts v d w
  unfolding accepts
  test_fails b p = rw (b, p)

-- the tool
module _ (v : ℕ) (d : List ℕ) where
  pub tool_sound : fault v d ≡ 0 → Gives (fault v d) d (repair v d)
  unfolding repair beyond
  tool_sound e = rw e (record { number = refl; words = refl })

  pub tool_beyond : beyond (fault v d) ≡ true → Gives (fault v d) d (repair v d)
  unfolding repair
  tool_beyond b = rw b (record { number = refl; words = refl })

  pub tool_proposes : beyond (fault v d) ≡ false → (fault v d ≡ 0 → ⊥) → {r : ℕ} {after : List ℕ} → Gives r after (proposed v d)
      → Gives r after (repair v d)
  unfolding repair proposed
  tool_proposes b damaged g = rw (b, ne_eqb (fault v d) 0 damaged) g

  -- the proposal, made in t
  module _ {t : List ℕ} (e : t ≡ proposal v d) {r : Bool} (p : r ≡ passes v d t) where
    pub none-proposed : r ≡ false → Gives 22 d (proposed v d)
    unfolding proposed
    none-proposed h = rw (← e, ← p, h) (record { number = refl; words = refl })

    pub one-proposed : r ≡ true → {after : List ℕ} → after ≡ t → Gives 0 after (proposed v d)
    unfolding proposed
    one-proposed h w = rw (← e, ← p, h) (record { number = refl; words = w })

-- the first blocks of listed files
mapped_firsts : (d : List ℕ) (l : List File) → map first_in l ≡ firsts_of (map (file_of d) l)
unfolding firsts_of
mapped_firsts d [] = refl
mapped_firsts d (x ∷ l) = ap (λ (r : List ℕ). first_in x ∷ r) (mapped_firsts d l)

-- what is mended in a copy, with these sorted
pub mended-copy : (v : ℕ) (d : List ℕ) (l : List File) {t copy firsts : List ℕ} → map (file_of d) l ≡ kept_files d → firsts ≡ sorted (map first_in l)
    → copy ≡ d → t ≡ mended v (first_data d) firsts d copy (chain d) → t ≡ proposal v d
unfolding proposal
mended-copy v d l k f c m =
    m ∙ (rw (c, f ∙ ap sorted (mapped_firsts d l ∙ ap firsts_of k)))
