-- The tidied directory. A step tidies one segment: it is left alone, or rendered again with as many blocks and the same living entries,
-- so the directory stays sound, with the same chain. No segment comes twice in the chain, so in the end each has the tidied entries of
-- its own.
use Prim.Native.Nat.{ℕ, suc, ◌≤◌}
use mathlib.Core.Path.{◌≡◌, refl, sym, ap, ◌∙◌, subst}
use mathlib.Core.Logic.{◌≢◌}
use mathlib.Core.Bool.{Bool, true, false, cond}
use mathlib.Core.List.{List, [], ◌∷◌}
use native.Mathlib.Omega.{arith}
use native.Mathlib.Decide.{ℕ_discrete}
use lib.ListN.{length}
use lib.Dec.{eqb}
use borrow.Author.Tests.{eq-eqb, ne_eqb}
use Rattle.meaning.specs.Words.{first_data, segment, first_of, extra_bytes_of, highest, slot_words, Entry, entries, chain, all_entries}
use Rattle.meaning.specs.Sound.{fault, times}
use Rattle.meaning.specs.Requests.{render}
use Rattle.meaning.specs.Enter.{tidy, untidy, with_segment, header_of, tidied_at, tidied}
use Rattle.walks.proofs.Linked.{once as at-most-once}
use Rattle.walks.proofs.Tidied.{Kept, tidy-kept, wide-long}
use Rattle.walks.proofs.Untidy.{tidy-none}
use Rattle.meaning.specs.declared.Key.{Key}
use Rattle.meaning.specs.Keys.{holds, once}
use Rattle.walks.specs.Lists.{All}
use Rattle.walks.proofs.Alls.{all_map}
use Rattle.rules.proofs.Soundness.{Sound, sound, faultless}
use Rattle.laws.proofs.Rendered.{Body}
use Rattle.laws.proofs.Living.{living_of, counted, count-living}
use Rattle.walks.proofs.Linked.{Used, chain-used}
use Rattle.laws.proofs.Anew.{visited, visited_times}
use Rattle.laws.proofs.Rewritten.{used-body, Rewritten, rewritten}
use Rattle.laws.proofs.Tidying.{Tidier, tidy_tidier}

pub few-living : (v : ℕ) (d : List ℕ) → Sound v d → (k : Key) → once k ≡ true → counted (holds k) (living_of d) ≤ 1
few-living v d sd k o = rw (count-living k (all_entries d) (first_data d)) (sd.keys k o)

-- a directory of the same shape with the same living entries
pub record Alike (v : ℕ) (d t : List ℕ) : Type 0 where
  pub sound : Sound v t
  pub size : length t ≡ length d
  pub extra : extra_bytes_of t ≡ extra_bytes_of d
  pub highest : highest t ≡ highest d
  pub chain : chain t ≡ chain d
  pub living : living_of t ≡ living_of d

-- one step
record Step (v : ℕ) (d : List ℕ) (s : ℕ) (t : List ℕ) : Type 0 where
  alike : Alike v d t
  own : entries t s ≡ tidy (entries d s)
  others : (z : ℕ) → 1 ≤ z → z ≢ s → entries t z ≡ entries d z

module _ (v : ℕ) (d : List ℕ) (sd : Sound v d) where
  unchanged : Alike v d d
  unchanged = record { sound = sd; size = refl; extra = refl; highest = refl; chain = refl; living = refl }

  module _ (s : ℕ) (u : Used d s) where
    abbrev es : List Entry
    es = entries d s

    bd : Body (slot_words d) es
    bd = used-body v d sd s u.0 u.1

    ti : Tidier (slot_words d) false es (tidy es)
    ti = tidy_tidier (slot_words d) (omega arith) es bd.wide

    ke : Kept es (tidy es)
    ke = tidy-kept es (wide-long (slot_words d) (omega arith) es bd.wide)

    re : Rewritten v d s (tidy es) (with_segment d s (render (header_of d s) (tidy es)))
    re =
        rewritten v d sd s u.0 u.1 (tidy es)
        (record { fine = ti.fine bd.fine; wide = ti.wide; room = omega (arith, ke.fewer, bd.room) })
        ke.sum

    living-same : living_of (with_segment d s (render (header_of d s) (tidy es))) ≡ living_of d
    living-same = re.living_is ∙ (rw (ti.living (first_of (segment d s)))) ∙ sym re.living_was

    step : Step v d s (tidied_at d s)
    unfolding tidied_at
    step = go (untidy es) refl
      where
        go : (x : Bool) → untidy es ≡ x → Step v d s (cond x (with_segment d s (render (header_of d s) (tidy es))) d)
        go false x = record { alike = unchanged; own = sym (tidy-none es x); others = λ z l ne. refl }
        go true x =
            record {
              alike =
                  record {
                    sound = re.sound (λ k o. rw living-same (few-living v d sd k o));
                    size = re.size;
                    extra = re.extra;
                    highest = re.highest;
                    chain = re.chain;
                    living = living-same;
                  };
              own = re.own;
              others = re.others;
            }

-- the segments ss tidied, one after the other
record Steps (v : ℕ) (d ss t : List ℕ) : Type 0 where
  alike : Alike v d t
  done : (z : ℕ) → 1 ≤ z → times z ss ≡ 1 → entries t z ≡ tidy (entries d z)
  kept : (z : ℕ) → 1 ≤ z → times z ss ≡ 0 → entries t z ≡ entries d z

-- a step, and more after it
more : (v s : ℕ) (d t u ss : List ℕ) → Step v d s t → Steps v t ss u → Steps v d (s ∷ ss) u
unfolding times
more v s d t u ss x y =
    record {
      alike =
          record {
            sound = y.alike.sound;
            size = y.alike.size ∙ x.alike.size;
            extra = y.alike.extra ∙ x.alike.extra;
            highest = y.alike.highest ∙ x.alike.highest;
            chain = y.alike.chain ∙ x.alike.chain;
            living = y.alike.living ∙ x.alike.living;
          };
      done = λ z l e. own z l (ℕ_discrete s z) e;
      kept = λ z l e. other z l (ℕ_discrete s z) e;
    }
  where
    own : (z : ℕ) → 1 ≤ z → Dec (s ≡ z) → cond (eqb s z) (suc (times z ss)) (times z ss) ≡ 1 → entries u z ≡ tidy (entries d z)
    own z l (yes q) e =
        let n = rw (eq-eqb s z q) at e in
        y.kept z l (omega arith) ∙ subst (λ (i : ℕ). entries t i ≡ tidy (entries d i)) q x.own
    own z l (no q) e = y.done z l (rw (ne_eqb s z q) at e) ∙ ap tidy (x.others z l (λ r. q (sym r)))

    other : (z : ℕ) → 1 ≤ z → Dec (s ≡ z) → cond (eqb s z) (suc (times z ss)) (times z ss) ≡ 0 → entries u z ≡ entries d z
    other z l (yes q) e = absurd (let n = rw (eq-eqb s z q) at e in omega arith)
    other z l (no q) e = y.kept z l (rw (ne_eqb s z q) at e) ∙ x.others z l (λ r. q (sym r))

steps : (v : ℕ) (ss d : List ℕ) → Sound v d → All (Used d) ss → ((k : ℕ) → times k ss ≤ 1) → Steps v d ss (tidied d ss)
unfolding tidied times
steps v [] d sd a f = record { alike = unchanged v d sd; done = λ z l e. absurd (omega arith); kept = λ z l e. refl }
steps v (s ∷ ss) d sd a f =
    let x = step v d sd s a.0 in
    more v s d (tidied_at d s) (tidied (tidied_at d s) ss) ss x
    (steps v ss (tidied_at d s) x.alike.sound
    (all_map (Used d) (Used (tidied_at d s)) (λ z u. (u.0, rw x.alike.highest u.1)) ss a.1)
    (λ k. fewer k (eqb s k) (f k)))
  where
    fewer : (k : ℕ) (z : Bool) → cond z (suc (times k ss)) (times k ss) ≤ 1 → times k ss ≤ 1
    fewer k true l = omega arith
    fewer k false l = l

-- all of them
pub record Tidied (v : ℕ) (d t : List ℕ) : Type 0 where
  pub alike : Alike v d t
  pub entries : (s : ℕ) → Used d s → entries t s ≡ tidy (entries d s)

pub tidied-is : (v : ℕ) (d : List ℕ) → Sound v d → Tidied v d (tidied d (chain d))
unfolding chain
tidied-is v d sd =
    let x = steps v (chain d) d sd (chain-used d sd.links) (λ k. at-most-once d k (highest d) 1 sd.links) in
    record {
      alike = x.alike;
      entries = λ s u. x.done s u.0 (visited_times d s (visited v d sd s u.0 u.1));
    }

-- tidied, a sound directory stays sound, and has the same shape, the same chain and the same living entries
pub tidied-alike : (v : ℕ) (d : List ℕ) → fault v d ≡ 0 → Alike v d (tidied d (chain d))
tidied-alike v d h = (tidied-is v d (sound v d h)).alike

pub tidied-sound : (v : ℕ) (d : List ℕ) → fault v d ≡ 0 → fault v (tidied d (chain d)) ≡ 0
tidied-sound v d h = faultless v (tidied d (chain d)) (tidied-alike v d h).sound
