-- Rule 6's test is the rule. Two entries clash in the test exactly when they are permanent with the same name, and that is not the
-- spared one, or tentative with the same channel word, and then in either order. So, by induction on the entries, the test finds no
-- two that clash exactly when no two at different places do.
use Prim.Native.Nat.{ℕ, zero, suc, ◌<◌, zero-le, suc-le-suc}
use mathlib.Core.Path.{◌≡◌, refl, sym, ap, ◌∙◌}
use mathlib.Core.Bool.{Bool, true, false, false≢true}
use mathlib.Core.List.{List, [], ◌∷◌}
use mathlib.Core.Option.{Option, none, some}
use native.Mathlib.Nat.{suc-ne-zero, suc_inj, le_of_suc-le-suc, not-suc-le-zero}
use lib.ListN.{length, get_or}
use Rattle.bools.proofs.Bools.{both, neither, never}
use Rattle.meaning.specs.declared.Kind.TheVariants.{Tentative, Permanent}
use Rattle.meaning.specs.declared.Name.{Name}
use Rattle.meaning.specs.declared.Key.{Key}
use Rattle.meaning.specs.declared.Key.TheVariants.{File, Open}
use Rattle.meaning.specs.Words.{Entry, kind, name_of, channel_of, all_entries}
use Rattle.meaning.specs.Keys.{key_of, holds, file_bad, spared, once, clash_on, clash}
use Rattle.meaning.specs.Sound.{any, clashes, bad6}
use Rattle.walks.proofs.Lists.{any_none, none_any}
use Rattle.rules.specs.Sound.{Rule6}
use Rattle.rules.proofs.Keys.{once-file, spared-is, once_other, once-not, once_open, is-file, file-holds, is_open_lem, open_holds, clash-key}
use Rattle.walks.proofs.Keyed.{key_has}

-- two entries that must not stand in one directory
data Clash (e f : Entry) : Type 0 where
  files : (name_of e ≡ file_bad → ⊥) → kind e ≡ Permanent → kind f ≡ Permanent → name_of e ≡ name_of f → Clash e f
  channels : kind e ≡ Tentative → kind f ≡ Tentative → channel_of e ≡ channel_of f → Clash e f

clash_either : (e f : Entry) → Clash e f → Clash f e
clash_either e f (files b p q s) = files (λ x. b (s ∙ x)) q p (sym s)
clash_either e f (channels p q c) = channels q p (sym c)

clash-holds : (e f : Entry) → clash e f ≡ true → Clash e f
unfolding clash
clash-holds e f h = go (key_of e) refl h
  where
    go : (o : Option Key) → key_of e ≡ o → clash_on o f ≡ true → Clash e f
    go none q h = absurd (false≢true h)
    go (some (File n)) q h =
        let x = is-file n e (key_has (File n) e q) in
        let b = both (once (File n)) (holds (File n) f) h in
        let y = is-file n f b.1 in
        files (λ z. once-not n b.0 (sym x.name ∙ z)) x.permanent y.permanent (x.name ∙ sym y.name)
    go (some (Open c)) q h =
        let x = is_open_lem c e (key_has (Open c) e q) in
        let y = is_open_lem c f (both (once (Open c)) (holds (Open c) f) h).1 in
        channels x.tentative y.tentative (x.word ∙ sym y.word)

clash-tested : (e f : Entry) → Clash e f → clash e f ≡ true
clash-tested e f (files b p q s) =
    let z = once_other (name_of e) b in
    clash-key (File (name_of e)) e f (file-holds (name_of e) e (record { permanent = p; name = refl }))
    ∙ (rw z (file-holds (name_of e) f (record { permanent = q; name = sym s })))
clash-tested e f (channels p q c) =
    clash-key (Open (channel_of e)) e f (open_holds (channel_of e) e (record { tentative = p; word = refl }))
    ∙ (rw (once_open (channel_of e)) (open_holds (channel_of e) f (record { tentative = q; word = sym c })))

-- entries at two different places never clash
abbrev NoneClash : List Entry → Type 0
NoneClash es = (i j : ℕ) → i < length es → j < length es → (i ≡ j → ⊥) → Clash (get_or es i []) (get_or es j []) → ⊥

-- one entry more, which clashes with none of the others
one_more : (e : Entry) (es : List Entry) → ((j : ℕ) → j < length es → Clash e (get_or es j []) → ⊥) → NoneClash es → NoneClash (e ∷ es)
one_more e es f a zero zero l m n c = n refl
one_more e es f a zero (suc j) l m n c = f j (le_of_suc-le-suc m) c
one_more e es f a (suc i) zero l m n c = f i (le_of_suc-le-suc l) (clash_either (get_or es i []) e c)
one_more e es f a (suc i) (suc j) l m n c = a i j (le_of_suc-le-suc l) (le_of_suc-le-suc m) (λ x. n (ap suc x)) c

none-holds : (es : List Entry) → clashes es ≡ false → NoneClash es
unfolding clashes
none-holds [] h = λ i j l. absurd (not-suc-le-zero l)
none-holds (e ∷ es) h =
    let x = neither (any (clash e) es) (clashes es) h in
    one_more e es
    (λ j l c. false≢true (sym (any_none (clash e) es [] x.0 j l) ∙ clash-tested e (get_or es j []) c))
    (none-holds es x.1)

none-tested : (es : List Entry) → NoneClash es → clashes es ≡ false
unfolding clashes
none-tested [] a = refl
none-tested (e ∷ es) a =
    rw (
      none_any (clash e) es [] (λ j l. never (clash e (get_or es j [])) (λ c. first j l (clash-holds e (get_or es j []) c))),
      none-tested es (λ i j l m n. a (suc i) (suc j) (suc-le-suc l) (suc-le-suc m) (λ x. n (suc_inj x))),
    )
  where
    first : (j : ℕ) → j < length es → Clash e (get_or es j []) → ⊥
    first j l = a zero (suc j) (suc-le-suc zero-le) (suc-le-suc l) (λ x. suc-ne-zero j (sym x))

pub rule6-holds : (d : List ℕ) → bad6 d ≡ false → Rule6 d
unfolding bad6
rule6-holds d h =
    let a = none-holds (all_entries d) h in
    record {
      files =
          λ i j l m n p q s.
          let e = name_of (get_or (all_entries d) i []) in
          bad_or e (λ b. a i j l m n (files b p q s)) (spared e) refl;
      channels = λ i j l m n p q c. a i j l m n (channels p q c);
    }
  where
    bad_or : (e : Name) → ((e ≡ file_bad → ⊥) → ⊥) → (t : Bool) → spared e ≡ t → e ≡ file_bad
    bad_or e f true h = spared-is e h
    bad_or e f false h = absurd (f (λ z. once-not e (once-file e h) z))

pub rule6-tested : (d : List ℕ) → Rule6 d → bad6 d ≡ false
unfolding bad6
rule6-tested d r = none-tested (all_entries d) apart
  where
    apart : NoneClash (all_entries d)
    apart i j l m n (files b p q s) = b (r.files i j l m n p q s)
    apart i j l m n (channels p q c) = r.channels i j l m n p q c
