-- Keys: what an entry is found by (meaning, specs/Keys.antt). An entry has one key at most, and a permanent or tentative one has its own.
-- Two entries clash exactly when they have the same key and it may stand once; so rule 6 says that of each key that may stand once there is
-- one entry at most.
use Prim.Native.Nat.{ℕ, ◌+◌, ◌≤◌}
use mathlib.Core.Path.{◌≡◌, refl, sym, ap, ◌∙◌, fun_ext}
use mathlib.Core.Logic.{◌⊎◌, inl, inr}
use mathlib.Core.Bool.{Bool, true, false, cond, ◌&&◌, ◌||◌, true≢false}
use mathlib.Core.List.{List, [], ◌∷◌, ◌++◌}
use mathlib.Core.Option.{Option, none, some}
use native.Mathlib.Omega.{arith}
use lib.Dec.{eqb}
use borrow.Author.Tests.{eqb-true, eq-eqb}
use Rattle.bools.proofs.Bools.{both, neither, never}
use Rattle.meaning.specs.declared.Kind.TheVariants.{Tentative, Empty, Permanent}
use Rattle.meaning.specs.declared.Name.{Name}
use Rattle.meaning.specs.declared.Key.{Key}
use Rattle.meaning.specs.declared.Key.TheVariants.{File, Open}
use Rattle.meaning.specs.Kinds.{is_tentative, is_permanent}
use Rattle.meaning.specs.Words.{Entry, kind, name_of, same_name, channel_of, rows}
use Rattle.meaning.specs.Keys.{key_of, same_key, holds, file_bad, spared, once, clash}
use Rattle.meaning.specs.Sound.{any, clashes}
use Rattle.meaning.specs.Answers.{find, file_of}
use Rattle.meaning.specs.Requests.{gives_way}
use Rattle.walks.proofs.Told.{permanent-kind, tentative-kind}
use Rattle.walks.proofs.Keyed.{holds-file, holds_open, name-is, name-own, key-is, key-own, has-key, key_has}

-- which keys may stand once: every channel word, and every name that is not spared; and that is FILE.BAD alone
pub once-file : (n : Name) → spared n ≡ false → once (File n) ≡ true
unfolding once
once-file n h = rw h

pub spared-is : (n : Name) → spared n ≡ true → n ≡ file_bad
unfolding spared
spared-is n h = name-is n file_bad h

pub once_other : (n : Name) → (n ≡ file_bad → ⊥) → once (File n) ≡ true
once_other n h = once-file n (never (spared n) (λ t. h (spared-is n t)))

pub once-bad : once (File file_bad) ≡ false
unfolding once spared
once-bad = rw (name-own file_bad)

pub once-not : (n : Name) → once (File n) ≡ true → n ≡ file_bad → ⊥
once-not n h e = true≢false (sym h ∙ ap (λ (m : Name). once (File m)) e ∙ once-bad)

pub once_open : (x : ℕ) → once (Open x) ≡ true
unfolding once
once_open x = refl

-- to a FILE.BAD no file gives way, and to any other name the file that is found by it
pub no_old : (d : List ℕ) (n : Name) → spared n ≡ true → gives_way d n ≡ none
unfolding gives_way
no_old d n s = rw s

pub old-file : (d : List ℕ) (n : Name) → spared n ≡ false → gives_way d n ≡ find (holds (File n)) (rows d)
unfolding gives_way file_of
old-file d n s = rw s

-- two keys are the same, or not
pub same_key_lem : (k l : Key) → Dec (k ≡ l)
same_key_lem k l = go (same_key k l) refl
  where
    go : (b : Bool) → same_key k l ≡ b → Dec (k ≡ l)
    go true h = yes (key-is k l h)
    go false h = no (λ e. true≢false (sym (key-own k) ∙ (rw e) ∙ h))

-- an entry has one key at most
pub one_key : (k l : Key) (e : Entry) → holds k e ≡ true → holds l e ≡ true → k ≡ l
one_key k l e h g =
    let x : some k ≡ some l = sym (has-key k e h) ∙ has-key l e g in
    cc

pub other_key : (k l : Key) (e : Entry) → (k ≡ l → ⊥) → holds l e ≡ true → holds k e ≡ false
other_key k l e ne h = never (holds k e) (λ g. ne (one_key k l e g h))

-- an entry of a file
pub record IsFile (n : Name) (e : Entry) : Type 0 where
  pub permanent : kind e ≡ Permanent
  pub name : name_of e ≡ n

pub is-file : (n : Name) (e : Entry) → holds (File n) e ≡ true → IsFile n e
is-file n e h =
    let p = both (is_permanent (kind e)) (same_name (name_of e) n) (sym (holds-file n e) ∙ h) in
    record { permanent = permanent-kind (kind e) p.0; name = name-is (name_of e) n p.1 }

pub file-holds : (n : Name) (e : Entry) → IsFile n e → holds (File n) e ≡ true
file-holds n e h = holds-file n e ∙ (rw (h.permanent, h.name) (name-own n))

-- an entry of a channel word
pub record IsOpen (x : ℕ) (e : Entry) : Type 0 where
  pub tentative : kind e ≡ Tentative
  pub word : channel_of e ≡ x

pub is_open_lem : (x : ℕ) (e : Entry) → holds (Open x) e ≡ true → IsOpen x e
is_open_lem x e h =
    let p = both (is_tentative (kind e)) (eqb (channel_of e) x) (sym (holds_open x e) ∙ h) in
    record { tentative = tentative-kind (kind e) p.0; word = eqb-true _ _ p.1 }

pub open_holds : (x : ℕ) (e : Entry) → IsOpen x e → holds (Open x) e ≡ true
open_holds x e h = holds_open x e ∙ (rw (h.tentative, h.word, eq-eqb x x refl))

-- an entry of a key is permanent or tentative, so an empty one has none
pub holds-kind : (k : Key) (e : Entry) → holds k e ≡ true → (kind e ≡ Permanent) ⊎ (kind e ≡ Tentative)
holds-kind (File n) e h = inl (is-file n e h).permanent
holds-kind (Open x) e h = inr (is_open_lem x e h).tentative

pub empty_holds : (k : Key) (e : Entry) → kind e ≡ Empty → holds k e ≡ false
unfolding holds key_of
empty_holds k e h = rw h

-- a file is not a channel
pub file≢open : (n : Name) (x : ℕ) → File n ≡ Open x → ⊥
file≢open n x e = let q : ◌≡◌ {A = ℕ} 0 1 = cc in omega arith

-- how many entries pass a test
unfoldable pub count : (Entry → Bool) → List Entry → ℕ
count t [] = 0
count t (e ∷ es) = cond (t e) 1 0 + count t es

pub count-append : (t : Entry → Bool) (xs ys : List Entry) → count t (xs ++ ys) ≡ count t xs + count t ys
unfolding count
count-append t [] ys = omega arith
count-append t (x ∷ xs) ys = let i = count-append t xs ys in omega arith

any-count : (t : Entry → Bool) (es : List Entry) → any t es ≡ false → count t es ≡ 0
unfolding any count
any-count t [] h = refl
any-count t (e ∷ es) h = let n = neither (t e) (any t es) h in rw (n.0, any-count t es n.1)

count-any : (t : Entry → Bool) (es : List Entry) → count t es ≡ 0 → any t es ≡ false
unfolding any count
count-any t [] h = refl
count-any t (e ∷ es) h = go (t e) refl (count-any t es)
  where
    go : (x : Bool) → t e ≡ x → (count t es ≡ 0 → any t es ≡ false) → x || any t es ≡ false
    go true x i = absurd (let g : 1 + count t es ≡ 0 = rw x at h in omega arith)
    go false x i = i (let g : 0 + count t es ≡ 0 = rw x at h in omega arith)

any_never : (t : Entry → Bool) (es : List Entry) → ((f : Entry) → t f ≡ false) → any t es ≡ false
unfolding any
any_never t [] h = refl
any_never t (e ∷ es) h = rw (h e) (any_never t es h)

-- to clash with an entry is to have its key, where that may stand once
pub clash-key : (k : Key) (e f : Entry) → holds k e ≡ true → clash e f ≡ once k && holds k f
unfolding clash
clash-key k e f h = rw (has-key k e h)

clash-once : (k : Key) → once k ≡ true → (e : Entry) → holds k e ≡ true → clash e ≡ holds k
clash-once k o e h = fun_ext (λ f. clash-key k e f h ∙ (rw o))

-- rule 6, by keys
pub few : (es : List Entry) → clashes es ≡ false → (k : Key) → once k ≡ true → count (holds k) es ≤ 1
unfolding clashes count
few [] h k o = omega arith
few (e ∷ es) h k o = go (holds k e) refl (few es n.1 k o)
  where
    n : (any (clash e) es ≡ false) × (clashes es ≡ false)
    n = neither (any (clash e) es) (clashes es) h

    go : (x : Bool) → holds k e ≡ x → count (holds k) es ≤ 1 → cond x 1 0 + count (holds k) es ≤ 1
    go true x i = let z = any-count (holds k) es (rw (clash-once k o e x) at n.0) in omega arith
    go false x i = omega arith

pub no-clash : (es : List Entry) → ((k : Key) → once k ≡ true → count (holds k) es ≤ 1) → clashes es ≡ false
unfolding clashes count clash
no-clash [] h = refl
no-clash (e ∷ es) h = rw (first (key_of e) refl, no-clash es rest)
  where
    rest : (k : Key) → once k ≡ true → count (holds k) es ≤ 1
    rest k o = let l = h k o in omega arith

    keyed : (k : Key) → holds k e ≡ true → (b : Bool) → once k ≡ b → any (clash e) es ≡ false
    keyed k x true o =
        let l : 1 + count (holds k) es ≤ 1 = rw x at (h k o) in
        rw (clash-once k o e x) (count-any (holds k) es (omega arith))
    keyed k x false o = any_never (clash e) es (λ f. clash-key k e f x ∙ (rw o))

    first : (o : Option Key) → key_of e ≡ o → any (clash e) es ≡ false
    first none q = any_never (clash e) es (λ f. rw q)
    first (some k) q = keyed k (key_has k e q) (once k) refl
