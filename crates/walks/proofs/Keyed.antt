-- The key of an entry, as code tests it: an entry has a file's key where it is permanent and has the name, a channel's where it is tentative
-- and on that channel word; each by the cases of its kind. Keys that pass the test of sameness are equal, so an entry that has a key has no
-- other.
use Prim.Native.Nat.{ℕ}
use mathlib.Core.Path.{◌≡◌, refl, ap}
use mathlib.Core.Bool.{true, ◌&&◌, false≢true}
use mathlib.Core.Option.{Option, none, some}
use lib.Dec.{eqb}
use borrow.Author.Tests.{eqb-true, eq-eqb}
use Rattle.bools.proofs.Bools.{both}
use Rattle.meaning.specs.declared.Kind.{Kind}
use Rattle.meaning.specs.declared.Kind.TheVariants.{Tentative, Empty, Permanent, End, Unknown}
use Rattle.meaning.specs.declared.Name.{Name}
use Rattle.meaning.specs.declared.Key.{Key}
use Rattle.meaning.specs.declared.Key.TheVariants.{File, Open}
use Rattle.meaning.specs.Kinds.{is_tentative, is_permanent}
use Rattle.meaning.specs.Words.{Entry, kind, name_of, same_name, channel_of}
use Rattle.meaning.specs.Keys.{key_in, key_of, same_key, is_key, holds}

pub holds-file : (n : Name) (e : Entry) → holds (File n) e ≡ is_permanent (kind e) && same_name (name_of e) n
unfolding holds key_of
holds-file n e = go (kind e)
  where
    go : (x : Kind) → is_key (File n) (key_in x e) ≡ is_permanent x && same_name (name_of e) n
    go Tentative = refl
    go Empty = refl
    go Permanent = refl
    go End = refl
    go Unknown = refl

pub holds_open : (x : ℕ) (e : Entry) → holds (Open x) e ≡ is_tentative (kind e) && eqb (channel_of e) x
unfolding holds key_of
holds_open x e = go (kind e)
  where
    go : (k : Kind) → is_key (Open x) (key_in k e) ≡ is_tentative k && eqb (channel_of e) x
    go Tentative = refl
    go Empty = refl
    go Permanent = refl
    go End = refl
    go Unknown = refl

-- names and keys are the same where their test says so
abbrev name_by : ℕ → ℕ → ℕ → Name
name_by a b c = record { first = a; second = b; extension = c }

pub name-is : (n m : Name) → same_name n m ≡ true → n ≡ m
unfolding same_name
name-is n m h =
    let x = eqb n.first m.first in
    let y = eqb n.second m.second in
    let z = eqb n.extension m.extension in
    let p = both (x && y) z h in
    let q = both x y p.0 in
    let a = eqb-true n.first m.first q.0 in
    let b = eqb-true n.second m.second q.1 in
    let c = eqb-true n.extension m.extension p.1 in
    let e : name_by n.first n.second n.extension ≡ name_by m.first m.second m.extension = rw (a, b, c) in
    e

pub name-own : (n : Name) → same_name n n ≡ true
unfolding same_name
name-own n =
    rw (eq-eqb n.first n.first refl, eq-eqb n.second n.second refl, eq-eqb n.extension n.extension refl)

pub key-is : (k l : Key) → same_key k l ≡ true → k ≡ l
key-is (File n) (File m) h = ap File (name-is n m h)
key-is (File n) (Open y) h = absurd (false≢true h)
key-is (Open x) (File m) h = absurd (false≢true h)
key-is (Open x) (Open y) h = ap Open (eqb-true x y h)

pub key-own : (k : Key) → same_key k k ≡ true
key-own (File n) = name-own n
key-own (Open x) = eq-eqb x x refl

-- the key of an entry
pub has-key : (k : Key) (e : Entry) → holds k e ≡ true → key_of e ≡ some k
unfolding holds
has-key k e h = go (key_of e) h
  where
    go : (o : Option Key) → is_key k o ≡ true → o ≡ some k
    go none h = absurd (false≢true h)
    go (some l) h = ap some (key-is l k h)

pub key_has : (k : Key) (e : Entry) → key_of e ≡ some k → holds k e ≡ true
unfolding holds
key_has k e h = rw h (key-own k)
