-- Good writes: what the writes of a request have in common. Each is to a slot that the request owns, that of an entry of a key
-- that it names or of the empty entry after one; the whole keeps the directory's shape, and each key that may stand once
-- comes from one key at most. A request that carries something out makes one key go, and may make another that comes from it; or it
-- leaves the key to its entry.
use Prim.Native.Nat.{ℕ, ◌+◌, ◌*◌}
use mathlib.Core.Path.{◌≡◌, refl}
use mathlib.Core.Logic.{◌⊎◌, ⊎_elim}
use mathlib.Core.Bool.{Bool, true}
use mathlib.Core.List.{List, []}
use lib.ListN.{set}
use Rattle.meaning.specs.declared.Kind.TheVariants.{Empty}
use Rattle.meaning.specs.Kinds.{empty_status}
use Rattle.meaning.specs.Words.{slot_words, Entry, status_word, kind, blocks, date_of, Row, rows}
use Rattle.meaning.specs.Answers.{Write, write}
use Rattle.meaning.specs.declared.Key.{Key}
use Rattle.meaning.specs.Keys.{holds, once}
use Rattle.walks.specs.Lists.{All}
use Rattle.walks.proofs.Alls.{all_both}
use Rattle.rules.proofs.Grid.{entry_at}
use Rattle.laws.proofs.Writes.{Fit, edit, at-write, length-write, head-write}
use Rattle.rules.proofs.Keys.{same_key_lem}
use Rattle.rules.proofs.Touch.{Touch, keep}
use Rattle.laws.proofs.Move.{Move}
use Rattle.rules.proofs.Rows.{Stand}
use Rattle.laws.proofs.Keeps.{After, nothing, Source, other, from, nowhere}

-- a place that a request owns, of which C are the keys that it names
pub data Owned (d : List ℕ) (C : Key → Type 0) (p : ℕ) : Type 0 where
  mine : (k : Key) → C k → holds k (entry_at d (slot_words d) p) ≡ true → Owned d C p
  after : (k : Key) (q : ℕ) → C k → holds k (entry_at d (slot_words d) q) ≡ true → p ≡ q + slot_words d
      → kind (entry_at d (slot_words d) p) ≡ Empty → Owned d C p

abbrev pub Owns : List ℕ → (Key → Type 0) → Write → Type 0
Owns d C x = Owned d C x.place

pub record Good (d : List ℕ) (C : Key → Type 0) (ws : List Write) : Type 0 where
  pub fit : All (Fit (slot_words d)) ws
  pub own : All (Owns d C) ws
  pub fall : ℕ → ℕ
  pub move : Move C fall d (write d ws)
  pub sources : (k : Key) → once k ≡ true → Source C d (write d ws) k

-- the keys of a request that makes k go, and of one that makes l of it
abbrev pub One : Key → Key → Type 0
One k m = m ≡ k

abbrev pub Two : Key → Key → Key → Type 0
Two k l m = (m ≡ k) ⊎ (m ≡ l)

-- the entry of the row r, of the key k, becomes empty
pub record Gone (d : List ℕ) (r : Row) (k : Key) (ws : List Write) : Type 0 where
  pub good : Good d (One k) ws
  pub gone : All (After d (write d ws) k nothing) (rows d)
  pub entry : entry_at (write d ws) (slot_words d) r.at ≡ set r.entry status_word empty_status

-- the entry of the row r, of the key k, becomes one of the key l, of n blocks
pub record Made (d : List ℕ) (r : Row) (k l : Key) (n : ℕ) (ws : List Write) : Type 0 where
  pub good : Good d (Two k l) ws
  pub gone : All (After d (write d ws) k nothing) (rows d)
  pub made : once l ≡ true → All (After d (write d ws) l (holds k)) (rows d)
  pub key : holds l (entry_at (write d ws) (slot_words d) r.at) ≡ true
  pub length : blocks (entry_at (write d ws) (slot_words d) r.at) ≡ n
  pub date : date_of (entry_at (write d ws) (slot_words d) r.at) ≡ date_of r.entry

-- the entry of the row r keeps its key k, and becomes e
pub record Stated (d : List ℕ) (r : Row) (k : Key) (e : Entry) (ws : List Write) : Type 0 where
  pub good : Good d (One k) ws
  pub same : All (After d (write d ws) k (holds k)) (rows d)
  pub entry : entry_at (write d ws) (slot_words d) r.at ≡ e

pub same_source : (d d' : List ℕ) (k : Key) → All (After d d' k (holds k)) (rows d) → (m : Key) → once m ≡ true
    → Source (One k) d d' m
same_source d d' k a m o = go (same_key_lem m k)
  where
    go : Dec (m ≡ k) → Source (One k) d d' m
    go (yes p) = rw p (from k (rw p at o) a)
    go (no p) = other p

pub gone-source : (d d' : List ℕ) (k : Key) → All (After d d' k nothing) (rows d) → (m : Key) → once m ≡ true
    → Source (One k) d d' m
gone-source d d' k a m o = go (same_key_lem m k)
  where
    go : Dec (m ≡ k) → Source (One k) d d' m
    go (yes p) = rw p (nowhere a)
    go (no p) = other p

pub made-source : (d d' : List ℕ) (k l : Key) → once k ≡ true → All (After d d' k nothing) (rows d)
    → (once l ≡ true → All (After d d' l (holds k)) (rows d)) → (m : Key) → once m ≡ true → Source (Two k l) d d' m
made-source d d' k l one a b m o = go (same_key_lem m k) (same_key_lem m l)
  where
    go : Dec (m ≡ k) → Dec (m ≡ l) → Source (Two k l) d d' m
    go (yes p) q = rw p (nowhere a)
    go (no p) (yes q) = rw q (from k one (b (rw q at o)))
    go (no p) (no q) = other (⊎_elim p q)

module _ (d : List ℕ) (st : All (Stand d) (rows d)) where
  abbrev w : ℕ
  w = slot_words d

  abbrev f : ℕ → Entry
  f p = entry_at d (slot_words d) p

  -- writes are good if they touch each slot as they may; edit p (f p) ws is the slot at p afterwards
  pub good : (C : Key → Type 0) (ws : List Write) → All (Fit w) ws → All (Owns d C) ws
      → (δ : ℕ → ℕ) → ((s : ℕ) → δ (512 * s + 5) ≡ 0)
      → ((p : ℕ) → Touch C (δ p) (f p) (edit p (f p) ws) × (blocks (edit p (f p) ws) + δ (p + w) ≡ blocks (f p) + δ p))
      → ((k : Key) → once k ≡ true → Source C d (write d ws) k) → Good d C ws
  good C ws fit own δ start touch t =
      record {
        fit = fit;
        own = own;
        fall = δ;
        move =
            record {
              size = length-write ws d;
              heads = λ s j h. head-write ws d w s j h fit;
              start = start;
              at =
                  λ p o.
                  record { touch = rw (at-write ws d w p fit o) (touch p).0; even = rw (at-write ws d w p fit o) (touch p).1 };
            };
        sources = t;
      }

  -- a test of a row's entry afterwards and one before, which agree by what is known of each row, X
  pub after_writes : (ws : List Write) → All (Fit w) ws → (k : Key) (u : Entry → Bool) (X : Row → Type 0) → All X (rows d)
      → ((x : Row) → Stand d x → X x → holds k (edit x.at (f x.at) ws) ≡ u (f x.at))
      → All (After d (write d ws) k u) (rows d)
  after_writes ws fit k u X xs h =
      all_both (Stand d) X (After d (write d ws) k u)
      (λ x s y. rw (at-write ws d w x.at fit s.slot.on, s.is) (h x s y))
      (rows d)
      st
      xs

  -- no writes
  pub nothing_good : (C : Key → Type 0) → Good d C []
  unfolding edit
  nothing_good C =
      good C [] tt tt (λ p. 0) (λ s. refl) (λ p. (keep refl refl, refl))
      (λ k o. from k o (after_writes [] tt k (holds k) (Stand d) st (λ x s y. refl)))
