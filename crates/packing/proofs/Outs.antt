-- The words that one entry lets out, as code makes them: what is left over before it is nothing or the first words of an array; a file's own
-- words are its slot; a move is three words. And the words of all entries, step by step.
use Prim.Native.Nat.{ℕ, ◌+◌, ◌-◌, ◌≤◌}
use mathlib.Core.Path.{◌≡◌, refl, sym, ap, ◌∙◌}
use mathlib.Core.Bool.{Bool, true, false, cond}
use mathlib.Core.Logic.{◌⊎◌, inl, inr}
use mathlib.Core.List.{List, [], ◌∷◌, ◌++◌, append-nil, append_assoc}
use native.Mathlib.Omega.{arith}
use lib.ListN.{length, take, set, replicate, length-append}
use borrow.Author.Tests.{eq-eqb, ne_eqb}
use Rattle.meaning.specs.Kinds.{empty_status}
use Rattle.meaning.specs.Words.{Entry, blocks}
use Rattle.meaning.specs.Requests.{entry_of, empty_entry, flat}
use Rattle.walks.proofs.Flat.{flat_append, flat-split}
use Rattle.segment.specs.Written.{Written}
use Rattle.segment.proofs.Writes.{both_written}
use Rattle.render.proofs.Anew.{entry-take, blank}
use Rattle.squeezed.specs.Moves.{Move, idle, needed}
use Rattle.squeezed.specs.Squeeze.{is_file, new_place, free_after, places, left_over, packed_entries, move_words}
use Rattle.squeezed.proofs.Along.{needed-append}
use Rattle.packing.specs.Packs.{left_words, out_words, packed_words, one_move, move_out, list_words}
use Rattle.packing.proofs.Walks.{Stepwise}

-- what is left over, as an array has it
pub left-none : (w p q : ℕ) → p ≡ q → left_words w p q ≡ []
unfolding left_over flat
left-none w p q e = rw (eq-eqb p q e)

abbrev pub gap_array : ℕ → List ℕ
gap_array n = set (set (replicate 23 0) 0 empty_status) 4 n

pub left-some : (w p q : ℕ) → (p ≡ q → ⊥) → 7 ≤ w → w ≤ 23 → take w (gap_array (q - p)) ≡ left_words w p q
unfolding left_over flat entry_of
left-some w p q ne h k =
    rw (ne_eqb p q ne, append-nil (empty_entry w (q - p))) (entry-take w empty_status blank (q - p) 0 0 h k)

-- a move that is needed, or not
pub move-none : (b q n : ℕ) → (b ≡ q) ⊎ ((b ≡ q → ⊥) × (n ≡ 0)) → one_move b q n ≡ []
unfolding needed idle move_words
move-none b q n (inl e) = rw (eq-eqb b q e) refl
move-none b q n (inr e) = rw (ne_eqb b q e.0, eq-eqb n 0 e.1) refl

pub move_some : (b q n : ℕ) → (b ≡ q → ⊥) → (n ≡ 0 → ⊥) → one_move b q n ≡ b ∷ q ∷ n ∷ []
unfolding needed idle move_words
move_some b q n ne some = rw (ne_eqb b q ne, ne_eqb n 0 some) refl

-- a file e goes to block q, and there is room for what it lets out
pub record Filed (e : Entry) (b p q : ℕ) (before : List ℕ) (at : ℕ) : Type 0 where
  pub file : is_file e ≡ true
  pub place : q ≡ new_place b p e
  pub room : at + length (out_words (length e) b p e) ≤ length before

-- what is left over before it is written, and then its own words
module _ {e : Entry} {b p q : ℕ} {before : List ℕ} {at : ℕ} (x : Filed e b p q before at) where
  words_are : out_words (length e) b p e ≡ left_words (length e) p q ++ e
  words_are = rw (x.file, x.place) refl

  parts : length (out_words (length e) b p e) ≡ length (left_words (length e) p q) + length e
  parts = rw words_are (length-append (left_words (length e) p q) e)

  pub left-room : at + length (left_words (length e) p q) ≤ length before
  left-room = omega (arith, parts, x.room)

  pub slot-room : {m : List ℕ} {y : ℕ} → Written before at (left_words (length e) p q) m y → y + length e ≤ length m
  slot-room {m} {y} u = omega (arith, parts, x.room, u.next, u.long)

  pub file-made : {m a : List ℕ} {y z : ℕ} → Written before at (left_words (length e) p q) m y → Written m y e a z
      → Written before at (out_words (length e) b p e) a z
  file-made {m} {a} {y} {z} u v =
      rw words_are (both_written before (left_words (length e) p q) m e a at y z (omega (arith, x.room)) u v)

-- the words of the next entry and those after it
packed_step : (w b p : ℕ) (e : Entry) (es : List Entry)
    → packed_words w b p (e ∷ es) ≡ out_words w b p e ++ packed_words w (b + blocks e) (free_after b p e) es
unfolding packed_entries flat
packed_step w b p e es = go (is_file e) (packed_entries w (b + blocks e) (free_after b p e) es)
  where
    go : (x : Bool) (r : List Entry)
        → flat (cond x (left_over w p (new_place b p e) ++ e ∷ r) r) [] ≡ cond x (left_words w p (new_place b p e) ++ e) [] ++ flat r []
    go true r =
        flat_append (left_over w p (new_place b p e)) (e ∷ r) []
        ∙ flat-split (left_over w p (new_place b p e)) (e ++ flat r [])
        ∙ sym (append_assoc (left_words w p (new_place b p e)) e (flat r []))
    go false r = refl

pub packed_stepwise : (w : ℕ) → Stepwise (packed_words w) (out_words w)
unfolding packed_entries flat
packed_stepwise w = record { none = λ b p. refl; step = packed_step w }

move-words-append : (xs ys : List Move) → move_words (xs ++ ys) ≡ move_words xs ++ move_words ys
unfolding move_words
move-words-append [] ys = refl
move-words-append (x ∷ xs) ys =
    ap {B = List ℕ} (λ l. x.source ∷ x.to ∷ x.length ∷ l) (move-words-append xs ys)

pub moves-append : (xs ys : List Move) → move_words (needed (xs ++ ys)) ≡ move_words (needed xs) ++ move_words (needed ys)
moves-append xs ys = ap move_words (needed-append xs ys) ∙ move-words-append (needed xs) (needed ys)

list_step : (b p : ℕ) (e : Entry) (es : List Entry)
    → list_words b p (e ∷ es) ≡ move_out b p e ++ list_words (b + blocks e) (free_after b p e) es
unfolding places
list_step b p e es = go (is_file e) (places (b + blocks e) (free_after b p e) es)
  where
    m : Move
    m = record { source = b; to = new_place b p e; length = blocks e }

    go : (x : Bool) (r : List Move)
        → move_words (needed (cond x (record { source = b; to = new_place b p e; length = blocks e } ∷ r) r))
        ≡ cond x (one_move b (new_place b p e) (blocks e)) [] ++ move_words (needed r)
    go true r = moves-append (m ∷ []) r
    go false r = refl

pub list_stepwise : Stepwise list_words move_out
unfolding places needed move_words
list_stepwise = record { none = λ b p. refl; step = list_step }
