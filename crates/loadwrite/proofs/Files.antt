-- A whole file as writes. A turn of the loop over the full blocks adds one at their end; these, the shorter block and the end block, one after
-- the other, are the file, whose length is counted from its parts; and each way out of `save` is that of `save_answer` and `save_output`. Assumes
-- nothing.
use Prim.Native.Nat.{ℕ, zero, suc, ◌+◌, ◌*◌, ◌/◌, ◌%◌, ◌≤◌, ◌<◌}
use native.Mathlib.Nat.{zero-add}
use native.Mathlib.Numerals.{add-one}
use native.Mathlib.Omega.{arith}
use mathlib.Core.Path.{◌≡◌, refl, sym, ap, ◌∙◌}
use mathlib.Core.Bool.{true, false, cond}
use mathlib.Core.List.{List, [], ◌++◌, append_assoc, append-nil}
use borrow.Author.Tests.{lt-ltb, le-ltb, eq-eqb, ne_eqb, eqb-true}
use lib.ListN.{length, length-append}
use lib.Dec.{eqb}
use Rattle.lines.specs.Wrote.{Wrote}
use Rattle.lines.proofs.Writes.{none, both}
use Rattle.loads.specs.declared.Saved.{Saved}
use Rattle.loads.specs.Memory.{limit, bytes_at}
use Rattle.loads.specs.Writing.{block, full_blocks, short_block, load_file, save_answer, save_output}
use Rattle.loads.proofs.Bytes.{length-bytes}
use Rattle.loads.proofs.Trips.{length-block}
use Rattle.loads.proofs.Laws.{by_fields}
use Rattle.loadwrite.specs.Sizes.{file_size}

-- lengths
pub length_data : (m : List ℕ) (a n : ℕ) → length (block a (bytes_at m a n)) ≡ n + 7
length_data m a n = length-block a (bytes_at m a n) ∙ rw (length-bytes m a n) (omega arith)

pub length_full : (m : List ℕ) (a k : ℕ) → length (full_blocks m a k) ≡ k * 135
unfolding full_blocks
length_full m a zero = omega arith
length_full m a (suc k) =
    let n : length (block a (bytes_at m a 128)) ≡ 135 = length_data m a 128 in
    let i : length (full_blocks m (a + 128) k) ≡ k * 135 = length_full m (a + 128) k in
    length-append (block a (bytes_at m a 128)) (full_blocks m (a + 128) k) ∙ omega arith

length-short : (m : List ℕ) (a n : ℕ) → length (short_block m a n) ≡ cond (eqb n 0) 0 (n + 7)
unfolding short_block
length-short m a zero = refl
length-short m a (suc n) = rw (ne_eqb (suc n) 0 (λ j. omega arith)) (length_data m a (suc n))

length-file : (m : List ℕ) (a n t : ℕ) → length (load_file m a n t) ≡ file_size n
unfolding load_file file_size
length-file m a n t =
    let q : ℕ = n / 128 in
    let r : ℕ = n % 128 in
    let x : List ℕ = full_blocks m a q in
    let y : List ℕ = short_block m (a + q * 128) r in
    let e : length (block t []) ≡ 7 = length-block t [] in
    length-append (x ++ y) (block t [])
    ∙ rw (length-append x y, length_full m a q, length-short m (a + q * 128) r, e)

-- the full blocks: before the first turn none is written, a turn writes the next one, and after the last all are written
full-last : (m : List ℕ) (a i : ℕ) → full_blocks m a (suc i) ≡ full_blocks m a i ++ block (a + i * 128) (bytes_at m (a + i * 128) 128)
unfolding full_blocks
full-last m a zero =
    let e : a + zero * 128 ≡ a = omega arith in
    rw e (append-nil (block a (bytes_at m a 128)))
full-last m a (suc i) =
    let e : a + suc i * 128 ≡ a + 128 + i * 128 = omega arith in
    rw (e, append_assoc (block a (bytes_at m a 128)) (full_blocks m (a + 128) i) _)
    (ap (λ (l : List ℕ). block a (bytes_at m a 128) ++ l) (full-last m (a + 128) i))

pub no_full : (m b : List ℕ) (a q : ℕ) → q ≤ length b → Wrote b q (full_blocks m a 0) b q
unfolding full_blocks
no_full m b a q h = none b q h

pub full_more : {b o o' : List ℕ} {q p z : ℕ} (m : List ℕ) (a i at : ℕ) → at ≡ a + i * 128 → Wrote b q (full_blocks m a i) o p
    → Wrote o p (block at (bytes_at m at 128)) o' z → Wrote b q (full_blocks m a (i + 1)) o' z
full_more m a i at e u v = rw (add-one i, full-last m a i, ← e) (both u v)

-- the shorter one, or none
pub no_short : (m b : List ℕ) (a n q : ℕ) → q ≤ length b → n ≡ 0 → Wrote b q (short_block m a n) b q
unfolding short_block
no_short m b a n q h e = rw (eq-eqb n 0 e) (none b q h)

pub a_short : {b o : List ℕ} {q z : ℕ} (m : List ℕ) (a n : ℕ) → (n ≡ 0 → ⊥) → Wrote b q (block a (bytes_at m a n)) o z
    → Wrote b q (short_block m a n) o z
unfolding short_block
a_short m a n e u = rw (ne_eqb n 0 e) u

-- the room that the parts take
pub room_short : (n : ℕ) → n / 128 * 135 + n % 128 + 7 ≤ file_size n
unfolding file_size
room_short n =
    (elim (eqb (n % 128) 0) as (λ t. eqb (n % 128) 0 ≡ t → n / 128 * 135 + n % 128 + 7 ≤ n / 128 * 135 + cond t 0 (n % 128 + 7) + 7) [
      | true ↦ λ e. let f = eqb-true (n % 128) 0 e in omega arith
      | false ↦ λ e. omega arith
    ])
    refl

pub room_end : (m : List ℕ) (a n : ℕ) → n / 128 * 135 + length (short_block m a (n % 128)) + 7 ≡ file_size n
unfolding file_size
room_end m a n = rw (length-short m a (n % 128))

-- the three parts are the file
pub a_file : {b o o' o'' : List ℕ} {y z x : ℕ} (m : List ℕ) (a n t : ℕ) → Wrote b 0 (full_blocks m a (n / 128)) o y
    → Wrote o y (short_block m (a + n / 128 * 128) (n % 128)) o' z → Wrote o' z (block t []) o'' x → Wrote b 0 (load_file m a n t) o'' x
unfolding load_file
a_file m a n t u v w = both (both u v) w

-- the ways out of `save`: a range outside the memory, too short a room, and the file made
pub outside : (m out : List ℕ) (a n t : ℕ) (r : Saved) → limit m < a + n → (r.number ≡ 29) × (r.count ≡ 0)
    → (r ≡ save_answer m a n t (length out)) × (out ≡ save_output m a n t out)
unfolding save_answer save_output
outside m out a n t r h k =
    let e = lt-ltb (limit m) (a + n) h in
    (rw e (by_fields r 29 0 k), rw e)

pub too_short_lem : (m out : List ℕ) (a n t : ℕ) (r : Saved) → a + n ≤ limit m → length out < file_size n → (r.number ≡ 24) × (r.count ≡ 0)
    → (r ≡ save_answer m a n t (length out)) × (out ≡ save_output m a n t out)
unfolding save_answer save_output
too_short_lem m out a n t r h g k =
    let e = le-ltb (limit m) (a + n) h in
    let f = lt-ltb (length out) (length (load_file m a n t)) (rw (length-file m a n t) g) in
    (rw (e, f) (by_fields r 24 0 k), rw (e, f))

pub saved : {o : List ℕ} {z : ℕ} (m out : List ℕ) (a n t need : ℕ) → a + n ≤ limit m → need ≡ file_size n → need ≤ length out
    → Wrote out 0 (load_file m a n t) o z
    → (record { number = 0; count = need } ≡ save_answer m a n t (length out)) × (o ≡ save_output m a n t out)
unfolding save_answer save_output
saved m out a n t need h s g u =
    let l : length (load_file m a n t) ≡ need = length-file m a n t ∙ sym s in
    let e = le-ltb (limit m) (a + n) h in
    let f = le-ltb (length out) (length (load_file m a n t)) (rw l g) in
    let j : 0 + length (load_file m a n t) ≡ length (load_file m a n t) = zero-add (length (load_file m a n t)) in
    (rw (e, f, l), rw (e, f) (rw j at u.is))
