-- What follows from the rules of load files. A file is read back to the bytes that it was made of, which are stored in a row; the writer keeps to its
-- room; and what a stream says is final (Ahead). Where the memory is not stored to, it is as it was by definition.
use Prim.Native.Nat.{ℕ, zero, suc, ◌+◌, ◌≤◌}
use native.Mathlib.Omega.{arith}
use mathlib.Core.Path.{◌≡◌, refl, sym, ap, ◌∙◌}
use mathlib.Core.Logic.{⊎_elim}
use mathlib.Core.Bool.{Bool, true, false, cond}
use mathlib.Core.List.{List, [], ◌∷◌, ◌++◌}
use borrow.Author.Tests.{lt-ltb, le-ltb, eq-eqb, ne_eqb}
use lib.ListN.{length, drop, length-append, length-drop}
use lib.Seq.{drop-append_seam}
use Rattle.bools.proofs.Bools.{either_side}
use Rattle.loads.specs.Memory.{limit, puts, bytes_at}
use Rattle.loads.specs.Blocks.{part_of, data_of}
use Rattle.loads.specs.Reading.{goes_on, rest_of, stored_by, fill_from, load_answer, load_memory}
use Rattle.loads.specs.Writing.{load_file, save_answer, save_output}
use Rattle.loads.specs.Laws.{Words, ReadsBack, LoadLaws, SaveLaws}
use Rattle.loads.specs.declared.Saved.{Saved}
use Rattle.loads.specs.declared.Part.{Part}
use Rattle.loads.specs.declared.Part.TheVariants.{Gap, Block, End, Refused}
use Rattle.loads.proofs.Bytes.{decide, length-puts, puts-inside, puts-outside, limit-within}
use Rattle.loads.proofs.Trips.{file-read}
use Rattle.loads.proofs.Ahead.{ahead}

-- the memory of a stream that is accepted, and of one that is refused
memory-accepted : (s m : List ℕ) → (load_answer s m).number ≡ 0 → load_memory s m ≡ fill_from (limit m) 0 s m
unfolding load_memory
memory-accepted s m e = rw (eq-eqb (load_answer s m).number 0 e)

memory-refused : (s m : List ℕ) → ((load_answer s m).number ≡ 0 → ⊥) → load_memory s m ≡ m
unfolding load_memory
memory-refused s m h = rw (ne_eqb (load_answer s m).number 0 h)

-- a file is read, with anything behind it
file-answer : (m : List ℕ) (a n t : ℕ) (w rest : List ℕ) → a + n ≤ limit w
    → load_answer (load_file m a n t ++ rest) w ≡ record { number = 0; transfer = t }
unfolding load_answer
file-answer m a n t w rest h = (file-read (limit w) m a n t w rest h).0

file-memory : (m : List ℕ) (a n t : ℕ) (w rest : List ℕ) → a + n ≤ limit w → load_memory (load_file m a n t ++ rest) w ≡ puts a (bytes_at m a n) w
file-memory m a n t w rest h =
    memory-accepted (load_file m a n t ++ rest) w (rw (file-answer m a n t w rest h)) ∙ (file-read (limit w) m a n t w rest h).1

pub reads-back : (m : List ℕ) (a n t : ℕ) (w rest : List ℕ) → Words m → a + n ≤ limit w → ReadsBack (load_file m a n t ++ rest) m a n t w
reads-back m a n t w rest k h =
    let e = file-memory m a n t w rest h in
    record {
      answer = file-answer m a n t w rest h;
      inside = λ x i j. rw e (puts-inside m k a n w x (omega (arith, limit-within w)) i j);
      outside = λ x o. rw e (puts-outside m k a n w x o);
      long = rw e (length-puts a (bytes_at m a n) w);
    }

-- on success the writer answers how long its file is, and the room holds it
made : (m : List ℕ) (a n t room : ℕ) → (save_answer m a n t room).number ≡ 0
    → ((save_answer m a n t room).count ≡ length (load_file m a n t)) × (length (load_file m a n t) ≤ room)
unfolding save_answer
made m a n t room e =
    let k = length (load_file m a n t) in
    ⊎_elim
    (λ h. let f = rw (lt-ltb (limit m) (a + n) h) at e in absurd (omega arith))
    (λ h.
    ⊎_elim
    (λ j. let f = rw (le-ltb (limit m) (a + n) h, lt-ltb room k j) at e in absurd (omega arith))
    (λ j. rw (le-ltb (limit m) (a + n) h, le-ltb room k j) (refl, j))
    (either_side room k))
    (either_side (limit m) (a + n))

output_made : (m : List ℕ) (a n t : ℕ) (out : List ℕ) → (save_answer m a n t (length out)).number ≡ 0
    → save_output m a n t out ≡ load_file m a n t ++ drop (length (load_file m a n t)) out
unfolding save_output
output_made m a n t out e = rw (eq-eqb (save_answer m a n t (length out)).number 0 e)

output_refused : (m : List ℕ) (a n t : ℕ) (out : List ℕ) → ((save_answer m a n t (length out)).number ≡ 0 → ⊥) → save_output m a n t out ≡ out
unfolding save_output
output_refused m a n t out h = rw (ne_eqb (save_answer m a n t (length out)).number 0 h)

pub saved_back : (m : List ℕ) (a n t : ℕ) (out w : List ℕ) → Words m → (save_answer m a n t (length out)).number ≡ 0 → a + n ≤ limit w
    → ReadsBack (save_output m a n t out) m a n t w
saved_back m a n t out w k e h = rw (output_made m a n t out e) (reads-back m a n t w (drop (length (load_file m a n t)) out) k h)

pub save_laws : (m : List ℕ) (a n t : ℕ) (out : List ℕ) → SaveLaws m a n t out
save_laws m a n t out =
    let f = load_file m a n t in
    let behind = drop (length f) out in
    decide (save_answer m a n t (length out)).number 0
    (λ e.
    let k = (made m a n t (length out) e).1 in
    let o = output_made m a n t out e in
    record {
      long = rw o (omega (arith, length-append f behind, length-drop (length f) out));
      behind = rw (o, (made m a n t (length out) e).0) (drop-append_seam f behind);
    })
    (λ h.
    let o = output_refused m a n t out h in
    record {
      long = rw o;
      behind = rw o;
    })

-- what is stored leaves the memory as long as it was
pub stored-long : (p : Part) (s m : List ℕ) → length (stored_by p s m) ≡ length m
stored-long Gap s m = refl
stored-long (Block a n) s m = length-puts a (data_of s) m
stored-long (End t) s m = refl
stored-long (Refused k) s m = refl

arm_long : (t : Bool) (v m : List ℕ) → length v ≡ length m → length (cond t v m) ≡ length m
arm_long true v m e = e
arm_long false v m e = refl

fill-long : (l k : ℕ) (s m : List ℕ) → length (fill_from l k s m) ≡ length m
unfolding fill_from
fill-long l k [] m = refl
fill-long l (suc k) (b ∷ s) m = fill-long l k s m
fill-long l zero (b ∷ s) m =
    let part = part_of l (b ∷ s) in
    arm_long (goes_on part) _ m (fill-long l (rest_of part) s (stored_by part (b ∷ s) m) ∙ stored-long part (b ∷ s) m)

pub load_laws : (s m : List ℕ) → LoadLaws s m
unfolding load_answer
load_laws s m =
    record {
      refused = memory-refused s m;
      decided = λ h rest. (ahead (limit m) 0 s rest h).0;
      ignored = λ e rest.
          let a = ahead (limit m) 0 s rest (λ h. omega arith) in
          memory-accepted (s ++ rest) m (rw a.0 e) ∙ a.1 m ∙ sym (memory-accepted s m e);
      long = decide (load_answer s m).number 0
          (λ e. rw (memory-accepted s m e) (fill-long (limit m) 0 s m))
          (λ h. rw (memory-refused s m h));
    }

-- an answer by its fields
pub by_fields : (r : Saved) (n c : ℕ) → (r.number ≡ n) × (r.count ≡ c) → r ≡ record { number = n; count = c }
by_fields r n c e =
    ap {B = Saved} (λ x. record { number = x; count = r.count }) e.0 ∙ ap {B = Saved} (λ x. record { number = n; count = x }) e.1
