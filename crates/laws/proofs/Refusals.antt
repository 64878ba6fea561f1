-- Demand 1. A refusal is settled if its number is listed, a success always; and each line of a request, a test with its number, keeps
-- that, whatever comes next. So each request is settled line by line. Assumes nothing.
use Prim.Native.Nat.{ℕ, zero, suc}
use native.Mathlib.Omega.{arith}
use mathlib.Core.Path.{◌≡◌, refl, sym, ◌∙◌}
use mathlib.Core.Bool.{Bool, true, false, ◌&&◌, ◌||◌, not, false≢true}
use mathlib.Core.Logic.{◌⊎◌, inl, inr, ⊎_elim}
use mathlib.Core.List.{List, [], ◌∷◌, ◌++◌, map}
use mathlib.Core.Option.{Option, none, some}
use lib.IntN.{ℤ}
use lib.Dec.{eqb, leb}
use borrow.Author.Tests.{eqb-true, eq-eqb}
use Rattle.dates.specs.Dates.{good_date}
use Rattle.bools.proofs.Bools.{either, neither}
use Rattle.meaning.specs.declared.Op.{Op}
use Rattle.meaning.specs.declared.Op.TheVariants.{Lookup, Enter, Close, Abandon, Delete, Rename, Protect, Unprotect}
use Rattle.meaning.specs.declared.Request.{Request}
use Rattle.meaning.specs.declared.Name.{Name}
use Rattle.meaning.specs.declared.Position.{Position}
use Rattle.meaning.specs.Kinds.{tentative_status}
use Rattle.meaning.specs.Words.{Row, Entry, name_of, protected, blocks, slot_words, chain}
use Rattle.meaning.specs.Keys.{spared}
use Rattle.meaning.specs.Sound.{bad1, bad2, bad3, bad4, bad5, bad6, rule, fault}
use Rattle.meaning.specs.Answers.{Outcome, refuse, success, passed, if_sound, unless, on_row, is_none, file_of, open_on}
use Rattle.meaning.specs.Requests.{legal, success_with, lookup, delete, restate, protect, unprotect, good_channel, word_of, abandon}
use Rattle.meaning.specs.Requests.{rename, over_protected, final_length, closed, close, entry_of, fresh}
use Rattle.meaning.specs.Enter.{Area, good_size, size_of, tidied, areas, eligibles, wanted, at_least, long_enough, first_fit, placed, enter}
use Rattle.meaning.specs.Batch.{serve_by, serve}
use Rattle.laws.specs.Refusals.{faults, asked, Among, Settled, Demand1}

-- a number is listed where a test of the whole list says so
abbrev pub is_among : ℕ → List ℕ → Bool
is_among n [] = false
is_among n (m ∷ ms) = eqb n m || is_among n ms

pub among : (n : ℕ) (ms : List ℕ) → is_among n ms ≡ true → Among n ms
among n [] h = absurd (false≢true h)
among n (m ∷ ms) h = ⊎_elim (λ e. inl (eqb-true n m e)) (λ r. inr (among n ms r)) (either (eqb n m) (is_among n ms) h)

-- and no listed number is one that the test does not find
pub not_among : (n m : ℕ) (ms : List ℕ) → is_among n ms ≡ false → Among m ms → m ≡ n → ⊥
not_among n m [] h a e = a
not_among n m (l ∷ ms) h (inl g) e = false≢true (sym (neither (eqb n l) (is_among n ms) h).0 ∙ eq-eqb n l (sym e ∙ g))
not_among n m (l ∷ ms) h (inr a) e = not_among n m ms (neither (eqb n l) (is_among n ms) h).1 a e

-- what is listed first is listed
among_first : (n : ℕ) (ms ns : List ℕ) → Among n ms → Among n (ms ++ ns)
among_first n [] ns h = absurd h
among_first n (m ∷ ms) ns h = ⊎_elim inl (λ r. inr (among_first n ms ns r)) h

module _ (ns : List ℕ) (d : List ℕ) where
  refuse-settled : (n : ℕ) → Among n ns → Settled ns d (refuse n d)
  unfolding refuse
  refuse-settled n h =
      record { number = inr h; refused = λ x. record { answer = refl; words = refl } }

  success_settled : (first length date : ℕ) (p : Position) (after : List ℕ) → Settled ns d (success first length date p after)
  unfolding success
  success_settled first length date p after = record { number = inl refl; refused = λ x. absurd (x refl) }

  unless_settled : (n : ℕ) (t : Bool) (next : Unit {0} → Outcome) → Among n ns → Settled ns d (next tt) → Settled ns d (unless n t d next)
  unless_settled n true next h s = s
  unless_settled n false next h s = refuse-settled n h

  row_settled : (n : ℕ) (r : Option Row) (next : Row → Outcome) → Among n ns → ((x : Row) → Settled ns d (next x))
      → Settled ns d (on_row n r d next)
  row_settled n none next h s = refuse-settled n h
  row_settled n (some x) next h s = s x

  passed_settled : (n : ℕ) (next : Unit {0} → Outcome) → (n ≡ 0) ⊎ Among n ns → Settled ns d (next tt) → Settled ns d (passed n d next)
  passed_settled zero next h s = s
  passed_settled (suc n) next h s = refuse-settled (suc n) (⊎_elim (λ e. absurd (omega arith)) (λ a. a) h)

-- a fault's number is 0 or one of 1 to 6
fault_of : (a b c e f g : Bool)
    → let n = rule 1 a λ _. rule 2 b λ _. rule 3 c λ _. rule 4 e λ _. rule 5 f λ _. rule 6 g λ _. 0 in (n ≡ 0) ⊎ Among n faults
fault_of true b c e f g = inr (inl refl)
fault_of false true c e f g = inr (inr (inl refl))
fault_of false false true e f g = inr (inr (inr (inl refl)))
fault_of false false false true f g = inr (inr (inr (inr (inl refl))))
fault_of false false false false true g = inr (inr (inr (inr (inr (inl refl)))))
fault_of false false false false false true = inr (inr (inr (inr (inr (inr (inl refl))))))
fault_of false false false false false false = inl refl

fault-listed : (v : ℕ) (d : List ℕ) → (fault v d ≡ 0) ⊎ Among (fault v d) faults
unfolding fault
fault-listed v d = fault_of (bad1 v d) (bad2 d) (bad3 d) (bad4 d) (bad5 v d) (bad6 d)

-- a request: the faults first, then its own refusals
sound-settled : (v : ℕ) (d ns : List ℕ) (next : Unit {0} → Outcome) → Settled (faults ++ ns) d (next tt)
    → Settled (faults ++ ns) d (if_sound v d next)
sound-settled v d ns next s =
    passed_settled (faults ++ ns) d (fault v d) next
    (⊎_elim inl (λ a. inr (among_first (fault v d) faults ns a)) (fault-listed v d))
    s

module _ (v : ℕ) (d : List ℕ) where
  lookup-settled : (name : Name) → Settled (faults ++ asked Lookup) d (lookup v d name)
  unfolding lookup success_with
  lookup-settled name =
      let ns = faults ++ asked Lookup in
      sound-settled v d (asked Lookup) _
      (unless_settled ns d 7 (legal name) _ (among 7 ns refl)
      (row_settled ns d 13 (file_of d name) _ (among 13 ns refl) (λ r. success_settled ns d _ _ _ _ _)))

  delete-settled : (name : Name) → Settled (faults ++ asked Delete) d (delete v d name)
  unfolding delete success_with
  delete-settled name =
      let ns = faults ++ asked Delete in
      sound-settled v d (asked Delete) _
      (unless_settled ns d 7 (legal name) _ (among 7 ns refl)
      (unless_settled ns d 19 (not (spared name)) _ (among 19 ns refl)
      (row_settled ns d 13 (file_of d name) _ (among 13 ns refl)
      (λ r. unless_settled ns d 20 (not (protected r.entry)) _ (among 20 ns refl) (success_settled ns d _ _ _ _ _)))))

  restate-settled : (name : Name) (status : ℕ) → Settled (faults ++ asked Protect) d (restate v d name status)
  unfolding restate success_with
  restate-settled name status =
      let ns = faults ++ asked Protect in
      sound-settled v d (asked Protect) _
      (unless_settled ns d 7 (legal name) _ (among 7 ns refl)
      (unless_settled ns d 19 (not (spared name)) _ (among 19 ns refl)
      (row_settled ns d 13 (file_of d name) _ (among 13 ns refl) (λ r. success_settled ns d _ _ _ _ _))))

  protect-settled : (name : Name) → Settled (faults ++ asked Protect) d (protect v d name)
  unfolding protect
  protect-settled name = restate-settled name _

  unprotect-settled : (name : Name) → Settled (faults ++ asked Unprotect) d (unprotect v d name)
  unfolding unprotect
  unprotect-settled name = restate-settled name _

  abandon-settled : (job channel : ℕ) → Settled (faults ++ asked Abandon) d (abandon v d job channel)
  unfolding abandon success_with
  abandon-settled job channel =
      let ns = faults ++ asked Abandon in
      sound-settled v d (asked Abandon) _
      (unless_settled ns d 8 (good_channel job channel) _ (among 8 ns refl)
      (row_settled ns d 15 (open_on d (word_of job channel)) _ (among 15 ns refl) (λ r. success_settled ns d _ _ _ _ _)))

  rename-settled : (old new : Name) → Settled (faults ++ asked Rename) d (rename v d old new)
  unfolding rename success_with
  rename-settled old new =
      let ns = faults ++ asked Rename in
      sound-settled v d (asked Rename) _
      (unless_settled ns d 7 (legal old && legal new) _ (among 7 ns refl)
      (unless_settled ns d 19 (not (spared old || spared new)) _ (among 19 ns refl)
      (row_settled ns d 13 (file_of d old) _ (among 13 ns refl)
      (λ r.
      unless_settled ns d 20 (not (protected r.entry)) _ (among 20 ns refl)
      (unless_settled ns d 14 (is_none (file_of d new)) _ (among 14 ns refl) (success_settled ns d _ _ _ _ _))))))

  closed-settled : (r : Row) (n : Option ℕ) → Settled (faults ++ asked Close) d (closed d r n)
  closed-settled r none = let ns = faults ++ asked Close in refuse-settled ns d 16 (among 16 ns refl)
  closed-settled r (some n) =
      let ns = faults ++ asked Close in
      unless_settled ns d 16 (leb n (blocks r.entry)) _ (among 16 ns refl)
      (unless_settled ns d 20 (not (over_protected d (name_of r.entry))) _ (among 20 ns refl) (success_settled ns d _ _ _ _ _))

  close-settled : (job channel : ℕ) (final : ℤ) → Settled (faults ++ asked Close) d (close v d job channel final)
  unfolding close
  close-settled job channel final =
      let ns = faults ++ asked Close in
      sound-settled v d (asked Close) _
      (unless_settled ns d 8 (good_channel job channel) _ (among 8 ns refl)
      (row_settled ns d 15 (open_on d (word_of job channel)) _ (among 15 ns refl) (λ r. closed-settled r (final_length final))))

  placed-settled : (t : List ℕ) (n date : ℕ) (new : Entry) (a : Option Area) → Settled (faults ++ asked Enter) d (placed d t n date new a)
  placed-settled t n date new none = let ns = faults ++ asked Enter in refuse-settled ns d 12 (among 12 ns refl)
  placed-settled t n date new (some a) = success_settled (faults ++ asked Enter) d _ _ _ _ _

  -- enter's own eight refusals, whatever they test
  eight_settled : (a b c e f x g h : Bool) (o : Outcome) → Settled (faults ++ asked Enter) d o
      → Settled (faults ++ asked Enter) d
      (unless 7 a d λ _.
      unless 19 b d λ _.
      unless 8 c d λ _.
      unless 9 e d λ _.
      unless 10 f d λ _.
      unless 20 x d λ _.
      unless 11 g d λ _.
      unless 12 h d λ _.
      o)
  eight_settled a b c e f x g h o s =
      let ns = faults ++ asked Enter in
      unless_settled ns d 7 a _ (among 7 ns refl)
      (unless_settled ns d 19 b _ (among 19 ns refl)
      (unless_settled ns d 8 c _ (among 8 ns refl)
      (unless_settled ns d 9 e _ (among 9 ns refl)
      (unless_settled ns d 10 f _ (among 10 ns refl)
      (unless_settled ns d 20 x _ (among 20 ns refl)
      (unless_settled ns d 11 g _ (among 11 ns refl) (unless_settled ns d 12 h (λ _. o) (among 12 ns refl) s)))))))

  enter-settled : (name : Name) (asked-size : ℤ) (job channel date : ℕ)
      → Settled (faults ++ asked Enter) d (enter v d name asked-size job channel date)
  unfolding enter
  enter-settled name asked-size job channel date =
      let size = size_of asked-size in
      let x = word_of job channel in
      let t = tidied d (chain d) in
      let all = areas t (chain d) in
      let fit = eligibles all in
      let n = wanted size (map (λ r. r.size) fit) in
      let new = entry_of (slot_words d) tentative_status name n x date in
      let o = placed d t n date new (first_fit n fit) in
      sound-settled v d (asked Enter) _
      (eight_settled (legal name) (not (spared name)) (good_channel job channel) (good_size size && good_date date) (is_none (open_on d x))
      (not (over_protected d name))
      (long_enough (at_least size) all)
      (long_enough (at_least size) fit)
      o
      (placed-settled t n date new (first_fit n fit)))

  serve-settled : (op : Op) (q : Request) → Settled (faults ++ asked op) d (serve_by op v d q)
  serve-settled Lookup q = lookup-settled _
  serve-settled Enter q = enter-settled _ _ _ _ _
  serve-settled Close q = close-settled _ _ _
  serve-settled Abandon q = abandon-settled _ _
  serve-settled Delete q = delete-settled _
  serve-settled Rename q = rename-settled _ _
  serve-settled Protect q = protect-settled _
  serve-settled Unprotect q = unprotect-settled _

  start-settled : (extra : ℕ) → Settled (1 ∷ 2 ∷ []) d (fresh v d extra)
  unfolding fresh
  start-settled extra =
      let ns : List ℕ = 1 ∷ 2 ∷ [] in
      unless_settled ns d 1 (not (bad1 v d)) _ (among 1 ns refl)
      (unless_settled ns d 2 (leb extra 16) _ (among 2 ns refl) (success_settled ns d _ _ _ _ _))

  pub demand1 : Demand1 v d
  unfolding serve
  demand1 = record { requests = λ q. serve-settled q.op q; starts = start-settled }
