-- What a sound directory is answered: the first of the three tests that holds gives the number, as in the meaning, where they follow the fault.
-- Where none holds there is room for the moves and for the entries of each segment.
use Prim.Native.Nat.{ℕ, zero, suc, ◌*◌, ◌≤◌, ◌<◌}
use mathlib.Core.Path.{◌≡◌, refl, sym, ap, ◌∙◌}
use mathlib.Core.Bool.{Bool, true, false}
use mathlib.Core.List.{List, [], ◌∷◌, ◌++◌}
use native.Mathlib.Omega.{arith}
use lib.ListN.{length, drop, length-append}
use lib.Dec.{ltb}
use borrow.Author.Tests.{lt-ltb, le-ltb, ltb-false}
use Rattle.meaning.specs.Words.{capacity}
use Rattle.meaning.specs.Sound.{rule, fault}
use Rattle.squeezed.specs.Moves.{Move}
use Rattle.squeezed.specs.Squeeze.{moves, new_parts, squeezed, has_tentative, overfull, too_short, squeeze_number, move_words, squeeze_by, squeeze}
use Rattle.squeeze.specs.declared.Report.{Report}
use Rattle.squeeze.specs.declared.Refusal.{Refusal}
use Rattle.squeeze.specs.declared.Refusal.TheVariants.{Tentative, ShortList, Overfull}
use Rattle.squeeze.specs.Reports.{Reports, number_of, report_of, judged}

-- the three tests, as code makes them
module _ (v : ℕ) (d : List ℕ) (room : ℕ) where
  pub is_open_lem : has_tentative d ≡ true → record { number = 21; count = 0 } ≡ judged v d room
  unfolding judged
  is_open_lem h = rw h refl

  module _ (calm : has_tentative d ≡ false) {n : ℕ} (count : n ≡ length (moves d)) where
    pub is-short : room < 3 * n → record { number = 24; count = 0 } ≡ judged v d room
    unfolding judged
    is-short h = rw (calm, ← count, lt-ltb room (3 * n) h) refl

    module _ (long : 3 * n ≤ room) {x : Bool} (over : x ≡ overfull (capacity d) (new_parts v d)) where
      pub is-over : x ≡ true → record { number = 26; count = 0 } ≡ judged v d room
      unfolding judged
      is-over h = rw (calm, ← count, le-ltb room (3 * n) long, ← over, h) refl

      pub is_right : x ≡ false → record { number = 0; count = n } ≡ judged v d room
      unfolding judged
      is_right h = rw (calm, ← count, le-ltb room (3 * n) long, ← over, h) refl

-- no refusal has the number 0
pub refusing : (r : Refusal) → number_of r ≡ 0 → ⊥
refusing Tentative e = absurd (omega arith)
refusing ShortList e = absurd (omega arith)
refusing Overfull e = absurd (omega arith)

-- three words for each move
words-length : (ms : List Move) → length (move_words ms) ≡ 3 * length ms
unfolding move_words
words-length [] = refl
words-length (m ∷ ms) = let i = words-length ms in omega arith

-- what the rules after the fault give
abbrev three : Bool → Bool → Bool → ℕ
three a b c = rule 21 a λ _. rule 24 b λ _. rule 26 c λ _. 0

none : (a b c : Bool) → three a b c ≡ 0 → (b ≡ false) × (c ≡ false)
none true b c h = absurd (omega arith)
none false true c h = absurd (omega arith)
none false false true h = absurd (omega arith)
none false false false h = (refl, refl)

reported : (n count : ℕ) → (report_of n count).number ≡ n
reported zero count = refl
reported (suc n) count = refl

-- a fault is answered by its number
pub faulty : (v n : ℕ) (d list : List ℕ) → n ≡ fault v d → (n ≡ 0 → ⊥) → Reports (record { number = n; count = 0 }) d list (squeeze v d list)
unfolding squeeze squeeze_number
faulty v zero d list e ne = absurd (ne refl)
faulty v (suc n) d list e ne = rw (← e) (record { number = refl; count = refl; after = refl; listed = refl })

module _ (v : ℕ) (d list : List ℕ) (sound : fault v d ≡ 0) where
  abbrev number : ℕ
  number = three (has_tentative d) (ltb (length list) (3 * length (moves d))) (overfull (capacity d) (new_parts v d))

  number_is : squeeze_number v d list ≡ number
  unfolding squeeze_number too_short
  number_is = rw sound refl

  refused_by : (n : ℕ) → (n ≡ 0 → ⊥) → Reports (report_of n (length (moves d))) d list (squeeze_by n v d list)
  refused_by zero ne = absurd (ne refl)
  refused_by (suc n) ne = record { number = refl; count = refl; after = refl; listed = refl }

  -- the report r of a refusal; of what is not refused
  module _ {r : Report} (is : r ≡ judged v d (length list)) where
    number_told : r.number ≡ number
    unfolding judged
    number_told = ap (λ (x : Report). x.number) is ∙ reported number (length (moves d))

    pub refused : (r.number ≡ 0 → ⊥) → Reports r d list (squeeze v d list)
    unfolding squeeze judged
    refused ne = rw (is, number_is) (refused_by number (λ e. ne (number_told ∙ e)))

    module _ (none-holds : r.number ≡ 0) where
      zero_is : number ≡ 0
      zero_is = sym number_told ∙ none-holds

      none_is : (ltb (length list) (3 * length (moves d)) ≡ false) × (overfull (capacity d) (new_parts v d) ≡ false)
      none_is =
          none (has_tentative d) (ltb (length list) (3 * length (moves d))) (overfull (capacity d) (new_parts v d)) zero_is

      pub list-room : length (move_words (moves d)) ≤ length list
      list-room = omega (arith, words-length (moves d), ltb-false (length list) (3 * length (moves d)) none_is.0)

      pub segments-room : overfull (capacity d) (new_parts v d) ≡ false
      segments-room = none_is.1

      pub carried-out : {words after : List ℕ} → words ≡ squeezed v d
          → after ≡ move_words (moves d) ++ drop (length (move_words (moves d))) list
          → Reports r words after (squeeze v d list)
      unfolding squeeze judged
      carried-out {words} {after} w l =
          rw (is, number_is, zero_is)
          (record { number = refl; count = refl; after = w; listed = l ∙ (rw (words-length (moves d)) refl) })

-- the moves that a report counts stand in the list
by_count : (n v : ℕ) (d list : List ℕ) → 3 * (squeeze_by n v d list).count ≤ length (squeeze_by n v d list).list
by_count zero v d list =
    let ms = moves d in
    omega (arith, words-length ms, length-append (move_words ms) (drop (3 * length ms) list))
by_count (suc n) v d list = omega arith
