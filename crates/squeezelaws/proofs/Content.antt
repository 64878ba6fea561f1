-- Content intact. The places of all files are packed moves of a volume of V blocks, so done in list order they bring every file's blocks to its new
-- place; and that place is where the new directory says. FILE.BAD is among them, with a move that changes nothing.
use Prim.Native.Nat.{ℕ, zero, suc}
use mathlib.Core.Path.{◌≡◌, refl, sym, ◌∙◌}
use mathlib.Core.Bool.{Bool, true, false}
use mathlib.Core.List.{List, [], ◌∷◌}
use native.Mathlib.Omega.{arith}
use lib.ListN.{length}
use Rattle.meaning.specs.Words.{first_data, capacity, chain, rows_of, rows, all_entries}
use Rattle.meaning.specs.Sound.{rule, fault}
use Rattle.walks.specs.Lists.{All}
use Rattle.rules.proofs.Soundness.{Sound, sound, data_blocks}
use Rattle.laws.proofs.Way.{all-spread}
use Rattle.squeezed.specs.Moves.{Move, applied}
use Rattle.squeezed.specs.Intact.{Packed, Intact, Kept}
use Rattle.squeezed.specs.Squeeze.{places, moves, new_parts, squeezed, has_tentative, overfull, too_short, after_fault, squeeze_number, squeeze_by, squeeze}
use Rattle.squeezed.proofs.Intact.{applied_beside, below_packed, needed-same, packed-kept}
use Rattle.squeezelaws.specs.Laws.{files, Pairs, FileKept, ContentKept, HeadKept}
use Rattle.squeezelaws.proofs.Packing.{places-packed}
use Rattle.squeezelaws.proofs.NewWay.{along, chain-kept, extra-kept}
use Rattle.squeezelaws.proofs.Pairing.{Moved, pair_chain}

-- a squeeze that is carried out
pub record Done (v : ℕ) (d : List ℕ) : Type 0 where
  pub sound : Sound v d
  pub calm : has_tentative d ≡ false
  pub room : overfull (capacity d) (new_parts v d) ≡ false

by_done : (v : ℕ) (d : List ℕ) (n : ℕ) (a b c : Bool) → fault v d ≡ n → has_tentative d ≡ a → overfull (capacity d) (new_parts v d) ≡ c
    → (after_fault n λ _. rule 21 a λ _. rule 24 b λ _. rule 26 c λ _. 0) ≡ 0 → Done v d
by_done v d (suc n) a b c f g h e = absurd (omega arith)
by_done v d zero true b c f g h e = absurd (omega arith)
by_done v d zero false true c f g h e = absurd (omega arith)
by_done v d zero false false true f g h e = absurd (omega arith)
by_done v d zero false false false f g h e = record { sound = sound v d f; calm = g; room = h }

by_number : (n v : ℕ) (d room : List ℕ) → (squeeze_by n v d room).number ≡ n
by_number zero v d room = refl
by_number (suc n) v d room = refl

number_is : (v : ℕ) (d room : List ℕ) → (squeeze v d room).number ≡ squeeze_number v d room
unfolding squeeze
number_is v d room = by_number (squeeze_number v d room) v d room

pub done : (v : ℕ) (d room : List ℕ) → (squeeze v d room).number ≡ 0 → Done v d
unfolding squeeze_number
done v d room h =
    by_done v d (fault v d) (has_tentative d) (too_short (moves d) room) (overfull (capacity d) (new_parts v d)) refl refl refl
    (sym (number_is v d room) ∙ h)

by_words : (n v : ℕ) (d room : List ℕ) → n ≡ 0 → (squeeze_by n v d room).words ≡ squeezed v d
by_words zero v d room h = refl
by_words (suc n) v d room h = absurd (omega arith)

pub words_are : (v : ℕ) (d room : List ℕ) → (squeeze v d room).number ≡ 0 → (squeeze v d room).words ≡ squeezed v d
unfolding squeeze
words_are v d room h = by_words (squeeze_number v d room) v d room (sym (number_is v d room) ∙ h)

pairs_map : {A : Type 0} (R S : A → A → Type 0) → ((x y : A) → R x y → S x y) → (xs ys : List A) → Pairs R xs ys → Pairs S xs ys
pairs_map R S f [] [] a = tt
pairs_map R S f [] (y ∷ ys) a = absurd a
pairs_map R S f (x ∷ xs) [] a = absurd a
pairs_map R S f (x ∷ xs) (y ∷ ys) a = (f x y a.0, pairs_map R S f xs ys a.1)

-- the places of all files
abbrev all_places : List ℕ → List Move
all_places d = places (first_data d) (first_data d) (all_entries d)

all-packed : (v : ℕ) (d : List ℕ) → Sound v d → Packed v (first_data d) (first_data d) (all_places d)
all-packed v d sd =
    places-packed v (all_entries d) (first_data d) (first_data d) (omega arith) (omega (arith, data_blocks v d sd))

module _ {A : Type 0} (blank : A) (v : ℕ) (d : List ℕ) (x : Done v d) (vol : List A) (whole : length vol ≡ v) where
  abbrev after : List A
  after = applied blank (moves d) vol

  moved : Kept blank (all_places d) vol
  moved = packed-kept blank (all_places d) vol (first_data d) (first_data d) (rw whole (all-packed v d x.sound))

  content : All (Intact blank vol after) (all_places d)
  unfolding moves
  content = moved.content

  same-files : Pairs (FileKept vol (applied blank (moves d) vol)) (files (rows d)) (files (rows (squeezed v d)))
  unfolding rows
  same-files =
      rw (chain-kept v d x.sound x.room)
      (pairs_map (Moved (Intact blank vol after)) (FileKept vol after)
      (λ r s m. record { seg = m.seg; words = m.words; down = m.down; fixed = m.fixed; content = m.holds })
      (files (rows_of d (chain d))) (files (rows_of (squeezed v d) (chain d)))
      (pair_chain v d (squeezed v d) (extra-kept v d x.sound x.room) (Intact blank vol after) (chain d) (first_data d) (first_data d)
      (along v d x.sound x.room)
      (rw (all-spread d) at content)))

pub content-kept : {A : Type 0} (blank : A) (v : ℕ) (d room : List ℕ) (vol : List A) → ContentKept blank v d room vol
content-kept blank v d room vol whole h = rw (words_are v d room h) (same-files blank v d (done v d room h) vol whole)

pub head-kept : {A : Type 0} (blank : A) (v : ℕ) (d : List ℕ) (vol : List A) → HeadKept blank v d vol
unfolding moves
head-kept blank v d vol h i l =
    let ms = all_places d in
    let beside = below_packed blank v (first_data d) (first_data d) ms (all-packed v d (sound v d h)) i l in
    rw (needed-same blank ms vol) (applied_beside blank ms vol i beside)
