-- The laws of Laws in specs/. A text put into a block stands at its place, and every byte outside is as it was; so of three texts at places
-- apart each stands there when all are put. A text put where it stands already changes nothing. Assumes nothing.
use Prim.Native.Nat.{ℕ, ◌+◌, ◌-◌, ◌≤◌, ◌<◌}
use mathlib.Core.Path.{◌≡◌, refl, sym, ap, ◌∙◌}
use mathlib.Core.Bool.{Bool, true, false, cond, false≢true}
use mathlib.Core.Logic.{◌⊎◌, inl, inr}
use mathlib.Core.List.{List, ◌++◌, append_assoc}
use native.Mathlib.Omega.{arith}
use lib.ListN.{length, get_or, take, drop, length-append, length-take, length-drop, take-append-drop, get_or-append}
use lib.Seq.{length-take-le, take_at, drop_at, take-add, get_or-take, get_or-drop, get_or-append-add, ext_get_or}
use lib.Dec.{eqb}
use borrow.Author.Tests.{eq-eqb, eqb-true}
use Rattle.bools.proofs.Bools.{both}
use Rattle.names.specs.Text.{bytes}
use Rattle.names.proofs.Same.{same_self, same_equal}
use Rattle.label.specs.Labels.{name_place, owner_place, mark_place, system_mark, twelve_at, is_block, is_marked, is_label}
use Rattle.label.specs.Labels.{without_label, with_label, marked_label, label_of, put_at, labelled_with, is_writable, write_number, written}
use Rattle.label.specs.Laws.{WriterLaws, ReaderLaws}

-- one text
module _ (block text : List ℕ) (k : ℕ) (h : k + length text ≤ length block) where
  front_long : length (take k block ++ text) ≡ k + length text
  front_long = length-append (take k block) text ∙ rw (length-take-le k block (omega arith))

  pub put-long : length (put_at k text block) ≡ length block
  unfolding put_at
  put-long =
      length-append (take k block ++ text) (drop (k + length text) block)
      ∙ omega (arith, front_long, length-drop (k + length text) block)

  put-before : (i : ℕ) → i < k → get_or (put_at k text block) i 0 ≡ get_or block i 0
  unfolding put_at
  put-before i g =
      let front = take k block ++ text in
      get_or-append front (drop (k + length text) block) 0 i (omega (arith, front_long))
      ∙ get_or-append (take k block) text 0 i (omega (arith, length-take-le k block (omega arith)))
      ∙ get_or-take k block i 0 g

  put-after : (i : ℕ) → k + length text ≤ i → get_or (put_at k text block) i 0 ≡ get_or block i 0
  unfolding put_at
  put-after i g =
      let front = take k block ++ text in
      let n : ℕ = k + length text in
      let e : i ≡ n + (i - n) = omega arith in
      let f : i ≡ length front + (i - n) = omega (arith, front_long) in
      ap (λ (j : ℕ). get_or (front ++ drop n block) j 0) f
      ∙ get_or-append-add front (drop n block) (i - n) 0
      ∙ get_or-drop n block (i - n) 0
      ∙ ap (λ (j : ℕ). get_or block j 0) (sym e)

  pub put_other : (i : ℕ) → (i < k) ⊎ (k + length text ≤ i) → get_or (put_at k text block) i 0 ≡ get_or block i 0
  put_other i (inl g) = put-before i g
  put_other i (inr g) = put-after i g

  -- twelve bytes beside it
  pub put_beside : (j : ℕ) → (j + 12 ≤ k) ⊎ (k + length text ≤ j) → twelve_at j (put_at k text block) ≡ twelve_at j block
  unfolding twelve_at
  put_beside j g =
      let new = drop j (put_at k text block) in
      let old = drop j block in
      let same : length new ≡ length old = length-drop j (put_at k text block) ∙ rw put-long (sym (length-drop j block)) in
      let long : length (take 12 new) ≡ length (take 12 old) = length-take 12 new ∙ rw same (sym (length-take 12 old)) in
      ext_get_or 0 (take 12 new) (take 12 old) long λ i h.
      let few : i < 12 = omega (arith, length-take 12 new) in
      get_or-take 12 new i 0 few
      ∙ get_or-drop j (put_at k text block) i 0
      ∙ put_other (j + i) (beside j i few g)
      ∙ sym (get_or-take 12 old i 0 few ∙ get_or-drop j block i 0)
    where
      beside : (j i : ℕ) → i < 12 → (j + 12 ≤ k) ⊎ (k + length text ≤ j) → (j + i < k) ⊎ (k + length text ≤ j + i)
      beside j i f (inl g) = inl (omega arith)
      beside j i f (inr g) = inr (omega arith)

  -- and those that it is itself
  pub put-there : length text ≡ 12 → twelve_at k (put_at k text block) ≡ text
  unfolding twelve_at put_at
  put-there e =
      let rest = drop (k + length text) block in
      ap (take 12) (ap (drop k) (append_assoc (take k block) text rest) ∙ drop_at (take k block) (text ++ rest) k (length-take-le k block (omega arith)))
      ∙ take_at text rest 12 e

-- a text put where it stands
pub put_same : (block : List ℕ) {text : List ℕ} (k : ℕ) → k + 12 ≤ length block → twelve_at k block ≡ text → put_at k text block ≡ block
unfolding twelve_at put_at
put_same block {text} k h e =
    let n : length text ≡ 12 = rw (← e) (length-take-le 12 (drop k block) (omega (arith, length-drop k block))) in
    rw (n, ← e, ← take-add k 12 block) (take-append-drop (k + 12) block)

-- the three texts of a label
system_mark-long : length system_mark ≡ 12
unfolding system_mark bytes
system_mark-long = refl

module _ (block name owner : List ℕ) (b : length block ≡ 512) (n : length name ≡ 12) (o : length owner ≡ 12) where
  abbrev named : List ℕ
  named = put_at name_place name block

  abbrev owned : List ℕ
  owned = put_at owner_place owner named

  named-long : length named ≡ 512
  named-long = put-long block name name_place (omega arith) ∙ b

  owned_long : length owned ≡ 512
  owned_long = put-long named owner owner_place (omega (arith, named-long)) ∙ named-long

  mark-fits : mark_place + length system_mark ≤ length owned
  mark-fits = omega (arith, owned_long, system_mark-long)

  pub all-long : length (labelled_with name owner block) ≡ 512
  unfolding labelled_with
  all-long = put-long owned system_mark mark_place mark-fits ∙ owned_long

  pub all_others : (i : ℕ) → (i < name_place) ⊎ (mark_place + 12 ≤ i) → get_or (labelled_with name owner block) i 0 ≡ get_or block i 0
  unfolding labelled_with
  all_others i g =
      put_other owned system_mark mark_place mark-fits i (outside mark_place (length system_mark) (omega arith) (omega (arith, system_mark-long)) g)
      ∙ put_other named owner owner_place (omega (arith, named-long)) i (outside owner_place (length owner) (omega arith) (omega arith) g)
      ∙ put_other block name name_place (omega arith) i (outside name_place (length name) (omega arith) (omega arith) g)
    where
      outside : (k m : ℕ) → name_place ≤ k → k + m ≤ mark_place + 12 → (i < name_place) ⊎ (mark_place + 12 ≤ i) → (i < k) ⊎ (k + m ≤ i)
      outside k m p q (inl g) = inl (omega arith)
      outside k m p q (inr g) = inr (omega arith)

  pub name-there : twelve_at name_place (labelled_with name owner block) ≡ name
  unfolding labelled_with
  name-there =
      put_beside owned system_mark mark_place mark-fits name_place (inl (omega arith))
      ∙ put_beside named owner owner_place (omega (arith, named-long)) name_place (inl (omega arith))
      ∙ put-there block name name_place (omega arith) n

  pub owner_there : twelve_at owner_place (labelled_with name owner block) ≡ owner
  unfolding labelled_with
  owner_there =
      put_beside owned system_mark mark_place mark-fits owner_place (inl (omega arith))
      ∙ put-there named owner owner_place (omega (arith, named-long)) o

  pub mark-there : twelve_at mark_place (labelled_with name owner block) ≡ system_mark
  unfolding labelled_with
  mark-there = put-there owned system_mark mark_place mark-fits system_mark-long

-- a block that has the label and the mark already
pub labelled_same : (block name owner : List ℕ) → length block ≡ 512
    → twelve_at name_place block ≡ name → twelve_at owner_place block ≡ owner → twelve_at mark_place block ≡ system_mark
    → labelled_with name owner block ≡ block
unfolding labelled_with
labelled_same block name owner b n o m =
    rw (put_same block name_place (omega arith) n, put_same block owner_place (omega arith) o, put_same block mark_place (omega arith) m)

-- the tests of what can be written
pub record Writable (block name owner : List ℕ) : Type 0 where
  pub whole : length block ≡ 512
  pub label : is_label name owner ≡ true

writable_parts : (block name owner : List ℕ) → is_writable block name owner ≡ true → Writable block name owner
unfolding is_writable is_block
writable_parts block name owner h =
    let p = both (eqb (length block) 512) (is_label name owner) h in
    record { whole = eqb-true (length block) 512 p.0; label = p.1 }

writable_whole : (block name owner : List ℕ) → Writable block name owner → is_writable block name owner ≡ true
unfolding is_writable is_block
writable_whole block name owner w = rw (eq-eqb (length block) 512 w.whole) w.label

marked-label : (block : List ℕ) → length block ≡ 512 → twelve_at mark_place block ≡ system_mark
    → label_of block ≡ marked_label (twelve_at name_place block) (twelve_at owner_place block)
unfolding label_of is_block is_marked
marked-label block b m = rw (eq-eqb (length block) 512 b, m, same_self system_mark)

module _ (block name owner : List ℕ) (n : length name ≡ 12) (o : length owner ≡ 12) (h : is_writable block name owner ≡ true) where
  abbrev done : List ℕ
  done = labelled_with name owner block

  parts : Writable block name owner
  parts = writable_parts block name owner h

  is-done : written block name owner ≡ done
  unfolding written
  is-done = rw h

  done-long : length done ≡ 512
  done-long = all-long block name owner parts.whole n o

  done-read : label_of done ≡ with_label name owner
  unfolding marked_label
  done-read =
      let b = parts.whole in
      marked-label done done-long (mark-there block name owner b n o)
      ∙ rw (name-there block name owner b n o, owner_there block name owner b n o, parts.label)

  done-again : written done name owner ≡ done
  unfolding written
  done-again =
      let b = parts.whole in
      rw (writable_whole done name owner (record { whole = done-long; label = parts.label }))
      (labelled_same done name owner done-long (name-there block name owner b n o) (owner_there block name owner b n o) (mark-there block name owner b n o))

  done_laws : WriterLaws block name owner
  done_laws = record {
    long = rw is-done (done-long ∙ sym parts.whole);
    others = λ i g. rw is-done (all_others block name owner parts.whole n o i g);
    read = λ _. rw is-done done-read;
    again = rw is-done done-again;
  }

refused_laws : (block name owner : List ℕ) → is_writable block name owner ≡ false → WriterLaws block name owner
unfolding written write_number
refused_laws block name owner h =
    let same : written block name owner ≡ block = rw h in
    record {
      long = rw same;
      others = λ i g. rw same;
      read = λ e. absurd (omega (arith, rw h at e));
      again = rw (same, same);
    }

pub writer_laws : (block name owner : List ℕ) → length name ≡ 12 → length owner ≡ 12 → WriterLaws block name owner
writer_laws block name owner n o =
    (elim (is_writable block name owner) as (λ t. is_writable block name owner ≡ t → WriterLaws block name owner) [
      | true ↦ λ e. done_laws block name owner n o e
      | false ↦ λ e. refused_laws block name owner e
    ])
    refl

-- a block whose label is given has passed the three tests
given_by : (whole marked good : Bool) (name owner : List ℕ)
    → (cond whole (cond marked (cond good (with_label name owner) (without_label 25)) (without_label 0)) (without_label 25)).labelled ≡ true
    → (whole ≡ true) × (marked ≡ true) × (good ≡ true)
unfolding without_label
given_by true true true name owner h = (refl, refl, refl)
given_by true true false name owner h = absurd (false≢true h)
given_by true false good name owner h = absurd (false≢true h)
given_by false marked good name owner h = absurd (false≢true h)

pub reader_laws : (block : List ℕ) → ReaderLaws block
unfolding label_of marked_label is_block is_marked with_label written
reader_laws block = record {
  back = λ h.
      let name = twelve_at name_place block in
      let owner = twelve_at owner_place block in
      let p = given_by (is_block block) (is_marked block) (is_label name owner) name owner h in
      let b = eqb-true (length block) 512 p.0 in
      let m = same_equal (twelve_at mark_place block) system_mark p.1 in
      let w = writable_whole block name owner (record { whole = b; label = p.2 }) in
      rw (p.0, p.1, p.2, w) (labelled_same block name owner b refl refl m);
}
