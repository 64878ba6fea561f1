-- Laws of a block's bytes. A string of label bytes is tried byte by byte, so name and owner are tried as one string. A copy into a part as
-- long as what is copied is that string in the part's place. Assumes nothing.
use Prim.Native.Nat.{ℕ, ◌+◌, ◌-◌, ◌≤◌}
use mathlib.Core.Path.{◌≡◌, refl, sym, ap, ◌∙◌}
use mathlib.Core.Bool.{Bool, true, false, ◌&&◌}
use mathlib.Core.List.{List, [], ◌∷◌, ◌++◌, append_assoc}
use native.Mathlib.Omega.{arith}
use lib.ListN.{length, take, drop}
use lib.Seq.{drop-drop, take-add}
use Rattle.std.specs.List.{list_all}
use borrow.Author.Tests.{eq-eqb, ne_eqb}
use borrow.Rule.Slice.PartMut.{put_mid, post_of, Post-is}
use Rattle.label.specs.Labels.{name_place, owner_place, twelve_at, is_block, is_marked, is_label_byte, are_label_bytes, is_label}
use Rattle.label.specs.Labels.{without_label, with_label, marked_label, label_of, put_at}

-- the definition is the test that a chain makes of each byte
pub label_bytes_all : (l : List ℕ) → list_all is_label_byte l ≡ are_label_bytes l
unfolding are_label_bytes
label_bytes_all [] = refl
label_bytes_all (b ∷ l) = rw (label_bytes_all l)

and_assoc : (a b c : Bool) → a && (b && c) ≡ a && b && c
and_assoc true b c = refl
and_assoc false b c = refl

both_bytes : (x y : List ℕ) → are_label_bytes (x ++ y) ≡ are_label_bytes x && are_label_bytes y
unfolding are_label_bytes
both_bytes [] y = refl
both_bytes (b ∷ x) y = rw (both_bytes x y) (and_assoc (is_label_byte b) (are_label_bytes x) (are_label_bytes y))

-- twenty-four bytes are a name and an owner
pub both_twelve : (block : List ℕ) (k : ℕ) → are_label_bytes (take 24 (drop k block)) ≡ is_label (twelve_at k block) (twelve_at (k + 12) block)
unfolding is_label twelve_at
both_twelve block k =
    ap are_label_bytes (take-add 12 12 (drop k block) ∙ rw (drop-drop 12 k block))
    ∙ both_bytes (take 12 (drop k block)) (take 12 (drop (k + 12) block))

-- twelve bytes of a block, copied over others
pub copied-out : (block : List ℕ) {r : List ℕ} (k : ℕ) → k + 12 ≤ length block → r ≡ take (k + 12 - k) (drop k block)
    → r ≡ twelve_at k block
unfolding twelve_at
copied-out block k h e = let n : k + 12 - k ≡ 12 = omega arith in rw n at e

-- a text copied into a part of a block that is as long
pub copied_in : (block text : List ℕ) {part : List ℕ} (k n : ℕ) → k + n ≤ length block → length text ≡ n
    → part ≡ text → put_mid k n block part ≡ put_at k text block
unfolding put_at
copied_in block text k n h l e =
    let d : k + n - k ≡ n = omega arith in
    let after : post_of k n block ≡ drop (k + n) block = rw d at (Post-is k (k + n) block (omega arith)) in
    rw (after, e, l) (sym (append_assoc (take k block) text (drop (k + n) block)))

-- the reader's four ways
pub no_block : (block : List ℕ) → (length block ≡ 512 → ⊥) → label_of block ≡ without_label 25
unfolding label_of is_block
no_block block h = rw (ne_eqb (length block) 512 h)

module _ (block : List ℕ) (h : length block ≡ 512) where
  marked_as : is_marked block ≡ true → label_of block ≡ marked_label (twelve_at name_place block) (twelve_at owner_place block)
  unfolding label_of is_block
  marked_as m = rw (eq-eqb (length block) 512 h, m)

  pub no-mark : is_marked block ≡ false → label_of block ≡ without_label 0
  unfolding label_of is_block
  no-mark m = rw (eq-eqb (length block) 512 h, m)

  pub bad-label : is_marked block ≡ true → are_label_bytes (take 24 (drop name_place block)) ≡ false → label_of block ≡ without_label 25
  unfolding marked_label
  bad-label m a = marked_as m ∙ rw (sym (both_twelve block name_place) ∙ a)

  pub good-label : is_marked block ≡ true → are_label_bytes (take 24 (drop name_place block)) ≡ true
      → label_of block ≡ with_label (twelve_at name_place block) (twelve_at owner_place block)
  unfolding marked_label
  good-label m a = marked_as m ∙ rw (sym (both_twelve block name_place) ∙ a)
