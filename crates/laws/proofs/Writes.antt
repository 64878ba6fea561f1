-- Writes to words of slots. After them the slot at a place is its old words with the writes to that place made, and no header
-- has changed; and writes to different words may be made in either order.
use Prim.Native.Nat.{ℕ, ◌+◌, ◌*◌, ◌-◌, ◌<◌}
use mathlib.Core.Path.{◌≡◌, refl, sym, ap, ◌∙◌}
use mathlib.Core.Logic.{◌⊎◌, inl, inr, ◌≢◌}
use mathlib.Core.Bool.{Bool, true, false, cond}
use mathlib.Core.List.{List, [], ◌∷◌, ◌++◌}
use native.Mathlib.Omega.{arith}
use lib.ListN.{length, get_or, drop, set, length-set}
use lib.Seq.{take-set-le, take-set-lt, drop-set-lt, drop-set-add, get_or-set_other, set_comm}
use lib.Dec.{eqb}
use borrow.Author.Tests.{eq-eqb, ne_eqb}
use Rattle.meaning.specs.Words.{Entry}
use Rattle.meaning.specs.Answers.{Write, write}
use Rattle.walks.specs.Lists.{All}
use Rattle.rules.proofs.Grid.{entry_at, OnGrid, tri, SlotsApart, far}

-- one word set: of the slot that it stands in, and of any other
at_same : (d : List ℕ) (w p k x : ℕ) → k < w → entry_at (set d (p + k) x) w p ≡ set (entry_at d w p) k x
unfolding entry_at
at_same d w p k x h = rw drop-set-add (take-set-lt w (drop p d) k x h)

at_other : (d : List ℕ) (w p q k x : ℕ) → k < w → SlotsApart w q p → entry_at (set d (q + k) x) w p ≡ entry_at d w p
unfolding entry_at
at_other d w p q k x l (inl h) = rw (drop-set-lt p d (q + k) x (omega arith))
at_other d w p q k x l (inr h) =
    let i : ℕ = q + k - p in
    let e : q + k ≡ p + i = omega arith in
    rw (e, drop-set-add) (take-set-le w (drop p d) i x (omega arith))

-- a write to a word of a slot
pub record Fit (w : ℕ) (x : Write) : Type 0 where
  pub on : OnGrid w x.place
  pub within : x.word < w

-- what writes make of the entry at p
unfoldable pub edit : ℕ → Entry → List Write → Entry
edit p e [] = e
edit p e (x ∷ ws) = edit p (cond (eqb x.place p) (set e x.word x.value) e) ws

edit-one : (p : ℕ) (e : Entry) (x : Write) (ws : List Write) (t : Bool) → eqb x.place p ≡ t
    → edit p e (x ∷ ws) ≡ edit p (cond t (set e x.word x.value) e) ws
unfolding edit
edit-one p e x ws t h = ap (λ (z : Bool). edit p (cond z (set e x.word x.value) e) ws) h

-- writes that are all to the entry at p, or none of them
abbrev pub sets : Entry → List Write → Entry
sets e [] = e
sets e (x ∷ ws) = sets (set e x.word x.value) ws

abbrev pub To : ℕ → Write → Type 0
To p x = x.place ≡ p

pub edit-to : (p : ℕ) (e : Entry) (ws : List Write) → All (To p) ws → edit p e ws ≡ sets e ws
unfolding edit
edit-to p e [] a = refl
edit-to p e (x ∷ ws) a =
    edit-one p e x ws true (eq-eqb x.place p a.0) ∙ edit-to p (set e x.word x.value) ws a.1

pub edit_away : (p q : ℕ) (e : Entry) (ws : List Write) → All (To q) ws → (q ≡ p → ⊥) → edit p e ws ≡ e
unfolding edit
edit_away p q e [] a n = refl
edit_away p q e (x ∷ ws) a n =
    edit-one p e x ws false (ne_eqb x.place p (λ h. n (sym a.0 ∙ h))) ∙ edit_away p q e ws a.1 n

pub edit-append : (p : ℕ) (e : Entry) (us ws : List Write) → edit p e (us ++ ws) ≡ edit p (edit p e us) ws
unfolding edit
edit-append p e [] ws = refl
edit-append p e (x ∷ us) ws = edit-append p (cond (eqb x.place p) (set e x.word x.value) e) us ws

at_one : (d : List ℕ) (w p : ℕ) (x : Write) → Fit w x → OnGrid w p
    → entry_at (set d (x.place + x.word) x.value) w p
    ≡ cond (eqb x.place p) (set (entry_at d w p) x.word x.value) (entry_at d w p)
at_one d w p x f o = go (far w x.place p f.on o)
  where
    differ : SlotsApart w x.place p → x.place ≡ p → ⊥
    differ (inl h) e = let l = f.within in omega arith
    differ (inr h) e = let l = f.within in omega arith

    go : (x.place ≡ p) ⊎ SlotsApart w x.place p
        → entry_at (set d (x.place + x.word) x.value) w p
        ≡ cond (eqb x.place p) (set (entry_at d w p) x.word x.value) (entry_at d w p)
    go (inl e) = rw (e, eq-eqb p p refl) (at_same d w p x.word x.value f.within)
    go (inr h) = rw (ne_eqb x.place p (differ h)) (at_other d w p x.place x.word x.value f.within h)

pub at-write : (ws : List Write) (d : List ℕ) (w p : ℕ) → All (Fit w) ws → OnGrid w p
    → entry_at (write d ws) w p ≡ edit p (entry_at d w p) ws
unfolding write edit
at-write [] d w p f o = refl
at-write (x ∷ ws) d w p f o = at-write ws _ w p f.1 o ∙ rw (at_one d w p x f.0 o)

pub length-write : (ws : List Write) (d : List ℕ) → length (write d ws) ≡ length d
unfolding write
length-write [] d = refl
length-write (x ∷ ws) d = length-write ws _ ∙ length-set d _ _

-- a word that no write is to
pub word_write : (ws : List Write) (d : List ℕ) (i : ℕ) → All (λ (x : Write). i ≢ x.place + x.word) ws
    → get_or (write d ws) i 0 ≡ get_or d i 0
unfolding write
word_write [] d i a = refl
word_write (x ∷ ws) d i a =
    word_write ws (set d (x.place + x.word) x.value) i a.1 ∙ get_or-set_other d (x.place + x.word) i x.value 0 a.0

-- no word of a header is a word of a slot
outside : (s j w : ℕ) (x : Write) → Fit w x → j < 5 → 512 * s + j ≢ x.place + x.word
outside s j w x f h e = go (tri s f.on.seg)
  where
    go : (s < f.on.seg) ⊎ ((s ≡ f.on.seg) ⊎ (f.on.seg < s)) → ⊥
    go (inl l) = omega (arith, f.on.place, f.on.fits, f.within)
    go (inr (inl l)) = omega (arith, f.on.place, f.on.fits, f.within)
    go (inr (inr l)) = omega (arith, f.on.place, f.on.fits, f.within)

all-outside : (s j w : ℕ) (ws : List Write) → All (Fit w) ws → j < 5 → All (λ (x : Write). 512 * s + j ≢ x.place + x.word) ws
all-outside s j w [] f h = tt
all-outside s j w (x ∷ ws) f h = (outside s j w x f.0 h, all-outside s j w ws f.1 h)

pub head-write : (ws : List Write) (d : List ℕ) (w s j : ℕ) → j < 5 → All (Fit w) ws
    → get_or (write d ws) (512 * s + j) 0 ≡ get_or d (512 * s + j) 0
head-write ws d w s j h f = word_write ws d (512 * s + j) (all-outside s j w ws f h)

-- writes to other words commute
set-write : (ws : List Write) (d : List ℕ) (i v : ℕ) → All (λ (y : Write). i ≢ y.place + y.word) ws
    → write (set d i v) ws ≡ set (write d ws) i v
unfolding write
set-write [] d i v c = refl
set-write (y ∷ ws) d i v c = ap (λ (l : List ℕ). write l ws) (set_comm d i _ v _ c.0) ∙ set-write ws _ i v c.1

pub write_comm : (us ws : List Write) (d : List ℕ)
    → All (λ (x : Write). All (λ (y : Write). x.place + x.word ≢ y.place + y.word) ws) us
    → write (write d us) ws ≡ write (write d ws) us
unfolding write
write_comm [] ws d c = refl
write_comm (x ∷ us) ws d c = write_comm us ws _ c.1 ∙ ap (λ (l : List ℕ). write l us) (set-write ws d _ _ c.0)
