-- What squeeze keeps. The free blocks: where no entry is tentative, the data blocks are those of files and free ones; both directories have as many
-- data blocks, and as many of files. The rest stands in NewWay (soundness) and Twice (a second squeeze).
use Prim.Native.Nat.{ℕ, ◌+◌, ◌≤◌}
use mathlib.Core.Path.{◌≡◌, refl}
use mathlib.Core.Logic.{inl, inr}
use mathlib.Core.Bool.{Bool, true, false, cond, true≢false}
use mathlib.Core.List.{List, [], ◌∷◌, ◌++◌}
use native.Mathlib.Omega.{arith}
use Rattle.bools.proofs.Bools.{neither}
use Rattle.meaning.specs.declared.Kind.{Kind}
use Rattle.meaning.specs.Kinds.{is_tentative, is_empty, is_permanent}
use Rattle.meaning.specs.Words.{first_data, slot_words, Entry, kind, blocks, entries, total, chain, entries_of, all_entries}
use Rattle.meaning.specs.Sound.{any}
use Rattle.meaning.specs.Listing.{blocks_of}
use Rattle.walks.specs.Lists.{All}
use Rattle.walks.proofs.Filled.{total-append}
use Rattle.rules.proofs.Soundness.{Readable, Sound, faultless, data_blocks}
use Rattle.rules.proofs.Fine.{Okay, free, used, Fine, slots-fine}
use Rattle.laws.proofs.Way.{entries_in, spread, all-spread}
use Rattle.squeezed.specs.Squeeze.{is_file, new_place, free_up_to, packed_entries, squeezed, has_tentative, squeeze}
use Rattle.squeezed.proofs.Steps.{over}
use Rattle.squeezelaws.specs.Laws.{free_blocks, KeptBySqueeze}
use Rattle.squeezed.proofs.Walk.{walk}
use Rattle.squeezelaws.proofs.NewWay.{tail, tailed, Freshly, along, size-kept, entries_then, squeezed-sound}
use Rattle.squeezelaws.proofs.Content.{Done, done, words_are}
use Rattle.squeezelaws.proofs.Twice.{is_open, none_open, again}

-- the blocks of the files
abbrev file_blocks : List Entry → ℕ
file_blocks es = blocks_of is_permanent es

pub blocks-append : (is : Kind → Bool) (xs ys : List Entry) → blocks_of is (xs ++ ys) ≡ blocks_of is xs + blocks_of is ys
unfolding blocks_of
blocks-append is [] ys = omega arith
blocks-append is (x ∷ xs) ys = let i = blocks-append is xs ys in omega arith

-- an entry that is not tentative is a file or free
share : (z : Bool) (e : Entry) → Okay z e → is_open e ≡ false
    → blocks e ≡ cond (is_permanent (kind e)) (blocks e) 0 + cond (is_empty (kind e)) (blocks e) 0
share z e (free h) o = rw h (omega arith)
share z e (used (inl h) p n) o = rw h (omega arith)
share z e (used (inr h) p n) o = absurd (let t : true ≡ false = rw h at o in true≢false t)

shares : (es : List Entry) (z : Bool) → Fine z es → any is_open es ≡ false → total es ≡ file_blocks es + free_blocks es
unfolding total blocks_of any
shares [] z f o = refl
shares (e ∷ es) z f o =
    let n = neither (is_open e) (any is_open es) o in
    let i = shares es (is_tentative (kind e)) f.1 n.1 in
    let j = share z e f.0 n.0 in
    omega arith

calm-left : (xs ys : List Entry) → any is_open (xs ++ ys) ≡ false → (any is_open xs ≡ false) × (any is_open ys ≡ false)
unfolding any
calm-left [] ys o = (refl, o)
calm-left (x ∷ xs) ys o =
    let n = neither (is_open x) (any is_open (xs ++ ys)) o in
    let i = calm-left xs ys n.1 in
    (rw n.0 i.0, i.1)

-- along the chain
shares_along : (d ss : List ℕ) → All (Readable d) ss → any is_open (entries_of d ss) ≡ false
    → total (entries_of d ss) ≡ file_blocks (entries_of d ss) + free_blocks (entries_of d ss)
unfolding entries_of entries total blocks_of
shares_along d [] a o = refl
shares_along d (s ∷ ss) a o =
    let es = entries d s in
    let n = calm-left es (entries_of d ss) o in
    let i = shares_along d ss a.1 n.1 in
    let j = shares es false (slots-fine _ false a.0).0 n.0 in
    let t = total-append es (entries_of d ss) in
    let u = blocks-append is_permanent es (entries_of d ss) in
    let f = blocks-append is_empty es (entries_of d ss) in
    omega arith

shared : (v : ℕ) (d : List ℕ) → Sound v d → has_tentative d ≡ false
    → first_data d + (file_blocks (all_entries d) + free_blocks (all_entries d)) ≡ v
unfolding all_entries has_tentative
shared v d sd o = let a = shares_along d (chain d) sd.readable o in let b = data_blocks v d sd in omega arith

-- files keep their blocks
packed-blocks : (w : ℕ) → 7 ≤ w → (es t : List Entry) (b p : ℕ) → p ≤ b → file_blocks (packed_entries w b p es ++ t) ≡ file_blocks es + file_blocks t
unfolding blocks_of is_file
packed-blocks w enough es t b p h =
    walk w t (λ b p es out. file_blocks out ≡ file_blocks es + file_blocks t) (λ b p. omega arith)
    (λ b p e es out f i. rw f (omega arith))
    (λ b p e es out f l i.
    let same =
    over (λ x. file_blocks (x ++ e ∷ out) ≡ file_blocks (e ∷ out)) w p (new_place b p e) enough l.0 (λ y. refl)
    (λ g y. rw y.kind (omega arith)) in
    omega arith)
    es b p h

blocks_along : (v : ℕ) (d D ss : List ℕ) (b p : ℕ) → Freshly v d D ss b p
    → file_blocks (spread (slot_words d) D ss) ≡ file_blocks (spread (slot_words d) d ss)
unfolding blocks_of
blocks_along v d D [] b p f = refl
blocks_along v d D (x ∷ xs) b p f =
    let w = slot_words d in
    let es = entries_in w d x in
    let q = free_up_to b p es in
    let t = tail v w xs q in
    let i = blocks_along v d D xs _ _ f.4 in
    let j = packed-blocks w (omega arith) es t b p f.1 in
    let k = tailed (λ l. file_blocks l ≡ 0) v w xs q (omega arith) f.2 refl (λ g y. rw y.kind refl) in
    let m = blocks-append is_permanent (packed_entries w b p es ++ t) (spread w D xs) in
    let n = blocks-append is_permanent es (spread w d xs) in
    rw f.3.entries (omega arith)

pub freed : (v : ℕ) (d : List ℕ) (x : Done v d) → free_blocks (all_entries (squeezed v d)) ≡ free_blocks (all_entries d)
freed v d x =
    let sd = x.sound in
    let E = squeezed v d in
    let a = shared v d sd x.calm in
    let b = shared v E (squeezed-sound v d sd x.room) (none_open v d x) in
    let c : file_blocks (all_entries E) ≡ file_blocks (all_entries d) =
    rw (entries_then v d sd x.room, all-spread d) (blocks_along v d E (chain d) (first_data d) (first_data d) (along v d sd x.room)) in
    let n : first_data E ≡ first_data d = rw (size-kept v d sd x.room) refl in
    omega arith

pub kept_by_squeeze : (v : ℕ) (d room : List ℕ) → (squeeze v d room).number ≡ 0 → KeptBySqueeze v d room
kept_by_squeeze v d room h =
    let x = done v d room h in
    let e = words_are v d room h in
    record {
      sound = rw e (faultless v (squeezed v d) (squeezed-sound v d x.sound x.room));
      freed = rw e (freed v d x);
      again = λ other. rw e (again v d x other);
    }
