-- A second squeeze. Along the chain each segment of the new directory gives the very part that it was made from; so no file needs a move, the
-- segments are written as they stand, and the words stay.
use Prim.Native.Nat.{ℕ, ◌+◌, ◌-◌, ◌≤◌}
use mathlib.Core.Path.{◌≡◌, refl, sym, ap, ◌∙◌}
use mathlib.Core.Bool.{Bool, false}
use mathlib.Core.List.{List, [], ◌∷◌, ◌++◌, append-nil}
use native.Mathlib.Nat.{add-zero}
use native.Mathlib.Omega.{arith}
use lib.ListN.{length, take, set, replicate, length-set}
use lib.Seq.{take-take, take_at, set-set}
use borrow.Author.Tests.{le-ltb}
use Rattle.meaning.specs.Kinds.{end_status, is_tentative}
use Rattle.meaning.specs.Words.{first_data, segment, extra_bytes_of, slot_words, capacity, Entry, kind, entries, total, chain}
use Rattle.meaning.specs.Sound.{any}
use Rattle.meaning.specs.Requests.{flat, render}
use Rattle.meaning.specs.Enter.{header_of}
use Rattle.walks.specs.Lists.{All}
use Rattle.walks.proofs.Alls.{all_both, all_map}
use Rattle.walks.proofs.Words.{header-length, with_self}
use Rattle.rules.proofs.Soundness.{Sound, chain-within, faultless}
use Rattle.laws.proofs.Way.{entries_in, spread}
use Rattle.laws.proofs.Room.{any_append}
use Rattle.squeezed.specs.Moves.{needed}
use Rattle.squeezed.specs.Squeeze.{new_place, free_up_to, places, moves, packed_entries, Part, parts, new_parts, rewritten, squeezed}
use Rattle.squeezed.specs.Squeeze.{has_tentative, too_short, squeeze_number, move_words, squeeze}
use Rattle.squeezed.proofs.Steps.{file-kind, empty-file, free-past, places-past, packed-past, over}
use Rattle.squeezed.proofs.Along.{places-append, needed-append}
use Rattle.squeezed.proofs.Walk.{walk}
use Rattle.squeezelaws.proofs.Packing.{packed-total}
use Rattle.squeezelaws.proofs.Rewriting.{anew, Within, Own}
use Rattle.squeezelaws.proofs.NewWay.{tail, tailed, Freshly, parts-inside, rewrote, along, size-kept, extra-kept, chain-kept}
use Rattle.squeezelaws.proofs.NewWay.{entries_then, squeezed-sound}
use Rattle.squeezelaws.proofs.Content.{Done}
use Rattle.squeezelaws.proofs.Again.{packed-again, places-again, free-again}

none_in : (t : Entry → Bool) (xs ys : List Entry) → any t xs ≡ false → any t ys ≡ false → any t (xs ++ ys) ≡ false
none_in t xs ys a b = any_append t xs ys ∙ (rw (a, b))

abbrev pub is_open : Entry → Bool
is_open e = is_tentative (kind e)

packed-calm : (w : ℕ) → 7 ≤ w → (es t : List Entry) (b p : ℕ) → p ≤ b → any is_open t ≡ false → any is_open (packed_entries w b p es ++ t) ≡ false
unfolding any
packed-calm w enough es t b p h c =
    walk w t (λ b p es out. any is_open out ≡ false) (λ b p. c) (λ b p e es out f i. i)
    (λ b p e es out f l i.
    let rest : any is_open (e ∷ out) ≡ false = rw (file-kind e f) i in
    over (λ x. any is_open (x ++ e ∷ out) ≡ false) w p (new_place b p e) enough l.0 (λ z. rest) (λ g z. rw z.kind rest))
    es b p h

-- one segment of the new directory, met again
record Same (w p q : ℕ) (old es : List Entry) : Type 0 where
  packed_same : packed_entries w p p es ≡ old
  free_same : free_up_to p p es ≡ q
  idle_all : needed (places p p es) ≡ []
  calm : any is_open es ≡ false

same_at : (v w : ℕ) → 7 ≤ w → (xs : List ℕ) (b p : ℕ) (es : List Entry) → p ≤ b → free_up_to b p es ≤ v
    → Same w p (free_up_to b p es) (packed_entries w b p es) (packed_entries w b p es ++ tail v w xs (free_up_to b p es))
unfolding packed_entries free_up_to places needed any
same_at v w enough xs b p es h l =
    let q = free_up_to b p es in
    let t = tail v w xs q in
    record {
      packed_same =
          packed-again w enough es t b p h
          ∙ ap (λ (x : List Entry). packed_entries w b p es ++ x)
          (tailed (λ x. packed_entries w q q x ≡ []) v w xs q enough l refl (λ g z. packed-past q q g [] (empty-file g z.kind) w))
          ∙ append-nil (packed_entries w b p es);
      free_same =
          free-again w enough es t b p h
          ∙ tailed (λ x. free_up_to q q x ≡ q) v w xs q enough l refl (λ g z. free-past q q g [] (empty-file g z.kind));
      idle_all =
          places-again w enough es t b p h
          ∙ ap needed (tailed (λ x. places q q x ≡ []) v w xs q enough l refl (λ g z. places-past q q g [] (empty-file g z.kind)));
      calm = packed-calm w enough es t b p h (tailed (λ x. any is_open x ≡ false) v w xs q enough l refl (λ g z. rw z.kind));
    }

module _ (v : ℕ) (d D : List ℕ) where
  abbrev w : ℕ
  w = slot_words d

  same : (xs : List ℕ) (b p : ℕ) (es : List Entry) → p ≤ b → free_up_to b p es ≤ v
      → Same w p (free_up_to b p es) (packed_entries w b p es) (packed_entries w b p es ++ tail v w xs (free_up_to b p es))
  same = same_at v w (omega arith)

  -- the parts of the new directory are those that it was made from
  parts_same : extra_bytes_of D ≡ extra_bytes_of d → (ss : List ℕ) (b p : ℕ) → Freshly v d D ss b p → parts v D p ss ≡ parts v d p ss
  unfolding parts entries
  parts_same alike [] b p f = refl
  parts_same alike (x ∷ xs) b p f =
      let es = entries_in w d x in
      let m = same xs b p es f.1 f.2 in
      rw (
        alike,
        f.3.stop.first,
        f.3.entries,
        f.0.first,
        m.packed_same,
        m.free_same,
        parts_same alike xs (b + total es) (free_up_to b p es) f.4,
      )
      refl

  -- no file needs a move
  moves-none : (ss : List ℕ) (b p : ℕ) → Freshly v d D ss b p → needed (places p p (spread w D ss)) ≡ []
  unfolding places needed total
  moves-none [] b p f = refl
  moves-none (x ∷ []) b p f =
      rw (append-nil (entries_in w D x), f.3.entries) (same [] b p (entries_in w d x) f.1 f.2).idle_all
  moves-none (x ∷ z ∷ xs) b p f =
      let es = entries_in w d x in
      let q = free_up_to b p es in
      let m = same (z ∷ xs) b p es f.1 f.2 in
      let n : p + total (packed_entries w b p es ++ []) ≡ q = packed-total w (omega arith) es [] b p f.1 ∙ add-zero q in
      rw (
        f.3.entries,
        places-append (packed_entries w b p es ++ []) (spread w D (z ∷ xs)) p p,
        n,
        m.free_same,
        needed-append (places p p (packed_entries w b p es ++ [])) (places q q (spread w D (z ∷ xs))),
        m.idle_all,
      )
      (moves-none (z ∷ xs) (b + total es) q f.4)

  -- none is tentative
  calm_then : (ss : List ℕ) (b p : ℕ) → Freshly v d D ss b p → any is_open (spread w D ss) ≡ false
  unfolding any
  calm_then [] b p f = refl
  calm_then (x ∷ xs) b p f =
      none_in is_open (entries_in w D x) (spread w D xs)
      (rw f.3.entries (same xs b p (entries_in w d x) f.1 f.2).calm)
      (calm_then xs _ _ f.4)

-- a segment made from its own header
take-render : (h : List ℕ) (es : List Entry) → length h ≡ 5 → take 5 (render h es) ≡ h
unfolding render
take-render h es e =
    let t = flat es (end_status ∷ replicate 512 0) in
    take-take 5 512 (h ++ t) (omega arith) ∙ take_at h t 5 e

anew-again : (d D : List ℕ) (x : Part) → Within d x → Own D d x → anew D x ≡ anew d x
unfolding header_of
anew-again d D x i o =
    let h = take 5 (segment d x.seg) in
    let n = header-length d x.seg i.0 i.1 in
    rw (o, take-render (set h 4 x.first) x.entries (length-set h 4 x.first ∙ n), set-set h 4 x.first x.first)

-- each segment put where it stands
rewritten_self : (D : List ℕ) (xs : List Part) → All (Within D) xs → All (λ x. anew D x ≡ segment D x.seg) xs → rewritten D xs ≡ D
unfolding rewritten
rewritten_self D [] a o = refl
rewritten_self D (x ∷ xs) a o = rw (o.0, with_self D x.seg a.0.0) (rewritten_self D xs a.1 o.1)

module _ (v : ℕ) (d : List ℕ) (x : Done v d) where
  abbrev E : List ℕ
  E = squeezed v d

  abbrev sd : Sound v d
  sd = x.sound

  fresh : Freshly v d E (chain d) (first_data d) (first_data d)
  fresh = along v d sd x.room

  abbrev extra : extra_bytes_of E ≡ extra_bytes_of d
  extra = extra-kept v d sd x.room

  abbrev size : length E ≡ length d
  size = size-kept v d sd x.room

  parts-kept : new_parts v E ≡ new_parts v d
  unfolding new_parts
  parts-kept =
      rw (chain-kept v d sd x.room, size) (parts_same v d E extra (chain d) (first_data d) (first_data d) fresh)

  no-moves : moves (squeezed v d) ≡ []
  unfolding moves
  no-moves =
      rw (entries_then v d sd x.room, size) (moves-none v d E (chain d) (first_data d) (first_data d) fresh)

  pub none_open : has_tentative (squeezed v d) ≡ false
  unfolding has_tentative
  none_open = rw (entries_then v d sd x.room) (calm_then v d E (chain d) (first_data d) (first_data d) fresh)

  inside : All (Within d) (new_parts v d)
  unfolding new_parts
  inside = parts-inside v d (chain d) (first_data d) (chain-within v d sd)

  words_same : squeezed v (squeezed v d) ≡ squeezed v d
  unfolding squeezed
  words_same =
      ap (rewritten E) parts-kept
      ∙ rewritten_self E (new_parts v d)
      (all_map (Within d) (Within E) (λ y i. (i.0, rw size i.1)) (new_parts v d) inside)
      (all_both (Within d) (Own E d) (λ y. anew E y ≡ segment E y.seg) (λ y i o. anew-again d E y i o ∙ sym o) (new_parts v d) inside
      (rewrote v d sd x.room).own)

  number_then : (other : List ℕ) → squeeze_number v (squeezed v d) other ≡ 0
  unfolding squeeze_number too_short capacity
  number_then other =
      rw (
        faultless v E (squeezed-sound v d sd x.room),
        none_open,
        no-moves,
        le-ltb (length other) 0 (omega arith),
        parts-kept,
        extra,
        x.room,
      )
      refl

  pub again : (other : List ℕ) → squeeze v (squeezed v d) other ≡ record { number = 0; count = 0; list = other; words = squeezed v d }
  unfolding squeeze move_words
  again other = rw (number_then other, no-moves, words_same) refl
