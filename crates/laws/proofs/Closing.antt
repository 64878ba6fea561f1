-- The writes of a close are good: the tentative entry becomes the file, the empty entry after it grows by what the file lacks,
-- and the file that gives way to it, if one does, becomes empty. Four cases say what stands at a place afterwards; the rest is read
-- off them.
use Prim.Native.Nat.{ℕ, ◌+◌, ◌*◌, ◌-◌, ◌≤◌}
use native.Mathlib.Decide.{ℕ_discrete}
use native.Mathlib.Omega.{arith}
use mathlib.Core.Path.{◌≡◌, refl, sym, ap, ◌∙◌, subst}
use mathlib.Core.Logic.{inl, inr}
use mathlib.Core.Bool.{true, false, cond}
use mathlib.Core.List.{List, [], ◌∷◌, ◌++◌}
use mathlib.Core.Option.{Option, none, some, none-ne-some}
use lib.ListN.{get_or, set}
use lib.Dec.{eqb}
use borrow.Author.Tests.{eq-eqb, ne_eqb}
use Rattle.bools.proofs.Bools.{never}
use Rattle.meaning.specs.declared.Kind.{Kind}
use Rattle.meaning.specs.declared.Kind.TheVariants.{Tentative, Empty, Permanent}
use Rattle.meaning.specs.Kinds.{empty_status, permanent_status}
use Rattle.meaning.specs.Words.{slot_words, Entry, status_word, length_word, channel_word, kind, name_of, blocks, date_of, Row, rows}
use Rattle.meaning.specs.Answers.{Write, put, write}
use Rattle.meaning.specs.Requests.{emptying, replacing}
use Rattle.meaning.specs.declared.Key.{Key}
use Rattle.meaning.specs.declared.Key.TheVariants.{File, Open}
use Rattle.meaning.specs.Keys.{holds, once}
use Rattle.laws.specs.Order.{OnFound}
use Rattle.walks.specs.Lists.{All}
use Rattle.walks.proofs.Alls.{all_both}
use Rattle.rules.proofs.Grid.{entry_at, word_at_lem, not_first}
use Rattle.laws.proofs.Writes.{Fit, edit, To, edit-to, edit_away, edit-append, at-write}
use Rattle.rules.proofs.Keys.{once_open, file≢open, IsFile, is-file, file-holds, is_open_lem, empty_holds, other_key}
use Rattle.rules.proofs.Touch.{Touch, keep, area, gone, made}
use Rattle.rules.proofs.Rows.{Slot, Stand, Only}
use Rattle.laws.proofs.Keeps.{After, nothing}
use Rattle.laws.proofs.Entries.{slot-seven, cleared, Closed, closed, Grown, grown, file-short}
use Rattle.laws.proofs.Good.{Owns, mine, after, Two, Made, made-source, good, after_writes}

-- the writes of a close of the row r at final length n, where x was the length of the next entry and o is the file replaced
abbrev pub close_writes : Row → ℕ → ℕ → ℕ → Option Row → List Write
close_writes r w n x o =
    put r.at status_word permanent_status
    ∷ put r.at length_word n
    ∷ put r.at channel_word 0
    ∷ put (r.at + w) length_word (x + (blocks r.entry - n))
    ∷ replacing o

-- a row is the one replaced, if any is
abbrev pub Replaced : Option Row → Row → Type 0
Replaced o x = OnFound o (λ (z : Row). x.at ≡ z.at)

tentative≢permanent : Tentative ≡ Permanent → ⊥
tentative≢permanent h = let z : ◌≡◌ {A = ℕ} 0 1 = cc in omega arith

empty≢permanent : Empty ≡ Permanent → ⊥
empty≢permanent h = let z : ◌≡◌ {A = ℕ} 0 1 = cc in omega arith

module _ (d : List ℕ) (st : All (Stand d) (rows d)) (r : Row) (s : Stand d r) (y : ℕ) (h : holds (Open y) r.entry ≡ true)
    (only : All (Only (holds (Open y)) r.at) (rows d)) (n : ℕ) (least : n ≤ blocks r.entry) (o : Option Row)
    (is-old : (x : Row) → o ≡ some x
    → Stand d x × (holds (File (name_of r.entry)) x.entry ≡ true) × (once (File (name_of r.entry)) ≡ true))
    (one-old : once (File (name_of r.entry)) ≡ true
    → All (λ (x : Row). holds (File (name_of r.entry)) x.entry ≡ true → Replaced o x) (rows d)) where
  abbrev w : ℕ
  w = slot_words d

  abbrev f : ℕ → Entry
  f p = entry_at d (slot_words d) p

  abbrev C : Key → Type 0
  C = Two (Open y) (File (name_of r.entry))

  -- the entry afterwards
  abbrev shut : Entry → Entry
  shut e = set (set (set e status_word permanent_status) length_word n) channel_word 0

  abbrev q : ℕ
  q = r.at + slot_words d

  abbrev X : ℕ
  X = get_or d (r.at + slot_words d + length_word) 0 + (blocks r.entry - n)

  abbrev ws : List Write
  ws = close_writes r (slot_words d) n (get_or d (r.at + slot_words d + length_word) 0) o

  key-at : holds (Open y) (f r.at) ≡ true
  key-at = rw s.is at h

  next : Slot d q × (kind (f q) ≡ Empty)
  next = s.next (is_open_lem y r.entry h).tentative

  old-key : (x : Row) → o ≡ some x → holds (File (name_of r.entry)) (f x.at) ≡ true
  old-key x e = rw (is-old x e).0.is at (is-old x e).1

  -- what stands at a place afterwards
  data Spot (p : ℕ) (e : Entry) : Type 0 where
    here : r.at ≡ p → e ≡ shut (f p) → Spot p e
    beyond : q ≡ p → e ≡ set (f p) length_word X → Spot p e
    old : (x : Row) → o ≡ some x → x.at ≡ p → (r.at ≡ p → ⊥) → (q ≡ p → ⊥) → e ≡ set (f p) status_word empty_status → Spot p e
    elsewhere : (r.at ≡ p → ⊥) → (q ≡ p → ⊥) → ((x : Row) → o ≡ some x → x.at ≡ p → ⊥) → e ≡ f p → Spot p e

  -- the file replaced is permanent
  old_away : (p : ℕ) (e : Entry) (k : Kind) → kind (f p) ≡ k → (k ≡ Permanent → ⊥) → edit p e (replacing o) ≡ e
  unfolding replacing emptying edit
  old_away p e k g ne = go o refl
    where
      go : (u : Option Row) → o ≡ u → edit p e (replacing u) ≡ e
      go none i = refl
      go (some x) i =
          edit_away p x.at e (emptying x) (refl, tt)
          (λ j. ne (sym g ∙ (rw (← j) (is-file _ (f x.at) (old-key x i)).permanent)))

  -- the writes to the entry itself, to the next, and to the file replaced
  three : List Write
  three = put r.at status_word permanent_status ∷ put r.at length_word n ∷ put r.at channel_word 0 ∷ []

  one : List Write
  one = put q length_word X ∷ []

  to_three : All (To r.at) three
  unfolding three
  to_three = (refl, (refl, (refl, tt)))

  to_one : All (To q) one
  unfolding one
  to_one = (refl, tt)

  in_turn : (p : ℕ) (e : Entry) → edit p e ws ≡ edit p (edit p (edit p e three) one) (replacing o)
  unfolding three one
  in_turn p e = edit-append p e three (one ++ replacing o) ∙ edit-append p (edit p e three) one (replacing o)

  spot : (p : ℕ) → Spot p (edit p (f p) ws)
  unfolding replacing emptying edit three one
  spot p = go (ℕ_discrete r.at p) (ℕ_discrete q p)
    where
      tail : (r.at ≡ p → ⊥) → (q ≡ p → ⊥) → (u : Option Row) → o ≡ u → Spot p (edit p (f p) (replacing u))
      tail a b none i = elsewhere a b (λ x j. absurd (none-ne-some x (sym i ∙ j))) refl
      tail a b (some x) i = go' (ℕ_discrete x.at p)
        where
          go' : Dec (x.at ≡ p) → Spot p (edit p (f p) (emptying x))
          go' (yes z) = old x i z a b (edit-to p (f p) (emptying x) (z, tt))
          go' (no z) =
              elsewhere a b (λ x' j g. z (let u : x ≡ x' = cc in ap (λ (t : Row). t.at) u ∙ g))
              (edit_away p x.at (f p) (emptying x) (refl, tt) z)

      go : Dec (r.at ≡ p) → Dec (q ≡ p) → Spot p (edit p (f p) ws)
      go (yes a) (yes b) = absurd (omega arith)
      go (yes a) (no b) =
          here a
          (in_turn p (f p)
          ∙ ap (λ (e : Entry). edit p (edit p e one) (replacing o)) (edit-to p (f p) three (a, (a, (a, tt))))
          ∙ ap (λ (e : Entry). edit p e (replacing o)) (edit_away p q _ one to_one b)
          ∙ old_away p _ Tentative (rw (← a) (is_open_lem y (f r.at) key-at).tentative) tentative≢permanent)
      go (no a) (yes b) =
          beyond b
          (in_turn p (f p)
          ∙ ap (λ (e : Entry). edit p (edit p e one) (replacing o)) (edit_away p r.at (f p) three to_three a)
          ∙ ap (λ (e : Entry). edit p e (replacing o)) (edit-to p (f p) one (b, tt))
          ∙ old_away p _ Empty (rw (← b) next.1) empty≢permanent)
      go (no a) (no b) =
          subst (Spot p)
          (sym
          (in_turn p (f p)
          ∙ ap (λ (e : Entry). edit p (edit p e one) (replacing o)) (edit_away p r.at (f p) three to_three a)
          ∙ ap (λ (e : Entry). edit p e (replacing o)) (edit_away p q (f p) one to_one b)))
          (tail a b o refl)

  -- the first block of the next entry falls by what that grows
  abbrev δ : ℕ → ℕ
  δ p = cond (eqb (r.at + slot_words d) p) (blocks r.entry - n) 0

  unmoved : (p : ℕ) → (q ≡ p → ⊥) → δ p ≡ 0
  unmoved p b = rw (ne_eqb q p b)

  closed_at : Closed n (f r.at) (shut (f r.at))
  closed_at = closed (f r.at) n (slot-seven d r.at s.slot)

  new_file : IsFile (name_of r.entry) (shut (f r.at))
  new_file = rw s.is closed_at.file

  new_key : holds (File (name_of r.entry)) (shut (f r.at)) ≡ true
  new_key = file-holds _ _ new_file

  grown_at : Grown X (f q) (set (f q) length_word X)
  grown_at = grown (f q) X (slot-seven d q next.0)

  touched : (p : ℕ) (e : Entry) → Spot p e → Touch C (δ p) (f p) e
  touched p e (here a g) =
      rw (g, ← a)
      (made (Open y) (File (name_of r.entry)) (inl refl) (once_open y) key-at (inr refl) new_key new_file.permanent
      (file-short _ _ new_file (s.fine (is_open_lem y r.entry h).tentative))
      (unmoved r.at (λ i. omega arith)))
  touched p e (beyond b g) = rw (g, ← b) (area next.1 (grown_at.kind ∙ next.1))
  touched p e (old x i z a b g) =
      rw (g, ← z)
      (gone (File (name_of r.entry)) (inr refl) (is-old x i).2 (old-key x i) (cleared (f x.at) (slot-seven d x.at (is-old x i).0.slot)).kind
      (unmoved x.at (λ j. b (j ∙ z))))
  touched p e (elsewhere a b c g) = keep g (unmoved p b)

  evened : (p : ℕ) (e : Entry) → Spot p e → blocks e + δ (p + w) ≡ blocks (f p) + δ p
  evened p e (here a g) =
      rw (g, ← a, closed_at.blocks, eq-eqb q q refl, unmoved r.at (λ i. omega arith), s.is)
      (let l : n ≤ blocks (f r.at) = rw s.is at least in omega arith)
  evened p e (beyond b g) =
      rw (g, ← b, grown_at.blocks, eq-eqb q q refl, unmoved (q + w) (λ i. omega arith), word_at_lem d w q 4 (omega arith))
      (omega arith)
  evened p e (old x i z a b g) =
      rw (g, unmoved p b, unmoved (p + w) (λ j. a (omega arith)))
      (rw (← z, (cleared (f x.at) (slot-seven d x.at (is-old x i).0.slot)).blocks))
  evened p e (elsewhere a b c g) = rw (g, unmoved p b, unmoved (p + w) (λ j. a (omega arith)))

  -- fits and owns
  here_fit : (j x : ℕ) → j ≤ 6 → Fit w (put r.at j x)
  here_fit j x l = record { on = s.slot.on; within = omega arith }

  fits_old : (u : Option Row) → o ≡ u → All (Fit w) (replacing u)
  unfolding replacing emptying
  fits_old none i = tt
  fits_old (some x) i = (record { on = (is-old x i).0.slot.on; within = omega arith }, tt)

  fits : All (Fit w) ws
  fits = (
    here_fit status_word permanent_status (omega arith),
    (
      here_fit length_word n (omega arith),
      (here_fit channel_word 0 (omega arith), (record { on = next.0.on; within = omega arith }, fits_old o refl)),
    ),
  )

  owns_old : (u : Option Row) → o ≡ u → All (Owns d C) (replacing u)
  unfolding replacing emptying
  owns_old none i = tt
  owns_old (some x) i = (mine (File (name_of r.entry)) (inr refl) (old-key x i), tt)

  owns : All (Owns d C) ws
  owns =
      let m = mine (Open y) (inl refl) key-at in
      (m, (m, (m, (after (Open y) r.at (inl refl) key-at refl next.1, owns_old o refl))))

  -- the channel is closed
  not_open : (x : Row) → Stand d x → Only (holds (Open y)) r.at x → (r.at ≡ x.at → ⊥) → holds (Open y) (f x.at) ≡ false
  not_open x t k a = never (holds (Open y) (f x.at)) (λ z. a (sym (k (rw t.is z))))

  closed_away : (x : Row) → Stand d x → Only (holds (Open y)) r.at x → (e : Entry) → Spot x.at e → holds (Open y) e ≡ false
  closed_away x t k e (here a g) =
      rw (g, ← a) (other_key (Open y) (File (name_of r.entry)) _ (λ i. file≢open _ y (sym i)) new_key)
  closed_away x t k e (beyond b g) = rw (g, ← b) (empty_holds (Open y) _ (grown_at.kind ∙ next.1))
  closed_away x t k e (old z i j a b g) = rw g (empty_holds (Open y) _ (cleared _ (slot-seven d x.at t.slot)).kind)
  closed_away x t k e (elsewhere a b c g) = rw g (not_open x t k a)

  channel_gone : All (After d (write d ws) (Open y) nothing) (rows d)
  channel_gone =
      after_writes d st ws fits (Open y) nothing (Only (holds (Open y)) r.at) only (λ x t k. closed_away x t k _ (spot x.at))

  -- and the file comes from it, if its name may stand once
  module _ (one-file : once (File (name_of r.entry)) ≡ true) where
    abbrev Known : Row → Type 0
    Known x = Only (holds (Open y)) r.at x × (holds (File (name_of r.entry)) x.entry ≡ true → Replaced o x)

    known : All Known (rows d)
    known =
        all_both (Only (holds (Open y)) r.at) (λ (x : Row). holds (File (name_of r.entry)) x.entry ≡ true → Replaced o x)
        Known (λ x a b. (a, b)) (rows d) only (one-old one-file)

    not_file : (x : Row) → Stand d x → Known x → ((z : Row) → o ≡ some z → z.at ≡ x.at → ⊥)
        → holds (File (name_of r.entry)) (f x.at) ≡ false
    not_file x t k c = never (holds (File (name_of r.entry)) (f x.at)) (λ z. go o refl (k.1 (rw t.is z)))
      where
        go : (u : Option Row) → o ≡ u → Replaced u x → ⊥
        go none i m = m
        go (some z) i m = c z i (sym m)

    file_from : (x : Row) → Stand d x → Known x → (e : Entry) → Spot x.at e
        → holds (File (name_of r.entry)) e ≡ holds (Open y) (f x.at)
    file_from x t k e (here a g) = rw (g, ← a, new_key, key-at)
    file_from x t k e (beyond b g) =
        rw (g, ← b, empty_holds (File (name_of r.entry)) _ (grown_at.kind ∙ next.1), empty_holds (Open y) _ next.1)
    file_from x t k e (old z i j a b g) =
        rw (g, not_open x t k.0 a)
        (empty_holds (File (name_of r.entry)) _ (cleared _ (slot-seven d x.at t.slot)).kind)
    file_from x t k e (elsewhere a b c g) = rw (g, not_open x t k.0 a) (not_file x t k c)

    file_comes : All (After d (write d ws) (File (name_of r.entry)) (holds (Open y))) (rows d)
    file_comes =
        after_writes d st ws fits (File (name_of r.entry)) (holds (Open y)) Known known
        (λ x t k. file_from x t k _ (spot x.at))

  entry-after : entry_at (write d ws) w r.at ≡ shut (f r.at)
  entry-after = at-write ws d w r.at fits s.slot.on ∙ go _ (spot r.at)
    where
      go : (e : Entry) → Spot r.at e → e ≡ shut (f r.at)
      go e (here a g) = g
      go e (beyond b g) = absurd (omega arith)
      go e (old x i z a b g) = absurd (a refl)
      go e (elsewhere a b c g) = absurd (a refl)

  pub making : Made d r (Open y) (File (name_of r.entry)) n ws
  making =
      record {
        good =
            good d st C ws fits owns δ
            (λ t. unmoved (512 * t + 5) (not_first w r.at t (omega arith) s.slot.on))
            (λ p. (touched p _ (spot p), evened p _ (spot p)))
            (made-source d (write d ws) (Open y) (File (name_of r.entry)) (once_open y) channel_gone file_comes);
        gone = channel_gone;
        made = file_comes;
        key = ap (holds (File (name_of r.entry))) entry-after ∙ new_key;
        length = ap blocks entry-after ∙ closed_at.blocks;
        date = ap date_of entry-after ∙ closed_at.date ∙ ap date_of (sym s.is);
      }
