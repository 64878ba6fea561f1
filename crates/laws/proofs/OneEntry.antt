-- Writes to one entry that are good: the entry of a key becomes empty, by a delete or an abandon; the entry of a file gets another status of
-- a permanent entry, by a protect or an unprotect, or a name that no file has, by a rename.
use Prim.Native.Nat.{ℕ, ◌+◌, ◌<◌}
use native.Mathlib.Decide.{ℕ_discrete}
use native.Mathlib.Omega.{arith}
use mathlib.Core.Path.{◌≡◌, refl, sym, ap, ◌∙◌, subst}
use mathlib.Core.Logic.{inl, inr}
use mathlib.Core.Bool.{true, false}
use mathlib.Core.List.{List, [], ◌∷◌}
use lib.ListN.{set}
use Rattle.bools.proofs.Bools.{never}
use Rattle.meaning.specs.declared.Name.{Name}
use Rattle.meaning.specs.declared.Kind.TheVariants.{Permanent}
use Rattle.meaning.specs.Kinds.{empty_status, kind_of}
use Rattle.meaning.specs.Words.{slot_words, Entry, status_word, name_word, name2_word, extension_word, blocks, date_of, Row, rows}
use Rattle.meaning.specs.Sound.{long_name}
use Rattle.meaning.specs.Answers.{Write, put, write}
use Rattle.meaning.specs.Requests.{emptying, restating, renaming}
use Rattle.meaning.specs.declared.Key.{Key}
use Rattle.meaning.specs.declared.Key.TheVariants.{File}
use Rattle.meaning.specs.Keys.{holds, once}
use Rattle.walks.specs.Lists.{All}
use Rattle.walks.proofs.Alls.{all_map, all_both}
use Rattle.rules.proofs.Grid.{entry_at, OnGrid}
use Rattle.laws.proofs.Writes.{Fit, edit, sets, To, edit-to, edit_away, at-write}
use Rattle.rules.proofs.Keys.{IsFile, is-file, file-holds, empty_holds, other_key}
use Rattle.rules.proofs.Touch.{Touch, keep, gone, made}
use Rattle.rules.proofs.Rows.{Stand, Fails, Only}
use Rattle.laws.proofs.Keeps.{After, nothing, Source}
use Rattle.laws.proofs.Entries.{slot-seven, Cleared, cleared, Restated, restated, Renamed, renamed, file-short}
use Rattle.laws.proofs.Good.{Owned, mine, Owns, Good, One, Two, Gone, Made, Stated, same_source, gone-source, made-source, good, after_writes}

module _ (d : List ℕ) (st : All (Stand d) (rows d)) where
  abbrev w : ℕ
  w = slot_words d

  abbrev f : ℕ → Entry
  f p = entry_at d (slot_words d) p

  -- writes ws to the entry of the row r, of the key k, make e of it
  module _ (r : Row) (s : Stand d r) (k : Key) (h : holds k r.entry ≡ true) (only : All (Only (holds k) r.at) (rows d))
      (ws : List Write) (to : All (To r.at) ws) (within : All (λ (x : Write). x.word < w) ws) (e : Entry)
      (is : sets (f r.at) ws ≡ e) where
    key-at : holds k (f r.at) ≡ true
    key-at = rw s.is at h

    fits : All (Fit w) ws
    fits =
        all_both (To r.at) (λ (x : Write). x.word < w) (Fit w)
        (λ x t l. record { on = subst (OnGrid w) (sym t) s.slot.on; within = l })
        ws
        to
        within

    own-edit : edit r.at (f r.at) ws ≡ e
    own-edit = edit-to r.at (f r.at) ws to ∙ is

    entry-after : entry_at (write d ws) w r.at ≡ e
    entry-after = at-write ws d w r.at fits s.slot.on ∙ own-edit

    away : (p : ℕ) → (r.at ≡ p → ⊥) → edit p (f p) ws ≡ f p
    away p n = edit_away p r.at (f p) ws to n

    -- of the key k there is no other entry
    unique : (x : Row) → Stand d x → Only (holds k) r.at x → (r.at ≡ x.at → ⊥) → holds k (f x.at) ≡ false
    unique x t o q = never (holds k (f x.at)) (λ z. q (sym (o (rw t.is z))))

    -- it stays
    key_stays : holds k e ≡ true → All (After d (write d ws) k (holds k)) (rows d)
    key_stays g =
        after_writes d st ws fits k (holds k) (Stand d) st (λ x t o. go x (ℕ_discrete r.at x.at))
      where
        go : (x : Row) → Dec (r.at ≡ x.at) → holds k (edit x.at (f x.at) ws) ≡ holds k (f x.at)
        go x (yes q) = rw (← q, own-edit, g, key-at)
        go x (no q) = rw (away x.at q)

    -- it goes; a key that the entry now has, and none had, comes from it
    key-gone : holds k e ≡ false → All (After d (write d ws) k nothing) (rows d)
    key-gone g =
        after_writes d st ws fits k nothing (Only (holds k) r.at) only (λ x t o. go x t o (ℕ_discrete r.at x.at))
      where
        go : (x : Row) → Stand d x → Only (holds k) r.at x → Dec (r.at ≡ x.at)
            → holds k (edit x.at (f x.at) ws) ≡ false
        go x t o (yes q) = rw (← q, own-edit) g
        go x t o (no q) = rw (away x.at q) (unique x t o q)

    key-made : (l : Key) → holds l e ≡ true → All (Fails (holds l)) (rows d) → All (After d (write d ws) l (holds k)) (rows d)
    key-made l g free =
        after_writes d st ws fits l (holds k) Known
        (all_both (Only (holds k) r.at) (Fails (holds l)) Known (λ x a b. (a, b)) (rows d) only free)
        (λ x t o. go x t o.0 o.1 (ℕ_discrete r.at x.at))
      where
        Known : Row → Type 0
        Known x = Only (holds k) r.at x × Fails (holds l) x

        go : (x : Row) → Stand d x → Only (holds k) r.at x → Fails (holds l) x → Dec (r.at ≡ x.at)
            → holds l (edit x.at (f x.at) ws) ≡ holds k (f x.at)
        go x t o b (yes q) = rw (← q, own-edit, g, key-at)
        go x t o b (no q) = rw (away x.at q, unique x t o q) (rw t.is at b)

    one-good : (C : Key → Type 0) → C k → Touch C 0 (f r.at) e → blocks e ≡ blocks (f r.at)
        → ((l : Key) → once l ≡ true → Source C d (write d ws) l) → Good d C ws
    one-good C c t b source = good d st C ws fits owns (λ p. 0) (λ s. refl) (λ p. touched p (ℕ_discrete r.at p)) source
      where
        owns : All (Owns d C) ws
        owns = all_map (To r.at) (Owns d C) (λ x t. subst (Owned d C) (sym t) (mine k c key-at)) ws to

        touched : (p : ℕ) → Dec (r.at ≡ p)
            → Touch C 0 (f p) (edit p (f p) ws) × (blocks (edit p (f p) ws) + 0 ≡ blocks (f p) + 0)
        touched p (yes q) = rw (← q, own-edit) (t, ap (λ (x : ℕ). x + 0) b)
        touched p (no q) = rw (away p q) (keep refl refl, refl)

  -- delete and abandon
  pub clearing : (r : Row) → Stand d r → (k : Key) → once k ≡ true → holds k r.entry ≡ true → All (Only (holds k) r.at) (rows d)
      → Gone d r k (emptying r)
  unfolding emptying
  clearing r s k one h only =
      let g = key-gone r s k h only ws to within e refl (empty_holds k e x.kind) in
      record {
        good =
            one-good r s k h only ws to within e refl (One k) refl
            (gone k refl one (key-at r s k h only ws to within e refl) x.kind refl)
            x.blocks
            (gone-source d (write d ws) k g);
        gone = g;
        entry = entry-after r s k h only ws to within e refl ∙ ap (λ (z : Entry). set z status_word empty_status) (sym s.is);
      }
    where
      ws : List Write
      ws = put r.at status_word empty_status ∷ []

      to : All (To r.at) ws
      to = (refl, tt)

      within : All (λ (x : Write). x.word < w) ws
      within = (omega arith, tt)

      e : Entry
      e = set (f r.at) status_word empty_status

      x : Cleared (f r.at) e
      x = cleared (f r.at) (slot-seven d r.at s.slot)

  -- protect and unprotect
  pub stating : (r : Row) → Stand d r → (name : Name) → once (File name) ≡ true → holds (File name) r.entry ≡ true
      → All (Only (holds (File name)) r.at) (rows d) → long_name name ≡ false → (status : ℕ) → kind_of status ≡ Permanent
      → Stated d r (File name) (set r.entry status_word status) (restating r status)
  unfolding restating
  stating r s name one h only fine status perm =
      let g = key_stays r s k h only ws to within e refl has in
      record {
        good =
            one-good r s k h only ws to within e refl (One k) refl
            (made k k refl one (key-at r s k h only ws to within e refl) refl has x.permanent (file-short name e x fine) refl)
            y.blocks
            (same_source d (write d ws) k g);
        same = g;
        entry = entry-after r s k h only ws to within e refl ∙ ap (λ (z : Entry). set z status_word status) (sym s.is);
      }
    where
      k : Key
      k = File name

      ws : List Write
      ws = put r.at status_word status ∷ []

      to : All (To r.at) ws
      to = (refl, tt)

      within : All (λ (x : Write). x.word < w) ws
      within = (omega arith, tt)

      e : Entry
      e = set (f r.at) status_word status

      y : Restated status (f r.at) e
      y = restated (f r.at) status (slot-seven d r.at s.slot)

      x : IsFile name e
      x =
          record {
            permanent = (y.file perm).permanent;
            name = (y.file perm).name ∙ (is-file name (f r.at) (rw s.is at h)).name;
          }

      has : holds k e ≡ true
      has = file-holds name e x

  -- rename
  pub giving : (r : Row) → Stand d r → (old new : Name) → once (File old) ≡ true → holds (File old) r.entry ≡ true
      → All (Only (holds (File old)) r.at) (rows d) → All (Fails (holds (File new))) (rows d)
      → (File old ≡ File new → ⊥) → long_name new ≡ false → Made d r (File old) (File new) (blocks r.entry) (renaming r new)
  unfolding renaming
  giving r s old new one h only free ne fine =
      let g = key-gone r s k h only ws to within e refl (other_key k l e ne has) in
      let m = key-made r s k h only ws to within e refl l has free in
      let i = entry-after r s k h only ws to within e refl in
      record {
        good =
            one-good r s k h only ws to within e refl (Two k l) (inl refl)
            (made k l (inl refl) one (key-at r s k h only ws to within e refl) (inr refl) has x.permanent (file-short new e x fine)
            refl)
            y.blocks
            (made-source d (write d ws) k l one g (λ _. m));
        gone = g;
        made = λ _. m;
        key = ap (holds l) i ∙ has;
        length = ap blocks i ∙ y.blocks ∙ ap blocks (sym s.is);
        date = ap date_of i ∙ y.date ∙ ap date_of (sym s.is);
      }
    where
      k : Key
      k = File old

      l : Key
      l = File new

      ws : List Write
      ws =
          put r.at name_word new.first
          ∷ put r.at name2_word new.second
          ∷ put r.at extension_word new.extension
          ∷ []

      to : All (To r.at) ws
      to = (refl, (refl, (refl, tt)))

      within : All (λ (x : Write). x.word < w) ws
      within = (omega arith, (omega arith, (omega arith, tt)))

      e : Entry
      e = set (set (set (f r.at) name_word new.first) name2_word new.second) extension_word new.extension

      y : Renamed new (f r.at) e
      y = renamed (f r.at) new (slot-seven d r.at s.slot)

      x : IsFile new e
      x = y.file (is-file old (f r.at) (rw s.is at h)).permanent

      has : holds l e ≡ true
      has = file-holds new e x
