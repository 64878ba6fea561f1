-- Two requests of the batch that name no key both. The one writes to no slot that the other owns, so the other finds what it
-- found before: it has the same plan, and names the same. Their writes are to different words, so either order leaves the same
-- words.
use Prim.Native.Nat.{ℕ, ◌+◌, ◌≤◌, ◌<◌}
use native.Mathlib.Omega.{arith}
use mathlib.Core.Path.{◌≡◌, refl, sym, ap, ◌∙◌, subst}
use mathlib.Core.Logic.{◌⊎◌, inl, inr, ◌≢◌}
use mathlib.Core.Bool.{Bool, true, false, cond, false≢true}
use mathlib.Core.List.{List, [], ◌∷◌}
use mathlib.Core.Option.{Option, none, some}
use lib.ListN.{get_or}
use Rattle.meaning.specs.declared.Op.{Op}
use Rattle.meaning.specs.declared.Op.TheVariants.{Lookup, Enter, Close, Abandon, Delete, Rename, Protect, Unprotect}
use Rattle.meaning.specs.declared.Request.{Request}
use Rattle.meaning.specs.declared.Name.{Name}
use Rattle.meaning.specs.Words.{slot_words, length_word, name_of, blocks, Row}
use Rattle.meaning.specs.Sound.{fault}
use Rattle.meaning.specs.Answers.{file_of, open_on, Write, write}
use Rattle.meaning.specs.Requests.{emptying, good_channel, word_of, gives_way, over_protected, closing, final_length}
use Rattle.meaning.specs.Batch.{serve}
use Rattle.meaning.specs.declared.Key.{Key}
use Rattle.meaning.specs.declared.Key.TheVariants.{File, Open}
use Rattle.laws.specs.Order.{InBatch, open_for, NamesBy, Names, Apart}
use Rattle.walks.specs.Lists.{All}
use Rattle.rules.proofs.Grid.{OnGrid, far, entry_at}
use Rattle.laws.proofs.Writes.{Fit, word_write, write_comm}
use Rattle.rules.proofs.Keys.{one_key, empty_holds, is_open_lem}
use Rattle.rules.proofs.Soundness.{Sound, sound, faultless}
use Rattle.laws.proofs.Move.{width_same}
use Rattle.laws.proofs.Good.{Owned, mine, after, Owns}
use Rattle.laws.proofs.Plans.{carried, done, testing, finding, closed_plan, delete_plan, restate_plan, abandon_plan, rename_plan, close_plan}
use Rattle.laws.proofs.Deeds.{file-key, open_key, found_by, open_at, CloseNames, AbandonNames, open_at_lem}
use Rattle.laws.proofs.Served.{plan_by, plan, plan-good, plan-found, plan-kept, served, serve-words}

-- a channel that is named is open
opened : (d : List ℕ) (job ch : ℕ) (r : Row) → open_at d job ch ≡ some r → open_on d (word_of job ch) ≡ some r
opened d job ch r = go (good_channel job ch) (open_on d (word_of job ch))
  where
    go : (b : Bool) (o : Option Row) → cond b o none ≡ some r → o ≡ some r
    go true o h = h
    go false o h = cc

close_names : (x y : ℕ) (o : Option Row) → CloseNames x o (Open y) → (x ≡ y) × ((r : Row) × (o ≡ some r))
close_names x y none n = absurd n
close_names x y (some r) (inl e) = (cc, (r, refl))
close_names x y (some r) (inr e) = absurd (let z : ◌≡◌ {A = ℕ} 0 1 = cc in omega arith)

abandon_names : (x y : ℕ) (o : Option Row) → AbandonNames x o (Open y) → (x ≡ y) × ((r : Row) × (o ≡ some r))
abandon_names x y none n = absurd n
abandon_names x y (some r) e = (cc, (r, refl))

named_open : (op : Op) (d : List ℕ) (q : Request) (y : ℕ) → NamesBy op d q (Open y) → (r : Row) × (open_on d y ≡ some r)
unfolding open_for
named_open Lookup d q y n = absurd n
named_open Enter d q y n = absurd n
named_open Close d q y n =
    let x = close_names (word_of q.job q.channel) y (open_at d q.job q.channel) n in
    (x.1.0, ap (open_on d) (sym x.0) ∙ opened d q.job q.channel x.1.0 x.1.1)
named_open Abandon d q y n =
    let x = abandon_names (word_of q.job q.channel) y (open_at d q.job q.channel) n in
    (x.1.0, ap (open_on d) (sym x.0) ∙ opened d q.job q.channel x.1.0 x.1.1)
named_open Delete d q y n = absurd (let z : ◌≡◌ {A = ℕ} 0 1 = cc in omega arith)
named_open Protect d q y n = absurd (let z : ◌≡◌ {A = ℕ} 0 1 = cc in omega arith)
named_open Unprotect d q y n = absurd (let z : ◌≡◌ {A = ℕ} 0 1 = cc in omega arith)
named_open Rename d q y (inl n) = absurd (let z : ◌≡◌ {A = ℕ} 0 1 = cc in omega arith)
named_open Rename d q y (inr n) = absurd (let z : ◌≡◌ {A = ℕ} 0 1 = cc in omega arith)

close-named : (d : List ℕ) (job ch : ℕ) (r : Row) → good_channel job ch ≡ true → open_on d (word_of job ch) ≡ some r
    → CloseNames (word_of job ch) (open_at d job ch) (Open (word_of job ch))
    × CloseNames (word_of job ch) (open_at d job ch) (File (name_of r.entry))
close-named d job ch r i e = rw (open_at_lem d job ch r i e) (inl refl, inr refl)

abandon-named : (d : List ℕ) (job ch : ℕ) (r : Row) → good_channel job ch ≡ true → open_on d (word_of job ch) ≡ some r
    → AbandonNames (word_of job ch) (open_at d job ch) (Open (word_of job ch))
abandon-named d job ch r i e = rw (open_at_lem d job ch r i e) refl

-- keys of the one are not keys of the other
abbrev Disjoint : (Key → Type 0) → (Key → Type 0) → Type 0
Disjoint C D = (k : Key) → C k → D k → ⊥

-- no place is owned by both
owned_apart : (d : List ℕ) (C D : Key → Type 0) → Disjoint C D → (a b : ℕ) → Owned d C a → Owned d D b → a ≡ b → ⊥
owned_apart d C D no_both a b (mine k n h) (mine l m g) e =
    no_both k n (subst D (one_key l k (entry_at d (slot_words d) b) g (rw e at h)) m)
owned_apart d C D no_both a b (mine k n h) (after l b' m g i j) e = false≢true (sym (empty_holds k _ j) ∙ (rw e at h))
owned_apart d C D no_both a b (after k a' n h i j) (mine l m g) e = false≢true (sym (empty_holds l _ (rw e at j)) ∙ g)
owned_apart d C D no_both a b (after k a' n h i j) (after l b' m g i' j') e =
    let z : a' ≡ b' = omega arith in
    no_both k n (subst D (one_key l k (entry_at d (slot_words d) b') g (rw z at h)) m)

words_apart : (w a b i j : ℕ) → OnGrid w a → OnGrid w b → i < w → j < w → (a ≡ b → ⊥) → a + i ≢ b + j
words_apart w a b i j x y hi hj ne e = go (far w a b x y)
  where
    go : (a ≡ b) ⊎ ((a + w ≤ b) ⊎ (b + w ≤ a)) → ⊥
    go (inl z) = ne z
    go (inr (inl z)) = omega arith
    go (inr (inr z)) = omega arith

-- the writes ws, of an owner of C, do not meet a word of a slot that an owner of D has
clear : (d : List ℕ) (C D : Key → Type 0) → Disjoint C D → (j b : ℕ) → OnGrid (slot_words d) b → j < slot_words d → Owned d D b
    → (ws : List Write) → All (Fit (slot_words d)) ws → All (Owns d C) ws → All (λ (x : Write). b + j ≢ x.place + x.word) ws
clear d C D no_both j b o h own [] f g = tt
clear d C D no_both j b o h own (x ∷ ws) f g = (
  words_apart (slot_words d) b x.place j x.word o f.0.on h f.0.within
      (λ e. owned_apart d C D no_both x.place b g.0 own (sym e)),
  clear d C D no_both j b o h own ws f.1 g.1,
)

clear_all : (d : List ℕ) (C D : Key → Type 0) → Disjoint C D → (ws : List Write) → All (Fit (slot_words d)) ws → All (Owns d C) ws
    → (us : List Write) → All (Fit (slot_words d)) us → All (Owns d D) us
    → All (λ (x : Write). All (λ (y : Write). x.place + x.word ≢ y.place + y.word) ws) us
clear_all d C D no_both ws f g [] f' g' = tt
clear_all d C D no_both ws f g (x ∷ us) f' g' =
    let c = clear d C D no_both x.word x.place f'.0.on f'.0.within g'.0 ws f g in
    (c, clear_all d C D no_both ws f g us f'.1 g'.1)

-- after the request p
module _ (v : ℕ) (d : List ℕ) (s : Sound v d) (p : Request) where
  abbrev d1 : List ℕ
  d1 = write d (plan d p).writes

  file-same : (n : Name) → (Names d p (File n) → ⊥) → file_of d1 n ≡ file_of d n
  file-same n out = file-key d1 n ∙ plan-found v d s p (File n) out ∙ sym (file-key d n)

  -- a channel that another names if it is open
  open_same : (D : Key → Type 0) → Disjoint (Names d p) D → (y : ℕ) → ((r : Row) → open_on d y ≡ some r → D (Open y))
      → open_on d1 y ≡ open_on d y
  unfolding Names
  open_same D no_both y names =
      open_key d1 y
      ∙ plan-found v d s p (Open y) (λ n. let x = named_open p.op d p y n in no_both (Open y) n (names x.0 x.1))
      ∙ sym (open_key d y)

  open_at-same : (D : Key → Type 0) → Disjoint (Names d p) D → (job ch : ℕ)
      → ((r : Row) → good_channel job ch ≡ true → open_on d (word_of job ch) ≡ some r → D (Open (word_of job ch)))
      → open_at d1 job ch ≡ open_at d job ch
  open_at-same D no_both job ch names = go (good_channel job ch) refl
    where
      go : (b : Bool) → good_channel job ch ≡ b → cond b (open_on d1 (word_of job ch)) none ≡ cond b (open_on d (word_of job ch)) none
      go true i = open_same D no_both (word_of job ch) (λ r e. names r i e)
      go false i = refl

  -- the length of the entry after a tentative one that another names
  next-same : (D : Key → Type 0) → Disjoint (Names d p) D → (y : ℕ) → D (Open y) → (r : Row) → open_on d y ≡ some r
      → get_or d1 (r.at + slot_words d + length_word) 0 ≡ get_or d (r.at + slot_words d + length_word) 0
  next-same D no_both y named r e =
      let f = found_by v d s (Open y) r (sym (open_key d y) ∙ e) in
      let x = f.stand.next (is_open_lem y r.entry f.has).tentative in
      let g = plan-good v d s p in
      word_write (plan d p).writes d (r.at + slot_words d + length_word)
      (clear d (Names d p) D no_both 4 (r.at + slot_words d) x.0.on (omega arith)
      (after (Open y) r.at named (rw f.stand.is at f.has) refl x.1)
      (plan d p).writes g.fit g.own)

  closing_same : (D : Key → Type 0) → Disjoint (Names d p) D → (y : ℕ) → D (Open y) → (r : Row) → D (File (name_of r.entry))
      → open_on d y ≡ some r
      → (n : ℕ) → (closing d1 r n ≡ closing d r n) × (over_protected d1 (name_of r.entry) ≡ over_protected d (name_of r.entry))
  unfolding closing gives_way over_protected
  closing_same D no_both y named r made e n =
      let g = plan-good v d s p in
      let f = file-same (name_of r.entry) (λ m. no_both (File (name_of r.entry)) m made) in
      (rw (width_same (Names d p) g.fall d d1 g.move, next-same D no_both y named r e, f), rw f)

  close-same : (job ch : ℕ) → Disjoint (Names d p) (CloseNames (word_of job ch) (open_at d job ch)) → (n : Option ℕ)
      → close_plan d1 job ch n ≡ close_plan d job ch n
  unfolding close_plan
  close-same job ch no_both n = go (good_channel job ch) refl
    where
      D : Key → Type 0
      D = CloseNames (word_of job ch) (open_at d job ch)

      closed_same : good_channel job ch ≡ true → (r : Row) → open_on d (word_of job ch) ≡ some r → (m : Option ℕ)
          → closed_plan d1 r m ≡ closed_plan d r m
      closed_same i r e none = refl
      closed_same i r e (some m) =
          let x = close-named d job ch r i e in
          let c = closing_same D no_both (word_of job ch) x.0 r x.1 e m in
          rw (c.0, c.1)

      at_row : good_channel job ch ≡ true → (o : Option Row) → open_on d (word_of job ch) ≡ o
          → finding 15 o (λ r. closed_plan d1 r n) ≡ finding 15 o (λ r. closed_plan d r n)
      at_row i none e = refl
      at_row i (some r) e = closed_same i r e n

      go : (b : Bool) → good_channel job ch ≡ b
          → testing 8 b (finding 15 (open_on d1 (word_of job ch)) (λ r. closed_plan d1 r n))
          ≡ testing 8 b (finding 15 (open_on d (word_of job ch)) (λ r. closed_plan d r n))
      go true i =
          rw (open_same D no_both (word_of job ch) (λ r e. (close-named d job ch r i e).0))
          (at_row i (open_on d (word_of job ch)) refl)
      go false i = refl

  abandon-same : (job ch : ℕ) → Disjoint (Names d p) (AbandonNames (word_of job ch) (open_at d job ch))
      → abandon_plan d1 job ch ≡ abandon_plan d job ch
  unfolding abandon_plan
  abandon-same job ch no_both = go (good_channel job ch) refl
    where
      D : Key → Type 0
      D = AbandonNames (word_of job ch) (open_at d job ch)

      go : (b : Bool) → good_channel job ch ≡ b
          → testing 8 b (finding 15 (open_on d1 (word_of job ch)) (λ r. done r (blocks r.entry) (emptying r)))
          ≡ testing 8 b (finding 15 (open_on d (word_of job ch)) (λ r. done r (blocks r.entry) (emptying r)))
      go true i = rw (open_same D no_both (word_of job ch) (λ r e. abandon-named d job ch r i e))
      go false i = refl

  same_by : (op : Op) (q : Request) → Disjoint (Names d p) (NamesBy op d q) → plan_by op d1 q ≡ plan_by op d q
  unfolding delete_plan restate_plan rename_plan open_for
  same_by Lookup q no_both = refl
  same_by Enter q no_both = refl
  same_by Close q no_both = close-same q.job q.channel no_both (final_length q.final_length)
  same_by Abandon q no_both = abandon-same q.job q.channel no_both
  same_by Delete q no_both = rw (file-same q.name (λ n. no_both _ n refl))
  same_by Protect q no_both = rw (file-same q.name (λ n. no_both _ n refl))
  same_by Unprotect q no_both = rw (file-same q.name (λ n. no_both _ n refl))
  same_by Rename q no_both =
      rw (
        file-same q.name (λ n. no_both _ n (inl refl)),
        file-same q.new_name (λ n. no_both _ n (inr refl)),
      )

  -- the other has the same plan, and names what it named
  pub plan-same : (q : Request) → Apart d p q → plan d1 q ≡ plan d q
  unfolding plan Names Apart
  plan-same q apart = same_by q.op q apart

  back_by : (op : Op) (q : Request) → Disjoint (Names d p) (NamesBy op d q) → (k : Key) → NamesBy op d1 q k → NamesBy op d q k
  unfolding open_for
  back_by Lookup q no_both k n = n
  back_by Enter q no_both k n = n
  back_by Close q no_both k n =
      subst (λ (o : Option Row). CloseNames (word_of q.job q.channel) o k)
      (open_at-same _ no_both q.job q.channel (λ r i e. (close-named d q.job q.channel r i e).0)) n
  back_by Abandon q no_both k n =
      subst (λ (o : Option Row). AbandonNames (word_of q.job q.channel) o k)
      (open_at-same _ no_both q.job q.channel (λ r i e. abandon-named d q.job q.channel r i e)) n
  back_by Delete q no_both k n = n
  back_by Rename q no_both k n = n
  back_by Protect q no_both k n = n
  back_by Unprotect q no_both k n = n

  pub names_back : (q : Request) → Apart d p q → (k : Key) → Names d1 q k → Names d q k
  unfolding Names Apart
  names_back q apart k n = back_by q.op q apart k n

  pub writes_comm : (q : Request) → Apart d p q
      → write d1 (plan d q).writes ≡ write (write d (plan d q).writes) (plan d p).writes
  unfolding Apart
  writes_comm q apart =
      let g = plan-good v d s p in
      let g' = plan-good v d s q in
      sym
      (write_comm (plan d q).writes (plan d p).writes d
      (clear_all d (Names d p) (Names d q) apart (plan d p).writes g.fit g.own (plan d q).writes g'.fit g'.own))

pub turned : (d : List ℕ) (p q : Request) → Apart d p q → Apart d q p
unfolding Apart
turned d p q apart k n m = apart k m n

-- after p the request q gets the answer that it gets alone, and either order leaves the same words
module _ (v : ℕ) (d : List ℕ) (h : fault v d ≡ 0) (p q : Request) (in_p : InBatch p.op) (in-q : InBatch q.op) where
  after_served : Apart d p q → serve v (serve v d p).words q ≡ carried (write d (plan d p).writes) (plan d q)
  after_served apart =
      let s = sound v d h in
      rw (
        serve-words v d p in_p h,
        served v (write d (plan d p).writes) q in-q (faultless v _ (plan-kept v d s p)),
        plan-same v d s p q apart,
      )

  pub answer-same : Apart d p q → (serve v (serve v d p).words q).answer ≡ (serve v d q).answer
  answer-same apart = rw (after_served apart, served v d q in-q h)

  pub words-after : Apart d p q → (serve v (serve v d p).words q).words ≡ write (write d (plan d p).writes) (plan d q).writes
  words-after apart = rw (after_served apart)

pub words_same : (v : ℕ) (d : List ℕ) → fault v d ≡ 0 → (p q : Request) → InBatch p.op → InBatch q.op → Apart d p q
    → (serve v (serve v d p).words q).words ≡ (serve v (serve v d q).words p).words
words_same v d h p q in_p in-q apart =
    words-after v d h p q in_p in-q apart
    ∙ writes_comm v d (sound v d h) p q apart
    ∙ sym (words-after v d h q p in-q in_p (turned d p q apart))
