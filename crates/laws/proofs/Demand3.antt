-- Demand 3. After one request of the batch the others are still apart, so the batch may be taken request by request: it keeps
-- the directory sound, all rows of a key that none names are as before, and two neighbours may be exchanged. Every order comes about
-- by exchanges of neighbours.
use Prim.Native.Nat.{ℕ}
use native.Mathlib.Omega.{arith}
use mathlib.Core.Path.{◌≡◌, refl, sym, ap, ◌∙◌, subst, subst₂}
use mathlib.Core.List.{List, [], ◌∷◌, Permᴰ}
use lib.ListN.{length}
use Rattle.meaning.specs.declared.Request.{Request}
use Rattle.meaning.specs.declared.Answer.{Answer}
use Rattle.meaning.specs.Words.{segments, rows}
use Rattle.meaning.specs.Sound.{fault}
use Rattle.meaning.specs.Answers.{find}
use Rattle.meaning.specs.Batch.{serve, words_after, answers_to}
use Rattle.meaning.specs.declared.Key.{Key}
use Rattle.meaning.specs.declared.Key.TheVariants.{File, Open}
use Rattle.meaning.specs.Keys.{holds}
use Rattle.laws.specs.Order.{InBatch, Names, Apart, Batch3, Answered, every, paired, Ordered, Demand3}
use Rattle.walks.specs.Lists.{All, Pairwise}
use Rattle.walks.proofs.Alls.{all_perm, pairwise_perm}
use Rattle.rules.proofs.Soundness.{sound, data_blocks}
use Rattle.laws.proofs.Writes.{length-write}
use Rattle.laws.proofs.Keeps.{found-every}
use Rattle.laws.proofs.Deeds.{file-key, open_key}
use Rattle.laws.proofs.Served.{plan, plan-every, serve-words, serve-kept}
use Rattle.laws.proofs.Swap.{names_back, turned, answer-same, words_same}

abbrev Kinds : List Request → Type 0
Kinds qs = All (λ (q : Request). InBatch q.op) qs

-- none names a key
abbrev Unnamed : List ℕ → Key → List Request → Type 0
Unnamed d k qs = All (λ (q : Request). Names d q k → ⊥) qs

-- after the request p
module _ (v : ℕ) (d : List ℕ) (h : fault v d ≡ 0) (p : Request) (in_p : InBatch p.op) where
  names_after : (q : Request) → Apart d p q → (k : Key) → Names (serve v d p).words q k → Names d q k
  names_after q apart k n = names_back v d (sound v d h) p q apart k (rw (serve-words v d p in_p h) at n)

  all_after : (q : Request) → Apart d p q → (rs : List Request) → All (Apart d p) rs → All (Apart d q) rs
      → All (Apart (serve v d p).words q) rs
  unfolding Apart
  all_after q pq [] a b = tt
  all_after q pq (r ∷ rs) a b =
      ((λ k n m. b.0 k (names_after q pq k n) (names_after r a.0 k m)), all_after q pq rs a.1 b.1)

  pairwise_after : (qs : List Request) → All (Apart d p) qs → Pairwise (Apart d) qs → Pairwise (Apart (serve v d p).words) qs
  pairwise_after [] a b = tt
  pairwise_after (q ∷ qs) a b = (all_after q a.0 qs a.1 b.0, pairwise_after qs a.1 b.1)

  unnamed_after : (k : Key) (qs : List Request) → All (Apart d p) qs → Unnamed d k qs → Unnamed (serve v d p).words k qs
  unnamed_after k [] a b = tt
  unnamed_after k (q ∷ qs) a b = ((λ n. b.0 (names_after q a.0 k n)), unnamed_after k qs a.1 b.1)

  every-after : (k : Key) → (Names d p k → ⊥) → every (holds k) (rows (serve v d p).words) ≡ every (holds k) (rows d)
  every-after k out = rw (serve-words v d p in_p h) (plan-every v d (sound v d h) p k out)

  length-after : length (serve v d p).words ≡ length d
  length-after = rw (serve-words v d p in_p h) (length-write (plan d p).writes d)

-- the batch
module _ (v : ℕ) where
  batch-kept : (qs : List Request) (d : List ℕ) → fault v d ≡ 0 → Kinds qs → fault v (words_after v d qs) ≡ 0
  unfolding words_after
  batch-kept [] d h b = h
  batch-kept (q ∷ qs) d h b = batch-kept qs (serve v d q).words (serve-kept v d q b.0 h) b.1

  batch-length : (qs : List Request) (d : List ℕ) → fault v d ≡ 0 → Kinds qs → length (words_after v d qs) ≡ length d
  unfolding words_after
  batch-length [] d h b = refl
  batch-length (q ∷ qs) d h b =
      batch-length qs (serve v d q).words (serve-kept v d q b.0 h) b.1 ∙ length-after v d h q b.0

  batch-every : (qs : List Request) (d : List ℕ) → fault v d ≡ 0 → Kinds qs → Pairwise (Apart d) qs → (k : Key) → Unnamed d k qs
      → every (holds k) (rows (words_after v d qs)) ≡ every (holds k) (rows d)
  unfolding words_after
  batch-every [] d h b a k out = refl
  batch-every (q ∷ qs) d h b a k out =
      batch-every qs (serve v d q).words (serve-kept v d q b.0 h) b.1 (pairwise_after v d h q b.0 qs a.0 a.1) k
      (unnamed_after v d h q b.0 k qs a.0 out.1)
      ∙ every-after v d h q b.0 k out.0

  batch-found : (qs : List Request) (d : List ℕ) → fault v d ≡ 0 → Batch3 d qs → (k : Key) → Unnamed d k qs
      → find (holds k) (rows (words_after v d qs)) ≡ find (holds k) (rows d)
  batch-found qs d h b k out = found-every (holds k) _ (rows d) (batch-every qs d h b.kinds b.apart k out)

  rest-batch : (d : List ℕ) → fault v d ≡ 0 → (q : Request) (qs : List Request) → Batch3 d (q ∷ qs)
      → Batch3 (serve v d q).words qs
  rest-batch d h q qs b =
      record { kinds = b.kinds.1; apart = pairwise_after v d h q b.kinds.0 qs b.apart.0 b.apart.1 }

  same_first : (d : List ℕ) (q : Request) (qs rs : List Request) → Ordered v (serve v d q).words qs rs
      → Ordered v d (q ∷ qs) (q ∷ rs)
  unfolding words_after answers_to
  same_first d q qs rs o = record { answers = Permᴰ.cons refl o.answers; words = o.words }

  -- two neighbours exchanged
  exchanged : (x y : Request) (a a' b b' : Answer) (l l' : List Answered) → a' ≡ a → b' ≡ b → l ≡ l'
      → Permᴰ {A = Answered} (record { request = x; answer = a } ∷ record { request = y; answer = b' } ∷ l)
      (record { request = y; answer = b } ∷ record { request = x; answer = a' } ∷ l')
  exchanged x y a a' b b' l l' e f g = rw (e, f, g) (Permᴰ.swap refl refl)

  two_swapped : (d : List ℕ) → fault v d ≡ 0 → (x y : Request) (qs : List Request) → Batch3 d (x ∷ y ∷ qs)
      → Ordered v d (x ∷ y ∷ qs) (y ∷ x ∷ qs)
  unfolding words_after answers_to
  two_swapped d h x y qs b =
      let a = b.apart.0.0 in
      let i = b.kinds.0 in
      let j = b.kinds.1.0 in
      let e = words_same v d h x y i j a in
      record {
        answers =
            exchanged x y (serve v d x).answer _ (serve v d y).answer _ _ _ (answer-same v d h y x j i (turned d x y a))
            (answer-same v d h x y i j a)
            (ap (λ (l : List ℕ). paired qs (answers_to v l qs)) e);
        words = ap (λ (l : List ℕ). words_after v l qs) e;
      }

  batch_perm : {qs rs : List Request} → Permᴰ qs rs → (d : List ℕ) → Batch3 d qs → Batch3 d rs
  batch_perm p d b =
      record {
        kinds = all_perm (λ (q : Request). InBatch q.op) p b.kinds;
        apart = pairwise_perm (Apart d) (turned d) p b.apart;
      }

  ordered : {qs rs : List Request} → Permᴰ qs rs → (d : List ℕ) → fault v d ≡ 0 → Batch3 d qs → Ordered v d qs rs
  ordered Permᴰ.nil d h b = record { answers = Permᴰ.nil; words = refl }
  ordered (Permᴰ.cons {a = x} {l₁ = qs} {l₂ = rs} e p) d h b =
      subst (λ (z : Request). Ordered v d (x ∷ qs) (z ∷ rs)) e
      (same_first d x qs rs (ordered p (serve v d x).words (serve-kept v d x b.kinds.0 h) (rest-batch d h x qs b)))
  ordered (Permᴰ.swap {a = x} {b = y} {l = qs} e f) d h b =
      subst₂ (λ (u z : Request). Ordered v d (x ∷ y ∷ qs) (u ∷ z ∷ qs)) f e (two_swapped d h x y qs b)
  ordered (Permᴰ.trans p q) d h b =
      let i = ordered p d h b in
      let j = ordered q d h (batch_perm p d b) in
      record { answers = Permᴰ.trans i.answers j.answers; words = i.words ∙ j.words }

-- for every sound directory, every such batch and every order of it
pub demand3 : (v : ℕ) (d : List ℕ) → fault v d ≡ 0 → Demand3 v d
demand3 v d h =
    record {
      order = λ qs rs b p. ordered v p d h b;
      kept =
          λ qs b.
          record {
            sound = batch-kept v qs d h b.kinds;
            files =
                λ n out.
                file-key (words_after v d qs) n ∙ batch-found v qs d h b (File n) out ∙ sym (file-key d n);
            every_file = λ n out. batch-every v qs d h b.kinds b.apart (File n) out;
            channels =
                λ x out.
                open_key (words_after v d qs) x ∙ batch-found v qs d h b (Open x) out ∙ sym (open_key d x);
            lengths =
                let t = data_blocks v (words_after v d qs) (sound v _ (batch-kept v qs d h b.kinds)) in
                let e : segments (words_after v d qs) ≡ segments d = rw (batch-length v qs d h b.kinds) in
                omega arith;
          };
    }
