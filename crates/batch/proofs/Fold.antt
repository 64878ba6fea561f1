-- The batch turn by turn. After i turns the words and the answers so far are such that serving what is left from there gives what the
-- whole batch gives; a turn that serves request i keeps that, and where none is left both are the batch's. No request changes the
-- directory's fault, so the one that was found before the first turn is known before each. Assumes nothing.
use mathlib.Core.Path.{◌≡◌, refl, sym, ◌∙◌, ap}
use Prim.Native.Nat.{ℕ, zero, suc, ◌+◌, ◌<◌, ◌≤◌}
use native.Mathlib.Numerals.{add-one}
use native.Mathlib.Omega.{arith}
use mathlib.Core.List.{List, [], ◌∷◌, ◌++◌, append_assoc, append-nil}
use lib.IntN.{pos}
use lib.ListN.{length, get_or, take, drop, set, length-set, drop_of_length-le}
use lib.Seq.{take_all, drop-cons, take-suc-set}
use borrow.Author.Tests.{eq-eqb, ne_eqb}
use Rattle.meaning.specs.declared.Op.TheVariants.{Lookup}
use Rattle.meaning.specs.declared.Name.{Name}
use Rattle.meaning.specs.declared.Request.{Request}
use Rattle.meaning.specs.declared.Answer.{Answer}
use Rattle.meaning.specs.Sound.{fault}
use Rattle.meaning.specs.Answers.{Outcome, refusal, refuse}
use Rattle.meaning.specs.Batch.{serve, words_after, answers_to, batch}
use Rattle.laws.proofs.Kept.{serve-sound}
use Rattle.engine.proofs.Tested.{faulty}
use Rattle.batch.specs.Ran.{Ran}

-- what stands past the end of a slice
abbrev no_name : Name
no_name = record { first = 0; second = 0; extension = 0 }

abbrev pub no_request : Request
no_request = record {
  op = Lookup;
  name = no_name;
  new_name = no_name;
  job = 0;
  channel = 0;
  size = pos 0;
  final_length = pos 0;
  date = 0;
}

-- an answer put in its place comes after those before it
answer-put : (xs : List Answer) (i : ℕ) (x : Answer) (ys : List Answer) → i < length xs
    → take (suc i) (set xs i x) ++ ys ≡ take i xs ++ (x ∷ ys)
answer-put xs i x ys l = ap (λ (r : List Answer). r ++ ys) (take-suc-set xs i x l) ∙ append_assoc (take i xs) (x ∷ []) ys

-- a sound directory stays sound, and one with a fault keeps its words
pub serve-fault : (v : ℕ) (d : List ℕ) (q : Request) → fault v (serve v d q).words ≡ fault v d
unfolding refuse
serve-fault v d q = go (fault v d) refl
  where
    go : (n : ℕ) → n ≡ fault v d → fault v (serve v d q).words ≡ fault v d
    go zero e = serve-sound v d (sym e) q ∙ e
    go (suc n) e = ap (λ (o : Outcome). fault v o.words) (faulty v d q (suc n) e (λ h. omega (arith, h)))

-- before turn i of a batch of the requests rs on the words ds, with the words D and the answers As so far
module _ (v : ℕ) (ds : List ℕ) (rs : List Request) where
  pub record Turn (i : ℕ) (D : List ℕ) (As : List Answer) : Type 0 where
    pub len_a : length As ≡ length rs
    pub same_fault : fault v D ≡ fault v ds
    pub words : words_after v D (drop i rs) ≡ words_after v ds rs
    pub answers : take i As ++ answers_to v D (drop i rs) ≡ answers_to v ds rs

  pub start : (us : List Answer) → length rs ≡ length us → Turn 0 ds us
  start us e = record {
    len_a = sym e;
    same_fault = refl;
    words = refl;
    answers = refl;
  }

  module _ {i : ℕ} {D : List ℕ} {As : List Answer} (t : Turn i D As) where
    -- request i is served: a is its answer, and zs are the words after it
    module _ (l : i < length rs) (a : Answer) (zs : List ℕ)
        (ea : a ≡ (serve v D (get_or rs i no_request)).answer)
        (ez : zs ≡ (serve v D (get_or rs i no_request)).words) where
      here : drop i rs ≡ get_or rs i no_request ∷ drop (suc i) rs
      here = drop-cons rs i no_request l

      next_words : words_after v zs (drop (i + 1) rs) ≡ words_after v ds rs
      unfolding words_after
      next_words =
          ap (λ (k : ℕ). words_after v zs (drop k rs)) (add-one i)
          ∙ ap (λ (d : List ℕ). words_after v d (drop (suc i) rs)) ez
          ∙ ap (λ (qs : List Request). words_after v D qs) (sym here)
          ∙ t.words

      next_answers : take (i + 1) (set As i a) ++ answers_to v zs (drop (i + 1) rs) ≡ answers_to v ds rs
      unfolding answers_to
      next_answers =
          ap (λ (k : ℕ). take k (set As i a) ++ answers_to v zs (drop k rs)) (add-one i)
          ∙ answer-put As i a (answers_to v zs (drop (suc i) rs)) (omega (arith, t.len_a, l))
          ∙ ap (λ (x : Answer). take i As ++ (x ∷ answers_to v zs (drop (suc i) rs))) ea
          ∙ ap (λ (d : List ℕ). take i As
          ++ ((serve v D (get_or rs i no_request)).answer ∷ answers_to v d (drop (suc i) rs))) ez
          ∙ ap (λ (qs : List Request). take i As ++ answers_to v D qs) (sym here)
          ∙ t.answers

      pub next : Turn (i + 1) zs (set As i a)
      next = record {
        len_a = length-set As i a ∙ t.len_a;
        same_fault = ap (fault v) ez ∙ serve-fault v D (get_or rs i no_request) ∙ t.same_fault;
        words = next_words;
        answers = next_answers;
      }

    last_words : length rs ≤ i → D ≡ words_after v ds rs
    unfolding words_after
    last_words l = ap (λ (qs : List Request). words_after v D qs) (sym (drop_of_length-le rs l)) ∙ t.words

    last_answers : length rs ≤ i → As ≡ answers_to v ds rs
    unfolding answers_to
    last_answers l =
        sym (append-nil (take i As) ∙ take_all i As (omega (arith, t.len_a, l)))
        ∙ ap (λ (qs : List Request). take i As ++ answers_to v D qs) (sym (drop_of_length-le rs l))
        ∙ t.answers

    -- what is left where all are served
    pub ran : (us : List Answer) → length rs ≡ length us → length rs ≤ i → Ran 0 D As (batch v ds rs us)
    unfolding batch
    ran us e l =
        let q = eq-eqb (length rs) (length us) e in
        record { is = rw q; after = rw q (last_words l); answered = rw q (last_answers l) }

  -- where the lengths differ
  pub refused : (us : List Answer) → (length rs ≡ length us → ⊥) → Ran 18 ds us (batch v ds rs us)
  unfolding batch
  refused us n = let q = ne_eqb (length rs) (length us) n in record { is = rw q; after = rw q; answered = rw q }
