-- Laws of Radix-50 names. A code and its byte give each other back, which one computed test shows of the whole alphabet; a word
-- gives its three codes back by division; so text and words give each other back on legal names. Assumes nothing.
use Prim.Native.Nat.{ℕ, zero, suc, ◌+◌, ◌*◌, ◌-◌, ◌/◌, ◌%◌, ◌≤◌, ◌<◌}
use native.Mathlib.Omega.{arith}
use mathlib.Core.Path.{◌≡◌, refl, sym, ap, ◌∙◌}
use mathlib.Core.Bool.{Bool, true, false, cond, ◌&&◌, ◌||◌, true≢false}
use mathlib.Core.Logic.{⊎_elim}
use mathlib.Core.List.{List, [], ◌∷◌}
use borrow.Author.Tests.{leb-true, ltb-true, eqb-true, le-leb, ne_eqb}
use native.Mathlib.Nat.{le_of_suc-le-suc, not-suc-le-zero}
use lib.ListN.{length, get_or, take, drop, replicate, length-take, length-drop, drop_of_length-le}
use lib.Seq.{get_or-take, get_or-drop, drop-cons, take_all}
use lib.Dec.{eqb, leb, ltb}
use Rattle.std.specs.List.{list_all, prefix_len}
use Rattle.names.specs.Text.{bytes}
use Rattle.names.specs.Radix.{space, is_letter, is_digit, alphabet, shown, place, code_of, packed, packed_at, spelled, text_of, in_name, in_text}
use Rattle.names.specs.Radix.{blank, padded, legal_text, spells, legal_name, words_of_text, text_of_words}
use Rattle.names.specs.Steps.{Coded}
use Rattle.names.specs.declared.radix.NameWords.{NameWords}
use Rattle.names.specs.declared.radix.NameText.{NameText}
use Rattle.bools.proofs.Bools.{both, either, either_side}
use Rattle.bools.proofs.Below.{below}

-- the alphabet's rule: no byte stands in it twice
pub code_shown : (c : ℕ) → c < 40 → code_of (shown c) ≡ c
unfolding code_of shown alphabet bytes place
code_shown c h = eqb-true (code_of (shown c)) c (below (λ k. eqb (code_of (shown k)) k) 40 refl c h)

-- the bytes of a text are in the alphabet
in_text-small : (b : ℕ) → in_text b ≡ true → b < 91
unfolding in_text in_name
in_text-small b h =
    ⊎_elim (λ e. omega (arith, eqb-true b 32 e))
    (λ n. ⊎_elim (λ e. omega (arith, leb-true b 90 (both (leb 65 b) (leb b 90) e).1))
    (λ e. omega (arith, leb-true b 57 (both (leb 48 b) (leb b 57) e).1))
    (either (is_letter b) (is_digit b) n))
    (either (eqb b space) (in_name b) h)

found : ℕ → Bool
found b = cond (in_text b) (eqb (shown (code_of b)) b && ltb (code_of b) 40) true

found_in : (b : ℕ) → in_text b ≡ true → eqb (shown (code_of b)) b && ltb (code_of b) 40 ≡ true
unfolding found in_text in_name code_of shown alphabet bytes place
found_in b h = rw h at (below found 91 refl b (in_text-small b h))

pub shown_code : (b : ℕ) → in_text b ≡ true → shown (code_of b) ≡ b
shown_code b h = eqb-true (shown (code_of b)) b (both (eqb (shown (code_of b)) b) (ltb (code_of b) 40) (found_in b h)).0

pub code_small : (b : ℕ) → in_text b ≡ true → code_of b < 40
code_small b h = ltb-true (code_of b) 40 (both (eqb (shown (code_of b)) b) (ltb (code_of b) 40) (found_in b h)).1

-- a word and its three characters
pub spelled-packed : (x y z : ℕ) → in_text x ≡ true → in_text y ≡ true → in_text z ≡ true → spelled (packed x y z) ≡ x ∷ y ∷ z ∷ []
unfolding spelled packed
spelled-packed x y z hx hy hz =
    let a = code_small x hx in
    let b = code_small y hy in
    let c = code_small z hz in
    let w = code_of x * 1600 + code_of y * 40 + code_of z in
    let p : w / 1600 ≡ code_of x = omega arith in
    let q : w / 40 % 40 ≡ code_of y = omega arith in
    let r : w % 40 ≡ code_of z = omega arith in
    rw (p, q, r, shown_code x hx, shown_code y hy, shown_code z hz)

pub packed-spells : (x y z : ℕ) → in_text x ≡ true → in_text y ≡ true → in_text z ≡ true → spells (packed x y z) ≡ true
unfolding spells packed
packed-spells x y z hx hy hz =
    let a = code_small x hx in
    let b = code_small y hy in
    let c = code_small z hz in
    le-leb (code_of x * 1600 + code_of y * 40 + code_of z) 63999 (omega arith)

pub packed-spelled : (w : ℕ) → spells w ≡ true → packed (shown (w / 1600)) (shown (w / 40 % 40)) (shown (w % 40)) ≡ w
unfolding spells packed
packed-spelled w h =
    let l = leb-true w 63999 h in
    rw (code_shown (w / 1600) (omega arith), code_shown (w / 40 % 40) (omega arith), code_shown (w % 40) (omega arith)) (omega arith)

-- each byte of a legal text is a space, a letter or a digit
abbrev AllIn : List ℕ → Type 0
AllIn l = (k : ℕ) → k < length l → in_text (get_or l k 0) ≡ true

in_each : (b : ℕ) (bs : List ℕ) → in_text b ≡ true → AllIn bs → AllIn (b ∷ bs)
in_each b bs h f zero l = h
in_each b bs h f (suc k) l = f k (le_of_suc-le-suc l)

blank_in : (l : List ℕ) → blank l ≡ true → AllIn l
unfolding blank in_text
blank_in [] h = λ k l. absurd (not-suc-le-zero l)
blank_in (b ∷ bs) h =
    let p = both (eqb b space) (blank bs) h in
    in_each b bs (rw p.0) (blank_in bs p.1)

padded_in : (l : List ℕ) → padded l ≡ true → AllIn l
unfolding padded in_text
padded_in [] h = λ k l. absurd (not-suc-le-zero l)
padded_in (b ∷ bs) h = split (eqb b space) refl h (padded_in bs)
  where
    split : (t : Bool) → eqb b space ≡ t → cond t (blank bs) (in_name b && padded bs) ≡ true → (padded bs ≡ true → AllIn bs)
        → AllIn (b ∷ bs)
    split true e g f = in_each b bs (rw e) (blank_in bs g)
    split false e g f =
        let p = both (in_name b) (padded bs) g in
        in_each b bs (rw (e, p.0)) (f p.1)

-- a legal text, taken apart
pub record Legal (t : List ℕ) : Type 0 where
  pub nine : length t ≡ 9
  pub begun : in_name (get_or t 0 0) ≡ true
  pub name : padded (take 6 t) ≡ true
  pub extension : padded (drop 6 t) ≡ true

pub legal-parts : (t : List ℕ) → legal_text t ≡ true → Legal t
unfolding legal_text
legal-parts t h =
    let a = eqb (length t) 9 in
    let b = in_name (get_or t 0 0) in
    let c = padded (take 6 t) in
    let d = padded (drop 6 t) in
    let p = both (a && b && c) d h in
    let q = both (a && b) c p.0 in
    let r = both a b q.0 in
    record { nine = eqb-true (length t) 9 r.0; begun = r.1; name = q.1; extension = p.1 }

pub legal_in : (t : List ℕ) → legal_text t ≡ true → (k : ℕ) → k < 9 → in_text (get_or t k 0) ≡ true
legal_in t h k l = ⊎_elim front back (either_side k 6)
  where
    p : Legal t
    p = legal-parts t h

    front : k < 6 → in_text (get_or t k 0) ≡ true
    front m =
        rw get_or-take at
        (padded_in (take 6 t) p.name k (rw length-take (omega (arith, p.nine))))

    back : 6 ≤ k → in_text (get_or t k 0) ≡ true
    back m =
        let e : 6 + (k - 6) ≡ k = omega arith in
        rw (get_or-drop 6 t (k - 6) 0, e) at
        (padded_in (drop 6 t) p.extension (k - 6) (rw length-drop (omega (arith, p.nine))))

-- the three runs in which the bytes of a text stand in the alphabet
abbrev pub code_by : ℕ → ℕ
code_by b = cond (eqb b space) 0 (cond (is_digit b) (b - 48 + 30) (b - 65 + 1))

in_runs : ℕ → Bool
in_runs b = cond (in_text b) (eqb (code_of b) (code_by b) && (eqb b space || is_digit b || leb 65 b)) true

in_runs_lem : (b : ℕ) → in_text b ≡ true → (eqb (code_of b) (code_by b) ≡ true) × (eqb b space || is_digit b || leb 65 b ≡ true)
unfolding in_runs in_text in_name code_of alphabet bytes place
in_runs_lem b h = both _ _ (rw h at (below in_runs 91 refl b (in_text-small b h)))

pub code_by_lem : (b r : ℕ) → in_text b ≡ true → code_by b ≡ r → Coded b r
code_by_lem b r h e =
    let is : r ≡ code_of b = sym (eqb-true (code_of b) (code_by b) (in_runs_lem b h).0 ∙ e) in
    record { is = is; small = rw is (code_small b h) }

pub letters_from : (b : ℕ) → in_text b ≡ true → (b ≡ space → ⊥) → is_digit b ≡ false → 65 ≤ b
letters_from b h s d =
    leb-true 65 b (rw (ne_eqb b space s, d) at (in_runs_lem b h).1)

-- a field as the code tries it: what follows the first byte that a name can't have is blank
all_blank : (l : List ℕ) → list_all (λ b. eqb b space) l ≡ blank l
unfolding blank
all_blank [] = refl
all_blank (b ∷ l) = rw (all_blank l)

no_space : (b : ℕ) → in_name b ≡ true → eqb b space ≡ false
unfolding in_name
no_space b h = ne_eqb b space (λ e. true≢false (sym h ∙ ap in_name e))

only_if : (x y : Bool) → x && y ≡ cond x y false
only_if true y = refl
only_if false y = refl

pub padded_after : (l : List ℕ) → list_all (λ b. eqb b space) (drop (prefix_len in_name l) l) ≡ padded l
unfolding padded blank
padded_after [] = refl
padded_after (b ∷ l) = split (in_name b) refl (padded_after l)
  where
    split : (t : Bool) → in_name b ≡ t → list_all (λ x. eqb x space) (drop (prefix_len in_name l) l) ≡ padded l
        → list_all (λ x. eqb x space) (drop (cond t (1 + prefix_len in_name l) 0) (b ∷ l)) ≡ cond (eqb b space) (blank l) (t && padded l)
    split true e h =
        let n : 1 + prefix_len in_name l ≡ suc (prefix_len in_name l) = omega arith in
        rw (no_space b e, n) h
    split false e h = rw (all_blank l) (only_if (eqb b space) (blank l))

-- the extension, as the part from 6 to 9
pub last-three : (t : List ℕ) → length t ≡ 9 → take 3 (drop 6 t) ≡ drop 6 t
last-three t h = take_all 3 (drop 6 t) (rw length-drop (omega arith))

-- three words are a name where they spell a text, and that one is legal
pub legal_by_text : (a b c : ℕ) → legal_name a b c ≡ (eqb (text_of_words a b c).number 0 && legal_text (text_of_words a b c).text)
unfolding text_of_words legal_name
legal_by_text a b c = told (spells a && spells b && spells c) (text_of a b c)
  where
    told : (s : Bool) (t : List ℕ) → let n = cond {A = NameText} s (record { number = 0; text = t }) (record { number = 7; text = replicate 9 space }) in
        s && legal_text t ≡ (eqb n.number 0 && legal_text n.text)
    told true t = refl
    told false t = refl

-- a list of nine, by its elements
abbrev elements : ℕ → ℕ → List ℕ → List ℕ
elements zero k t = []
elements (suc n) k t = get_or t k 0 ∷ elements n (suc k) t

elements-are : (n k : ℕ) (t : List ℕ) → length t ≡ n + k → elements n k t ≡ drop k t
elements-are zero k t h = sym (drop_of_length-le t {i = k} (omega arith))
elements-are (suc n) k t h = rw (elements-are n (suc k) t (omega arith), drop-cons t k 0 (omega arith))

nine-is : (t : List ℕ) → length t ≡ 9
    → get_or t 0 0 ∷ get_or t 1 0 ∷ get_or t 2 0 ∷ get_or t 3 0 ∷ get_or t 4 0 ∷ get_or t 5 0 ∷ get_or t 6 0 ∷ get_or t 7 0 ∷ get_or t 8 0 ∷ [] ≡ t
nine-is t h = elements-are 9 0 t h

-- Text to words and back is the same text on every legal name
pub text-words-text : (t : List ℕ) → legal_text t ≡ true
    → text_of_words (words_of_text t).first (words_of_text t).second (words_of_text t).extension ≡ record { number = 0; text = t }
unfolding words_of_text text_of_words text_of packed_at
text-words-text t h =
    let i = legal_in t h in
    rw (
      h,
      packed-spells _ _ _ (i 0 (omega arith)) (i 1 (omega arith)) (i 2 (omega arith)),
      packed-spells _ _ _ (i 3 (omega arith)) (i 4 (omega arith)) (i 5 (omega arith)),
      packed-spells _ _ _ (i 6 (omega arith)) (i 7 (omega arith)) (i 8 (omega arith)),
      spelled-packed _ _ _ (i 0 (omega arith)) (i 1 (omega arith)) (i 2 (omega arith)),
      spelled-packed _ _ _ (i 3 (omega arith)) (i 4 (omega arith)) (i 5 (omega arith)),
      spelled-packed _ _ _ (i 6 (omega arith)) (i 7 (omega arith)) (i 8 (omega arith)),
      nine-is t (legal-parts t h).nine,
    )

-- Words to text and back is the same words on every legal triple
pub words-text-words : (a b c : ℕ) → legal_name a b c ≡ true
    → words_of_text (text_of_words a b c).text ≡ record { number = 0; first = a; second = b; extension = c }
unfolding words_of_text text_of_words text_of spelled packed_at legal_name
words-text-words a b c h =
    let t = text_of a b c in
    let p = both (spells a && spells b && spells c) (legal_text t) h in
    let q = both (spells a && spells b) (spells c) p.0 in
    let r = both (spells a) (spells b) q.0 in
    rw (p.0, p.1, packed-spelled a r.0, packed-spelled b r.1, packed-spelled c q.1)

-- Two legal texts with the same words are the same text
pub same-words : (t u : List ℕ) → legal_text t ≡ true → legal_text u ≡ true → words_of_text t ≡ words_of_text u → t ≡ u
same-words t u h k e =
    ap (λ (n : NameText). n.text)
    (sym (text-words-text t h)
    ∙ ap (λ (w : NameWords). text_of_words w.first w.second w.extension) e
    ∙ text-words-text u k)

-- The words of a legal text are a legal name
pub words-legal : (t : List ℕ) → legal_text t ≡ true → legal_name (words_of_text t).first (words_of_text t).second (words_of_text t).extension ≡ true
words-legal t h =
    let w = words_of_text t in
    rw (legal_by_text w.first w.second w.extension, text-words-text t h) h
