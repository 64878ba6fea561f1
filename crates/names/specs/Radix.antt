-- Names (document 01, "Names and dates"): Radix-50 words and the text that they spell. Text is a list of bytes.
use Rattle.std.specs.Prelude.{ℕ, suc, ◌+◌, ◌*◌, ◌/◌, ◌%◌, Bool, true, cond, ◌&&◌, ◌||◌, List, [], ◌∷◌, ◌++◌, length, get_or, take, drop, replicate, eqb, leb}
use Prim.Native.Char.{code}
use Rattle.names.specs.Text.{bytes}
use Rattle.names.specs.declared.radix.NameWords.{NameWords}
use Rattle.names.specs.declared.radix.NameText.{NameText}

-- the byte of a space; A to Z; 0 to 9
abbrev pub space : ℕ
space = code " "

abbrev pub is_letter : ℕ → Bool
is_letter b = leb (code "A") b && leb b (code "Z")

abbrev pub is_digit : ℕ → Bool
is_digit b = leb (code "0") b && leb b (code "9")

-- Radix-50: the byte at place k of this list is what code k shows; code 29 has no character of its own and shows the question mark
unfoldable pub alphabet : List ℕ
alphabet = bytes " ABCDEFGHIJKLMNOPQRSTUVWXYZ$.?0123456789"

unfoldable pub shown : ℕ → ℕ
shown code = get_or alphabet code 0

-- the place of a byte in a list, or the list's length where it has none
unfoldable pub place : ℕ → List ℕ → ℕ
place b [] = 0
place b (x ∷ xs) = let r = place b xs in cond (eqb x b) 0 (suc r)

-- the code of a byte: its place in the alphabet
unfoldable pub code_of : ℕ → ℕ
code_of b = place b alphabet

-- a word holds three codes, as the digits of a number to the base 40
unfoldable pub packed : ℕ → ℕ → ℕ → ℕ
packed x y z = code_of x * 1600 + code_of y * 40 + code_of z

-- the word of the three characters at a place of a text
unfoldable pub packed_at : List ℕ → ℕ → ℕ
packed_at t k = packed (get_or t k 0) (get_or t (k + 1) 0) (get_or t (k + 2) 0)

-- the three characters of a word
unfoldable pub spelled : ℕ → List ℕ
spelled w = shown (w / 1600) ∷ shown (w / 40 % 40) ∷ shown (w % 40) ∷ []

unfoldable pub text_of : ℕ → ℕ → ℕ → List ℕ
text_of a b c = spelled a ++ spelled b ++ spelled c

-- a character that a requested name may have
unfoldable pub in_name : ℕ → Bool
in_name b = is_letter b || is_digit b

-- a byte of a requested name's text
unfoldable pub in_text : ℕ → Bool
in_text b = eqb b space || in_name b

unfoldable pub blank : List ℕ → Bool
blank [] = true
blank (b ∷ bs) = let r = blank bs in eqb b space && r

-- once a space comes, only spaces follow
unfoldable pub padded : List ℕ → Bool
padded [] = true
padded (b ∷ bs) = let r = padded bs in cond (eqb b space) (blank bs) (in_name b && r)

-- the text of a requested name: six bytes of name, the first of them no space, and three of extension
unfoldable pub legal_text : List ℕ → Bool
legal_text t = eqb (length t) 9 && in_name (get_or t 0 0) && padded (take 6 t) && padded (drop 6 t)

-- a word that spells three characters
unfoldable pub spells : ℕ → Bool
spells w = leb w 63999

-- three words are a requested name where each spells something, and together a legal text
unfoldable pub legal_name : ℕ → ℕ → ℕ → Bool
legal_name a b c = spells a && spells b && spells c && legal_text (text_of a b c)

-- text to words; 7 and zeros where the text is not legal
unfoldable pub words_of_text : List ℕ → NameWords
words_of_text t =
    cond (legal_text t)
    (record {
      number = 0;
      first = packed_at t 0;
      second = packed_at t 3;
      extension = packed_at t 6;
    })
    (record { number = 7; first = 0; second = 0; extension = 0 })

-- words to text; 7 and spaces where a word spells nothing
unfoldable pub text_of_words : ℕ → ℕ → ℕ → NameText
text_of_words a b c =
    cond (spells a && spells b && spells c)
    (record { number = 0; text = text_of a b c })
    (record { number = 7; text = replicate 9 space })
