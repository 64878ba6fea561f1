-- What holds of all elements of a list, or of each two of them: it follows along, in two lists joined, at each place, and in
-- another order of the list.
use Prim.Native.Nat.{ℕ, zero, suc, ◌<◌}
use mathlib.Core.Path.{subst}
use mathlib.Core.List.{List, [], ◌∷◌, ◌++◌, map, Permᴰ}
use native.Mathlib.Nat.{le_of_suc-le-suc, not-suc-le-zero}
use lib.ListN.{length, get_or}
use Rattle.walks.specs.Lists.{All, Pairwise}

module _ {A : Type 0} where
  pub all_map : (P Q : A → Type 0) → ((x : A) → P x → Q x) → (xs : List A) → All P xs → All Q xs
  all_map P Q f [] a = tt
  all_map P Q f (x ∷ xs) a = (f x a.0, all_map P Q f xs a.1)

  pub all_mapped : (P : A → Type 0) (g : A → A) (xs : List A) → All P (map g xs) → All (λ x. P (g x)) xs
  all_mapped P g [] a = tt
  all_mapped P g (x ∷ xs) a = (a.0, all_mapped P g xs a.1)

  pub all_both : (P Q R : A → Type 0) → ((x : A) → P x → Q x → R x) → (xs : List A) → All P xs → All Q xs → All R xs
  all_both P Q R f [] a b = tt
  all_both P Q R f (x ∷ xs) a b = (f x a.0 b.0, all_both P Q R f xs a.1 b.1)

  pub all_append : (P : A → Type 0) (xs ys : List A) → All P xs → All P ys → All P (xs ++ ys)
  all_append P [] ys a b = b
  all_append P (x ∷ xs) ys a b = (a.0, all_append P xs ys a.1 b)

  pub all_left : (P : A → Type 0) (xs ys : List A) → All P (xs ++ ys) → All P xs
  all_left P [] ys a = tt
  all_left P (x ∷ xs) ys a = (a.0, all_left P xs ys a.1)

  pub all_right_lem : (P : A → Type 0) (xs ys : List A) → All P (xs ++ ys) → All P ys
  all_right_lem P [] ys a = a
  all_right_lem P (x ∷ xs) ys a = all_right_lem P xs ys a.1

  pub all-at : (P : A → Type 0) (xs : List A) → All P xs → (i : ℕ) → i < length xs → (z : A) → P (get_or xs i z)
  all-at P [] a i l z = absurd (not-suc-le-zero l)
  all-at P (x ∷ xs) a zero l z = a.0
  all-at P (x ∷ xs) a (suc i) l z = all-at P xs a.1 i (le_of_suc-le-suc l) z

  pub pairwise_append : (R : A → A → Type 0) (xs ys : List A) → Pairwise R xs → Pairwise R ys → All (λ (x : A). All (R x) ys) xs
      → Pairwise R (xs ++ ys)
  pairwise_append R [] ys p q a = q
  pairwise_append R (x ∷ xs) ys p q a = (all_append (R x) xs ys p.0 a.0, pairwise_append R xs ys p.1 q a.1)

  pub pairwise_at : (R : A → A → Type 0) (xs : List A) → Pairwise R xs → (i j : ℕ) → i < j → j < length xs → (z : A)
      → R (get_or xs i z) (get_or xs j z)
  pairwise_at R [] p i j l m z = absurd (not-suc-le-zero m)
  pairwise_at R (x ∷ xs) p i zero l m z = absurd (not-suc-le-zero l)
  pairwise_at R (x ∷ xs) p zero (suc j) l m z = all-at (R x) xs p.0 j (le_of_suc-le-suc m) z
  pairwise_at R (x ∷ xs) p (suc i) (suc j) l m z = pairwise_at R xs p.1 i j (le_of_suc-le-suc l) (le_of_suc-le-suc m) z

  pub all_perm : (P : A → Type 0) {xs ys : List A} → Permᴰ xs ys → All P xs → All P ys
  all_perm P Permᴰ.nil a = tt
  all_perm P (Permᴰ.cons e p) a = (subst P e a.0, all_perm P p a.1)
  all_perm P (Permᴰ.swap e f) a = (subst P f a.1.0, (subst P e a.0, a.1.1))
  all_perm P (Permᴰ.trans p q) a = all_perm P q (all_perm P p a)

  module _ (R : A → A → Type 0) (turn : (x y : A) → R x y → R y x) where
    pub pairwise_perm : {xs ys : List A} → Permᴰ xs ys → Pairwise R xs → Pairwise R ys
    pairwise_perm Permᴰ.nil a = tt
    pairwise_perm (Permᴰ.cons {b = b} {l₂ = l} e p) a =
        (subst (λ (x : A). All (R x) l) e (all_perm (R _) p a.0), pairwise_perm p a.1)
    pairwise_perm (Permᴰ.swap {a = x} {b = y} {a' = z} {b' = u} {l = l} e f) a = (
      (subst (λ (t : A). R z t) e (subst (λ (t : A). R t x) f (turn x y a.0.0)), subst (λ (t : A). All (R t) l) f a.1.0),
      (subst (λ (t : A). All (R t) l) e a.0.1, a.1.1),
    )
    pairwise_perm (Permᴰ.trans p q) a = pairwise_perm q (pairwise_perm p a)
