-- Demand 3 speaks of something: a sound directory and a batch of a delete, a rename, a close that replaces a file, an abandon, a protect and
-- an unprotect, none of them refused, that meets its side condition. And the condition leaves out nothing: a close and a delete of the file
-- that it makes do not commute, nor do two renames to one new name, nor a protect and a delete of one file.
use Prim.Native.Nat.{ℕ, ◌+◌, ◌*◌}
use mathlib.Core.Path.{◌≡◌, refl, sym, ap, ◌∙◌}
use mathlib.Core.Logic.{◌⊎◌, inl, inr}
use mathlib.Core.Bool.{Bool, true, ◌&&◌, not}
use mathlib.Core.List.{List, [], ◌∷◌, ◌++◌, map, Permᴰ}
use lib.ListN.{get_or}
use lib.Dec.{eqb}
use borrow.Author.Tests.{eqb-false, not-true}
use Rattle.bools.proofs.Bools.{both}
use lib.IntN.{ℤ, pos}
use Rattle.meaning.specs.declared.Op.{Op}
use Rattle.meaning.specs.declared.Op.TheVariants.{Close, Abandon, Delete, Rename, Protect, Unprotect}
use Rattle.meaning.specs.declared.Name.{Name}
use Rattle.meaning.specs.declared.Request.{Request}
use Rattle.meaning.specs.declared.Answer.{Answer}
use Rattle.meaning.specs.Kinds.{tentative_status, empty_status, permanent_status, protected_status}
use Rattle.meaning.specs.Sound.{fault}
use Rattle.meaning.specs.Requests.{entry_of, empty_entry}
use Rattle.meaning.specs.Batch.{words_after, answers_to}
use Rattle.meaning.specs.Examples.{one_segment}
use Rattle.meaning.proofs.Opened.{all_names, all_words, all_sound, all_requests}
use Rattle.meaning.specs.declared.Key.{Key}
use Rattle.meaning.specs.declared.Key.TheVariants.{File, Open}
use Rattle.walks.specs.Lists.{All, Pairwise}
use Rattle.laws.specs.Order.{open_for, Names, Apart, Batch3, Ordered}
use Rattle.laws.proofs.Demand3.{demand3}

-- the names DAY.CHG, and A to F as the first to sixth letter
abbrev day_chg : Name
day_chg = record { first = 6465; second = 0; extension = 5127 }

abbrev name_of_letter : ℕ → Name
name_of_letter n = record { first = n * 1600; second = 0; extension = 0 }

-- files DAY.CHG, B, A and E, and F protected; A being made anew on channel 3, C on channel 4
unfoldable pub d : List ℕ
d =
    one_segment
    (entry_of 7 permanent_status day_chg 12 0 3556
    ∷ entry_of 7 tentative_status (name_of_letter 1) 30 3 3556
    ∷ empty_entry 7 20
    ∷ entry_of 7 permanent_status (name_of_letter 2) 5 0 0
    ∷ entry_of 7 permanent_status (name_of_letter 1) 7 0 0
    ∷ entry_of 7 tentative_status (name_of_letter 3) 10 4 0
    ∷ empty_entry 7 8
    ∷ entry_of 7 permanent_status (name_of_letter 5) 0 0 0
    ∷ entry_of 7 protected_status (name_of_letter 6) 0 0 0
    ∷ [])

abbrev asking : Op → Name → ℕ → ℤ → Request
asking op name ch final =
    record {
      op = op;
      name = name;
      new_name = name_of_letter 4;
      job = 0;
      channel = ch;
      size = pos 0;
      final_length = final;
      date = 0;
    }

-- delete DAY.CHG, rename B to D, close channel 3 at 12 blocks, abandon channel 4, protect E, unprotect F
unfoldable pub six_requests : List Request
six_requests =
    asking Delete day_chg 0 (pos 0)
    ∷ asking Rename (name_of_letter 2) 0 (pos 0)
    ∷ asking Close day_chg 3 (pos 12)
    ∷ asking Abandon day_chg 4 (pos 0)
    ∷ asking Protect (name_of_letter 5) 0 (pos 0)
    ∷ asking Unprotect (name_of_letter 6) 0 (pos 0)
    ∷ []

-- the directory is sound; none is refused; word 12, a status, after a delete of A and the close, in either order; word 27, of a
-- name, after B and DAY.CHG are renamed to D, in either order; word 26, B's status, after a protect and a delete, in either order
unfoldable pub computed : List ℕ
computed =
    fault 100 d
    ∷ map (λ (a : Answer). a.number) (answers_to 100 d six_requests)
    ++ get_or (words_after 100 d (asking Delete (name_of_letter 1) 0 (pos 0) ∷ asking Close day_chg 3 (pos 12) ∷ [])) 12 0
    ∷ get_or (words_after 100 d (asking Close day_chg 3 (pos 12) ∷ asking Delete (name_of_letter 1) 0 (pos 0) ∷ [])) 12 0
    ∷ get_or (words_after 100 d (asking Rename (name_of_letter 2) 0 (pos 0) ∷ asking Rename day_chg 0 (pos 0) ∷ [])) 27 0
    ∷ get_or (words_after 100 d (asking Rename day_chg 0 (pos 0) ∷ asking Rename (name_of_letter 2) 0 (pos 0) ∷ [])) 27 0
    ∷ get_or (words_after 100 d (asking Protect (name_of_letter 2) 0 (pos 0) ∷ asking Delete (name_of_letter 2) 0 (pos 0) ∷ [])) 26 0
    ∷ get_or (words_after 100 d (asking Delete (name_of_letter 2) 0 (pos 0) ∷ asking Protect (name_of_letter 2) 0 (pos 0) ∷ [])) 26 0
    ∷ []

pub comes-to :
    computed
    ≡ 0 ∷ 0 ∷ 0 ∷ 0 ∷ 0 ∷ 0 ∷ 0
    ∷ permanent_status ∷ empty_status ∷ (name_of_letter 4).first ∷ (name_of_letter 2).first ∷ protected_status ∷ empty_status ∷ []
unfolding computed d six_requests all_names all_words all_sound all_requests
comes-to = refl

pub is-sound : fault 100 d ≡ 0
unfolding computed
is-sound = ap (λ (l : List ℕ). get_or l 0 0) comes-to

-- keys of a list, and two lists without a common key: a number tells the batch's keys apart
abbrev Of : Key → List Key → Type 0
Of k [] = ⊥
Of k (l ∷ ls) = (k ≡ l) ⊎ Of k ls

abbrev number : Key → ℕ
number (File n) = n.first
number (Open x) = 100000 + x

abbrev apart_from : Key → List Key → Bool
apart_from l [] = true
apart_from l (m ∷ ms) = not (eqb (number l) (number m)) && apart_from l ms

abbrev none_shared : List Key → List Key → Bool
none_shared [] ms = true
none_shared (l ∷ ls) ms = apart_from l ms && none_shared ls ms

not_listed : (k l : Key) (ms : List Key) → apart_from l ms ≡ true → k ≡ l → Of k ms → ⊥
not_listed k l [] h e x = x
not_listed k l (m ∷ ms) h e (inl g) =
    eqb-false (number l) (number m) (not-true _ (both (not (eqb (number l) (number m))) (apart_from l ms) h).0) (ap number (sym e ∙ g))
not_listed k l (m ∷ ms) h e (inr x) = not_listed k l ms (both (not (eqb (number l) (number m))) (apart_from l ms) h).1 e x

none_common : (ls ms : List Key) → none_shared ls ms ≡ true → (k : Key) → Of k ls → Of k ms → ⊥
none_common [] ms h k x y = x
none_common (l ∷ ls) ms h k (inl e) y = not_listed k l ms (both (apart_from l ms) (none_shared ls ms) h).0 e y
none_common (l ∷ ls) ms h k (inr x) y = none_common ls ms (both (apart_from l ms) (none_shared ls ms) h).1 k x y

-- what each request names
by_delete : List Key
by_delete = File day_chg ∷ []

by_rename : List Key
by_rename = File (name_of_letter 2) ∷ File (name_of_letter 4) ∷ []

by_close : List Key
by_close = Open 3 ∷ File (name_of_letter 1) ∷ []

by_abandon : List Key
by_abandon = Open 4 ∷ []

by_protect : List Key
by_protect = File (name_of_letter 5) ∷ []

by_unprotect : List Key
by_unprotect = File (name_of_letter 6) ∷ []

by_delete_lem : (k : Key) → Names d (asking Delete day_chg 0 (pos 0)) k → Of k by_delete
unfolding Names by_delete
by_delete_lem k n = inl n

by_rename_lem : (k : Key) → Names d (asking Rename (name_of_letter 2) 0 (pos 0)) k → Of k by_rename
unfolding Names by_rename
by_rename_lem k (inl n) = inl n
by_rename_lem k (inr n) = inr (inl n)

by_close_lem : (k : Key) → Names d (asking Close day_chg 3 (pos 12)) k → Of k by_close
unfolding by_close d Names open_for all_words all_requests
by_close_lem k (inl n) = inl n
by_close_lem k (inr n) = inr (inl n)

by_abandon_lem : (k : Key) → Names d (asking Abandon day_chg 4 (pos 0)) k → Of k by_abandon
unfolding by_abandon d Names open_for all_words all_requests
by_abandon_lem k n = inl n

by_protect_lem : (k : Key) → Names d (asking Protect (name_of_letter 5) 0 (pos 0)) k → Of k by_protect
unfolding Names by_protect
by_protect_lem k n = inl n

by_unprotect_lem : (k : Key) → Names d (asking Unprotect (name_of_letter 6) 0 (pos 0)) k → Of k by_unprotect
unfolding Names by_unprotect
by_unprotect_lem k n = inl n

-- requests that name no more than the keys of a list each, where no two lists have a common one
abbrev NamesOf : List Request → List (List Key) → Type 0
NamesOf [] ls = Unit {0}
NamesOf (q ∷ qs) [] = ⊥
NamesOf (q ∷ qs) (l ∷ ls) = ((k : Key) → Names d q k → Of k l) × NamesOf qs ls

abbrev one_apart : List Key → List (List Key) → Bool
one_apart l [] = true
one_apart l (m ∷ ms) = none_shared l m && one_apart l ms

abbrev all_apart : List (List Key) → Bool
all_apart [] = true
all_apart (l ∷ ls) = one_apart l ls && all_apart ls

one-is : (p : Request) (l : List Key) → ((k : Key) → Names d p k → Of k l) → (qs : List Request) (ls : List (List Key)) → NamesOf qs ls
    → one_apart l ls ≡ true → All (Apart d p) qs
unfolding Apart
one-is p l f [] ls n h = tt
one-is p l f (q ∷ qs) [] n h = absurd n
one-is p l f (q ∷ qs) (m ∷ ms) n h =
    let b = both (none_shared l m) (one_apart l ms) h in
    ((λ k x y. none_common l m b.0 k (f k x) (n.0 k y)), one-is p l f qs ms n.1 b.1)

all_are : (qs : List Request) (ls : List (List Key)) → NamesOf qs ls → all_apart ls ≡ true → Pairwise (Apart d) qs
all_are [] ls n h = tt
all_are (q ∷ qs) [] n h = absurd n
all_are (q ∷ qs) (l ∷ ls) n h =
    let b = both (one_apart l ls) (all_apart ls) h in
    (one-is q l n.0 qs ls n.1 b.0, all_are qs ls n.1 b.1)

pub is-batch : Batch3 d six_requests
unfolding six_requests by_delete by_rename by_close by_abandon by_protect by_unprotect
is-batch =
    record {
      kinds = (tt, (tt, (tt, (tt, (tt, (tt, tt))))));
      apart =
          all_are six_requests (by_delete ∷ by_rename ∷ by_close ∷ by_abandon ∷ by_protect ∷ by_unprotect ∷ [])
          (by_delete_lem, (by_rename_lem, (by_close_lem, (by_abandon_lem, (by_protect_lem, (by_unprotect_lem, tt)))))) refl;
    }

-- so demand 3 says of it that every order of it gives the same
pub any_order : (rs : List Request) → Permᴰ six_requests rs → Ordered 100 d six_requests rs
any_order rs p = (demand3 100 d is-sound).order six_requests rs is-batch p
