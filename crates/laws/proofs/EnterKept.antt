-- Demand 2, *Kept* of enter. A refusal leaves the directory. Else the tidied directory has the same living entries as the one before,
-- and the tentative entry is the one more: so the directory is sound, every file is found as before, and the new entry's channel, on
-- which nothing was open, finds it from the block that the answer says; it stands in the answer's segment and slot.
use Prim.Native.Nat.{ℕ, ◌-◌, ◌≤◌}
use mathlib.Core.Path.{◌≡◌, refl, sym, ap, ◌∙◌, subst}
use mathlib.Core.Bool.{true, false}
use mathlib.Core.List.{List, map}
use mathlib.Core.Option
use mathlib.Core.Option.{Option, none, some, none-ne-some}
use native.Mathlib.Omega.{arith}
use lib.IntN.{ℤ}
use lib.ListN.{length-replicate}
use Rattle.meaning.specs.declared.Name.{Name}
use Rattle.meaning.specs.declared.Answer.{Answer}
use Rattle.meaning.specs.Kinds.{tentative_status, kind_of}
use Rattle.meaning.specs.Words.{slot_words, Entry, name_of, blocks, date_of, chain, Row, rows}
use Rattle.meaning.specs.Sound.{fault, long_name}
use Rattle.meaning.specs.Answers.{Outcome, refuse, success, find, file_of, open_on}
use Rattle.meaning.specs.Requests.{legal, lookup, word_of, entry_of}
use Rattle.meaning.specs.Enter.{Size, exact, size_of, Area, wanted, entered, entered_at, first_fit, enter}
use Rattle.meaning.specs.declared.Key.{Key}
use Rattle.meaning.specs.declared.Key.TheVariants.{File, Open}
use Rattle.meaning.specs.Keys.{key_of, holds}
use Rattle.walks.specs.Lists.{All}
use Rattle.laws.specs.Refusals.{before_room}
use Rattle.laws.specs.Kept.{AllStay, SameFile}
use Rattle.laws.specs.Order.{files_of}
use Rattle.laws.specs.Points.{Points}
use Rattle.laws.specs.Room.{KeptByEnter}
use Rattle.rules.proofs.Keys.{file≢open, IsOpen, open_holds, one_key, other_key}
use Rattle.walks.proofs.Keyed.{has-key}
use Rattle.laws.proofs.Refusals.{not_among}
use Rattle.rules.proofs.Soundness.{Sound, sound, faultless}
use Rattle.laws.proofs.Entries.{legal-short}
use Rattle.laws.proofs.Living.{Live, living_of, seek, face, found, Gained, gained_beside, gained-there, gained-every}
use Rattle.laws.proofs.Lookups.{lookup-seen, same_seen}
use Rattle.laws.proofs.Stays.{faces_stay, all_stay}
use Rattle.walks.proofs.Linked.{Used, chain-used}
use Rattle.laws.proofs.TidiedSound.{Alike, tidied-is}
use Rattle.laws.proofs.Areas.{chosen}
use Rattle.laws.proofs.Inserted.{New, live_at}
use Rattle.laws.proofs.Entered.{Entered, is_entered}
use Rattle.laws.proofs.Entering.{tidied_of, eligibles_of, length_of, entry_for, Entering, early, short, crowded, taken, entering}

-- the entry that is made
module _ (w : ℕ) (name : Name) (n x date : ℕ) where
  abbrev new : Entry
  new = entry_of w tentative_status name n x date

  new_is : 7 ≤ w → long_name name ≡ false → New w n new
  unfolding entry_of kind_of
  new_is h l =
      record { tentative = refl; short = l; wide = (let r = length-replicate {A = ℕ} (w - 7) 0 in omega arith); blocks = refl }

  new_open : IsOpen x new
  unfolding entry_of kind_of
  new_open = record { tentative = refl; word = refl }

  new_holds : holds (Open x) new ≡ true
  new_holds = open_holds x new new_open

  new_blocks : blocks new ≡ n
  unfolding entry_of
  new_blocks = refl

  new_name : name_of new ≡ name
  unfolding entry_of
  new_name = refl

  new_date : date_of new ≡ date
  unfolding entry_of
  new_date = refl

  -- its only key is its channel
  new_only : (k : Key) → holds k new ≡ true → k ≡ Open x
  new_only k h = one_key k (Open x) new h new_holds

  new_other : (k : Key) → (k ≡ Open x → ⊥) → holds k new ≡ false
  new_other k ne = other_key k (Open x) new ne new_holds

same_as : (a : Answer) → SameFile a a
same_as a = record { number = refl; first = refl; length = refl; date = refl }

-- what is found is there
found-row : (o : Option Row) (x : Live) → Option.map face o ≡ some x → (r : Row) × (o ≡ some r) × (face r ≡ x)
found-row none x h = absurd (none-ne-some x h)
found-row (some r) x h = (r, refl, (let f : face r ≡ x = cc in f))

refused-kept : (v : ℕ) (d : List ℕ) (name : Name) (size : Size) (x date m : ℕ) → fault v d ≡ 0 → (m ≡ 0 → ⊥)
    → KeptByEnter v d name size x date (refuse m d)
unfolding refuse
refused-kept v d name size x date m h l = record { sound = h; files = λ n. same_as _; made = λ e. absurd (l e) }

-- an exact size is the length that is taken
wanted-exact : (size : Size) (ns : List ℕ) (n : ℕ) → size ≡ exact n → wanted size ns ≡ n
unfolding wanted
wanted-exact size ns n e = rw e

module _ (v : ℕ) (d : List ℕ) (h : fault v d ≡ 0) (name : Name) (asked : ℤ) (job ch date : ℕ) where
  abbrev x : ℕ
  x = word_of job ch

  abbrev n : ℕ
  n = length_of d asked

  abbrev e : Entry
  e = entry_for d name asked job ch date

  abbrev t : List ℕ
  t = tidied_of d

  sd : Sound v d
  sd = sound v d h

  ti : Alike v d t
  ti = (tidied-is v d sd).alike

  -- nothing is open on the channel
  none-holds : open_on d x ≡ none → (k : Key) → holds k e ≡ true → seek (holds k) (living_of t) ≡ none
  unfolding open_on
  none-holds none_open k g =
      let q = new_only (slot_words d) name n x date k g in
      rw (q, ti.living, ← (found v d sd (Open x)), none_open)

  module _ (p : Area) (is-legal : legal name ≡ true) (none_open : open_on d x ≡ none)
      (fit : first_fit n (eligibles_of d) ≡ some p) where
    abbrev D : List ℕ
    D = entered t e n p

    used-chain : All (Used t) (chain d)
    used-chain = subst (All (Used t)) ti.chain (chain-used t ti.sound.links)

    en : Entered v t D (live_at p.first e) (entered_at t p)
    en =
        is_entered v t ti.sound p n e (chosen t (chain d) used-chain n p fit)
        (rw ti.extra (new_is (slot_words d) name n x date (omega arith) (legal-short name is-legal)))
        (none-holds none_open)

    gained : Gained (live_at p.first e) (living_of d) (living_of D)
    gained = subst (λ (l : List Live). Gained (live_at p.first e) l (living_of D)) ti.living en.gained

    fault-none : fault v D ≡ 0
    fault-none = faultless v D en.sound

    found-same : (k : Key) → (k ≡ Open x → ⊥) → Option.map face (find (holds k) (rows D)) ≡ Option.map face (find (holds k) (rows d))
    found-same k ne =
        found v D en.sound k
        ∙ gained_beside gained (holds k) (new_other (slot_words d) name n x date k ne)
        ∙ sym (found v d sd k)

    files-same : (m : Name) → SameFile (lookup v D m).answer (lookup v d m).answer
    unfolding file_of
    files-same m =
        rw (lookup-seen v D fault-none m, lookup-seen v d h m)
        (same_seen (legal m) (file_of D m) (file_of d m) (found-same (File m) (file≢open m x)))

    there : (r : Row) × (open_on D x ≡ some r) × (face r ≡ live_at p.first e)
    unfolding open_on
    there =
        found-row (open_on D x) (live_at p.first e)
        (found v D en.sound (Open x)
        ∙ gained-there gained (holds (Open x)) (new_holds (slot_words d) name n x date)
        (sym (found v d sd (Open x)) ∙ ap (Option.map face) none_open))

    entered_keeps : KeptByEnter v d name (size_of asked) x date (success p.first n date (entered_at t p) D)
    unfolding success
    entered_keeps =
        record {
          sound = fault-none;
          files = files-same;
          made =
              λ z.
              let f = ap (λ (l : Live). l.entry) there.2 in
              record {
                row = there.0;
                found = there.1;
                key = ap key_of f ∙ has-key (Open x) e (new_holds (slot_words d) name n x date);
                named = ap name_of f ∙ new_name (slot_words d) name n x date;
                dated = ap date_of f ∙ new_date (slot_words d) name n x date;
                first = ap (λ (l : Live). l.first) there.2;
                length = ap blocks f ∙ new_blocks (slot_words d) name n x date;
                sized = λ m q. wanted-exact (size_of asked) (map (λ r. r.size) (eligibles_of d)) m q;
              };
        }

  -- an enter is refused, or ends with the new entry: what holds of both holds of it
  of_ends : (Q : Outcome → Type 0) → ((m : ℕ) → (m ≡ 0 → ⊥) → Q (refuse m d))
      → ((p : Area) → legal name ≡ true → open_on d x ≡ none → first_fit n (eligibles_of d) ≡ some p
      → Q (success p.first n date (entered_at t p) (entered t e n p)))
      → Q (enter v d name asked job ch date)
  of_ends Q before after = go (enter v d name asked job ch date) (entering d name asked job ch date v h)
    where
      go : (o : Outcome) → Entering d name asked job ch date o → Q o
      go o (early m a q) = subst Q (sym q) (before m (not_among 0 m before_room refl a))
      go o (short s q) = subst Q (sym q) (before 11 (λ e. omega arith))
      go o (crowded s s' q) = subst Q (sym q) (before 12 (λ e. omega arith))
      go o (taken p is-legal none_open s fit q) = subst Q (sym q) (after p is-legal none_open fit)

  -- so it leaves the words as they were, or those with the new entry
  of_words : (P : List ℕ → Type 0) → P d
      → ((p : Area) → legal name ≡ true → open_on d x ≡ none → first_fit n (eligibles_of d) ≡ some p → P (entered t e n p))
      → P (enter v d name asked job ch date).words
  unfolding refuse success
  of_words P before after = of_ends (λ (o : Outcome). P o.words) (λ m l. before) after

  -- every key but the new entry's channel finds the same first block and the same entry, in whatever slot it stands afterwards
  abbrev pub FoundAsBefore : List ℕ → Type 0
  FoundAsBefore after =
      (k : Key) → (k ≡ Open (word_of job ch) → ⊥)
      → Option.map face (find (holds k) (rows after)) ≡ Option.map face (find (holds k) (rows d))

  pub enter_found : FoundAsBefore (enter v d name asked job ch date).words
  enter_found = of_words FoundAsBefore (λ k ne. refl) found-same

  -- and all files of a name stay, every FILE.BAD too
  pub enter_stays : (m : Name) → AllStay (files_of d m) (files_of (enter v d name asked job ch date).words m)
  enter_stays m = of_words (λ (l : List ℕ). AllStay (files_of d m) (files_of l m)) (all_stay (files_of d m)) after
    where
      after : (p : Area) → legal name ≡ true → open_on d x ≡ none → first_fit n (eligibles_of d) ≡ some p
          → AllStay (files_of d m) (files_of (entered t e n p) m)
      after p is-legal none_open fit =
          faces_stay (files_of d m) (files_of (entered t e n p) m)
          (gained-every v d (entered t e n p) sd (en p is-legal none_open fit).sound _ (gained p is-legal none_open fit) (File m)
          (new_other (slot_words d) name n x date (File m) (file≢open m x)))

  pub enter_kept : KeptByEnter v d name (size_of asked) (word_of job ch) date (enter v d name asked job ch date)
  enter_kept =
      of_ends (λ (o : Outcome). KeptByEnter v d name (size_of asked) (word_of job ch) date o)
      (λ m l. refused-kept v d name (size_of asked) x date m h l)
      entered_keeps

  -- the answer points at the new entry
  abbrev pub PointsAtNew : Outcome → Type 0
  PointsAtNew o =
      o.answer.number ≡ 0
      → Points o.words o.answer (λ z. (key_of z ≡ some (Open (word_of job ch))) × (name_of z ≡ name))

  pub enter_points : PointsAtNew (enter v d name asked job ch date)
  unfolding refuse success
  enter_points =
      of_ends PointsAtNew (λ m l z. absurd (l z))
      (λ p is-legal none_open fit z.
      record {
        entry = e;
        stands = (en p is-legal none_open fit).stands;
        length = new_blocks (slot_words d) name n x date;
        date = new_date (slot_words d) name n x date;
        concerned = (has-key (Open x) e (new_holds (slot_words d) name n x date), new_name (slot_words d) name n x date);
      })
