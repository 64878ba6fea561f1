-- Demand 2: a directory is sound exactly when it meets document 01's rules. The six rules as plain propositions about segments and
-- entries; `fault v d` is 0 exactly when all hold, and k exactly when rule k is the first that does not (proofs/Sound.antt).
use Rattle.std.specs.Prelude.{ℕ, ◌+◌, ◌*◌, ◌-◌, ◌%◌, ◌≤◌, ◌<◌, ◌≡◌, ◌⊎◌, ◌↔◌, List, [], length, get_or}
use Rattle.meaning.specs.Sound.{fault}
use Rattle.meaning.specs.declared.Kind.{Kind}
use Rattle.meaning.specs.declared.Kind.TheVariants.{Tentative, Empty, Permanent, End}
use Rattle.meaning.specs.declared.Name.{Name}
use Rattle.meaning.specs.Words.{segments, first_data, segment, total_of, extra_bytes_of, first_of, highest, slot_words, Entry}
use Rattle.meaning.specs.Words.{name_of, kind, channel_of, slots, entries, total, reached, all_entries}
use Rattle.meaning.specs.Keys.{file_bad}

-- 1: N is 1 to 31, the slice has exactly 512·N words, and V is 6+2N to 65,535
pub record Rule1 (v : ℕ) (d : List ℕ) : Type 0 where
  pub some : 1 ≤ segments d
  pub few : segments d ≤ 31
  pub whole : length d ≡ 512 * segments d
  pub room : first_data d ≤ v
  pub wide : v ≤ 65535

-- 2: of segment 1, the total is N, H is 1..N, the extra bytes are even and at most 32
pub record Rule2 (d : List ℕ) : Type 0 where
  pub total : total_of d ≡ segments d
  pub used : 1 ≤ highest d
  pub within : highest d ≤ segments d
  pub even : extra_bytes_of d % 2 ≡ 0
  pub few : extra_bytes_of d ≤ 32

-- the i-th segment that the links visit from segment 1 on, counted from 0
abbrev pub visit : List ℕ → ℕ → ℕ
visit d i = reached i d 1

-- a segment is visited once: at one of the H visits, and at no other
pub record VisitedOnce (d : List ℕ) (s : ℕ) : Type 0 where
  pub at : ℕ
  pub within : at < highest d
  pub there : visit d at ≡ s
  pub only : (j : ℕ) → j < highest d → visit d j ≡ s → j ≡ at

-- 3: the links from segment 1 visit each of 1..H exactly once and then give 0, and every visited segment has segment 1's total and
-- extra bytes
pub record Rule3 (d : List ℕ) : Type 0 where
  pub each : (s : ℕ) → 1 ≤ s → s ≤ highest d → VisitedOnce d s
  pub ends : visit d (highest d) ≡ 0
  pub totals : (i : ℕ) → i < highest d → total_of (segment d (visit d i)) ≡ total_of d
  pub extras : (i : ℕ) → i < highest d → extra_bytes_of (segment d (visit d i)) ≡ extra_bytes_of d

-- a slot before the marker is of one of the three kinds of an entry
abbrev pub IsEntry : Kind → Type 0
IsEntry k = (k ≡ Tentative) ⊎ ((k ≡ Empty) ⊎ (k ≡ Permanent))

-- no name word above 63,999
pub record ShortName (n : Name) : Type 0 where
  pub first : n.first ≤ 63999
  pub second : n.second ≤ 63999
  pub extension : n.extension ≤ 63999

-- 4, of one segment's S slots: a marker stands among them; before it are entries alone; no name word of a permanent or tentative one is
-- above 63,999; the slot after a tentative entry is an empty entry
pub record Readable (es : List Entry) : Type 0 where
  pub mark : ℕ
  pub within : mark < length es
  pub marker : kind (get_or es mark []) ≡ End
  pub before : (j : ℕ) → j < mark → IsEntry (kind (get_or es j []))
  pub named : (j : ℕ) → j < mark → (kind (get_or es j []) ≡ Permanent) ⊎ (kind (get_or es j []) ≡ Tentative) → ShortName (name_of (get_or es j []))
  pub followed : (j : ℕ) → j < mark → kind (get_or es j []) ≡ Tentative → (j + 1 < mark) × (kind (get_or es (j + 1) []) ≡ Empty)

-- 4: every visited segment is readable
abbrev pub Rule4 : List ℕ → Type 0
Rule4 d = (i : ℕ) → i < highest d → Readable (slots (slot_words d) (segment d (visit d i)))

-- where a segment ends: its first block and the lengths of its entries
abbrev pub end_of : List ℕ → ℕ → ℕ
end_of d s = first_of (segment d s) + total (entries d s)

-- 5: segment 1 begins at 6+2N, each later segment in the chain where the one before it ended, and the end of the last is V
pub record Rule5 (v : ℕ) (d : List ℕ) : Type 0 where
  pub begins : first_of (segment d (visit d 0)) ≡ first_data d
  pub meets : (i : ℕ) → i + 1 < highest d → first_of (segment d (visit d (i + 1))) ≡ end_of d (visit d i)
  pub ends : end_of d (visit d (highest d - 1)) ≡ v

-- 6: permanent entries at two different places have different names, unless that is FILE.BAD (document 02, Req 03), tentative ones
-- different channel words
pub record Rule6 (d : List ℕ) : Type 0 where
  pub files : (i j : ℕ) → i < length (all_entries d) → j < length (all_entries d) → (i ≡ j → ⊥)
      → kind (get_or (all_entries d) i []) ≡ Permanent → kind (get_or (all_entries d) j []) ≡ Permanent
      → name_of (get_or (all_entries d) i []) ≡ name_of (get_or (all_entries d) j []) → name_of (get_or (all_entries d) i []) ≡ file_bad
  pub channels : (i j : ℕ) → i < length (all_entries d) → j < length (all_entries d) → (i ≡ j → ⊥)
      → kind (get_or (all_entries d) i []) ≡ Tentative → kind (get_or (all_entries d) j []) ≡ Tentative
      → channel_of (get_or (all_entries d) i []) ≡ channel_of (get_or (all_entries d) j []) → ⊥

-- the six rules
pub record Rules (v : ℕ) (d : List ℕ) : Type 0 where
  pub rule1 : Rule1 v d
  pub rule2 : Rule2 d
  pub rule3 : Rule3 d
  pub rule4 : Rule4 d
  pub rule5 : Rule5 v d
  pub rule6 : Rule6 d

-- `fault v d` is 0 exactly when the six rules hold, and k exactly when the rules below k hold and rule k does not
pub record Exactly (v : ℕ) (d : List ℕ) : Type 0 where
  pub sound : (fault v d ≡ 0) ↔ Rules v d
  pub one : (fault v d ≡ 1) ↔ (Rule1 v d → ⊥)
  pub two : (fault v d ≡ 2) ↔ (Rule1 v d × (Rule2 d → ⊥))
  pub three : (fault v d ≡ 3) ↔ (Rule1 v d × Rule2 d × (Rule3 d → ⊥))
  pub four : (fault v d ≡ 4) ↔ (Rule1 v d × Rule2 d × Rule3 d × (Rule4 d → ⊥))
  pub five : (fault v d ≡ 5) ↔ (Rule1 v d × Rule2 d × Rule3 d × Rule4 d × (Rule5 v d → ⊥))
  pub six : (fault v d ≡ 6) ↔ (Rule1 v d × Rule2 d × Rule3 d × Rule4 d × Rule5 v d × (Rule6 d → ⊥))
