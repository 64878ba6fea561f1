-- What a run comes to: the answer before and after the end call, and the memory. Where things go on as from another reader, they come to the same; a
-- reader that is decided answers at once; and one that is not, with no byte left, is provisional and at the end call refused by 30.
use Prim.Native.Nat.{ℕ}
use mathlib.Core.Path.{◌≡◌, refl, ap, ◌∙◌}
use mathlib.Core.Bool.{false, true≢false}
use mathlib.Core.List.{List, []}
use borrow.Author.Tests.{ne_eqb}
use Rattle.loadsteps.specs.Step.{role_of, decided_by}
use Rattle.loadsteps.specs.Run.{read, fill, ended, answer_by, answer_now}
use Rattle.loadsteps.specs.Whole.{until_end, in_counters}
use Rattle.loadsteps.specs.declared.Phase.{Phase}
use Rattle.loadsteps.specs.declared.Phase.TheVariants as phases
use Rattle.loadsteps.specs.declared.Role.{Role}
use Rattle.loadsteps.specs.declared.Role.TheVariants as roles
use Rattle.loadsteps.specs.declared.Reader.{Reader}
use Rattle.loadsteps.specs.declared.Answer.{Answer}
use Rattle.loadsteps.specs.declared.Answer.TheVariants.{Provisional, Accepted, Refused}
use Rattle.loadsteps.proofs.Runs.{at, Goes, read_stays, fill_stays}

-- the bytes s, read from r on, say a, and leave m' of the memory m
pub record Says (l : ℕ) (r : Reader) (s m : List ℕ) (a : Answer) (m' : List ℕ) : Type 0 where
  pub final : answer_now (ended (read l r s)) ≡ in_counters a
  pub before_end : answer_now (read l r s) ≡ until_end (in_counters a)
  pub memory : fill l r s m ≡ m'

pub says_goes : {l : ℕ} {r r' : Reader} {s s' m m' m'' : List ℕ} {a : Answer} → Goes l r s m r' s' m' → Says l r' s' m' a m'' → Says l r s m a m''
says_goes g h =
    record {
      final = ap (λ (x : Reader). answer_now (ended x)) g.reads ∙ h.final;
      before_end = ap answer_now g.reads ∙ h.before_end;
      memory = g.fills ∙ h.memory;
    }

-- decided
pub says_refused : (l k s t o : ℕ) (bs m : List ℕ) → (k ≡ 30 → ⊥) → Says l (at (phases.Refused k) s t o) bs m (Refused k t o) m
unfolding at answer_now ended
says_refused l k s t o bs m h =
    let e = read_stays l (at (phases.Refused k) s t o) bs refl in
    record { final = rw e; before_end = rw (e, ne_eqb k 30 h); memory = fill_stays l (at (phases.Refused k) s t o) bs m refl }

pub says_accepted : (l a s t o : ℕ) (bs m : List ℕ) → Says l (at (phases.Accepted a) s t o) bs m (Accepted a) m
unfolding at answer_now ended
says_accepted l a s t o bs m =
    let e = read_stays l (at (phases.Accepted a) s t o) bs refl in
    record { final = rw e; before_end = rw e; memory = fill_stays l (at (phases.Accepted a) s t o) bs m refl }

-- no byte is left
provisional : (k : Role) (t o : ℕ) → decided_by k ≡ false → answer_by k t o ≡ Provisional
provisional roles.Passing t o h = refl
provisional (roles.Storing a n) t o h = refl
provisional (roles.Accepted a) t o h = absurd (true≢false h)
provisional (roles.Refused k) t o h = absurd (true≢false h)

pub says_ends : (l : ℕ) (p : Phase) (s t o : ℕ) (m : List ℕ) → decided_by (role_of p) ≡ false → Says l (at p s t o) [] m (Refused 30 t o) m
unfolding at answer_now ended read fill
says_ends l p s t o m h = record { final = rw h; before_end = provisional (role_of p) _ _ h; memory = refl }
