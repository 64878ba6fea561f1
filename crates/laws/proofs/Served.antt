-- Each request of demand 3's batch, by its plan: it is the plan carried out, its writes are good for the keys that it names, so
-- it leaves a sound directory sound, and all rows of a key that it does not name are as before.
use Prim.Native.Nat.{ℕ}
use mathlib.Core.Path.{◌≡◌, refl, ap}
use mathlib.Core.List.{List}
use Rattle.meaning.specs.declared.Op.{Op}
use Rattle.meaning.specs.declared.Op.TheVariants.{Lookup, Enter, Close, Abandon, Delete, Rename, Protect, Unprotect}
use Rattle.meaning.specs.declared.Request.{Request}
use Rattle.meaning.specs.Words.{rows}
use Rattle.meaning.specs.Sound.{fault}
use Rattle.meaning.specs.Answers.{Outcome, find, write}
use Rattle.meaning.specs.declared.Kind.TheVariants.{Permanent}
use Rattle.meaning.specs.Kinds.{permanent_status, protected_status, kind_of}
use Rattle.meaning.specs.Requests.{protect, unprotect, final_length}
use Rattle.meaning.specs.Batch.{serve_by, serve}
use Rattle.meaning.specs.declared.Key.{Key}
use Rattle.meaning.specs.Keys.{holds}
use Rattle.laws.specs.Kept.{BadStays}
use Rattle.laws.specs.Order.{InBatch, open_for, NamesBy, Names, every}
use Rattle.rules.proofs.Soundness.{Sound, sound, faultless}
use Rattle.rules.proofs.Rows.{standing}
use Rattle.laws.proofs.Keeps.{stays_sound, found-every, every_other}
use Rattle.laws.proofs.Good.{Good, nothing_good}
use Rattle.laws.proofs.Stays.{stays}
use Rattle.laws.proofs.Plans.{Plan, carried, refused, delete_plan, restate_plan, abandon_plan, rename_plan, close_plan}
use Rattle.laws.proofs.Plans.{delete-is, restate-is, abandon-is, rename-is, close-is}
use Rattle.laws.proofs.Deeds.{delete-good, restate-good, abandon-good, rename-good, close-good}

-- a lookup and an enter are not of the batch
abbrev pub plan_by : Op → List ℕ → Request → Plan
plan_by Lookup d q = refused 0
plan_by Enter d q = refused 0
plan_by Close d q = close_plan d q.job q.channel (final_length q.final_length)
plan_by Abandon d q = abandon_plan d q.job q.channel
plan_by Delete d q = delete_plan d q.name
plan_by Rename d q = rename_plan d q.name q.new_name
plan_by Protect d q = restate_plan d q.name protected_status
plan_by Unprotect d q = restate_plan d q.name permanent_status

unfoldable pub plan : List ℕ → Request → Plan
plan d q = plan_by q.op d q

-- the two statuses of a permanent entry
pub protected-permanent : kind_of protected_status ≡ Permanent
unfolding kind_of
protected-permanent = refl

pub plain-permanent : kind_of permanent_status ≡ Permanent
unfolding kind_of
plain-permanent = refl

served_by : (op : Op) (v : ℕ) (d : List ℕ) (q : Request) → InBatch op → fault v d ≡ 0
    → serve_by op v d q ≡ carried d (plan_by op d q)
unfolding protect unprotect
served_by Lookup v d q b h = absurd b
served_by Enter v d q b h = absurd b
served_by Close v d q b h = close-is v d h q.job q.channel q.final_length
served_by Abandon v d q b h = abandon-is v d h q.job q.channel
served_by Delete v d q b h = delete-is v d h q.name
served_by Rename v d q b h = rename-is v d h q.name q.new_name
served_by Protect v d q b h = restate-is v d h q.name protected_status
served_by Unprotect v d q b h = restate-is v d h q.name permanent_status

pub served : (v : ℕ) (d : List ℕ) (q : Request) → InBatch q.op → fault v d ≡ 0 → serve v d q ≡ carried d (plan d q)
unfolding serve plan
served v d q b h = served_by q.op v d q b h

module _ (v : ℕ) (d : List ℕ) (s : Sound v d) where
  good_by : (op : Op) (q : Request) → Good d (NamesBy op d q) (plan_by op d q).writes
  unfolding open_for
  good_by Lookup q = nothing_good d (standing v d s) (NamesBy Lookup d q)
  good_by Enter q = nothing_good d (standing v d s) (NamesBy Enter d q)
  good_by Close q = close-good v d s q.job q.channel (final_length q.final_length)
  good_by Abandon q = abandon-good v d s q.job q.channel
  good_by Delete q = delete-good v d s q.name
  good_by Rename q = rename-good v d s q.name q.new_name
  good_by Protect q = restate-good v d s q.name protected_status protected-permanent
  good_by Unprotect q = restate-good v d s q.name permanent_status plain-permanent

  pub plan-good : (q : Request) → Good d (Names d q) (plan d q).writes
  unfolding Names plan
  plan-good q = good_by q.op q

  pub plan-kept : (q : Request) → Sound v (write d (plan d q).writes)
  plan-kept q = let g = plan-good q in stays_sound v (Names d q) g.fall d (write d (plan d q).writes) s g.move g.sources

  pub plan-every : (q : Request) (k : Key) → (Names d q k → ⊥)
      → every (holds k) (rows (write d (plan d q).writes)) ≡ every (holds k) (rows d)
  plan-every q k out =
      let g = plan-good q in
      every_other v (Names d q) g.fall d (write d (plan d q).writes) s g.move k out

  pub plan-found : (q : Request) (k : Key) → (Names d q k → ⊥)
      → find (holds k) (rows (write d (plan d q).writes)) ≡ find (holds k) (rows d)
  plan-found q k out = found-every (holds k) _ (rows d) (plan-every q k out)

pub serve-words : (v : ℕ) (d : List ℕ) (q : Request) → InBatch q.op → fault v d ≡ 0
    → (serve v d q).words ≡ write d (plan d q).writes
serve-words v d q b h = ap (λ (o : Outcome). o.words) (served v d q b h)

pub serve-kept : (v : ℕ) (d : List ℕ) (q : Request) → InBatch q.op → fault v d ≡ 0 → fault v (serve v d q).words ≡ 0
serve-kept v d q b h = rw (serve-words v d q b h) (faultless v _ (plan-kept v d (sound v d h) q))

-- and keeps every FILE.BAD
pub plan_stays : (v : ℕ) (d : List ℕ) → fault v d ≡ 0 → (q : Request) → InBatch q.op → BadStays d (serve v d q).words
plan_stays v d h q b =
    let g = plan-good v d (sound v d h) q in
    rw (serve-words v d q b h) (stays v (Names d q) g.fall d (write d (plan d q).writes) (sound v d h) g.move)
