-- The entries ahead of a cursor on its way: none at the end, and else the one that a step gives, and those ahead of the cursor past it. As
-- lists of entries handed over they are those of rows. Assumes nothing.
use Prim.Native.Nat.{ℕ, zero, suc, ◌≤◌}
use base.Stored.{Coded-set}
use Rattle.std.specs.Coded.{Coded, code_by, coded×, coded_list, coded_ℕ}
use Rattle.std.proofs.Math.Logic.{∥∥₁_elim, ∥∥₁_map}
use mathlib.Core.Path.{◌≡◌, refl, ap, ◌∙◌}
use mathlib.Core.List.{List, [], ◌∷◌, map}
use native.Mathlib.Omega.{arith}
use Rattle.std.specs.Prelude.{Some, None}
use Rattle.meaning.specs.declared.Kind.{Kind}
use Rattle.meaning.specs.declared.Kind.TheVariants.{Tentative, Empty, Permanent, End, Unknown}
use Rattle.meaning.specs.declared.Name.{Name}
use Rattle.meaning.specs.Words.{Row, rows}
use Rattle.walks.specs.Lists.{All}
use Rattle.cursor.specs.Cursor.{first_slot, rows_at, seen_of, step_at}
use Rattle.cursor.specs.declared.Cursor.{Cursor}
use Rattle.cursor.specs.declared.Seen.{Seen}
use Rattle.cursor.proofs.Walking.{On, on_stands, begins, from_start, passed, Went, went, ended}
use Rattle.rows.specs.Rows.{IsSound, Underway, ahead}

-- entries handed over are made of numbers, so that an equation between lists of them has one proof at most
kind_number : Kind → ℕ
kind_number Tentative = 0
kind_number Empty = 1
kind_number Permanent = 2
kind_number End = 3
kind_number Unknown = 4

kind_at : ℕ → Kind
kind_at zero = Tentative
kind_at (suc zero) = Empty
kind_at (suc (suc zero)) = Permanent
kind_at (suc (suc (suc zero))) = End
kind_at (suc (suc (suc (suc n)))) = Unknown

kind_back : (k : Kind) → kind_at (kind_number k) ≡ k
unfolding kind_at kind_number
kind_back Tentative = refl
kind_back Empty = refl
kind_back Permanent = refl
kind_back End = refl
kind_back Unknown = refl

kind_code : Coded Kind
kind_code = code_by ℕ coded_ℕ kind_number kind_at kind_back

name_code : Coded Name
name_code = code_by (ℕ × (ℕ × ℕ)) (coded× coded_ℕ (coded× coded_ℕ coded_ℕ))
    (λ n. (n.first, (n.second, n.extension))) (λ p. record { first = p.0; second = p.1.0; extension = p.1.1 }) (λ _. refl)

place_code : Coded (ℕ × (ℕ × (ℕ × ℕ)))
place_code = coded× coded_ℕ (coded× coded_ℕ (coded× coded_ℕ coded_ℕ))

seen_code : Coded Seen
seen_code = code_by ((ℕ × (ℕ × (ℕ × ℕ))) × (Kind × (Name × (ℕ × (ℕ × ℕ)))))
    (coded× place_code (coded× kind_code (coded× name_code (coded× coded_ℕ (coded× coded_ℕ coded_ℕ)))))
    (λ s. ((s.seg, (s.slot, (s.at, s.first))), (s.kind, (s.name, (s.length, (s.channel, s.date))))))
    (λ p. record {
      seg = p.0.0;
      slot = p.0.1.0;
      at = p.0.1.1.0;
      first = p.0.1.1.1;
      kind = p.1.0;
      name = p.1.1.0;
      length = p.1.1.1.0;
      channel = p.1.1.1.1.0;
      date = p.1.1.1.1.1;
    })
    (λ _. refl)

module _ {d : List ℕ} {c : Cursor} (u : ∥ Underway d c ∥₁) where
  pub ahead-none : step_at d c ≡ None → ahead d c ≡ []
  ahead-none e = ∥∥₁_elim u (Coded-set (coded_list seen_code) _ _) (λ w. ap (map seen_of) (ended w.on e))

  module _ {seen : Seen} {to : Cursor} (e : step_at d c ≡ Some (seen, to)) where
    pub ahead-some : ahead d c ≡ seen ∷ ahead d to
    ahead-some = ∥∥₁_elim u (Coded-set (coded_list seen_code) _ _) (λ x. go (went x.on seen to e))
      where
        go : {v : ℕ} → Went v d c seen to → ahead d c ≡ seen ∷ ahead d to
        go w =
            let a : map seen_of (rows_at d c) ≡ seen_of w.row ∷ map seen_of w.rest = ap (map seen_of) w.is in
            a ∙ rw (← w.seen_is, w.ahead)

    pub underway-past : ∥ Underway d to ∥₁
    underway-past = ∥∥₁_map u (λ w. record { v = w.v; on = (went w.on seen to e).on })

-- no first block ahead is above 65,535
abbrev pub Small : Row → Type 0
Small r = r.first ≤ 65535

pub small-rows : {v : ℕ} {d : List ℕ} (rs : List Row) {c : Cursor} → On v d c → rows_at d c ≡ rs → All Small rs
small-rows [] o e = tt
small-rows {v} {d} (r ∷ rs) {c} o e =
    let p = passed o r rs e in
    let s = on_stands p.on in
    (omega (arith, s.small), small-rows rs p.on p.rest)

-- rows by the entries that they are handed over as
pub no_rows : (rs : List Row) → map seen_of rs ≡ [] → rs ≡ []
no_rows [] e = refl
no_rows (r ∷ rs) e = cc

pub record Headed (rs : List Row) (seen : Seen) (others : List Seen) : Type 0 where
  pub row : Row
  pub rest : List Row
  pub is : rs ≡ row ∷ rest
  pub seen_is : seen ≡ seen_of row
  pub others_are : others ≡ map seen_of rest

pub headed : (rs : List Row) {seen : Seen} {others : List Seen} → map seen_of rs ≡ seen ∷ others → Headed rs seen others
headed [] e = cc
headed (r ∷ rs) e = record { row = r; rest = rs; is = refl; seen_is = cc; others_are = cc }

-- the walk begins before all entries
module _ {d : List ℕ} (s : IsSound d) {c : Cursor} (e : c ≡ first_slot d 1) where
  pub starts-underway : ∥ Underway d c ∥₁
  starts-underway = ∣ record { v = s.v; on = rw e (begins s.v d s.sound) } ∣₁

  pub starts-before : ahead d c ≡ map seen_of (rows d)
  starts-before = rw e (ap (map seen_of) (from_start s.v d s.sound))
