-- `take_out` meets its contract: the first alike is at the position found, and those before it move up by one.
use native.Mathlib.Omega.{arith}
use mathlib.Core.Path.{◌≡◌, refl, sym, ap, ◌∙◌}
use lib.ListN.{length, drop}
use Prim.Native.Nat.{◌<◌}
use mathlib.Core.Bool.{true≢false}
use Rattle.std.proofs.Common.{rules, tests, ℕ, ◌-◌}
use Rattle.std.specs.Prelude.{Some}
use Rattle.std.specs.List.{position_from}
use Rattle.std.proofs.lemmas.Iterator.Adapters.{serves_from_places, position_from-zero}
use Rattle.std.proofs.lemmas.Iterator.Search.{position_from_yields_List}
use Rattle.std.proofs.lemmas.Iterator.{YieldsList-from_slice}
use Rattle.walks.proofs.Alls.{all-at}
use Rattle.keeping.specs.Tables.{Within, alike}
use Rattle.keeping.proofs.Taking.{none_at, First, first_at, behind-front}
use Rattle.keeping.proofs.matching.take_out.Goals.{After-position}
use Rattle.keeping.proofs.matching.take_out.Goals as goal

pub position-requires-clause-callable : goal.position-requires-clause-callable
position-requires-clause-callable c =
    let w = c.args.w.now in
    serves_from_places (YieldsList-from_slice c.args.table.now c.iter.ensures.rest) (λ x q k. search (rules, tests))
    (λ x k h e. let there : Within w x.now = rw (← e) at (all-at (Within w) c.args.table.now c.requires.1 k h x.now) in search rules)

-- the position is that of the first alike
spot : (c : After-position) → c.position.result ≡ position_from (alike c.args.d.now c.args.x.now c.args.w.now) 0 c.args.table.now
spot c =
    let a = c.args in
    position_from_yields_List (alike a.d.now a.x.now a.w.now) _ _ c.position.result c.position.ensures.ran
    (YieldsList-from_slice a.table.now c.iter.ensures.rest) (λ x b q k. search (rules, tests))
    ∙ position_from-zero (alike a.d.now a.x.now a.w.now) a.table.now

pub returns-in_default : goal.returns-in_default
returns-in_default c =
    let a = c.args in
    let none = none_at (alike a.d.now a.x.now a.w.now) 0 a.table.now (sym (spot (goal.at.returns-in_default c).After-position) ∙ c.in_default.is) in
    record { found = sym none; others = λ h. absurd (true≢false (sym h)); size = refl }

-- and what is before and after it
first : (c : After-position) (k : ℕ) → c.position.result ≡ Some k → First (alike c.args.d.now c.args.x.now c.args.w.now) 0 k c.args.table.now
first c k e = first_at _ 0 k c.args.table.now (sym (spot c) ∙ e)

pub hand_on-requires : goal.hand_on-requires
hand_on-requires c =
    let f = first (goal.at.hand_on-requires c).After-position c.in-Some.place c.in-Some.is in
    omega (arith, f.inside)

pub returns : goal.returns
returns c =
    let a = c.args in
    let f = first (goal.at.returns c).After-position c.in-Some.place c.in-Some.is in
    let n : c.in-Some.place - 0 ≡ c.in-Some.place = omega arith in
    let inside : c.in-Some.place < length a.table.now = omega (arith, f.inside) in
    record {
      found = sym f.found;
      others = λ _. ap (drop 1) c.hand_on.ensures ∙ behind-front a.table.now _ c.in-Some.place inside ∙ sym (rw n at f.out);
      size = c.hand_on.auto.table;
    }
