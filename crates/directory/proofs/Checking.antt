-- The check of all rules: what each of its tests gives, and the number at each of its ends.
use mathlib.Core.Path.{◌≡◌, refl, sym, ap, ◌∙◌}
use Prim.Native.Nat.{ℕ}
use mathlib.Core.Bool.{Bool, true, false, not}
use mathlib.Core.List.{List}
use lib.ListN.{length}
use Rattle.meaning.specs.Words.{highest}
use Rattle.meaning.specs.Sound.{bad1, bad2, bad3, bad6, fault}
use Rattle.walks.specs.Links.{linked}
use Rattle.walks.proofs.Linked.{bad3-walk}
use Rattle.chain.specs.Chained.{Chained}
use Rattle.chain.specs.Head.{size_wrong}
use Rattle.chain.specs.Measure.{measure_of}
use Rattle.chain.specs.Told.{number_of}
use Rattle.chain.specs.declared.fault.Fault.{Fault}
use Rattle.chain.specs.declared.fault.Fault.TheVariants.{Size, Header, Links, Slots, Blocks, Clash}
use Rattle.chain.proofs.Chains.{size_is, chained}
use Rattle.chain.proofs.Faults.{fault_by, fault-is}

-- the fault of rule 4 or 5, where those before it are kept
nonzero : (f : Fault) (z : Bool) → fault_by false false false (number_of f) z ≡ number_of f
nonzero Size z = refl
nonzero Header z = refl
nonzero Links z = refl
nonzero Slots z = refl
nonzero Blocks z = refl
nonzero Clash z = refl

module _ (v : ℕ) (d : List ℕ) {a : Bool} (size : a ≡ size_wrong v (length d)) where
  pub first : a ≡ true → 1 ≡ fault v d
  first e = rw (size_is v d ∙ sym size ∙ e) at (fault-is v d)

  module _ (p : a ≡ false) where
    pub kept1 : bad1 v d ≡ false
    kept1 = size_is v d ∙ sym size ∙ p

    module _ {b : Bool} (head : b ≡ bad2 d) where
      pub second : b ≡ true → 2 ≡ fault v d
      second e = rw (kept1, sym head ∙ e) at (fault-is v d)

      module _ (q : b ≡ false) {c : Bool} (links : c ≡ linked (highest d) d 1) where
        kept2 : bad2 d ≡ false
        kept2 = sym head ∙ q

        walked : bad3 d ≡ not c
        walked = bad3-walk d ∙ ap not (sym links)

        pub third : c ≡ false → 3 ≡ fault v d
        third e = rw (kept1, kept2, walked, e) at (fault-is v d)

        module _ (l : c ≡ true) where
          kept3 : bad3 d ≡ false
          kept3 = walked ∙ ap not l

          pub chain-kept : Chained d
          chain-kept = chained v d kept1 kept2 kept3

          -- rules 4 and 5
          pub measured : (f : Fault) → number_of f ≡ measure_of v d → number_of f ≡ fault v d
          measured f e = sym (nonzero f (bad6 d)) ∙ rw (kept1, kept2, kept3, sym e) at (fault-is v d)

          module _ (m : 0 ≡ measure_of v d) {x : Bool} (clash : x ≡ bad6 d) where
            pub last : x ≡ true → 6 ≡ fault v d
            last e = rw (kept1, kept2, kept3, sym m, sym clash ∙ e) at (fault-is v d)

            pub sound : x ≡ false → 0 ≡ fault v d
            sound e = rw (kept1, kept2, kept3, sym m, sym clash ∙ e) at (fault-is v d)
