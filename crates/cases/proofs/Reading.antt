-- Reads one after the other: their bytes add up, and so does the offset.
use Rattle.std.proofs.Common.{◌≡◌, ℕ, ◌+◌, ◌%◌, ◌^◌, List, [], ◌++◌, length, length-append, arith, OnOk, Ok, Err, sym, ap, ◌∙◌}
use Rattle.std.specs.Prelude.{Option, Result}
use Rattle.std.proofs.KnownBytes.{Consumes-nil, Consumes-trans}
use Rattle.std.proofs.Math.Nat.{mod-mod, mod-add-mod}
use Rattle.cases.specs.declared.input.CaseFile.{CaseFile}
use Rattle.cases.specs.Runs.{Took, Further}

pub once : {R : Type 0} {rest : R → Option (List ℕ)} {f g : CaseFile R} {bs : List ℕ} → Took rest f g bs → Further rest f g
once {f = f} {bs = bs} t =
    record {
      bytes = bs;
      lost = t.lost;
      offset = ap (λ n. n % 2 ^ 64) t.offset ∙ mod-mod (f.offset + length bs) (2 ^ 64);
    }

-- no byte
pub still : {R : Type 0} (rest : R → Option (List ℕ)) (f : CaseFile R) → Further rest f f
still rest f =
    let e : f.offset ≡ f.offset + 0 = omega arith in
    record { bytes = []; lost = Consumes-nil (rest f.reader); offset = ap (λ n. n % 2 ^ 64) e }

pub further : {R : Type 0} {rest : R → Option (List ℕ)} {f g h : CaseFile R} → Further rest f g → Further rest g h → Further rest f h
further {f = f} {g = g} {h = h} p q =
    let a = p.bytes in
    let b = q.bytes in
    let l : f.offset + length a + length b ≡ f.offset + length (a ++ b) = simp length-append (omega arith) in
    record {
      bytes = a ++ b;
      lost = Consumes-trans _ _ _ a b p.lost q.lost;
      offset =
          q.offset
          ∙ sym (mod-add-mod g.offset (2 ^ 64) (length b))
          ∙ ap (λ n. (n + length b) % 2 ^ 64) p.offset
          ∙ mod-add-mod (f.offset + length a) (2 ^ 64) (length b)
          ∙ ap (λ n. n % 2 ^ 64) l;
    }

-- what may fail, after reads that did not
pub then : {R A E : Type 0} {rest : R → Option (List ℕ)} {f g : CaseFile R} (h : CaseFile R) (r : Result A E)
    → Further rest f g → OnOk r (Further rest g h) → OnOk r (Further rest f h)
then h (Ok x) p q = further p q
then h (Err e) p q = q

pub then_once : {R A E : Type 0} {rest : R → Option (List ℕ)} {f g : CaseFile R} (h : CaseFile R) (bs : List ℕ) (r : Result A E)
    → Further rest f g → OnOk r (Took rest g h bs) → OnOk r (Further rest f h)
then_once h bs (Ok x) p q = further p (once q)
then_once h bs (Err e) p q = q
