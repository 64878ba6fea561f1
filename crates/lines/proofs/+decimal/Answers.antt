-- `decimal` meets its contract: it goes by the digits as the meaning does (laws `last_digit`, `next_digit`), and the number falls.
use Prim.Native.Nat.{◌/◌}
use native.Mathlib.Omega.{arith}
use Rattle.lines.proofs.Digits.{four_digits, last_digit, next_digit}
use Rattle.lines.proofs.+decimal.Goals as goal

pub returns-then-n-lt10 : goal.returns-then-n-lt10
returns-then-n-lt10 t c =
    let a = c.args in
    last_digit a.out.now a.at a.n c.if-n-lt10.true c.requires.1

pub bounds-out-next : goal.bounds-out-next
bounds-out-next t c = omega (arith, four_digits (c.args.n / 10) (omega arith))

pub returns : goal.returns
returns t c =
    let a = c.args in
    next_digit a.n (omega arith) (omega arith) (omega arith) c.decimal-next.ensures
