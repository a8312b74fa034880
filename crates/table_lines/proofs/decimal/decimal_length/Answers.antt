-- `table_lines::decimal::decimal_length` meets its contract.
-- Assumes nothing.
use mathlib.Core.Path.{sym}
use native.Mathlib.Omega.{arith}
use Rattle.table_lines.proofs.Digits.{length_is, length-small, length-64}
use Rattle.table_lines.proofs.decimal.decimal_length.Goals as goal

pub returns-in-Some : goal.returns-in-Some
returns-in-Some c =
    let e = length_is c.in-Some.k c.args.n c.in-Some.ensures.power_le c.in-Some.ensures.next_power_gt in
    let l = length-64 c.args.n c.ranges.n.fits in
    (omega (arith, e, l), omega (arith, e, l))

pub returns-in-None : goal.returns-in-None
returns-in-None c = (sym (length-small c.args.n (omega (arith, c.in-None.ensures.none))), omega arith)
