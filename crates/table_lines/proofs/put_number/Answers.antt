-- `table_lines::put_number` meets its contract.
-- Assumes nothing.
use Rattle.table_lines.proofs.Putting.{refused-line, done-line, starts, number-length}
use Rattle.table_lines.specs.Decimal.{decimal}
use borrow.Author.Tests.{leb-true}
use lib.ListN.{length}
use native.Mathlib.Omega.{arith}
use Prim.Native.Nat.{◌+◌}
use mathlib.Core.Path.{sym, ◌∙◌}
use mathlib.Core.List.{[], ◌∷◌, ◌++◌}
use Rattle.table_lines.proofs.put_number.Goals as goal

pub overflow_add-end : goal.overflow_add-end
overflow_add-end c = let a = c.args in let l = c.decimal_length-n in let h = leb-true (a.at + (l.result + 1)) (length a.buf.now) (sym c.inside.ensures ∙ c.if-inside.true) in omega arith

pub store_number-requires : goal.store_number-requires
store_number-requires c = let a = c.args in let l = c.decimal_length-n in let h = leb-true (a.at + (l.result + 1)) (length a.buf.now) (sym c.inside.ensures ∙ c.if-inside.true) in let e = l.ensures.0 in (omega arith, omega arith)

pub returns-then-inside : goal.returns-then-inside
returns-then-inside c = let a = c.args in let e = number-length (decimal a.number) a.behind _ c.decimal_length-n.ensures.0 in let s = c.store_number.ensures in done-line _ _ (decimal a.number ++ (a.behind ∷ [])) _ e (sym c.inside.ensures ∙ c.if-inside.true) (starts _ _ _ (decimal a.number ++ (a.behind ∷ [])) _ e (omega arith) s.1)

pub returns : goal.returns
returns c = let a = c.args in refused-line _ _ (decimal a.number ++ (a.behind ∷ [])) _ (number-length (decimal a.number) a.behind _ c.decimal_length-n.ensures.0) (sym c.inside.ensures ∙ c.if-inside.false) c.refused.ensures.0 c.refused.ensures.1
