-- `table_lines::put_line` meets its contract.
-- Assumes nothing.
use mathlib.Core.Path.{sym, ◌∙◌}
use Prim.Native.Nat.{◌+◌}
use native.Mathlib.Omega.{arith}
use lib.ListN.{length}
use borrow.Author.Tests.{leb-true}
use Rattle.table_lines.proofs.Putting.{refused-line, done-line, starts}
use Rattle.table_lines.proofs.put_line.Goals as goal

pub overflow_add-end : goal.overflow_add-end
overflow_add-end c = let a = c.args in
    let l = c.line_length-n in
    let h = leb-true (a.at + l.result) (length a.buf.now) (sym c.inside.ensures ∙ c.if-inside.true) in
    omega arith

pub store_line-requires : goal.store_line-requires
store_line-requires c = let a = c.args in
    let l = c.line_length-n in
    let h = leb-true (a.at + l.result) (length a.buf.now) (sym c.inside.ensures ∙ c.if-inside.true) in
    let e = l.ensures.0 in
    (omega arith, omega arith)

pub returns-then-inside : goal.returns-then-inside
returns-then-inside c = let e = c.line_length-n.ensures.0 in
    let s = c.store_line.ensures in
    done-line _ _ _ _ e (sym c.inside.ensures ∙ c.if-inside.true) (starts _ _ _ _ _ e s.0 s.1)

pub returns : goal.returns
returns c = refused-line _ _ _ _ c.line_length-n.ensures.0 (sym c.inside.ensures ∙ c.if-inside.false) c.refused.ensures.0 c.refused.ensures.1
