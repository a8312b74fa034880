-- `table_lines::put_words` meets its contract.
-- Assumes nothing.
use mathlib.Core.List.{◌++◌}
use mathlib.Core.Path.{sym, ◌∙◌}
use Prim.Native.Nat.{◌+◌}
use native.Mathlib.Omega.{arith}
use lib.ListN.{length}
use borrow.Author.Tests.{leb-true}
use Rattle.table_lines.specs.Lines.{line}
use Rattle.endian.proofs.Laws.{put_in}
use Rattle.table_lines.proofs.Putting.{refused-line, done-line, word_line, word-length}
use Rattle.table_lines.proofs.put_words.Goals as goal

pub overflow_add-end : goal.overflow_add-end
overflow_add-end c = let a = c.args in
    let l = c.line_length in
    let h = leb-true (a.at + (length a.word.now + l.result)) (length a.buf.now) (sym c.inside.ensures ∙ c.if-inside.true) in
    omega arith

pub store_line-requires : goal.store_line-requires
store_line-requires c = let a = c.args in
    let l = c.line_length in
    let h = leb-true (a.at + (length a.word.now + l.result)) (length a.buf.now) (sym c.inside.ensures ∙ c.if-inside.true) in
    let e = l.ensures.0 in
    (omega arith, omega arith)

pub returns-then-inside : goal.returns-then-inside
returns-then-inside c = let a = c.args in
    let w = a.word.now in
    let l = c.line_length in
    let t = sym c.inside.ensures ∙ c.if-inside.true in
    let h = leb-true (a.at + (length w + l.result)) (length a.buf.now) t in
    let e = l.ensures.0 in
    done-line _ _ (w ++ line a.numbers.now) _ (word-length w (line a.numbers.now) _ e) t
    (word_line _ _ w (line a.numbers.now) _ (omega arith) c.store_line.ensures.1 (put_in c.put_bytes.ensures (omega arith)))

pub returns : goal.returns
returns c = let a = c.args in
    refused-line _ _ (a.word.now ++ line a.numbers.now) _ (word-length a.word.now (line a.numbers.now) _ c.line_length.ensures.0) (sym c.inside.ensures ∙ c.if-inside.false) c.refused.ensures.0 c.refused.ensures.1
