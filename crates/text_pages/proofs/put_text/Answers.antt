-- `text_pages::put_text` meets its contract.
-- Assumes nothing.
use mathlib.Core.Path.{refl, sym, ◌∙◌}
use Prim.Native.Nat.{◌+◌}
use native.Mathlib.Omega.{arith}
use lib.ListN.{length}
use borrow.Author.Tests.{leb-true}
use Rattle.endian.proofs.Laws.{put_in}
use Rattle.table_lines.proofs.Putting.{refused-line, done-line}
use Rattle.text_pages.proofs.put_text.Goals as goal

pub overflow_add-end : goal.overflow_add-end
overflow_add-end c = let a = c.args in
    let h = leb-true (a.at + length a.text.now) (length a.buf.now) (sym c.inside.ensures ∙ c.if-inside.true) in
    omega arith

pub returns-then-inside : goal.returns-then-inside
returns-then-inside c = let a = c.args in
    let t = sym c.inside.ensures ∙ c.if-inside.true in
    let h = leb-true (a.at + length a.text.now) (length a.buf.now) t in
    done-line _ _ _ _ refl t (put_in c.put_bytes.ensures (omega arith))

pub returns : goal.returns
returns c = refused-line _ _ _ _ refl (sym c.inside.ensures ∙ c.if-inside.false) refl refl
