-- `table_lines::put_text` meets its contract.
-- Assumes nothing.
use Rattle.table_lines.proofs.Putting.{refused-line, done-line}
use Rattle.endian.proofs.Laws.{put_in}
use borrow.Author.Tests.{leb-true}
use lib.ListN.{length}
use native.Mathlib.Omega.{arith}
use Prim.Native.Nat.{◌+◌}
use mathlib.Core.Path.{refl, sym, ◌∙◌}
use Rattle.table_lines.proofs.put_text.Goals as goal

pub overflow_add-end : goal.overflow_add-end
overflow_add-end c = let h = leb-true (c.args.at + length c.args.text.now) (length c.args.buf.now) (sym c.inside.ensures ∙ c.if-inside.true) in omega arith

pub returns-then-inside : goal.returns-then-inside
returns-then-inside c = let t = sym c.inside.ensures ∙ c.if-inside.true in let h = leb-true (c.args.at + length c.args.text.now) (length c.args.buf.now) t in done-line _ _ _ _ refl t (put_in c.put_bytes.ensures (omega arith))

pub returns : goal.returns
returns c = refused-line _ _ _ _ refl (sym c.inside.ensures ∙ c.if-inside.false) c.refused.ensures.0 c.refused.ensures.1
