-- `inquire_lines::put_item` meets its contract.
-- Assumes nothing.
use Rattle.inquire_lines.proofs.Items.{put-there, first_short, second_short, both-put}
use Rattle.inquire_lines.specs.Items.{with_byte, item_bytes}
use Rattle.table_lines.proofs.Putting.{number-length}
use borrow.Author.Tests.{leb-true}
use lib.ListN.{length}
use native.Mathlib.Omega.{arith}
use Prim.Native.Nat.{◌+◌}
use mathlib.Core.Path.{refl, sym, ◌∙◌}
use Rattle.inquire_lines.proofs.put_item.Goals as goal

pub overflow_add-at : goal.overflow_add-at
overflow_add-at c = let a = c.args in let h = leb-true (a.at + (length a.word.now + 1)) (length a.buf.now) (sym c.inside.ensures ∙ c.if-inside.true) in omega arith

pub returns-then-w-ne0 : goal.returns-then-w-ne0
unfolding item_bytes
returns-then-w-ne0 c = let a = c.args in let w = a.word.now in second_short a.at (length w + 1) (with_byte w 32) _ a.buf.now (number-length w 32 (length w) refl) (rw c.behind.ensures at c.put_number-w.ensures) c.if-w-ne0.true

pub returns-then-inside : goal.returns-then-inside
unfolding item_bytes
returns-then-inside c = let a = c.args in let w = a.word.now in let e = number-length w 32 (length w) refl in let h = leb-true (a.at + (length w + 1)) (length a.buf.now) (sym c.inside.ensures ∙ c.if-inside.true) in both-put a.at (length w + 1) (with_byte w 32) _ a.buf.now e (rw c.behind.ensures at c.put_number-w.ensures) c.if-w-ne0.false (put-there c.put_followed.ensures (omega (arith, e)))

pub returns : goal.returns
unfolding item_bytes
returns c = let a = c.args in let w = a.word.now in first_short a.at (length w + 1) (with_byte w 32) _ a.buf.now (number-length w 32 (length w) refl) (sym c.inside.ensures ∙ c.if-inside.false) c.refused.ensures.0 c.refused.ensures.1
