-- `inquire_lines::put_pair` meets its contract.
-- Assumes nothing.
use mathlib.Core.Path.{sym, ◌∙◌}
use mathlib.Core.Bool.{false}
use Prim.Native.Nat.{◌+◌}
use native.Mathlib.Omega.{arith}
use lib.ListN.{length}
use borrow.Author.Tests.{leb-true}
use Rattle.inquire_lines.specs.Items.{item_bytes}
use Rattle.inquire_lines.proofs.Items.{put-there, first_short, second_short, both-put}
use Rattle.inquire_lines.proofs.put_pair.Goals as goal

pub overflow_add-at : goal.overflow_add-at
overflow_add-at c = let a = c.args in let h = leb-true (a.at + c.item_length-n.result) (length a.buf.now) (sym c.inside.ensures ∙ c.if-inside.true) in omega arith

pub returns-then-w-ne0 : goal.returns-then-w-ne0
returns-then-w-ne0 c = let a = c.args in second_short a.at c.item_length-n.result (item_bytes a.first.now a.a false) _ a.buf.now c.item_length-n.ensures c.put_item-w.ensures c.if-w-ne0.true

pub returns-then-inside : goal.returns-then-inside
returns-then-inside c = let a = c.args in let e = c.item_length-n.ensures in let h = leb-true (a.at + c.item_length-n.result) (length a.buf.now) (sym c.inside.ensures ∙ c.if-inside.true) in both-put a.at c.item_length-n.result (item_bytes a.first.now a.a false) _ a.buf.now e c.put_item-w.ensures c.if-w-ne0.false (put-there c.put_item.ensures (omega (arith, e)))

pub returns : goal.returns
returns c = let a = c.args in first_short a.at c.item_length-n.result (item_bytes a.first.now a.a false) _ a.buf.now c.item_length-n.ensures (sym c.inside.ensures ∙ c.if-inside.false) c.refused.ensures.0 c.refused.ensures.1
