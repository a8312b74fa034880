-- `list_send::send` meets its contract.
-- Assumes nothing.
use mathlib.Core.Path.{refl}
use native.Mathlib.Omega.{arith}
use Rattle.list_send.proofs.Turns.{not-wanted, too_short, refused-turn, chunk-refused, chunk-sent}
use Rattle.list_send.proofs.send.Goals as goal

pub returns-then-wanted-ne0 : goal.returns-then-wanted-ne0
returns-then-wanted-ne0 c = refused-turn _ _ _ _ _ _ _ c.unsent_by.ensures (not-wanted _ _ _ _ c.wants-wanted.ensures c.if-wanted-ne0.true) c.if-wanted-ne0.true refl refl

pub returns-then-buf-n : goal.returns-then-buf-n
returns-then-buf-n c = refused-turn _ _ _ _ _ _ _ c.unsent_by-then-buf-n.ensures (too_short _ _ _ _ c.wants-wanted.ensures c.if-wanted-ne0.false (omega arith)) (λ z. omega arith) refl refl

pub returns-then-number-ne0 : goal.returns-then-number-ne0
returns-then-number-ne0 c = chunk-refused _ _ _ _ c.wants-wanted.ensures c.if-wanted-ne0.false (omega arith) _ _ c.next_of.ensures _ _ c.write_piece-number.ensures.0 c.write_piece-number.ensures.1 _ c.unsent_by-then-number-ne0.ensures c.if-number-ne0.true

pub returns : goal.returns
returns c = chunk-sent _ _ _ _ c.wants-wanted.ensures c.if-wanted-ne0.false (omega arith) _ _ c.next_of.ensures _ _ c.write_piece-number.ensures.0 c.write_piece-number.ensures.1 _ c.stepped_on.ensures c.if-number-ne0.false c.write_piece-number.auto.buf
