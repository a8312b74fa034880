-- `reader_compare::heads::group_number_in` meets its contract.
-- Assumes nothing.
use mathlib.Core.Path.{◌∙◌}
use Rattle.reader_compare.proofs.Made.{compared-in, made_in_lem}
use Rattle.reader_compare.proofs.heads.group_number_in.Goals as goal

pub returns-then-made-ne0 : goal.returns-then-made-ne0
returns-then-made-ne0 c = (c.group_number.ensures, made_in_lem _ _ _ c.head_left-made.ensures.written)

pub returns : goal.returns
returns c = let a = c.args in
    (c.compare_head.ensures ∙ compared-in a.g a.uuid a.head.now a.agno c.head_left-made.ensures.written c.if-made-ne0.false, made_in_lem a.g a.uuid a.agno c.head_left-made.ensures.written)
