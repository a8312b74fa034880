-- `plan_table::lines::put_line` meets its contract.
-- Assumes nothing.
use Rattle.plan_table.specs.Filling.{line_of}
use Rattle.std.proofs.Common.{eq-eqb, ne_eqb, le-leb}
use borrow.Author.Tests.{lt-leb}
use Rattle.plan_table.proofs.lines.put_line.Goals as goal

pub returns-then-number-ne0 : goal.returns-then-number-ne0
unfolding line_of
returns-then-number-ne0 c = rw (ne_eqb _ 0 c.if-number-ne0.true) c.put_refused.ensures

pub returns-then-left-le1 : goal.returns-then-left-le1
unfolding line_of
returns-then-left-le1 c = rw (eq-eqb _ 0 c.if-number-ne0.false, le-leb _ 1 c.if-left-le1.true) c.put_total.ensures

pub returns-then-left-groups : goal.returns-then-left-groups
unfolding line_of
returns-then-left-groups c = rw (eq-eqb _ 0 c.if-number-ne0.false, lt-leb _ 1 c.if-left-le1.false, le-leb _ _ c.if-left-groups.true) c.put_group.ensures

pub returns : goal.returns
unfolding line_of
returns c = rw (eq-eqb _ 0 c.if-number-ne0.false, lt-leb _ 1 c.if-left-le1.false, lt-leb _ _ c.if-left-groups.false) c.put_header.ensures
