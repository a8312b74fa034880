-- `plan::chunk::take_chunk` meets its contract.
-- Assumes nothing.
use Rattle.btree.specs.Owners.{negative}
use Rattle.plan.specs.Plan.{chunked}
use borrow.Author.Tests.{eq-eqb, ne_eqb}
use mathlib.Core.Path.{◌∙◌}
use Rattle.plan.proofs.chunk.take_chunk.Goals as goal

pub returns-then-number-eq0 : goal.returns-then-number-eq0
unfolding chunked negative
returns-then-number-eq0 c = c.finish.ensures ∙ rw (c.note_owner-m.ensures, eq-eqb _ _ c.if-w-eq0.true, ← c.take-t.ensures, eq-eqb _ _ c.if-number-eq0.true)

pub returns-then-w-eq0 : goal.returns-then-w-eq0
unfolding chunked
returns-then-w-eq0 c = c.fail.ensures ∙ rw (eq-eqb _ _ c.if-w-eq0.true, ← c.take-t.ensures, ne_eqb _ _ c.if-number-eq0.false)

pub returns : goal.returns
unfolding chunked
returns c = rw (ne_eqb _ _ c.if-w-eq0.false)
