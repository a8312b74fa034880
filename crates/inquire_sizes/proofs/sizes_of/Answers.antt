-- `inquire_sizes::sizes_of` meets its contract: 28 first.
-- Assumes nothing.
use mathlib.Core.Path.{◌∙◌}
use borrow.Author.Tests.{eq-eqb, ne_eqb}
use Rattle.inquire_sizes.specs.Ranges.{sizes_asked}
use Rattle.inquire_sizes.proofs.sizes_of.Goals as goal

pub returns-then-q-ne0 : goal.returns-then-q-ne0
unfolding sizes_asked
returns-then-q-ne0 c = c.refused.ensures ∙ rw (← c.parse-q.ensures, ne_eqb _ 0 c.if-q-ne0.true)

pub returns : goal.returns
unfolding sizes_asked
returns c = c.sizes.ensures ∙ rw (← c.parse-q.ensures, eq-eqb _ 0 c.if-q-ne0.false)
