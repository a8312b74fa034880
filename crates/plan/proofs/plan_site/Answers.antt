-- `plan::plan_site` meets its contract.
-- Assumes nothing.
use Rattle.plan.specs.Plan.{plan_of, list_filled}
use borrow.Author.Tests.{eq-eqb, ne_eqb}
use mathlib.Core.Path.{◌∙◌}
use Rattle.plan.proofs.plan_site.Goals as goal

pub returns-then-s-eq0 : goal.returns-then-s-eq0
unfolding plan_of list_filled
returns-then-s-eq0 c = c.answer_with.ensures ∙ rw (c.take_chunk-done.ensures, c.fill_list-full.ensures, c.start_work-first.ensures, eq-eqb _ _ c.if-s-eq0.true)

pub returns : goal.returns
unfolding plan_of list_filled
returns c = c.answer_with-2.ensures ∙ rw (c.fill_list-full.ensures, c.start_work-first.ensures, ne_eqb _ _ c.if-s-eq0.false)
