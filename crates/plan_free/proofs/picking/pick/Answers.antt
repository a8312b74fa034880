-- `plan_free::picking::pick` meets its contract.
-- Assumes nothing.
use mathlib.Core.Path.{◌∙◌}
use borrow.Author.Tests.{lt-ltb, le-ltb}
use Rattle.plan_free.specs.Free.{pick_answer, picked_from}
use Rattle.plan_free.proofs.picking.pick.Goals as goal

pub returns-then-l-gt64 : goal.returns-then-l-gt64
unfolding pick_answer picked_from
returns-then-l-gt64 c = c.unpicked.ensures ∙ simp (lt-ltb _ _ c.if-l-gt64.true)

pub returns-then-c : goal.returns-then-c
unfolding pick_answer picked_from
returns-then-c c = rw (le-ltb _ _ c.if-l-gt64.false, ← c.best_fit-c.ensures, c.if-c.true)

pub returns : goal.returns
unfolding pick_answer picked_from
returns c = c.largest.ensures ∙ rw (le-ltb _ _ c.if-l-gt64.false, ← c.best_fit-c.ensures, c.if-c.false)
