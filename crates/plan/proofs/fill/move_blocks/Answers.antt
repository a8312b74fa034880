-- `plan::fill::move_blocks` meets its contract.
-- Assumes nothing.
use Rattle.plan.specs.Plan.{moved}
use Rattle.btree.specs.Owners.{negative}
use Rattle.plan_free.proofs.Laws.{taken-ends}
use Rattle.plan_free.specs.Free.{taken}
use borrow.Author.Tests.{eq-eqb, ne_eqb}
use native.Mathlib.Omega.{arith}
use mathlib.Core.Path.{◌≡◌, ◌∙◌}
use Rattle.plan.proofs.fill.move_blocks.Goals as goal

pub extend-agfl-requires : goal.extend-agfl-requires
extend-agfl-requires c = let a = c.args in let e : (taken a.w.free a.start a.n).number ≡ 0 = rw (← c.take-t.ensures) c.if-number-eq0.true in omega (arith, taken-ends a.w.free a.start a.n e)

pub returns-then-number-eq0 : goal.returns-then-number-eq0
unfolding moved negative
returns-then-number-eq0 c = c.finish.ensures ∙ rw (c.extend-agfl.ensures, c.note_owner-m.ensures, ← c.take-t.ensures, eq-eqb _ _ c.if-number-eq0.true)

pub returns : goal.returns
unfolding moved
returns c = c.fail.ensures ∙ rw (← c.take-t.ensures, ne_eqb _ _ c.if-number-eq0.false)
