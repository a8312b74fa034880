-- `run::number_of` meets its contract.
-- Assumes nothing.
use borrow.Author.Tests.{eq-eqb, ne_eqb}
use Rattle.run.proofs.number_of.Goals as goal

pub returns-then-records-ne0 : goal.returns-then-records-ne0
returns-then-records-ne0 c = rw (ne_eqb _ 0 c.if-records-ne0.true)

pub returns-then-step-ne0 : goal.returns-then-step-ne0
returns-then-step-ne0 c = rw (eq-eqb _ 0 c.if-records-ne0.false, ne_eqb _ 0 c.if-step-ne0.true)

pub returns-then-plans-ne0 : goal.returns-then-plans-ne0
returns-then-plans-ne0 c = rw (eq-eqb _ 0 c.if-records-ne0.false, eq-eqb _ 0 c.if-step-ne0.false, ← c.plans_number-plans.ensures, ne_eqb _ 0 c.if-plans-ne0.true)

pub returns : goal.returns
returns c = rw (eq-eqb _ 0 c.if-records-ne0.false, eq-eqb _ 0 c.if-step-ne0.false, ← c.plans_number-plans.ensures, eq-eqb _ 0 c.if-plans-ne0.false) c.time_refusal.ensures
