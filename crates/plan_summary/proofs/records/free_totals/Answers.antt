-- `plan_summary::records::free_totals` meets its contract.
-- Assumes nothing.
use Rattle.plan_summary.proofs.Folds.{blocks-are, blocks-fit}
use Rattle.plan_summary.proofs.Narrow.{plan-records}
use Rattle.plan_summary.specs.Summaries.{free_totals}
use lib.ListN.{length}
use native.Mathlib.Omega.{arith}
use mathlib.Core.Path.{◌≡◌, sym, ◌∙◌}
use borrow.Author.Rules.{rules}
use Rattle.plan_summary.proofs.records.free_totals.Goals as goal

pub returns-then-not-is_plan : goal.returns-then-not-is_plan
unfolding free_totals
returns-then-not-is_plan c = let t = sym c.is_plan.ensures ∙ c.if-not-is_plan.true in rw t

pub sum_of-requires : goal.sum_of-requires
sum_of-requires c = let l : length c.args.g.label ≡ 12 = search (rules, c.well_formed.0.1.1.1.1.1.1.1.1.1.1.1.1.1.1.1.1.1.1.1) in let r = plan-records c.args.g c.args.p l (sym c.is_plan.ensures ∙ c.if-not-is_plan.false) in record { few = omega (arith, r.0); fits = blocks-fit c.args.p.free r.1 }

pub longest_of-requires : goal.longest_of-requires
longest_of-requires c = let l : length c.args.g.label ≡ 12 = search (rules, c.well_formed.0.1.1.1.1.1.1.1.1.1.1.1.1.1.1.1.1.1.1.1) in let r = plan-records c.args.g c.args.p l (sym c.is_plan.ensures ∙ c.if-not-is_plan.false) in omega (arith, r.0)

pub returns : goal.returns
unfolding free_totals
returns c = let t = sym c.is_plan.ensures ∙ c.if-not-is_plan.false in rw (c.longest_of.ensures, c.sum_of.ensures ∙ sym (blocks-are c.args.p.free), t)
