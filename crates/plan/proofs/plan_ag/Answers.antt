-- `plan::plan_ag` meets its contract.
-- Assumes nothing.
use Rattle.plan.specs.Plan.{planned}
use Rattle.plan_site.proofs.Sites.{site-number, site-is, answered-sound}
use Rattle.plan_site.specs.declared.Sited.{Sited}
use lib.ListN.{length}
use borrow.Author.Tests.{eq-eqb, ne_eqb}
use mathlib.Core.Path.{◌≡◌, sym, ap, ◌∙◌}
use borrow.Author.Rules.{rules}
use Rattle.plan.proofs.plan_ag.Goals as goal

pub returns-then-number-ne0 : goal.returns-then-number-ne0
unfolding planned
returns-then-number-ne0 c = let a = c.args in let e = ap (λ (x : Sited). x.number) c.site_of-at.ensures ∙ site-number a.g a.agno in c.refuse.ensures ∙ rw (← e, ne_eqb c.site_of-at.result.number 0 c.if-number-ne0.true)

pub plan_site-requires : goal.plan_site-requires
plan_site-requires c = let l : length c.args.g.label ≡ 12 = search (rules, c.well_formed.0.1.1.1.1.1.1.1.1.1.1.1.1.1.1.1.1.1.1.1) in rw c.site_of-at.ensures (answered-sound c.args.g c.args.agno l (rw (← c.site_of-at.ensures) c.if-number-ne0.false))

pub returns : goal.returns
unfolding planned
returns c = let a = c.args in let e = sym (site-number a.g a.agno) ∙ sym (ap (λ (x : Sited). x.number) c.site_of-at.ensures) ∙ c.if-number-ne0.false in c.plan_site.ensures ∙ rw (c.site_of-at.ensures, site-is a.g a.agno e, eq-eqb _ 0 e)
