-- `plan_summary::summary_of` meets its contract.
-- Assumes nothing.
use Rattle.plan_summary.proofs.Laws.{log-refused, log-short, all-planned, has-log}
use Rattle.plan_summary.specs.Summaries.{summarised}
use Rattle.plan_totals.proofs.Whole.{plans-number}
use Rattle.plan_totals.specs.Totals.{plans_number}
use Rattle.plan_closed.specs.Closed.{list_short}
use Rattle.plan_site.proofs.Sites.{site-number, site-is, site-sound}
use Rattle.plan_site.specs.declared.Sited.{Sited}
use Rattle.geometry_places.proofs.Refused.{a-group}
use borrow.Author.Tests.{ne_eqb}
use lib.ListN.{length}
use mathlib.Core.Path.{◌≡◌, sym, ap, ◌∙◌}
use borrow.Author.Rules.{rules}
use Rattle.plan_summary.proofs.summary_of.Goals as goal

pub returns-then-number-ne0 : goal.returns-then-number-ne0
unfolding summarised
returns-then-number-ne0 c = let l : length c.args.g.label ≡ 12 = search (rules, c.well_formed.0.1.1.1.1.1.1.1.1.1.1.1.1.1.1.1.1.1.1.1) in let g = c.args.g in let e = ap (λ (x : Sited). x.number) c.site_of-at.ensures ∙ site-number g g.logagno in let n = c.if-number-ne0.true in let z : plans_number g ≡ c.site_of-at.result.number = plans-number g l ∙ log-refused g l (λ q. n (e ∙ q)) ∙ sym e in c.refused.ensures ∙ rw (z, ne_eqb c.site_of-at.result.number 0 n)

pub is_short-requires : goal.is_short-requires
is_short-requires c = let l : length c.args.g.label ≡ 12 = search (rules, c.well_formed.0.1.1.1.1.1.1.1.1.1.1.1.1.1.1.1.1.1.1.1) in let g = c.args.g in let e = sym (site-number g g.logagno) ∙ sym (ap (λ (x : Sited). x.number) c.site_of-at.ensures) ∙ c.if-number-ne0.false in let i = ap (λ (x : Sited). x.site) c.site_of-at.ensures ∙ site-is g g.logagno e in rw i (site-sound g g.logagno l (a-group g g.logagno e).0, has-log g)

pub returns-then-is_short : goal.returns-then-is_short
unfolding summarised
returns-then-is_short c = let l : length c.args.g.label ≡ 12 = search (rules, c.well_formed.0.1.1.1.1.1.1.1.1.1.1.1.1.1.1.1.1.1.1.1) in let g = c.args.g in let e = sym (site-number g g.logagno) ∙ sym (ap (λ (x : Sited). x.number) c.site_of-at.ensures) ∙ c.if-number-ne0.false in let i = ap (λ (x : Sited). x.site) c.site_of-at.ensures ∙ site-is g g.logagno e in let z = plans-number g l ∙ log-short g (a-group g g.logagno e).0 (ap list_short (sym i) ∙ sym c.is_short.ensures ∙ c.if-is_short.true) in c.refused-then-is_short.ensures ∙ rw z

pub summary_with-summary-requires : goal.summary_with-summary-requires
summary_with-summary-requires c = let g = c.args.g in let e = sym (site-number g g.logagno) ∙ sym (ap (λ (x : Sited). x.number) c.site_of-at.ensures) ∙ c.if-number-ne0.false in ((a-group g g.logagno e).0, ap (λ (x : Sited). x.site) c.site_of-at.ensures ∙ site-is g g.logagno e)

pub returns : goal.returns
unfolding summarised
returns c = let l : length c.args.g.label ≡ 12 = search (rules, c.well_formed.0.1.1.1.1.1.1.1.1.1.1.1.1.1.1.1.1.1.1.1) in let g = c.args.g in let e = sym (site-number g g.logagno) ∙ sym (ap (λ (x : Sited). x.number) c.site_of-at.ensures) ∙ c.if-number-ne0.false in let i = ap (λ (x : Sited). x.site) c.site_of-at.ensures ∙ site-is g g.logagno e in let z = plans-number g l ∙ all-planned g (a-group g g.logagno e).0 (ap list_short (sym i) ∙ sym c.is_short.ensures ∙ c.if-is_short.false) in rw (c.summary_with-summary.ensures, z)
