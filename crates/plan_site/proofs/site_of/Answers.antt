-- `plan_site::site_of` meets its contract.
-- Assumes nothing.
use Rattle.plan_site.proofs.Sites.{its-number, its-value, narrow}
use Rattle.geometry_counts.specs.Known.{number_in, value_in}
use Rattle.plan_site.specs.Sites.{sited}
use Rattle.geometry_places.proofs.Refused.{a-group}
use borrow.Author.Tests.{eq-eqb, ne_eqb}
use mathlib.Core.Path.{◌≡◌, sym, ap, ◌∙◌}
use lib.ListN.{length}
use borrow.Author.Rules.{rules}
use Rattle.plan_site.proofs.site_of.Goals as goal

pub returns-then-n-ne0 : goal.returns-then-n-ne0
unfolding sited
returns-then-n-ne0 c = let a = c.args in
    let e = c.number_of-n.ensures ∙ ap number_in c.ag_blocks-blocks.ensures ∙ its-number a.g a.agno in
    c.refused.ensures ∙ rw (← e, ne_eqb c.number_of-n.result 0 c.if-n-ne0.true)

pub site_with-site-requires : goal.site_with-site-requires
site_with-site-requires c = let g = c.args.g in
    let k = c.args.agno in
    let l : length g.label ≡ 12 = search (rules, c.well_formed.0.1.1.1.1.1.1.1.1.1.1.1.1.1.1.1.1.1.1.1) in
    let b = c.ag_blocks-blocks.ensures in
    let e = sym (its-number g k) ∙ sym (ap number_in b) ∙ sym c.number_of-n.ensures ∙ c.if-n-ne0.false in
    (narrow g k l (a-group g k e).0, c.value_of.ensures ∙ ap value_in b ∙ its-value g k e)

pub returns : goal.returns
unfolding sited
returns c = let a = c.args in
    let b = c.ag_blocks-blocks.ensures in
    let e = sym (its-number a.g a.agno) ∙ sym (ap number_in b) ∙ sym c.number_of-n.ensures ∙ c.if-n-ne0.false in
    rw (c.site_with-site.ensures, eq-eqb _ 0 e)
