-- `plan_summary::total_with` meets its contract.
-- Assumes nothing.
use Rattle.plan_summary.proofs.Laws.{few-groups, few-lists}
use Rattle.plan_totals.specs.Totals.{closed_total}
use Rattle.plan_site.specs.Sites.{site_of}
use lib.ListN.{length}
use mathlib.Core.Path.{◌≡◌}
use borrow.Author.Rules.{rules}
use Rattle.plan_summary.proofs.total_with.Goals as goal

pub of_each-list-requires : goal.of_each-list-requires
of_each-list-requires c = let l : length c.args.g.label ≡ 12 = search (rules, c.well_formed.0.1.1.1.1.1.1.1.1.1.1.1.1.1.1.1.1.1.1.1) in (few-groups c.args.g l c.requires.0, rw c.requires.1 (few-lists c.args.g l c.requires.0))

pub returns : goal.returns
unfolding closed_total site_of
returns c = rw (c.saturating_sub.ensures, c.of_each-list.ensures, c.requires.1, c.requires.2)
