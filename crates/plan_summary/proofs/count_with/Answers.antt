-- `plan_summary::count_with` meets its contract.
-- Assumes nothing.
use Rattle.plan_summary.proofs.Laws.{few-groups, few-heads}
use Rattle.plan_totals.specs.Totals.{const_count}
use Rattle.plan_site.specs.Sites.{site_of}
use lib.ListN.{length}
use mathlib.Core.Path.{◌≡◌, ◌∙◌}
use borrow.Author.Rules.{rules}
use Rattle.plan_summary.proofs.count_with.Goals as goal

pub of_each-heads-requires : goal.of_each-heads-requires
of_each-heads-requires c = let l : length c.args.g.label ≡ 12 = search (rules, c.well_formed.0.1.1.1.1.1.1.1.1.1.1.1.1.1.1.1.1.1.1.1) in (few-groups c.args.g l c.requires.0, rw c.requires.1 (few-heads c.args.g l c.requires.0))

pub returns : goal.returns
unfolding const_count site_of
returns c = c.saturating_sub-2.ensures ∙ rw (c.saturating_sub-after.ensures, c.saturating_sub.ensures, c.of_each-heads.ensures, c.requires.1)
