-- `plan_summary::summary_with` meets its contract.
-- Assumes nothing.
use Rattle.plan_summary.proofs.Laws.{before-fits, last_fits}
use Rattle.plan_summary.specs.Summaries.{summary_of}
use Rattle.plan_site.specs.Sites.{site_of}
use Rattle.geometry_layout.proofs.Bounding.{answer-bounds}
use Prim.Native.Nat.{ℕ, ◌*◌, ◌-◌}
use lib.ListN.{length}
use native.Mathlib.Omega.{arith}
use mathlib.Core.Path.{◌≡◌, ap, ◌∙◌}
use borrow.Author.Rules.{rules}
use Rattle.plan_summary.proofs.summary_with.Goals as goal

pub overflow_mul-before : goal.overflow_mul-before
overflow_mul-before c = let l : length c.args.g.label ≡ 12 = search (rules, c.well_formed.0.1.1.1.1.1.1.1.1.1.1.1.1.1.1.1.1.1.1.1) in omega (arith, before-fits c.args.g l c.requires.0, ap (λ (x : ℕ). x * c.args.g.agsize) c.saturating_sub.ensures)

pub overflow_cast-result : goal.overflow_cast-result
overflow_cast-result c = let l : length c.args.g.label ≡ 12 = search (rules, c.well_formed.0.1.1.1.1.1.1.1.1.1.1.1.1.1.1.1.1.1.1.1) in omega (arith, (answer-bounds c.args.g l c.requires.0).groups.group-most)

pub overflow_cast-result-2 : goal.overflow_cast-result-2
overflow_cast-result-2 c = let l : length c.args.g.label ≡ 12 = search (rules, c.well_formed.0.1.1.1.1.1.1.1.1.1.1.1.1.1.1.1.1.1.1.1) in let e = c.saturating_sub-2.ensures ∙ ap (λ (x : ℕ). c.args.g.dblocks - x * c.args.g.agsize) c.saturating_sub.ensures in omega (arith, e, last_fits c.args.g l c.requires.0)

pub returns : goal.returns
unfolding summary_of site_of
returns c = rw (c.saturating_sub-2.ensures, c.total_with-total.ensures, c.count_with-count.ensures, c.saturating_sub.ensures, c.requires.1)
