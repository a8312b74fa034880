-- `plan_summary::free_count` meets its contract.
-- Assumes nothing.
use Rattle.std.specs.Prelude.{Ok}
use Rattle.plan_summary.proofs.Laws.{its-number, its-summary, count-is}
use Rattle.plan_summary.specs.declared.Summary.{Summary}
use Rattle.plan_summary.specs.declared.Summarised.{Summarised}
use Rattle.plan_totals.specs.Totals.{free_count_answer}
use Rattle.geometry_places.specs.Answers.{unless64}
use borrow.Author.Tests.{ne_eqb}
use lib.ListN.{length}
use mathlib.Core.Path.{◌≡◌, sym, ap, ◌∙◌}
use borrow.Author.Rules.{rules}
use Rattle.plan_summary.proofs.free_count.Goals as goal

pub returns-then-number-ne0 : goal.returns-then-number-ne0
unfolding free_count_answer unless64
returns-then-number-ne0 c = let g = c.args.g in let e = ap (λ (x : Summarised). x.number) c.summary_of-s.ensures ∙ its-number g in rw (← e, ne_eqb _ 0 c.if-number-ne0.true)

pub returns : goal.returns
returns c = let l : length c.args.g.label ≡ 12 = search (rules, c.well_formed.0.1.1.1.1.1.1.1.1.1.1.1.1.1.1.1.1.1.1.1) in let g = c.args.g in let e = sym (its-number g) ∙ sym (ap (λ (x : Summarised). x.number) c.summary_of-s.ensures) ∙ c.if-number-ne0.false in let z = ap (λ (x : Summarised). x.summary) c.summary_of-s.ensures ∙ its-summary g e in ap (λ (x : Summary). Ok x.count) z ∙ sym (count-is g l e)
