-- `inquire_smallest::smallest` meets its contract: 1 to 8, 39, then what the loop finds.
-- Assumes nothing.
use mathlib.Core.Path.{sym, ap, ◌∙◌}
use Rattle.params.specs.declared.Params.{Params}
use Rattle.inquire_smallest.specs.Question.{found_in}
use Rattle.inquire_smallest.proofs.Rows.{sizes-fit}
use Rattle.inquire_smallest.proofs.Asked.{options-refused, sizes-refused, answer-found}
use Rattle.inquire_smallest.proofs.smallest.Goals as goal

pub returns-then-early-ne0 : goal.returns-then-early-ne0
returns-then-early-ne0 c = let a = c.args in
    c.refused.ensures ∙ options-refused a.p a.logical a.physical a.start a.count a.wanted c.options_number-early.result (c.options_number-early.ensures ∙ rw c.default_groups-q.ensures) c.if-early-ne0.true

pub returns-then-no_sizes : goal.returns-then-no_sizes
returns-then-no_sizes c = let a = c.args in
    c.refused-then-no_sizes.ensures
    ∙ sizes-refused a.p a.logical a.physical a.start a.count a.wanted (sym (c.options_number-early.ensures ∙ rw c.default_groups-q.ensures) ∙ c.if-early-ne0.false) (sym c.no_sizes.ensures ∙ c.if-no_sizes.true)

pub scan-requires : goal.scan-requires
scan-requires c = let a = c.args in
    let f = sizes-fit a.start a.count (sym c.no_sizes.ensures ∙ c.if-no_sizes.false) in
    (f.1, f.2)

pub returns : goal.returns
returns c = let a = c.args in
    c.scan.ensures
    ∙ ap (λ (q : Params). found_in q a.logical a.physical a.start a.count a.wanted) c.default_groups-q.ensures
    ∙ answer-found a.p a.logical a.physical a.start a.count a.wanted (sym (c.options_number-early.ensures ∙ rw c.default_groups-q.ensures) ∙ c.if-early-ne0.false) (sym c.no_sizes.ensures ∙ c.if-no_sizes.false)
