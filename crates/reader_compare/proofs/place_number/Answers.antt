-- `reader_compare::place_number` meets its contract.
-- Assumes nothing.
use mathlib.Core.Path.{sym, ◌∙◌}
use mathlib.Core.Bool.{true, false}
use Rattle.arith.specs.Choice.{when}
use Rattle.reader_compare.proofs.Answers.{no_answer_lem, no_place_lem, wrong-length, no-plans, compared}
use Rattle.reader_compare.proofs.place_number.Goals as goal

pub returns-then-not-is_answer : goal.returns-then-not-is_answer
returns-then-not-is_answer c = no_answer_lem _ _ _ _ _ (sym c.is_answer.ensures ∙ c.if-not-is_answer.true)

pub returns-then-past : goal.returns-then-past
returns-then-past c = no_place_lem _ _ _ _ _ (sym c.is_answer.ensures ∙ c.if-not-is_answer.false) c.if-past.true

pub returns-then-bytes-size : goal.returns-then-bytes-size
returns-then-bytes-size c = wrong-length _ _ _ _ _ (sym c.is_answer.ensures ∙ c.if-not-is_answer.false) c.if-past.false c.if-bytes-size.true

pub returns-then-plans_number-ne0 : goal.returns-then-plans_number-ne0
returns-then-plans_number-ne0 c = no-plans _ _ _ _ _ (sym c.is_answer.ensures ∙ c.if-not-is_answer.false) c.if-past.false c.if-bytes-size.false (λ z. c.if-plans_number-ne0.true (c.plans_number.ensures ∙ z))

pub returns-then-same_bytes : goal.returns-then-same_bytes
unfolding when
returns-then-same_bytes c = compared _ _ _ _ _ (sym c.is_answer.ensures ∙ c.if-not-is_answer.false) c.if-past.false c.if-bytes-size.false true (sym c.plans_number.ensures ∙ c.if-plans_number-ne0.false) (sym c.if-same_bytes.true ∙ c.same_bytes.ensures)

pub returns : goal.returns
unfolding when
returns c = compared _ _ _ _ _ (sym c.is_answer.ensures ∙ c.if-not-is_answer.false) c.if-past.false c.if-bytes-size.false false (sym c.plans_number.ensures ∙ c.if-plans_number-ne0.false) (sym c.if-same_bytes.false ∙ c.same_bytes.ensures)
