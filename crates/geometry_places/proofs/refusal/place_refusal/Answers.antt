-- `geometry_places::refusal::place_refusal` meets its contract: by the tests that led there.
-- Assumes nothing.
use borrow.Author.Rules.{rules}
use mathlib.Core.Path.{◌≡◌, sym, ◌∙◌}
use lib.ListN.{length}
use Rattle.geometry_layout.proofs.Bounding.{answer-bounds}
use Rattle.geometry_places.proofs.Refused.{no_answer_lem, no-group, no_block, place-there}
use Rattle.geometry_places.proofs.refusal.place_refusal.Goals as goal

pub returns-then-not-is_answer : goal.returns-then-not-is_answer
returns-then-not-is_answer c = sym (no_answer_lem _ _ _ (sym c.is_answer.ensures ∙ c.if-not-is_answer.true))

pub returns-then-g-agno : goal.returns-then-g-agno
returns-then-g-agno c = sym (no-group _ _ _ (sym c.is_answer.ensures ∙ c.if-not-is_answer.false) c.if-g-agno.true)

pub group_blocks-requires : goal.group_blocks-requires
group_blocks-requires c = let l : length c.args.g.label ≡ 12 = search (rules, c.well_formed.0.1.1.1.1.1.1.1.1.1.1.1.1.1.1.1.1.1.1.1) in
    (answer-bounds _ l (sym c.is_answer.ensures ∙ c.if-not-is_answer.false)).groups.before_last

pub returns-then-group_blocks-agbno : goal.returns-then-group_blocks-agbno
returns-then-group_blocks-agbno c = sym
    (no_block _ _ _ (sym c.is_answer.ensures ∙ c.if-not-is_answer.false) c.if-g-agno.false
    (rw c.group_blocks.ensures at c.if-group_blocks-agbno.true))

pub returns : goal.returns
returns c = sym
    (place-there _ _ _ (sym c.is_answer.ensures ∙ c.if-not-is_answer.false) c.if-g-agno.false
    (rw c.group_blocks.ensures at c.if-group_blocks-agbno.false))
