-- `request_words::words::verdict` meets its contract.
-- Assumes nothing.
use Rattle.request_words.proofs.Wording.{verdict-wrong, verdict-good, without-size, without-logical, without-physical, without-uuid, with_all}
use mathlib.Core.Path.{sym, ◌∙◌}
use Rattle.request_words.proofs.words.verdict.Goals as goal

pub returns-then-v-ne0 : goal.returns-then-v-ne0
returns-then-v-ne0 c = verdict-wrong _ _ c.judge-v.ensures c.if-v-ne0.true

pub returns-then-not-has : goal.returns-then-not-has
returns-then-not-has c = c.missing.ensures ∙ without-size _ (sym c.has.ensures ∙ c.if-not-has.true) ∙ verdict-good _ _ c.judge-v.ensures c.if-v-ne0.false

pub returns-then-not-has-2 : goal.returns-then-not-has-2
returns-then-not-has-2 c = c.missing-then-not-has-2.ensures ∙ without-logical _ (sym c.has.ensures ∙ c.if-not-has.false) (sym c.has-2.ensures ∙ c.if-not-has-2.true) ∙ verdict-good _ _ c.judge-v.ensures c.if-v-ne0.false

pub returns-then-not-has-3 : goal.returns-then-not-has-3
returns-then-not-has-3 c = c.missing-then-not-has-3.ensures ∙ without-physical _ (sym c.has.ensures ∙ c.if-not-has.false) (sym c.has-2.ensures ∙ c.if-not-has-2.false) (sym c.has-3.ensures ∙ c.if-not-has-3.true) ∙ verdict-good _ _ c.judge-v.ensures c.if-v-ne0.false

pub returns-then-not-has-4 : goal.returns-then-not-has-4
returns-then-not-has-4 c = c.missing-then-not-has-4.ensures ∙ without-uuid _ (sym c.has.ensures ∙ c.if-not-has.false) (sym c.has-2.ensures ∙ c.if-not-has-2.false) (sym c.has-3.ensures ∙ c.if-not-has-3.false) (sym c.has-4.ensures ∙ c.if-not-has-4.true) ∙ verdict-good _ _ c.judge-v.ensures c.if-v-ne0.false

pub returns : goal.returns
returns c = with_all _ (sym c.has.ensures ∙ c.if-not-has.false) (sym c.has-2.ensures ∙ c.if-not-has-2.false) (sym c.has-3.ensures ∙ c.if-not-has-3.false) (sym c.has-4.ensures ∙ c.if-not-has-4.false) ∙ verdict-good _ _ c.judge-v.ensures c.if-v-ne0.false
