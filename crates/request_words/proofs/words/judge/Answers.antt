-- `request_words::words::judge` meets its contract. Invariant: no word before `at` is refused.
-- Assumes nothing.
use Rattle.request_words.proofs.Wording.{judged-wrong, judged-twice, judged-later, judged-end}
use native.Mathlib.Omega.{arith}
use mathlib.Core.Path.{refl, sym, ◌∙◌}
use Rattle.request_words.proofs.words.judge.Goals as goal

pub loop-at-init : goal.loop-at-init
loop-at-init c = (refl, omega arith)

pub returns-then-w-ne0 : goal.returns-then-w-ne0
returns-then-w-ne0 c = sym (c.loop-at.invariant.0 ∙ judged-wrong _ _ _ c.word_at-w.ensures.0 c.loop-at-test.true _ c.if-w-ne0.true)

pub returns-then-again-w : goal.returns-then-again-w
returns-then-again-w c = sym (c.loop-at.invariant.0 ∙ judged-twice _ _ _ c.word_at-w.ensures.0 c.loop-at-test.true _ _ c.find-again.ensures c.if-w-ne0.false c.if-again-w.true)

pub loop-at-preserved : goal.loop-at-preserved
loop-at-preserved c = (c.loop-at.invariant.0 ∙ judged-later _ _ _ c.word_at-w.ensures.0 c.loop-at-test.true _ _ c.find-again.ensures c.if-w-ne0.false c.if-again-w.false, omega arith)

pub returns : goal.returns
returns c = sym (c.loop-at.invariant.0 ∙ judged-end _ _ _ (omega arith))
