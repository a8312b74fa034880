-- `request_words::words::find` meets its contract. Invariant: the word is the first one from `at` on.
-- Assumes nothing.
use Rattle.request_words.proofs.Wording.{lookup-here, lookup-later, lookup-end}
use native.Mathlib.Omega.{arith}
use mathlib.Core.Path.{refl, sym, ◌∙◌}
use Rattle.request_words.proofs.words.find.Goals as goal

pub loop-at-init : goal.loop-at-init
loop-at-init c = refl

pub returns-then-w-key : goal.returns-then-w-key
returns-then-w-key c = sym (c.loop-at.invariant ∙ lookup-here _ _ _ c.word_at-w.ensures.0 c.loop-at-test.true _ c.if-w-key.true)

pub loop-at-preserved : goal.loop-at-preserved
loop-at-preserved c = c.loop-at.invariant ∙ lookup-later _ _ _ c.word_at-w.ensures.0 c.loop-at-test.true _ c.if-w-key.false

pub returns : goal.returns
returns c = sym (c.loop-at.invariant ∙ lookup-end _ _ _ (omega arith))
