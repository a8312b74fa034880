-- `inquire_holds::words::word_is` meets its contract.
-- Assumes nothing.
use mathlib.Core.Bool.{true≢false}
use mathlib.Core.Path.{sym, ◌∙◌}
use borrow.Author.Tests.{lt-ltb, le-ltb}
use Rattle.inquire_holds.specs.Words.{word_is}
use Rattle.inquire_holds.proofs.words.word_is.Goals as goal
use Rattle.inquire_holds.proofs.words.word_is.Goals.{then-n-text, else-n-text}

pub returns-then-pack-name : goal.returns-then-pack-name
unfolding word_is
returns-then-pack-name c = elim c.if-n-text.branch [
  | then-n-text w ↦ (rw (lt-ltb _ _ w.if-n-text.true, ← w.pack.ensures, sym w.value-is ∙ c.if-pack-name.true), λ e. w.if-n-text.true)
  | else-n-text w ↦ absurd (true≢false (sym c.if-pack-name.true ∙ w.value-is ∙ le-ltb _ _ w.if-n-text.false))
]

pub returns-else-pack-name : goal.returns-else-pack-name
unfolding word_is
returns-else-pack-name c = elim c.if-n-text.branch [
  | then-n-text w ↦ (rw (c.if-pack-name.false, lt-ltb _ _ w.if-n-text.true, ← w.pack.ensures, sym w.value-is ∙ c.if-pack-name.false), λ e. w.if-n-text.true)
  | else-n-text w ↦ (rw (c.if-pack-name.false, le-ltb _ _ w.if-n-text.false), λ e. absurd (true≢false (sym e ∙ c.if-pack-name.false)))
]
