-- `request_words::words::word_at` meets its contract.
-- Assumes nothing.
use Rattle.request_words.proofs.Wording.{answered, word-named, word-unnamed}
use native.Mathlib.Omega.{arith}
use mathlib.Core.Path.{◌∙◌}
use Rattle.request_words.proofs.words.word_at.Goals as goal

pub returns-then-eq-end : goal.returns-then-eq-end
returns-then-eq-end c = answered _ _ c.requires _ (c.meant.ensures ∙ word-named _ _ _ _ _ c.place_of-end.ensures.0 c.place_of-eq.ensures.0 c.next_of-next.ensures c.if-eq-end.true _ c.key_of-key.ensures.0)

pub returns : goal.returns
returns c = answered _ _ c.requires _ (word-unnamed _ _ _ _ _ c.place_of-end.ensures.0 c.place_of-eq.ensures.0 c.next_of-next.ensures (omega arith))
