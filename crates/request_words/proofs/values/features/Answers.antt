-- `request_words::values::features` meets its contract.
-- Assumes nothing.
use Rattle.seqs.specs.Lists.{fold}
use Rattle.request_texts.specs.Texts.{letter, named, packed_name}
use Rattle.request_words.proofs.Valuing.{features-none, features-all, features-listed, features-bad}
use native.Mathlib.Omega.{arith}
use mathlib.Core.Path.{◌∙◌}
use Rattle.request_words.proofs.values.features.Goals as goal

pub returns-then-name-eq-NONE : goal.returns-then-name-eq-NONE
unfolding packed_name named letter fold
returns-then-name-eq-NONE c = c.good.ensures ∙ features-none _ _ c.pack-name.ensures c.if-name-eq-NONE.true

pub returns-then-name-eq-ALL : goal.returns-then-name-eq-ALL
unfolding packed_name named letter fold
returns-then-name-eq-ALL c = c.good-then-name-eq-ALL.ensures ∙ features-all _ _ c.pack-name.ensures c.if-name-eq-NONE.false c.if-name-eq-ALL.true

pub returns-then-mask-lt-NO_FEATURES : goal.returns-then-mask-lt-NO_FEATURES
unfolding packed_name named letter fold
returns-then-mask-lt-NO_FEATURES c = c.good-then-mask-lt-NO_FEATURES.ensures ∙ features-listed _ _ c.pack-name.ensures c.if-name-eq-NONE.false c.if-name-eq-ALL.false _ c.listed-mask.ensures c.if-mask-lt-NO_FEATURES.true

pub returns : goal.returns
unfolding packed_name named letter fold
returns c = c.refused.ensures ∙ features-bad _ _ c.pack-name.ensures c.if-name-eq-NONE.false c.if-name-eq-ALL.false _ c.listed-mask.ensures (omega arith)
